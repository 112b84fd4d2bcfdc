use Rattle.std.proofs.Common.{ℕ, ◌*◌, ◌<◌, ltb, List, length, drop, sym, ap, ◌∙◌, arith}
use Rattle.std.proofs.lemmas.Bool.{lt-ltb, le-ltb, cond-true, cond-false}
use Rattle.memory.specs.Block.{cells_of, blocks_in}
use Rattle.memory.proofs.Checks.{length_cells, done, length_done, cells_done, done_tail, clean_kept}
use Rattle.memory.proofs.blocks.BlocksMemory.write.Goals as goal
use Rattle.memory.proofs.blocks.BlocksMemory.write.Goals.{After-store}

pub returns-in_err-inside-clause-bytes : goal.returns-in_err-inside-clause-bytes
returns-in_err-inside-clause-bytes c =
    let b : List ℕ = c.args.self.now.bytes.now in
    let past = c.in_err-inside.ensures.1 in
    let l = length_cells b in
    sym (cond-false (ltb c.args.n (blocks_in b * 63)) _ _ (le-ltb c.args.n (blocks_in b * 63) (omega arith)))

pub store-requires : goal.store-requires
store-requires c = omega (arith, c.in_ok-inside.ensures, length_cells c.args.self.now.bytes.now)

inside : (c : After-store) → c.args.n < blocks_in c.args.self.now.bytes.now * 63
inside c = omega (arith, c.in_ok-inside.ensures, length_cells c.args.self.now.bytes.now)

pub returns-clause-list : goal.returns-clause-list
unfolding done
returns-clause-list c =
    ap cells_of c.store.ensures.after ∙ cells_done c.args.self.now.bytes.now c.args.n c.args.value (inside c) c.ranges.value.fits

pub returns-clause-bytes : goal.returns-clause-bytes
returns-clause-bytes c =
    let m : ℕ = blocks_in c.args.self.now.bytes.now * 63 in
    c.store.ensures.after ∙ sym (cond-true (ltb c.args.n m) _ _ (lt-ltb c.args.n m (inside c)))

pub returns-clause-tail : goal.returns-clause-tail
unfolding done
returns-clause-tail c =
    ap (drop (512 * blocks_in c.args.self.now.bytes.now)) c.store.ensures.after
    ∙ done_tail c.args.self.now.bytes.now c.args.n c.args.value (inside c)

pub returns-clause-clean : goal.returns-clause-clean
unfolding done
returns-clause-clean c =
    clean_kept c.args.self.now.bytes.now c.store.new.bytes
    (ap length c.store.ensures.after ∙ length_done c.args.self.now.bytes.now c.args.n c.args.value (inside c))
    c.store.ensures.sound
