use Rattle.std.proofs.Common.{◌≡◌, ℕ, ◌+◌, ◌*◌, List, set, ap, ◌∙◌, arith}
use Rattle.tables.specs.Tables.{cleared_to}
use Rattle.tables.proofs.Clearing.{cleared_none, cleared_more}
use Rattle.tables.proofs.words.clear_frame.Goals as goal

pub loop-n-init : goal.loop-n-init
loop-n-init g c = cleared_none (g.M.Memory.cells c.args.memory.now) c.args.frame

pub loop-n-preserved : goal.loop-n-preserved
loop-n-preserved g c =
    c.put_word.ensures
    ∙ ap (λ (xs : List ℕ). set xs (512 * c.args.frame + c.loop-n.n) 0) c.loop-n.invariant
    ∙ cleared_more (g.M.Memory.cells c.args.memory.now) c.args.frame c.loop-n.n

pub returns : goal.returns
returns g c =
    let all : c.loop-n.n ≡ 512 = omega arith in
    c.loop-n.invariant ∙ ap (λ (n : ℕ). cleared_to n (g.M.Memory.cells c.args.memory.now) c.args.frame) all
