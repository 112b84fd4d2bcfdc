use Rattle.std.proofs.Common.{◌≡◌, ℕ, Ok, List, sym, ap, ◌∙◌, arith}
use Rattle.memory.specs.Block.{word_at, start_of, cells_of}
use Rattle.memory.proofs.Checks.{length_cells, cell_at}
use Rattle.memory.proofs.Refusals.{read_inside}
use Rattle.memory.proofs.blocks.BlocksMemory.read.Goals as goal

pub byte_of-requires : goal.byte_of-requires
byte_of-requires c = omega (arith, c.in_ok-inside.ensures, length_cells c.args.self.now.bytes.now)

pub word-requires : goal.word-requires
word-requires c = omega (arith, c.in_ok-inside.ensures, length_cells c.args.self.now.bytes.now)

pub returns : goal.returns
returns c =
    let b : List ℕ = c.args.self.now.bytes.now in
    let l = length_cells b in
    let i = c.in_ok-inside.ensures in
    let e : c.byte_of.result ≡ start_of c.args.n = omega arith in
    ap Ok (c.word.ensures ∙ ap (word_at b) e ∙ sym (cell_at b c.args.n (omega arith)))
    ∙ sym (read_inside (cells_of b) c.args.n (omega arith))
