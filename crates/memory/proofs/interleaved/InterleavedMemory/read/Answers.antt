use Rattle.std.proofs.Common.{sym, ap, Err, ◌∙◌, arith}
use Rattle.std.proofs.lemmas.Result.{err_from_is_err_and}
use Rattle.memory.specs.Interleave.{woven}
use Rattle.memory.proofs.Refusals.{read_past}
use Rattle.memory.proofs.Sides.{read_even, read_odd}
use Rattle.memory.proofs.interleaved.InterleavedMemory.read.Goals as goal

pub returns-in_err-inside : goal.returns-in_err-inside
returns-in_err-inside g c =
    let e = c.in_err-inside.ensures in
    let r = err_from_is_err_and c.from_residual.result c.from_residual.ensures.1 in
    r.1 ∙ ap Err (r.2 ∙ e.0) ∙ sym (read_past (woven (g.A.Memory.cells c.args.self.now.first) (g.B.Memory.cells c.args.self.now.second)) c.args.n (omega arith))

pub returns-then-n-eq0 : goal.returns-then-n-eq0
returns-then-n-eq0 g c =
    let i = c.in_ok-inside.ensures in
    c.read.ensures ∙ sym (read_even (g.A.Memory.cells c.args.self.now.first) (g.B.Memory.cells c.args.self.now.second) c.args.n (omega arith) c.if-n-eq0.true)

pub returns-else-n-eq0 : goal.returns-else-n-eq0
returns-else-n-eq0 g c =
    let i = c.in_ok-inside.ensures in
    c.read-else-n-eq0.ensures ∙ sym (read_odd (g.A.Memory.cells c.args.self.now.first) (g.B.Memory.cells c.args.self.now.second) c.args.n (omega arith) c.if-n-eq0.false)
