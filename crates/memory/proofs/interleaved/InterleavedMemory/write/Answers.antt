use Rattle.std.proofs.Common.{ℕ, ◌<◌, ◌≤◌, List, Err, length, sym, ap, ◌∙◌, arith}
use Rattle.std.proofs.lemmas.List.{set_past}
use Rattle.std.proofs.lemmas.Result.{err_from_is_err_and}
use Rattle.memory.specs.Interleave.{woven}
use Rattle.memory.proofs.Refusals.{write_past}
use Rattle.memory.proofs.Sides.{write_even, list_even, first_even, second_even, write_odd, list_odd, first_odd, second_odd, first_past, second_past}
use Rattle.memory.proofs.interleaved.InterleavedMemory.write.Goals as goal

pub returns-in_err-inside : goal.returns-in_err-inside
returns-in_err-inside g c =
    let xs : List ℕ = g.A.Memory.cells c.args.self.now.first in
    let ys : List ℕ = g.B.Memory.cells c.args.self.now.second in
    let n : ℕ = c.args.n in
    let v : ℕ = c.args.value in
    let e = c.in_err-inside.ensures in
    let r = err_from_is_err_and c.from_residual.result c.from_residual.ensures.1 in
    let past : length (woven xs ys) ≤ n = omega arith in
    record {
      answer = r.1 ∙ ap Err (r.2 ∙ e.0) ∙ sym (write_past (woven xs ys) n past);
      list = sym (set_past (woven xs ys) n v past);
      first = first_past xs ys n v past;
      second = second_past xs ys n v past;
    }

pub returns-then-n-eq0 : goal.returns-then-n-eq0
returns-then-n-eq0 g c =
    let xs : List ℕ = g.A.Memory.cells c.args.self.now.first in
    let ys : List ℕ = g.B.Memory.cells c.args.self.now.second in
    let n : ℕ = c.args.n in
    let v : ℕ = c.args.value in
    let e = c.if-n-eq0.true in
    let i = c.in_ok-inside.ensures in
    let inside : n < length (woven xs ys) = omega arith in
    record {
      answer = c.write.ensures.answer ∙ sym (write_even xs ys n inside e);
      list = ap (λ (t : List ℕ). woven t ys) c.write.ensures.list ∙ list_even xs ys n inside e v;
      first = c.write.ensures.list ∙ first_even xs ys n inside e v;
      second = second_even xs ys n inside e v;
    }

pub returns-else-n-eq0 : goal.returns-else-n-eq0
returns-else-n-eq0 g c =
    let xs : List ℕ = g.A.Memory.cells c.args.self.now.first in
    let ys : List ℕ = g.B.Memory.cells c.args.self.now.second in
    let n : ℕ = c.args.n in
    let v : ℕ = c.args.value in
    let e = c.if-n-eq0.false in
    let i = c.in_ok-inside.ensures in
    let inside : n < length (woven xs ys) = omega arith in
    record {
      answer = c.write-else-n-eq0.ensures.answer ∙ sym (write_odd xs ys n inside e);
      list = ap (λ (t : List ℕ). woven xs t) c.write-else-n-eq0.ensures.list ∙ list_odd xs ys n inside e v;
      first = first_odd xs ys n inside e v;
      second = c.write-else-n-eq0.ensures.list ∙ second_odd xs ys n inside e v;
    }
