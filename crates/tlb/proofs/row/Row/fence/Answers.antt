use Rattle.std.proofs.Common.{◌<◌, length, None, sym, ◌∙◌, arith}
use Rattle.std.proofs.lemmas.List.{set-get_or}
use Rattle.tlb.proofs.Scans.{step_covered, step_other}
use Rattle.tlb.proofs.row.Row.fence.Goals as goal
use Rattle.tlb.proofs.row.Row.fence.Goals.{then-is_covered, else-is_covered}

pub loop-way-preserved : goal.loop-way-preserved
loop-way-preserved c =
    let xs = c.args.self.now.ways in
    let ys = c.loop-way.way-items in
    let i = c.loop-way.way-index in
    let full = c.args.self.now.full in
    let inside : i < length c.args.self.now.ways = omega arith in
    let so_far = c.loop-way.invariant in
    elim c.if-is_covered.branch [
      | then-is_covered w ↦
          let m = step_covered c.args.scope.space c.args.scope.page xs ys i inside c.loop-way.invariant.0 (sym c.is_covered.ensures ∙ w.if-is_covered.true) in
          let n = w.count-is in
          (w.way-items-is ∙ m.0, omega arith, omega arith)
      | else-is_covered w ↦
          let m = step_other c.args.scope.space c.args.scope.page xs ys i inside c.loop-way.invariant.0 (sym c.is_covered.ensures ∙ w.if-is_covered.false) in
          let n = w.count-is in
          (w.way-items-is ∙ set-get_or ys i None ∙ m.0, omega arith, omega arith)
    ]
