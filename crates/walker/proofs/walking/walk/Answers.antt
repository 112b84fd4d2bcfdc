use Rattle.std.proofs.Common.{◌≡◌, ℕ, Err, sym, ap, ◌∙◌, arith}
use Rattle.std.proofs.lemmas.Result.{err_from_is_err_and, IfOk-from_err}
use Rattle.memory.specs.Cells.{beyond}
use Rattle.walker.specs.declared.fault.Stop.TheVariants.{FrameBeyond}
use Rattle.walker.specs.declared.walking.Translation.{Translation}
use Rattle.walker.specs.Walk.{found, last_step, stopped, walk_from}
use Rattle.walker.proofs.Steps.{found_wide, found_not_canonical, found_below, last_inside, last_past}
use Rattle.walker.proofs.walking.walk.Given.{Over}
use Rattle.walker.proofs.walking.walk.Goals as goal
use Rattle.walker.proofs.walking.walk.Goals.{After-descend}

pub returns-in_err-root : goal.returns-in_err-root
returns-in_err-root g c =
    record {
      value =
          let p = err_from_is_err_and c.from_residual.result c.from_residual.ensures.1 in
          p.1 ∙ ap Err p.2
          ∙ ap (last_step (g.M.Memory.cells c.args.memory.now) c.args.access.now) (sym (found_wide (g.M.Memory.cells c.args.memory.now) c.args.root c.args.access.now c.in_err-root.ensures));
      within = IfOk-from_err c.from_residual.result _ c.from_residual.ensures.0;
    }

pub returns-then-not-is_canonical : goal.returns-then-not-is_canonical
returns-then-not-is_canonical g c =
    record {
      value =
          ap (last_step (g.M.Memory.cells c.args.memory.now) c.args.access.now) (sym (found_not_canonical (g.M.Memory.cells c.args.memory.now) c.args.root c.args.access.now c.in_ok-root.ensures.1 (sym c.if-not-is_canonical.ensures)));
      within = tt;
    }

-- what `descend` came to is what is found
descended : (g : Over) (c : After-descend g) → c.descend.result ≡ found (g.M.Memory.cells c.args.memory.now) c.args.root c.args.access.now
descended g c =
    let r = c.in_ok-root.ensures in
    c.descend.ensures.value
    ∙ ap (walk_from (g.M.Memory.cells c.args.memory.now) c.args.access.now 2) r.0
    ∙ sym (found_below (g.M.Memory.cells c.args.memory.now) c.args.root c.args.access.now r.1 (sym c.if-not-is_canonical.ensures))

pub returns-in_err-entry : goal.returns-in_err-entry
returns-in_err-entry g c =
    record {
      value =
          let p = err_from_is_err_and c.from_residual-in_err-entry.result c.from_residual-in_err-entry.ensures.1 in
          p.1 ∙ ap Err p.2
          ∙ ap (last_step (g.M.Memory.cells c.args.memory.now) c.args.access.now) (sym c.in_err-entry.was ∙ descended g (goal.at.returns-in_err-entry g c).After-descend);
      within = IfOk-from_err c.from_residual-in_err-entry.result _ c.from_residual-in_err-entry.ensures.0;
    }

pub returns-then-place-size : goal.returns-then-place-size
returns-then-place-size g c =
    record {
      value =
          ap (λ (place : ℕ). stopped {T = Translation} c.args.access.now c.in_ok-entry.found.level c.in_ok-entry.entry (FrameBeyond (beyond place))) c.doubleword_of-place.ensures
          ∙ sym (last_past (g.M.Memory.cells c.args.memory.now) c.args.access.now c.in_ok-entry.entry c.in_ok-entry.found (omega arith))
          ∙ ap (last_step (g.M.Memory.cells c.args.memory.now) c.args.access.now) (sym c.in_ok-entry.was ∙ descended g (goal.at.returns-then-place-size g c).After-descend);
      within = tt;
    }

pub returns : goal.returns
returns g c =
    record {
      value =
          sym (last_inside (g.M.Memory.cells c.args.memory.now) c.args.access.now c.in_ok-entry.entry c.in_ok-entry.found (omega arith))
          ∙ ap (last_step (g.M.Memory.cells c.args.memory.now) c.args.access.now) (sym c.in_ok-entry.was ∙ descended g (goal.at.returns g c).After-descend);
      within = c.in_ok-entry.ensures.within;
    }
