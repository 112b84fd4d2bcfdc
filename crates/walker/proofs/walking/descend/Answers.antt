use Rattle.std.proofs.Common.{◌≡◌, Err, sym, refl, ap, ◌∙◌, subst}
use Rattle.std.proofs.lemmas.Result.{err_from_is_err_and, IfOk-from_err}
use Rattle.walker.specs.Walk.{walk_from, StepWithin}
use Rattle.walker.proofs.Steps.{on_pointer, on_leaf, on_fault, on_pointer_at_zero}
use Rattle.walker.proofs.walking.descend.Given.{Over}
use Rattle.walker.proofs.walking.descend.Goals as goal
use Rattle.walker.proofs.walking.descend.Goals.{In-Pointer, In-Pointer-2}

-- the walk from the root is the walk from the table of level 1 that was come to, and then from that of level 0
at_1 : (g : Over) (c : In-Pointer g) → walk_from (g.M.Memory.cells c.args.memory.now) c.args.access.now 2 c.args.root.number ≡ walk_from (g.M.Memory.cells c.args.memory.now) c.args.access.now 1 c.in-Pointer.number
at_1 g c =
    on_pointer (g.M.Memory.cells c.args.memory.now) c.args.access.now 2 c.args.root.number c.entry_of-entry.result c.take_step.result c.entry_of-entry.ensures c.take_step.ensures.value 1 c.in-Pointer.number c.in_ok-number.field-0 refl c.in_ok-number.was c.in-Pointer.is

at_0 : (g : Over) (c : In-Pointer-2 g) → walk_from (g.M.Memory.cells c.args.memory.now) c.args.access.now 1 c.in-Pointer.number ≡ walk_from (g.M.Memory.cells c.args.memory.now) c.args.access.now 0 c.in-Pointer-2.number
at_0 g c =
    on_pointer (g.M.Memory.cells c.args.memory.now) c.args.access.now 1 c.in-Pointer.number c.entry_of-entry-2.result c.take_step-2.result c.entry_of-entry-2.ensures c.take_step-2.ensures.value 0 c.in-Pointer-2.number c.in_ok-number-2.field-0 refl c.in_ok-number-2.was c.in-Pointer-2.is

pub returns-in_err-number : goal.returns-in_err-number
returns-in_err-number g c =
    let p = err_from_is_err_and c.from_residual.result c.from_residual.ensures.1 in
    record {
      value =
          p.1 ∙ ap Err p.2
          ∙ on_fault (g.M.Memory.cells c.args.memory.now) c.args.access.now 2 c.args.root.number c.entry_of-entry.result c.take_step.result c.entry_of-entry.ensures c.take_step.ensures.value c.in_err-number.field-0.0 c.in_err-number.was;
      within = IfOk-from_err c.from_residual.result _ c.from_residual.ensures.0;
    }

pub returns-in-Leaf : goal.returns-in-Leaf
returns-in-Leaf g c =
    record {
      value =
          on_leaf (g.M.Memory.cells c.args.memory.now) c.args.access.now 2 c.args.root.number c.entry_of-entry.result c.take_step.result c.entry_of-entry.ensures c.take_step.ensures.value c.in_ok-number.field-0 c.in-Leaf.found c.in_ok-number.was c.in-Leaf.is;
      within = subst StepWithin c.in-Leaf.is c.in_ok-number.ensures.within;
    }

pub returns-in_err-number-2 : goal.returns-in_err-number-2
returns-in_err-number-2 g c =
    let p = err_from_is_err_and c.from_residual-in_err-number-2.result c.from_residual-in_err-number-2.ensures.1 in
    record {
      value =
          p.1 ∙ ap Err p.2
          ∙ on_fault (g.M.Memory.cells c.args.memory.now) c.args.access.now 1 c.in-Pointer.number c.entry_of-entry-2.result c.take_step-2.result c.entry_of-entry-2.ensures c.take_step-2.ensures.value c.in_err-number-2.field-0.0 c.in_err-number-2.was
          ∙ sym (at_1 g (goal.at.returns-in_err-number-2 g c).In-Pointer);
      within = IfOk-from_err c.from_residual-in_err-number-2.result _ c.from_residual-in_err-number-2.ensures.0;
    }

pub returns-in-Leaf-2 : goal.returns-in-Leaf-2
returns-in-Leaf-2 g c =
    record {
      value =
          on_leaf (g.M.Memory.cells c.args.memory.now) c.args.access.now 1 c.in-Pointer.number c.entry_of-entry-2.result c.take_step-2.result c.entry_of-entry-2.ensures c.take_step-2.ensures.value c.in_ok-number-2.field-0 c.in-Leaf-2.found c.in_ok-number-2.was c.in-Leaf-2.is
          ∙ sym (at_1 g (goal.at.returns-in-Leaf-2 g c).In-Pointer);
      within = subst StepWithin c.in-Leaf-2.is c.in_ok-number-2.ensures.within;
    }

pub returns-in_err-take_step : goal.returns-in_err-take_step
returns-in_err-take_step g c =
    let p = err_from_is_err_and c.from_residual-in_err-take_step.result c.from_residual-in_err-take_step.ensures.1 in
    record {
      value =
          p.1 ∙ ap Err p.2
          ∙ on_fault (g.M.Memory.cells c.args.memory.now) c.args.access.now 0 c.in-Pointer-2.number c.entry_of-entry-3.result c.take_step-3.result c.entry_of-entry-3.ensures c.take_step-3.ensures.value c.in_err-take_step.field-0.0 c.in_err-take_step.was
          ∙ sym (at_0 g (goal.at.returns-in_err-take_step g c).In-Pointer-2)
          ∙ sym (at_1 g (goal.at.returns-in_err-take_step g c).In-Pointer);
      within = IfOk-from_err c.from_residual-in_err-take_step.result _ c.from_residual-in_err-take_step.ensures.0;
    }

pub returns-in-Pointer-3 : goal.returns-in-Pointer-3
returns-in-Pointer-3 g c =
    record {
      value =
          on_pointer_at_zero (g.M.Memory.cells c.args.memory.now) c.args.access.now c.in-Pointer-2.number c.entry_of-entry-3.result c.take_step-3.result c.entry_of-entry-3.ensures c.take_step-3.ensures.value c.in_ok-take_step.field-0 c.in-Pointer-3.field-0 c.in_ok-take_step.was c.in-Pointer-3.is
          ∙ sym (at_0 g (goal.at.returns-in-Pointer-3 g c).In-Pointer-2)
          ∙ sym (at_1 g (goal.at.returns-in-Pointer-3 g c).In-Pointer);
      within = tt;
    }

pub returns-in-Leaf-3 : goal.returns-in-Leaf-3
returns-in-Leaf-3 g c =
    record {
      value =
          on_leaf (g.M.Memory.cells c.args.memory.now) c.args.access.now 0 c.in-Pointer-2.number c.entry_of-entry-3.result c.take_step-3.result c.entry_of-entry-3.ensures c.take_step-3.ensures.value c.in_ok-take_step.field-0 c.in-Leaf-3.found c.in_ok-take_step.was c.in-Leaf-3.is
          ∙ sym (at_0 g (goal.at.returns-in-Leaf-3 g c).In-Pointer-2)
          ∙ sym (at_1 g (goal.at.returns-in-Leaf-3 g c).In-Pointer);
      within = subst StepWithin c.in-Leaf-3.is c.in_ok-take_step.ensures.within;
    }
