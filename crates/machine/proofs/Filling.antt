-- A row that was tried, and then filled.
use Rattle.std.proofs.Common.{◌≡◌, ℕ, ◌<◌, List, [], length, set, Some, Ok, Err, Option, Result, ap, ◌∙◌}
use Rattle.std.proofs.lemmas.List.{get_or-set_same, set-set}
use Rattle.sv39.specs.declared.access.Access.{Access}
use Rattle.sv39.specs.Address.{page}
use Rattle.tlb.specs.declared.way.Way.{Way}
use Rattle.tlb.specs.Slots.{empty_slot}
use Rattle.tlb.specs.Ways.{way_of}
use Rattle.walker.specs.declared.fault.WalkFault.{WalkFault}
use Rattle.walker.specs.declared.walking.Translation.{Translation}
use Rattle.walker.specs.Walk.{walked}
use Rattle.machine.specs.Accesses.{with_row, filled, filled_at, filled_by, slot_of, touched, root_in}
use Rattle.machine.specs.State.{State, row_of, root_of}

module _ (s : State) (choice hart space : ℕ) (q : Access) (row : List (Option Way)) where
  abbrev tried_state : State
  tried_state = with_row s hart row s.last

  abbrev with_rows : List (List (Option Way)) → List (Option ℕ) → State
  with_rows rows last =
      record { cells = s.cells; frames = s.frames; roots = s.roots; debts = s.debts; harts = s.harts; rows = rows; count = s.count; last = last }

  again : (w : Result Translation WalkFault) → filled_by tried_state choice hart space q row w ≡ filled_by s choice hart space q row w
  again (Err fault) =
      ap (λ (rows : List (List (Option Way))). ((filled_by s choice hart space q row (Err fault)).0, with_rows rows s.last)) (set-set s.rows hart row row)
  again (Ok t) =
      ap (λ (rows : List (List (Option Way))). ((filled_at s hart space q row t (slot_of choice (empty_slot 0 row))).0, with_rows rows (touched s hart (slot_of choice (empty_slot 0 row)))))
      (set-set s.rows hart row (set row (slot_of choice (empty_slot 0 row)) (Some (way_of space (page q.address) t.frame t.leaf.flags))))

  -- what is filled after a row was tried is the row as it was tried, filled
  pub filled_after_tried : hart < length s.rows → filled tried_state choice hart space q (row_of tried_state hart) ≡ filled s choice hart space q row
  filled_after_tried h =
      ap (filled tried_state choice hart space q) (get_or-set_same s.rows hart row [] h) ∙ again (walked s.cells (root_in (root_of s space)) q)
