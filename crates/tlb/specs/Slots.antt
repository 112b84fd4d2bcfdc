-- Slots, each of which holds something or nothing.
use Rattle.std.specs.Prelude.{ℕ, ◌+◌, List, [], ◌∷◌, Some, None, Option}

-- the lowest empty slot, counted from i
abbrev pub empty_slot : {A : Type 0} → ℕ → List (Option A) → Option ℕ
empty_slot i [] = None
empty_slot i (None ∷ slots) = Some i
empty_slot i (Some held ∷ slots) = empty_slot (i + 1) slots
