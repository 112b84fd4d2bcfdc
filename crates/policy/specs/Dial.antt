-- The dial of CLOCK: a mark for each way, a hand, and the way touched last.
use Rattle.std.specs.Prelude.{ℕ, zero, suc, ◌+◌, ◌%◌, Bool, false, cond, List, Some, None, Option, ◌==◌, slice_index_or, slice_set}

abbrev pub is_last : Option ℕ → ℕ → Bool
is_last None way = false
is_last (Some w) way = w == way

-- what a pick leaves: the way picked, the marks and the hand
pub record Swept : Type 0 where
  pub way : ℕ
  pub marks : List Bool
  pub hand : ℕ

-- one beyond, round after 15
abbrev pub beyond : ℕ → ℕ
beyond hand = (hand + 1) % 16

-- Looks from the hand upward: the last touched way is passed as it is, a marked way is unmarked and passed, the first
-- other is picked and the hand goes one beyond it.
unfoldable pub sweep : ℕ → List Bool → ℕ → Option ℕ → Swept
sweep zero marks hand last = record { way = hand; marks = marks; hand = hand }
sweep (suc looks) marks hand last =
    cond (is_last last hand) (sweep looks marks (beyond hand) last)
    (cond (slice_index_or marks hand false) (sweep looks (slice_set marks hand false) (beyond hand) last)
    (record { way = hand; marks = marks; hand = beyond hand }))

-- a way is found within 18 looks
unfoldable pub swept : List Bool → ℕ → Option ℕ → Swept
swept marks hand last = sweep 18 marks hand last
