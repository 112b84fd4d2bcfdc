-- Debts as a value, and what each use of them leaves.
use Rattle.std.specs.Prelude.{ℕ, zero, suc, ◌+◌, ◌^◌, Bool, cond, ◌&&◌, List, [], ◌∷◌, map, replicate, is_some, Some, None, Ok, Err, count_by, Option, Result, ◌==◌, bit_or, nat_lt, slice_set}
use Rattle.sv39.specs.Layout.{bit}
use Rattle.tlb.specs.Rows.{matches}
use Rattle.tlb.specs.Slots.{empty_slot}
use Rattle.debts.specs.declared.debt.Debt.{Debt}
use Rattle.debts.specs.declared.ledger.Ledger.{Ledger}
use Rattle.debts.specs.declared.settling.Unsettled.{Unsettled}
use Rattle.debts.specs.declared.settling.Unsettled.TheVariants.{NotOpen, Unmarked}

-- 64 slots, each with an open debt or empty, and the next number
pub record Debts : Type 0 where
  pub slots : List (Option Debt)
  pub next : ℕ

abbrev pub debts_of : Ledger → Debts
debts_of l = record { slots = l.slots; next = l.next }

abbrev pub none : Debts
none = record { slots = replicate 64 None; next = 0 }

-- where a new debt goes: the lowest empty slot, while numbers are left
abbrev pub room : Debts → Option ℕ
room v = cond (nat_lt v.next (2 ^ 32)) (empty_slot 0 v.slots) None

abbrev pub can_open : Debts → Bool
can_open v = is_some (room v)

-- a new debt's number
abbrev pub number_at : ℕ → Option ℕ → Option ℕ
number_at next None = None
number_at next (Some slot) = Some next

abbrev pub number_of : Debts → Option ℕ
number_of v = number_at v.next (room v)

-- no hart is marked on a new debt
abbrev pub new_debt : ℕ → ℕ → ℕ → Option ℕ → Debt
new_debt number space page frame = record { number = number; of = record { space = space; page = page }; frame = frame; marks = 0 }

abbrev pub opened_at : Debts → Debt → Option ℕ → Debts
opened_at v d None = v
opened_at v d (Some slot) = record { slots = slice_set v.slots slot (Some d); next = v.next + 1 }

abbrev pub opened : Debts → ℕ → ℕ → Option ℕ → Debts
opened v space page frame = opened_at v (new_debt v.next space page frame) (room v)

-- the open debt of a number, with its slot, counted from i
abbrev pub open_debt : ℕ → ℕ → List (Option Debt) → Option (ℕ × Debt)
open_debt number i [] = None
open_debt number i (None ∷ slots) = open_debt number (i + 1) slots
open_debt number i (Some d ∷ slots) = cond (d.number == number) (Some (i, d)) (open_debt number (i + 1) slots)

-- how many debts are open
abbrev pub open_count : Debts → ℕ
open_count v = count_by is_some v.slots

-- a debt that a fence of a space or all, at a page or all, covers has its hart marked after it
abbrev pub covers : Option ℕ → Option ℕ → Debt → Bool
covers space page d = matches space d.of.space && matches page d.of.page

abbrev pub with_mark : ℕ → Debt → Debt
with_mark hart d =
    record { number = d.number; of = d.of; frame = d.frame; marks = bit_or d.marks (2 ^ hart) }

abbrev pub marked_by : ℕ → Option ℕ → Option ℕ → Option Debt → Option Debt
marked_by hart space page None = None
marked_by hart space page (Some d) = cond (covers space page d) (Some (with_mark hart d)) (Some d)

abbrev pub fenced : Debts → ℕ → Option ℕ → Option ℕ → Debts
fenced v hart space page = record { slots = map (marked_by hart space page) v.slots; next = v.next }

-- the lowest hart that is not marked: of so many from h on, and of the first so many
abbrev pub unmarked_from : ℕ → ℕ → ℕ → Option ℕ
unmarked_from marks h zero = None
unmarked_from marks h (suc harts) = cond (bit marks h) (unmarked_from marks (h + 1) harts) (Some h)

abbrev pub lowest_unmarked : ℕ → ℕ → Option ℕ
lowest_unmarked marks harts = unmarked_from marks 0 harts

-- settling answers the frame to be released; it refuses a debt that is not open, then one with a hart unmarked
abbrev pub settle_by : Debt → Option ℕ → Result (Option ℕ) Unsettled
settle_by d None = Ok d.frame
settle_by d (Some hart) = Err (Unmarked hart)

abbrev pub settle_at : ℕ → Option (ℕ × Debt) → Result (Option ℕ) Unsettled
settle_at harts None = Err NotOpen
settle_at harts (Some found) = settle_by found.1 (lowest_unmarked found.1.marks harts)

abbrev pub settle_of : Debts → ℕ → ℕ → Result (Option ℕ) Unsettled
settle_of v number harts = settle_at harts (open_debt number 0 v.slots)

-- and empties its slot
abbrev pub closed_by : Debts → ℕ → Option ℕ → Debts
closed_by v slot None = record { slots = slice_set v.slots slot None; next = v.next }
closed_by v slot (Some hart) = v

abbrev pub closed_at : Debts → ℕ → Option (ℕ × Debt) → Debts
closed_at v harts None = v
closed_at v harts (Some found) = closed_by v found.0 (lowest_unmarked found.1.marks harts)

abbrev pub settled : Debts → ℕ → ℕ → Debts
settled v number harts = closed_at v harts (open_debt number 0 v.slots)

abbrev pub refusal_number : Unsettled → ℕ
refusal_number NotOpen = 21
refusal_number (Unmarked hart) = 22
