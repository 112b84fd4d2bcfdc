-- The steps of the calls on frames, spaces and pages.
use Rattle.std.specs.Prelude.{ℕ, ◌+◌, ◌%◌, Bool, cond, ◌&&◌, List, Some, None, Ok, Err, Option, Result, ◌==◌, nat_lt, slice_set}
use Rattle.debts.specs.Debts.{Debts, number_of, opened}
use Rattle.frames.specs.declared.state.FrameState.TheVariants as state
use Rattle.frames.specs.Frames.{Frames, next, taken, is_in, turned, freed, available}
use Rattle.sv39.specs.declared.entry.Entry.{Entry}
use Rattle.sv39.specs.declared.entry.Rights.{Rights}
use Rattle.sv39.specs.Address.{canonical}
use Rattle.sv39.specs.Layout.{packed}
use Rattle.sv39.specs.Making.{leaf_flags, with_flags}
use Rattle.tables.specs.Growth.{Growth, grown_mid, grown_low, leaf_put}
use Rattle.tables.specs.Tables.{cleared, leaf_of, missing}
use Rattle.tlb.specs.Slots.{empty_slot}
use Rattle.machine.specs.declared.paging.Protected.{Protected}
use Rattle.machine.specs.declared.paging.Unmapped.{Unmapped}
use Rattle.machine.specs.declared.refusal.Refusal.{Refusal}
use Rattle.machine.specs.declared.refusal.Refusal.TheVariants.{NoSpace, SpacesFull, NoFrame, NotHeld, NotAPage, BadRights, Mapped, NotMapped, DebtsFull}
use Rattle.machine.specs.Rights.{valid, due}
use Rattle.machine.specs.State.{State, root_of}

-- the state with other frames, and with another memory list too
abbrev pub with_frames : State → List ℕ → Frames → State
with_frames s cells frames =
    record { cells = cells; frames = frames; roots = s.roots; debts = s.debts; harts = s.harts; rows = s.rows; count = s.count; last = s.last }

abbrev pub with_debts : State → List ℕ → Frames → Debts → State
with_debts s cells frames debts =
    record { cells = cells; frames = frames; roots = s.roots; debts = debts; harts = s.harts; rows = s.rows; count = s.count; last = s.last }

-- space: the lowest number that stands for none gets a root table; 13 where all eight stand, then 14
abbrev pub space_by : State → Option ℕ → Option ℕ → Result ℕ Refusal × State
space_by s None free = (Err SpacesFull, s)
space_by s (Some number) None = (Err NoFrame, s)
space_by s (Some number) (Some frame) = (
  Ok number,
  record {
    cells = cleared s.cells frame;
    frames = taken s.frames state.Table;
    roots = slice_set s.roots number (Some frame);
    debts = s.debts;
    harts = s.harts;
    rows = s.rows;
    count = s.count;
    last = s.last;
  },
)

abbrev pub space_step : State → Result ℕ Refusal × State
space_step s = space_by s (empty_slot 0 s.roots) (next s.frames)

-- grant: the next frame, filled with zeros, is held; 14 where there is none
abbrev pub grant_by : State → Option ℕ → Result ℕ Refusal × State
grant_by s None = (Err NoFrame, s)
grant_by s (Some frame) = (Ok frame, with_frames s (cleared s.cells frame) (taken s.frames state.Held))

abbrev pub grant_step : State → Result ℕ Refusal × State
grant_step s = grant_by s (next s.frames)

-- back: a held frame goes on the pile; 15 for any other
abbrev pub back_step : State → ℕ → Result (Unit {0}) Refusal × State
back_step s frame = (
  cond (is_in s.frames frame state.Held) (Ok tt) (Err NotHeld),
  with_frames s s.cells (freed s.frames frame state.Held),
)

-- the root below which an address is a page's: 11 for no such space, then 16
abbrev pub is_page : ℕ → Bool
is_page address = canonical address && address % 4096 == 0

abbrev pub located_by : ℕ → Option ℕ → Result ℕ Refusal
located_by address None = Err NoSpace
located_by address (Some root) = cond (is_page address) (Ok root) (Err NotAPage)

abbrev pub located : State → ℕ → ℕ → Result ℕ Refusal
located s space address = located_by address (root_of s space)

abbrev pub leaf_below : State → ℕ → ℕ → Option (ℕ × Entry)
leaf_below s root address = leaf_of s.cells s.frames.limit root address

-- map: 11, 16, 17, 15, 18, 14 in this order; else the root and the frame
abbrev pub map_unless_mapped : State → ℕ → ℕ → ℕ → Option (ℕ × Entry) → Result (ℕ × ℕ) Refusal
map_unless_mapped s address frame root None =
    cond (nat_lt (available s.frames) (missing s.cells s.frames.limit root address)) (Err NoFrame) (Ok (root, frame))
map_unless_mapped s address frame root (Some leaf) = Err Mapped

abbrev pub map_allowed_at : State → ℕ → ℕ → Rights → Result ℕ Refusal → Result (ℕ × ℕ) Refusal
map_allowed_at s address frame rights (Err refusal) = Err refusal
map_allowed_at s address frame rights (Ok root) =
    cond (valid rights) (cond (is_in s.frames frame state.Held) (map_unless_mapped s address frame root (leaf_below s root address)) (Err NotHeld))
    (Err BadRights)

abbrev pub map_allowed : State → ℕ → ℕ → ℕ → Rights → Result (ℕ × ℕ) Refusal
map_allowed s space address frame rights = map_allowed_at s address frame rights (located s space address)

-- the missing tables are taken, level 1 first, and the leaf is written; the frame is mapped, the tables taken are told
abbrev pub map_grown : State → ℕ → ℕ → Rights → Growth → Growth → Result ℕ Refusal × State
map_grown s address frame rights mid low = (
  Ok (mid.count + low.count),
  with_frames s (leaf_put low.cells low.table address frame rights) (turned low.frames frame state.Held state.Mapped),
)

abbrev pub map_by : State → ℕ → Rights → Result (ℕ × ℕ) Refusal → Result ℕ Refusal × State
map_by s address rights (Err refusal) = (Err refusal, s)
map_by s address rights (Ok allowed) =
    map_grown s address allowed.1 rights (grown_mid s.cells s.frames allowed.0 address)
    (grown_low (grown_mid s.cells s.frames allowed.0 address) address)

abbrev pub map_step : State → ℕ → ℕ → ℕ → Rights → Result ℕ Refusal × State
map_step s space address frame rights = map_by s address rights (map_allowed s space address frame rights)

-- protect: 11, 16, 17, 19 in this order; else the leaf with its place
abbrev pub leaf_or : Option (ℕ × Entry) → Result (ℕ × Entry) Refusal
leaf_or None = Err NotMapped
leaf_or (Some leaf) = Ok leaf

abbrev pub protect_allowed_at : State → ℕ → Rights → Result ℕ Refusal → Result (ℕ × Entry) Refusal
protect_allowed_at s address rights (Err refusal) = Err refusal
protect_allowed_at s address rights (Ok root) = cond (valid rights) (leaf_or (leaf_below s root address)) (Err BadRights)

abbrev pub protect_allowed : State → ℕ → ℕ → Rights → Result (ℕ × Entry) Refusal
protect_allowed s space address rights = protect_allowed_at s address rights (located s space address)

-- the leaf with its rights changed
abbrev pub reworked : Entry → Rights → Entry
reworked e rights = with_flags e (leaf_flags rights)

abbrev pub protect_due : State → ℕ → ℕ → Rights → ℕ → Entry → Option ℕ → Result Protected Refusal × State
protect_due s space address rights place e None = (Err DebtsFull, s)
protect_due s space address rights place e (Some number) = (
  Ok (record { leaf = reworked e rights; debt = Some number }),
  with_debts s (slice_set s.cells place (packed (reworked e rights))) s.frames (opened s.debts space address None),
)

-- without a debt the leaf alone changes; with one, 20 where none can be opened
abbrev pub protect_at : State → ℕ → ℕ → Rights → ℕ → Entry → Bool → Result Protected Refusal × State
protect_at s space address rights place e owed =
    cond owed (protect_due s space address rights place e (number_of s.debts))
    (Ok (record { leaf = reworked e rights; debt = None }), with_frames s (slice_set s.cells place (packed (reworked e rights))) s.frames)

abbrev pub protect_by : State → ℕ → ℕ → Rights → Result (ℕ × Entry) Refusal → Result Protected Refusal × State
protect_by s space address rights (Err refusal) = (Err refusal, s)
protect_by s space address rights (Ok leaf) =
    protect_at s space address rights leaf.0 leaf.1 (due leaf.1.flags rights)

abbrev pub protect_step : State → ℕ → ℕ → Rights → Result Protected Refusal × State
protect_step s space address rights = protect_by s space address rights (protect_allowed s space address rights)

-- unmap: 11, 16, 19, then 20 where no debt can be opened; the leaf becomes 0, the frame is owed, a debt arises
abbrev pub unmap_allowed_at : State → ℕ → Result ℕ Refusal → Result (ℕ × Entry) Refusal
unmap_allowed_at s address (Err refusal) = Err refusal
unmap_allowed_at s address (Ok root) = leaf_or (leaf_below s root address)

abbrev pub unmap_allowed : State → ℕ → ℕ → Result (ℕ × Entry) Refusal
unmap_allowed s space address = unmap_allowed_at s address (located s space address)

abbrev pub unmap_at : State → ℕ → ℕ → ℕ → Entry → Option ℕ → Result Unmapped Refusal × State
unmap_at s space address place e None = (Err DebtsFull, s)
unmap_at s space address place e (Some number) = (
  Ok (record { debt = number; frame = e.ppn }),
  with_debts s (slice_set s.cells place 0) (turned s.frames e.ppn state.Mapped state.Owed) (opened s.debts space address (Some e.ppn)),
)

abbrev pub unmap_by : State → ℕ → ℕ → Result (ℕ × Entry) Refusal → Result Unmapped Refusal × State
unmap_by s space address (Err refusal) = (Err refusal, s)
unmap_by s space address (Ok leaf) = unmap_at s space address leaf.0 leaf.1 (number_of s.debts)

abbrev pub unmap_step : State → ℕ → ℕ → Result Unmapped Refusal × State
unmap_step s space address = unmap_by s space address (unmap_allowed s space address)
