-- The steps of the calls on harts and debts.
use Rattle.std.specs.Prelude.{ℕ, Bool, true, cond, List, is_some, Some, None, Ok, Err, Option, Result, slice_index_or, slice_set}
use Rattle.debts.specs.declared.settling.Unsettled.{Unsettled}
use Rattle.debts.specs.Debts.{Debts, settle_of, settled}
use Rattle.debts.specs.Debts as ledger
use Rattle.frames.specs.declared.state.FrameState.TheVariants as state
use Rattle.frames.specs.Frames.{Frames, freed}
use Rattle.sv39.specs.Address.{canonical, page}
use Rattle.tlb.specs.Rows.{fenced, emptied}
use Rattle.machine.specs.declared.hart.Hart.{Hart}
use Rattle.machine.specs.declared.refusal.Refusal.{Refusal}
use Rattle.machine.specs.declared.refusal.Refusal.TheVariants.{NoHart, NoSpace}
use Rattle.machine.specs.Refusals.{unsettled}
use Rattle.machine.specs.State.{State, is_hart, hart_of, row_of, root_of}

abbrev pub with_hart : State → ℕ → Hart → State
with_hart s hart h =
    record { cells = s.cells; frames = s.frames; roots = s.roots; debts = s.debts; harts = slice_set s.harts hart h; rows = s.rows; count = s.count; last = s.last }

-- enter: the hart is in the space, SUM and MXR as they were; 10, then 11
abbrev pub enter_by : State → ℕ → ℕ → Option ℕ → Result (Unit {0}) Refusal × State
enter_by s hart space None = (Err NoSpace, s)
enter_by s hart space (Some root) = (
  Ok tt,
  with_hart s hart (record { space = Some space; sum = (hart_of s hart).sum; mxr = (hart_of s hart).mxr }),
)

abbrev pub enter_step : State → ℕ → ℕ → Result (Unit {0}) Refusal × State
enter_step s hart space = cond (is_hart s hart) (enter_by s hart space (root_of s space)) (Err NoHart, s)

-- status: SUM and MXR of the hart; 10
abbrev pub status_step : State → ℕ → Bool → Bool → Result (Unit {0}) Refusal × State
status_step s hart sum mxr =
    cond (is_hart s hart) (Ok tt, with_hart s hart (record { space = (hart_of s hart).space; sum = sum; mxr = mxr }))
    (Err NoHart, s)

-- the page, or all pages, that a fence is for; nothing where its address is not canonical
abbrev pub fence_page : Option ℕ → Option (Option ℕ)
fence_page None = Some None
fence_page (Some address) = cond (canonical address) (Some (Some (page address))) None

abbrev pub stands_in : List (Option ℕ) → Option ℕ → Bool
stands_in roots None = true
stands_in roots (Some space) = is_some (slice_index_or roots space None)

-- fence: empties the hart's ways for a space or all at a page or all, marks the hart on every open debt on these, and
-- answers how many ways it emptied; 10, then 11
abbrev pub fence_by : State → ℕ → Option ℕ → Option (Option ℕ) → Result ℕ Refusal × State
fence_by s hart space None = (Ok 0, s)
fence_by s hart space (Some at) = (
  Ok (emptied space at (row_of s hart)),
  record {
    cells = s.cells;
    frames = s.frames;
    roots = s.roots;
    debts = ledger.fenced s.debts hart space at;
    harts = s.harts;
    rows = slice_set s.rows hart (fenced space at (row_of s hart));
    count = s.count;
    last = s.last;
  },
)

abbrev pub fence_step : State → ℕ → Option ℕ → Option ℕ → Result ℕ Refusal × State
fence_step s hart space address =
    cond (is_hart s hart) (cond (stands_in s.roots space) (fence_by s hart space (fence_page address)) (Err NoSpace, s)) (Err NoHart, s)

-- settle: closes a debt on which every hart is marked and releases an unmap's frame; 21, then 22 with the lowest hart
-- that is not marked
abbrev pub with_settled : State → Frames → Debts → State
with_settled s frames debts =
    record { cells = s.cells; frames = frames; roots = s.roots; debts = debts; harts = s.harts; rows = s.rows; count = s.count; last = s.last }

abbrev pub settle_by : State → ℕ → Result (Option ℕ) Unsettled → Result (Option ℕ) Refusal × State
settle_by s number (Err refused) = (Err (unsettled refused), s)
settle_by s number (Ok None) = (Ok None, with_settled s s.frames (settled s.debts number s.count))
settle_by s number (Ok (Some frame)) = (
  Ok (Some frame),
  with_settled s (freed s.frames frame state.Owed) (settled s.debts number s.count),
)

abbrev pub settle_step : State → ℕ → Result (Option ℕ) Refusal × State
settle_step s number = settle_by s number (settle_of s.debts number s.count)
