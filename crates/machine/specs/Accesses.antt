-- The step of an access.
use Rattle.std.specs.Prelude.{ℕ, ◌%◌, cond, List, Some, None, Ok, Err, Option, Result, ◌==◌, slice_index, slice_set}
use Rattle.sv39.specs.declared.access.Access.{Access}
use Rattle.sv39.specs.declared.access.Kind.{Kind}
use Rattle.sv39.specs.declared.access.Kind.TheVariants as kind
use Rattle.sv39.specs.Address.{page, doubleword_of}
use Rattle.tlb.specs.declared.way.Way.{Way}
use Rattle.tlb.specs.Slots.{empty_slot}
use Rattle.tlb.specs.Trying.{served, tried}
use Rattle.tlb.specs.Ways.{way_of}
use Rattle.walker.specs.declared.fault.WalkFault.{WalkFault}
use Rattle.walker.specs.declared.walking.Translation.{Translation}
use Rattle.walker.specs.Walk.{walked}
use Rattle.machine.specs.declared.hart.Hart.{Hart}
use Rattle.machine.specs.declared.access.Action.{Action}
use Rattle.machine.specs.declared.access.Action.TheVariants.{Fetch, Load, Store}
use Rattle.machine.specs.declared.access.By.TheVariants as by
use Rattle.machine.specs.declared.access.Request.{Request}
use Rattle.machine.specs.declared.access.Reached.{Reached}
use Rattle.machine.specs.declared.access.Found.{Found}
use Rattle.machine.specs.declared.refusal.Cause.{Cause}
use Rattle.machine.specs.declared.refusal.Cause.TheVariants.{Misaligned, Walk}
use Rattle.machine.specs.declared.refusal.Refusal.{Refusal}
use Rattle.machine.specs.declared.refusal.Refusal.TheVariants.{NoHart, InNoSpace, Fault}
use Rattle.machine.specs.State.{State, is_hart, hart_of, row_of, root_of}

-- what an access is to the walk, under the hart's SUM and MXR
abbrev pub kind_of : Action → Kind
kind_of Fetch = kind.Fetch
kind_of Load = kind.Load
kind_of (Store value) = kind.Store

abbrev pub access_of : Hart → Request → Access
access_of h q =
    record { address = q.address; kind = kind_of q.action; mode = q.mode; sum = h.sum; mxr = h.mxr }

abbrev pub fault_of : ℕ → Access → Cause → Refusal
fault_of hart q cause = Fault (record { hart = hart; kind = q.kind; address = q.address; cause = cause })

abbrev pub with_row : State → ℕ → List (Option Way) → List (Option ℕ) → State
with_row s hart row last =
    record { cells = s.cells; frames = s.frames; roots = s.roots; debts = s.debts; harts = s.harts; rows = slice_set s.rows hart row; count = s.count; last = last }

abbrev pub touched : State → ℕ → ℕ → List (Option ℕ)
touched s hart way = slice_set s.last hart (Some way)

-- the way to fill: the lowest empty one, else the policy's choice
abbrev pub slot_of : ℕ → Option ℕ → ℕ
slot_of choice None = choice
slot_of choice (Some way) = way

-- a translation goes into that way, which is touched
abbrev pub filled_at : State → ℕ → ℕ → Access → List (Option Way) → Translation → ℕ → Result Found Cause × State
filled_at s hart space q row t way = (
  Ok (record { frame = t.frame; by = by.Walk }),
  with_row s hart (slice_set row way (Some (way_of space (page q.address) t.frame t.leaf.flags))) (touched s hart way),
)

-- without a hit the hart walks; the row has been tried
abbrev pub filled_by : State → ℕ → ℕ → ℕ → Access → List (Option Way) → Result Translation WalkFault → Result Found Cause × State
filled_by s choice hart space q row (Err fault) = (Err (Walk fault), with_row s hart row s.last)
filled_by s choice hart space q row (Ok t) = filled_at s hart space q row t (slot_of choice (empty_slot 0 row))

-- the root that a hart walks from (a hart is in a space that stands)
abbrev pub root_in : Option ℕ → ℕ
root_in None = 0
root_in (Some root) = root

abbrev pub filled : State → ℕ → ℕ → ℕ → Access → List (Option Way) → Result Found Cause × State
filled s choice hart space q row = filled_by s choice hart space q row (walked s.cells (root_in (root_of s space)) q)

-- a hit is touched; a way that does not serve has been emptied, and the hart walks
abbrev pub found_by : State → ℕ → ℕ → ℕ → Access → Option (ℕ × ℕ) → Result Found Cause × State
found_by s choice hart space q (Some hit) = (
  Ok (record { frame = hit.1; by = by.Hit }),
  with_row s hart (tried space (page q.address) q (row_of s hart)) (touched s hart hit.0),
)
found_by s choice hart space q None = filled s choice hart space q (tried space (page q.address) q (row_of s hart))

abbrev pub find_step : State → ℕ → ℕ → ℕ → Access → Result Found Cause × State
find_step s choice hart space q =
    cond (q.address % 8 == 0) (found_by s choice hart space q (served space (page q.address) q (row_of s hart)))
    (Err Misaligned, s)

-- the doubleword is moved: a fetch or a load answers it, a store writes it
abbrev pub word_of : List ℕ → ℕ → Action → Option ℕ
word_of cells place Fetch = Some (slice_index cells place)
word_of cells place Load = Some (slice_index cells place)
word_of cells place (Store value) = None

abbrev pub stored : List ℕ → ℕ → Action → List ℕ
stored cells place Fetch = cells
stored cells place Load = cells
stored cells place (Store value) = slice_set cells place value

abbrev pub with_cells : State → List ℕ → State
with_cells s cells =
    record { cells = cells; frames = s.frames; roots = s.roots; debts = s.debts; harts = s.harts; rows = s.rows; count = s.count; last = s.last }

abbrev pub moved_at : State → Request → Found → ℕ → Result Reached Refusal × State
moved_at s q found place = (
  Ok (record { frame = found.frame; by = found.by; word = word_of s.cells place q.action }),
  with_cells s (stored s.cells place q.action),
)

abbrev pub moved_by : ℕ → Access → Request → Result Found Cause → State → Result Reached Refusal × State
moved_by hart q request (Err cause) s = (Err (fault_of hart q cause), s)
moved_by hart q request (Ok found) s = moved_at s request found (doubleword_of found.frame q.address)

abbrev pub moved : ℕ → Access → Request → Result Found Cause × State → Result Reached Refusal × State
moved hart q request found = moved_by hart q request found.0 found.1

-- access: 10, 12, 30, then the walk's
abbrev pub access_in : State → ℕ → ℕ → Request → Option ℕ → Result Reached Refusal × State
access_in s choice hart request None = (Err InNoSpace, s)
access_in s choice hart request (Some space) =
    moved hart (access_of (hart_of s hart) request) request (find_step s choice hart space (access_of (hart_of s hart) request))

abbrev pub access_step : State → ℕ → ℕ → Request → Result Reached Refusal × State
access_step s choice hart request =
    cond (is_hart s hart) (access_in s choice hart request (hart_of s hart).space) (Err NoHart, s)
