-- Runs: the histories that the calls can make from a state, with the state that they come to.
use Rattle.std.specs.Prelude.{ℕ, ◌<◌, List, [], ◌∷◌, Some, None, Option, ◌≢◌, slice_index_or}
use Rattle.frames.specs.Frames.{next}
use Rattle.machine.specs.declared.call.Call.{Call}
use Rattle.machine.specs.Calls.{call_step}
use Rattle.machine.specs.State.{State, fresh}
use Rattle.law.specs.History.{Event, History}
use Rattle.law.specs.Law.{Law}

-- choices that a policy may make: for each hart a way, and not the one touched last
abbrev pub Allowed : State → (ℕ → ℕ) → Type 0
Allowed s choice = (h : ℕ) → h < 8 → (choice h < 16) × (slice_index_or s.last h None ≢ Some (choice h))

abbrev pub event_of : State → (ℕ → ℕ) → Call → Event
event_of s choice c = record { call = c; answer = (call_step s choice c).0; cells = s.cells; next = next s.frames }

pub data Run (from : State) : History → State → Type 0 where
  start : Run from [] from
  step : (H : History) (s : State) → Run from H s → (choice : ℕ → ℕ) → Allowed s choice → (c : Call) → Run from (event_of s choice c ∷ H) (call_step s choice c).1

-- Every history that the calls can make on a freshly made machine, over every memory's list and every policy, whatever
-- it picks, is lawful.
abbrev pub EveryHistoryIsLawful : Type 0
EveryHistoryIsLawful =
    (cells : List ℕ) (last : ℕ → Option ℕ) (harts : ℕ) (H : History) (s : State) → Run (fresh cells last harts) H s → Law H
