-- The machine's state as a value, and what it means that a call did its step.
use Rattle.std.specs.Prelude.{◌≡◌, ℕ, ◌/◌, min, max, Bool, false, List, [], ◌∷◌, length, replicate, None, Option, nat_lt, slice_index_or}
use Rattle.debts.specs.Debts.{Debts, debts_of}
use Rattle.debts.specs.Debts as ledger
use Rattle.frames.specs.Frames.{Frames, frames_of}
use Rattle.frames.specs.Frames as pool
use Rattle.tlb.specs.declared.way.Way.{Way}
use Rattle.tlb.specs.Harts.{rows_of, row_at}
use Rattle.machine.specs.declared.hart.Hart.{Hart}
use Rattle.machine.specs.declared.hart.Core.{Core}
use Rattle.machine.specs.declared.machine.Machine.{Machine}

-- The memory's list of doublewords; the frames; the root of each space; the debts; of each hart what it is set to and
-- its ways; how many harts were made; and of each hart the way that its policy touched last.
pub record State : Type 0 where
  pub cells : List ℕ
  pub frames : Frames
  pub roots : List (Option ℕ)
  pub debts : Debts
  pub harts : List Hart
  pub rows : List (List (Option Way))
  pub count : ℕ
  pub last : List (Option ℕ)

-- of each of eight harts
abbrev pub eight : (ℕ → Option ℕ) → List (Option ℕ)
eight of = of 0 ∷ of 1 ∷ of 2 ∷ of 3 ∷ of 4 ∷ of 5 ∷ of 6 ∷ of 7 ∷ []

abbrev pub core_state : List ℕ → (ℕ → Option ℕ) → Core → State
core_state cells last core =
    record { cells = cells; frames = frames_of core.pool; roots = core.roots; debts = debts_of core.debts; harts = core.harts; rows = rows_of core.rows; count = core.count; last = eight last }

-- the state of a machine, by what its memory means and the way that its policy touched last
abbrev pub state_of : {M P : Type 0} → (M → List ℕ) → (P → ℕ → Option ℕ) → Machine M P → State
state_of cells last m = core_state (cells m.memory) (last m.policy) m.core

-- a hart in no space, SUM and MXR clear
abbrev pub outside : Hart
outside = record { space = None; sum = false; mxr = false }

-- A fresh machine over a memory's list and a policy: harts brought into 1 to 8, the first frames of the memory, at most
-- 1,024, no space, no debt, every way empty.
abbrev pub fresh : List ℕ → (ℕ → Option ℕ) → ℕ → State
fresh cells last harts =
    record {
      cells = cells;
      frames = pool.fresh (min (length cells / 512) 1024);
      roots = replicate 8 None;
      debts = ledger.none;
      harts = replicate 8 outside;
      rows = replicate 8 (replicate 16 None);
      count = min (max harts 1) 8;
      last = eight last;
    }

-- what is asked of a state
abbrev pub root_of : State → ℕ → Option ℕ
root_of s space = slice_index_or s.roots space None

abbrev pub is_hart : State → ℕ → Bool
is_hart s hart = nat_lt hart s.count

abbrev pub hart_of : State → ℕ → Hart
hart_of s hart = slice_index_or s.harts hart outside

abbrev pub row_of : State → ℕ → List (Option Way)
row_of s hart = row_at s.rows hart

-- A call did a step: its answer is the step's, and so is every part of the state after it.
pub record Did {A : Type 0} (step : A × State) (answered : A) (after : State) : Type 0 where
  pub answer : answered ≡ step.0
  pub memory : after.cells ≡ step.1.cells
  pub pool : after.frames ≡ step.1.frames
  pub roots : after.roots ≡ step.1.roots
  pub debts : after.debts ≡ step.1.debts
  pub harts : after.harts ≡ step.1.harts
  pub rows : after.rows ≡ step.1.rows
  pub count : after.count ≡ step.1.count
  pub last : after.last ≡ step.1.last
