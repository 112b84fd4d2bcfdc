-- What a state answers to the questions that change nothing.
use Rattle.std.specs.Prelude.{ℕ, cond, List, Some, None, Option, nat_lt, slice_index_or}
use Rattle.debts.specs.declared.debt.Debt.{Debt}
use Rattle.debts.specs.Debts.{open_debt, open_count}
use Rattle.frames.specs.declared.state.FrameState.{FrameState}
use Rattle.frames.specs.declared.state.FrameState.TheVariants.{Free}
use Rattle.frames.specs.Frames.{available, count_in}
use Rattle.tlb.specs.declared.way.Way.{Way}
use Rattle.machine.specs.declared.hart.Hart.{Hart}
use Rattle.machine.specs.State.{State, is_hart, hart_of, row_of}

-- a frame's state, if it is one of the machine's; how many frames are in a state, and how many can be taken
abbrev pub frame_state_of : State → ℕ → Option FrameState
frame_state_of s frame = cond (nat_lt frame s.frames.limit) (Some (slice_index_or s.frames.states frame Free)) None

abbrev pub frames_in : State → FrameState → ℕ
frames_in s state = count_in s.frames state

abbrev pub frames_left : State → ℕ
frames_left s = available s.frames

-- a hart's ways, and what it is set to, if there is such a hart
abbrev pub ways_asked : State → ℕ → Option (List (Option Way))
ways_asked s hart = cond (is_hart s hart) (Some (row_of s hart)) None

abbrev pub hart_asked : State → ℕ → Option Hart
hart_asked s hart = cond (is_hart s hart) (Some (hart_of s hart)) None

-- an open debt, without its slot
abbrev pub debt_in : Option (ℕ × Debt) → Option Debt
debt_in None = None
debt_in (Some found) = Some found.1

abbrev pub debt_asked : State → ℕ → Option Debt
debt_asked s number = debt_in (open_debt number 0 s.debts.slots)

abbrev pub debts_open : State → ℕ
debts_open s = open_count s.debts
