-- What a frame is used for, and how many are busy.
use Rattle.std.specs.Prelude.{ℕ, ◌+◌, Bool, List, [], ◌∷◌, ◌==◌}
use Rattle.frames.specs.declared.state.FrameState.{FrameState}
use Rattle.frames.specs.declared.state.FrameState.TheVariants.{Free, Table, Held, Mapped, Owed}
use Rattle.frames.specs.declared.state.Use.{Use}
use Rattle.frames.specs.declared.state.Use.TheVariants as use_of

-- the uses numbered, so that two can be compared
abbrev pub tag : FrameState → ℕ
tag Free = 0
tag Table = 1
tag Held = 2
tag Mapped = 3
tag Owed = 4

abbrev pub same : FrameState → FrameState → Bool
same a b = tag a == tag b

-- 0 for a free frame, 1 for any other
abbrev pub one : FrameState → ℕ
one Free = 0
one Table = 1
one Held = 1
one Mapped = 1
one Owed = 1

abbrev pub busy : List FrameState → ℕ
busy [] = 0
busy (s ∷ states) = one s + busy states

-- a use as the state of its frame
abbrev pub state_of_use : Use → FrameState
state_of_use use_of.Table = Table
state_of_use use_of.Held = Held
state_of_use use_of.Mapped = Mapped
state_of_use use_of.Owed = Owed
