-- The pool as a value, and what each use of it leaves.
use Rattle.std.specs.Prelude.{ℕ, zero, suc, ◌+◌, ◌-◌, Bool, cond, ◌&&◌, List, [], ◌∷◌, length, take, replicate, Some, None, count_by, Option, ◌==◌, nat_lt, slice_index, slice_index_or, slice_set}
use Rattle.frames.specs.declared.pool.Pool.{Pool}
use Rattle.frames.specs.declared.state.FrameState.{FrameState}
use Rattle.frames.specs.declared.state.FrameState.TheVariants.{Free}
use Rattle.frames.specs.Busy.{one, same}

-- every frame's state, the pile with its top first, the lowest frame never used, and how many frames there are
pub record Frames : Type 0 where
  pub states : List FrameState
  pub pile : List ℕ
  pub mark : ℕ
  pub limit : ℕ

-- the lowest places of an array as a pile, the highest of them on top
unfoldable pub stack : List ℕ → ℕ → List ℕ
stack frames zero = []
stack frames (suc height) = slice_index frames height ∷ stack frames height

abbrev pub frames_of : Pool → Frames
frames_of p =
    record { states = p.states; pile = stack p.pile.frames p.pile.height; mark = p.mark; limit = p.limit }

abbrev pub fresh : ℕ → Frames
fresh limit = record { states = replicate 1024 Free; pile = []; mark = 0; limit = limit }

-- how many frames can be taken
abbrev pub available : Frames → ℕ
available v = length v.pile + (v.limit - v.mark)

-- the frame that is taken next: the top of the pile, else the lowest never used
abbrev pub next_of : List ℕ → ℕ → ℕ → Option ℕ
next_of [] mark limit = cond (nat_lt mark limit) (Some mark) None
next_of (frame ∷ pile) mark limit = Some frame

abbrev pub next : Frames → Option ℕ
next v = next_of v.pile v.mark v.limit

-- what is left when it is taken, to be in a state
abbrev pub taken_of : List FrameState → List ℕ → ℕ → ℕ → FrameState → Frames
taken_of states [] mark limit to =
    cond (nat_lt mark limit) (record { states = slice_set states mark to; pile = []; mark = mark + 1; limit = limit })
    (record { states = states; pile = []; mark = mark; limit = limit })
taken_of states (frame ∷ pile) mark limit to = record { states = slice_set states frame to; pile = pile; mark = mark; limit = limit }

abbrev pub taken : Frames → FrameState → Frames
taken v to = taken_of v.states v.pile v.mark v.limit to

-- whether a number is that of a busy frame
abbrev pub is_busy : Frames → ℕ → Bool
is_busy v frame = one (slice_index_or v.states frame Free) == 1

-- a frame put on the pile, free
abbrev pub released : Frames → ℕ → Frames
released v frame = record { states = slice_set v.states frame Free; pile = frame ∷ v.pile; mark = v.mark; limit = v.limit }

-- a frame in another state
abbrev pub changed : Frames → ℕ → FrameState → Frames
changed v frame to = record { states = slice_set v.states frame to; pile = v.pile; mark = v.mark; limit = v.limit }

-- whether a number is that of a frame of the pool in this state
abbrev pub is_in : Frames → ℕ → FrameState → Bool
is_in v frame state = nat_lt frame v.limit && same (slice_index_or v.states frame Free) state

-- a frame that is in one state put into another, or released; any other is left as it is
abbrev pub turned : Frames → ℕ → FrameState → FrameState → Frames
turned v frame from to = cond (is_in v frame from) (changed v frame to) v

abbrev pub freed : Frames → ℕ → FrameState → Frames
freed v frame from = cond (is_in v frame from) (released v frame) v

-- how many of the pool's frames are in a state
abbrev pub count_in : Frames → FrameState → ℕ
count_in v state = count_by (λ s. same s state) (take v.limit v.states)
