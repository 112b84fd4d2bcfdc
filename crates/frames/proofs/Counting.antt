-- Counting busy frames.
use Rattle.std.proofs.Common.{◌≡◌, ℕ, zero, suc, ◌+◌, ◌<◌, List, [], ◌∷◌, length, get_or, set, replicate, refl, arith}
use Rattle.frames.specs.declared.state.FrameState.{FrameState}
use Rattle.frames.specs.declared.state.FrameState.TheVariants.{Free}
use Rattle.frames.specs.declared.state.Use.{Use}
use Rattle.frames.specs.declared.state.Use.TheVariants as use_of
use Rattle.frames.specs.Busy.{one, busy, state_of_use}

-- one frame's state changed changes the count by that frame alone
pub busy_set : (states : List FrameState) (f : ℕ) (s : FrameState) → f < length states → busy (set states f s) + one (get_or states f Free) ≡ busy states + one s
busy_set [] f s h = absurd (omega arith)
busy_set (x ∷ xs) zero s h = omega arith
busy_set (x ∷ xs) (suc f) s h = let r = busy_set xs f s (omega arith) in omega arith

-- a frame past the end is free, so a busy frame is inside
pub busy_inside : (states : List FrameState) (f : ℕ) → one (get_or states f Free) ≡ 1 → f < length states
busy_inside [] f e = absurd (omega arith)
busy_inside (x ∷ xs) zero e = omega arith
busy_inside (x ∷ xs) (suc f) e = let r = busy_inside xs f e in omega arith

-- where every frame is free none is busy
pub all_free : (n f : ℕ) → get_or (replicate n Free) f Free ≡ Free
all_free zero f = refl
all_free (suc n) zero = refl
all_free (suc n) (suc f) = all_free n f

-- a frame in use is busy
pub busy_use : (used : Use) → one (state_of_use used) ≡ 1
busy_use use_of.Table = refl
busy_use use_of.Held = refl
busy_use use_of.Mapped = refl
busy_use use_of.Owed = refl
