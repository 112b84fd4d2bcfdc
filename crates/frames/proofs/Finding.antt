-- What it tells that a frame was found in a state.
use Rattle.std.proofs.Common.{◌≡◌, ℕ, Bool, true, false, cond, ltb, get_or, Some, None, min, refl, sym, ap, subst, ◌∙◌, arith}
use Rattle.std.proofs.lemmas.Bool.{and_parts, eqb-true}
use Rattle.frames.specs.declared.state.FrameState.{FrameState}
use Rattle.frames.specs.declared.state.FrameState.TheVariants.{Free, Table, Held, Mapped, Owed}
use Rattle.frames.specs.Busy.{one, same, tag}
use Rattle.frames.specs.Frames.{Frames, is_in}

pub found_some : (b : Bool) (frame f : ℕ) → cond b (Some frame) None ≡ Some f → (b ≡ true) × (f ≡ frame)
found_some true frame f e = (refl, cc)
found_some false frame f e = let z : ◌≡◌ {A = ℕ} 0 1 = cc in absurd (omega arith)

-- only a free frame's use has the number 0
one_of_tag : (s : FrameState) → one s ≡ min (tag s) 1
one_of_tag Free = refl
one_of_tag Table = refl
one_of_tag Held = refl
one_of_tag Mapped = refl
one_of_tag Owed = refl

-- two uses with one number are busy or free alike
tag_one : (a b : FrameState) → tag a ≡ tag b → one a ≡ one b
tag_one a b e = one_of_tag a ∙ ap (λ (n : ℕ). min n 1) e ∙ sym (one_of_tag b)

-- a frame found in a busy state is busy
pub busy_from_is_in : (v : Frames) (frame : ℕ) (from : FrameState) → one from ≡ 1 → is_in v frame from ≡ true → one (get_or v.states frame Free) ≡ 1
busy_from_is_in v frame from h e =
    let p = and_parts (ltb frame v.limit) (same (get_or v.states frame Free) from) e in
    tag_one (get_or v.states frame Free) from (eqb-true (tag (get_or v.states frame Free)) (tag from) p.1) ∙ h

-- the frame that `find` answers is the one asked for, and busy where the state is
pub found_busy : (v : Frames) (frame f : ℕ) (from : FrameState) → one from ≡ 1 → cond (is_in v frame from) (Some frame) None ≡ Some f → one (get_or v.states f Free) ≡ 1
found_busy v frame f from h e =
    let p = found_some (is_in v frame from) frame f e in
    subst (λ (n : ℕ). one (get_or v.states n Free) ≡ 1) (sym p.1) (busy_from_is_in v frame from h p.0)
