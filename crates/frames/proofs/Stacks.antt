-- The pile as a list, its top first.
use Rattle.std.proofs.Common.{◌≡◌, ℕ, zero, suc, ◌+◌, ◌-◌, ◌<◌, ◌≤◌, List, [], ◌∷◌, length, get_or, set, refl, ap, ◌∙◌, arith}
use Rattle.std.proofs.lemmas.List.{get_or-set_same, get_or-set_other}
use Rattle.frames.specs.Frames.{stack}

pub length_stack : (frames : List ℕ) (height : ℕ) → length (stack frames height) ≡ height
unfolding stack
length_stack frames zero = refl
length_stack frames (suc height) = ap suc (length_stack frames height)

stack_below : (frames : List ℕ) (height at frame : ℕ) → height ≤ at → stack (set frames at frame) height ≡ stack frames height
unfolding stack
stack_below frames zero at frame h = refl
stack_below frames (suc height) at frame h =
    let t = get_or-set_other frames at height frame 0 (λ e. omega arith) in
    let r = stack_below frames height at frame (omega arith) in
    cc

-- a frame put on is the top, and the pile below is as it was
pub stack_push : (frames : List ℕ) (height frame : ℕ) → height < length frames → stack (set frames height frame) (height + 1) ≡ frame ∷ stack frames height
unfolding stack
stack_push frames height frame h =
    let one : height + 1 ≡ suc height = omega arith in
    let t = get_or-set_same frames height frame 0 h in
    let r = stack_below frames height height frame (omega arith) in
    ap (stack (set frames height frame)) one ∙ ap (λ (x : ℕ). x ∷ stack (set frames height frame) height) t ∙ ap (λ (xs : List ℕ). frame ∷ xs) r

-- a pile that is not empty has its top
pub stack_pop : (frames : List ℕ) (height : ℕ) → 0 < height → stack frames height ≡ get_or frames (height - 1) 0 ∷ stack frames (height - 1)
unfolding stack
stack_pop frames zero h = absurd (omega arith)
stack_pop frames (suc height) h =
    let e : height ≡ suc height - 1 = omega arith in
    ap (λ (n : ℕ). get_or frames n 0 ∷ stack frames n) e

pub stack_none : (frames : List ℕ) (height : ℕ) → height ≡ 0 → stack frames height ≡ []
unfolding stack
stack_none frames height e = ap (stack frames) e
