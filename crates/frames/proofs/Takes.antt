-- What is taken, and what is left, in the pool as a value.
use Rattle.std.proofs.Common.{◌≡◌, ℕ, zero, suc, ◌+◌, ◌-◌, ◌<◌, ◌≤◌, true, false, cond, ltb, List, get_or, set, Some, None, sym, ap, ◌∙◌, subst, ⊎_elim, arith}
use Rattle.std.proofs.lemmas.Bool.{cases_Bool, ltb-true, lt-ltb, le-ltb, cond-true, cond-false}
use Rattle.frames.specs.declared.state.FrameState.{FrameState}
use Rattle.frames.specs.Busy.{one}
use Rattle.frames.specs.Frames.{Frames, stack, next_of, taken_of}
use Rattle.frames.proofs.Soundness.{Sound, popped_sound}
use Rattle.frames.proofs.Finding.{found_some}
use Rattle.frames.proofs.Stacks.{stack_pop, stack_none}

abbrev pub pool : List FrameState → ℕ → ℕ → List ℕ → Frames
pool states mark limit pile = record { states = states; pile = pile; mark = mark; limit = limit }

-- what the answer of `pop` tells
popped : (height x f : ℕ) → cond (ltb 0 height) (Some x) None ≡ Some f → (0 < height) × (x ≡ f)
popped height x f e =
    ⊎_elim (λ (t : ltb 0 height ≡ true). let r = sym (cond-true (ltb 0 height) (Some x) None t) ∙ e in (ltb-true 0 height t, cc))
    (λ (t : ltb 0 height ≡ false).
    let r = sym (cond-false (ltb 0 height) (Some x) None t) ∙ e in
    let z : ◌≡◌ {A = ℕ} 0 1 = cc in absurd (omega arith)) (cases_Bool (ltb 0 height))

module _ (states : List FrameState) (frames : List ℕ) (height mark limit : ℕ) (to : FrameState) where
  -- the top of the pile, as `pop` answers it: f, with the pile frames' of height' left
  module _ (f height' : ℕ) (frames' : List ℕ) (top : cond (ltb 0 height) (Some (get_or frames (height - 1) 0)) None ≡ Some f) (h : height' ≡ height - 1) (same : frames' ≡ frames) where
    pub top_next : Some f ≡ next_of (stack frames height) mark limit
    top_next =
        let p = popped height (get_or frames (height - 1) 0) f top in
        ap Some (sym p.1) ∙ ap (λ (xs : List ℕ). next_of xs mark limit) (sym (stack_pop frames height p.0))

    pub top_taken : pool (set states f to) mark limit (stack frames' height') ≡ taken_of states (stack frames height) mark limit to
    top_taken =
        let p = popped height (get_or frames (height - 1) 0) f top in
        ap (λ (n : ℕ). pool (set states n to) mark limit (stack frames' height')) (sym p.1)
        ∙ ap (λ (xs : List ℕ). pool (set states (get_or frames (height - 1) 0) to) mark limit (stack xs height')) same
        ∙ ap (λ (n : ℕ). pool (set states (get_or frames (height - 1) 0) to) mark limit (stack frames n)) h
        ∙ ap (λ (xs : List ℕ). taken_of states xs mark limit to) (sym (stack_pop frames height p.0))

    pub top_sound : Sound states frames height mark limit → one to ≡ 1 → Sound (set states f to) frames' height' mark limit
    top_sound s t =
        let p = popped height (get_or frames (height - 1) 0) f top in
        let r = popped_sound states frames height mark limit s to p.0 t in
        subst (λ (xs : List ℕ). Sound (set states f to) xs height' mark limit) (sym same)
        (subst (λ (n : ℕ). Sound (set states f to) frames n mark limit) (sym h)
        (subst (λ (n : ℕ). Sound (set states n to) frames (height - 1) mark limit) p.1 r))

  -- the pile is empty
  module _ (none : height ≡ 0) where
    pub unused_next : mark < limit → Some mark ≡ next_of (stack frames height) mark limit
    unused_next l =
        sym (ap (λ (xs : List ℕ). next_of xs mark limit) (stack_none frames height none) ∙ cond-true (ltb mark limit) _ _ (lt-ltb mark limit l))

    pub unused_taken : mark < limit → pool (set states mark to) (mark + 1) limit (stack frames height) ≡ taken_of states (stack frames height) mark limit to
    unused_taken l =
        ap (pool (set states mark to) (mark + 1) limit) (stack_none frames height none)
        ∙ sym (ap (λ (xs : List ℕ). taken_of states xs mark limit to) (stack_none frames height none) ∙ cond-true (ltb mark limit) _ _ (lt-ltb mark limit l))

    pub none_next : limit ≤ mark → None ≡ next_of (stack frames height) mark limit
    none_next l =
        sym (ap (λ (xs : List ℕ). next_of xs mark limit) (stack_none frames height none) ∙ cond-false (ltb mark limit) _ _ (le-ltb mark limit l))

    pub none_taken : limit ≤ mark → pool states mark limit (stack frames height) ≡ taken_of states (stack frames height) mark limit to
    none_taken l =
        ap (pool states mark limit) (stack_none frames height none)
        ∙ sym (ap (λ (xs : List ℕ). taken_of states xs mark limit to) (stack_none frames height none) ∙ cond-false (ltb mark limit) _ _ (le-ltb mark limit l))

-- the frame that is taken next is one of the pool's
pub next_below : (states : List FrameState) (frames : List ℕ) (height mark limit f : ℕ) → Sound states frames height mark limit → next_of (stack frames height) mark limit ≡ Some f → f < 1024
unfolding stack
next_below states frames zero mark limit f s e =
    let p = found_some (ltb mark limit) mark f e in
    let l = ltb-true mark limit p.0 in
    let b = s.bounds in
    omega arith
next_below states frames (suc height) mark limit f s e =
    let top = (s.piled height (omega arith)).0 in
    let b = s.bounds in
    let q : get_or frames height 0 ≡ f = cc in
    omega arith
