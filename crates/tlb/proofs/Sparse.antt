-- Going through slots one by one.
use Rattle.std.proofs.Common.{◌≡◌, ℕ, ◌+◌, ◌<◌, not, List, [], ◌∷◌, ◌++◌, map, take, drop, length, is_some, IfSome, Some, None, Option, sym, refl, ap, ◌∙◌, arith}
use Rattle.std.specs.List.{position, position_from}
use Rattle.std.proofs.lemmas.List.{length-take-le, length-drop, length-append, length-map}
use Rattle.std.proofs.lemmas.Iterator.Adapters.{position_from-zero}
use Rattle.tlb.specs.Slots.{empty_slot}

empty_slot_is_position_from : {A : Type 0} (i : ℕ) (slots : List (Option A)) → position_from (λ o. not (is_some o)) i slots ≡ empty_slot i slots
empty_slot_is_position_from i [] = refl
empty_slot_is_position_from i (None ∷ slots) = refl
empty_slot_is_position_from i (Some held ∷ slots) = empty_slot_is_position_from (i + 1) slots

pub empty_slot_is_position : {A : Type 0} (slots : List (Option A)) → position (λ o. not (is_some o)) slots ≡ empty_slot 0 slots
empty_slot_is_position slots = position_from-zero (λ o. not (is_some o)) slots ∙ empty_slot_is_position_from 0 slots

-- a slot that is found is one of those looked through
pub empty_below : {A : Type 0} (slots : List (Option A)) (i n : ℕ) → empty_slot i slots ≡ Some n → n < i + length slots
empty_below [] i n e = let z : ◌≡◌ {A = ℕ} 0 1 = cc in absurd (omega arith)
empty_below (None ∷ slots) i n e = let same : i ≡ n = cc in omega arith
empty_below (Some held ∷ slots) i n e = let h : n < i + 1 + length slots = empty_below slots (i + 1) n e in omega arith

pub empty_each : {A : Type 0} (slots : List (Option A)) (n : ℕ) → length slots ≡ n → (o : Option ℕ) → o ≡ empty_slot 0 slots → IfSome o (λ k. k < n)
empty_each slots n l None e = tt
empty_each slots n l (Some k) e = let h = empty_below slots 0 k (sym e) in omega arith

-- a list of which so many elements were rewritten is as long as it was
pub inside_still : {A : Type 0} (f : A → A) (xs ys : List A) (i : ℕ) → i < length xs → ys ≡ map f (take i xs) ++ drop i xs → i < length ys
inside_still f xs ys i inside so_far =
    let l = length-take-le i xs (omega arith) in
    let d = length-drop i xs in
    omega (arith, simp (length-append, length-map) at (ap length so_far))
