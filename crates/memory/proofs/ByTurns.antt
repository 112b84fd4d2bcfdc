-- Lists taken by turns: their length, their elements, and what a write to one side does to the whole.
use Rattle.std.proofs.Common.{◌≡◌, ℕ, zero, suc, ◌+◌, ◌*◌, ◌^◌, ◌<◌, min, List, [], ◌∷◌, length, get_or, take, set, refl, ap, ◌∙◌, arith, length-take}
use Rattle.std.proofs.lemmas.List.{get_or-take}
use Rattle.memory.specs.Interleave.{by_turns, counted, woven}

pub length_by_turns : (xs ys : List ℕ) → length (by_turns xs ys) ≡ 2 * min (length xs) (length ys)
length_by_turns [] ys = omega arith
length_by_turns (x ∷ xs) [] = omega arith
length_by_turns (x ∷ xs) (y ∷ ys) = let h = length_by_turns xs ys in omega arith

even_by_turns : (xs ys : List ℕ) (k : ℕ) → k < length xs → k < length ys → get_or (by_turns xs ys) (2 * k) 0 ≡ get_or xs k 0
even_by_turns [] ys k h l = omega arith
even_by_turns (x ∷ xs) [] k h l = omega arith
even_by_turns (x ∷ xs) (y ∷ ys) zero h l = refl
even_by_turns (x ∷ xs) (y ∷ ys) (suc k) h l =
    let e : 2 * suc k ≡ suc (suc (2 * k)) = omega arith in rw e (even_by_turns xs ys k (omega arith) (omega arith))

odd_by_turns : (xs ys : List ℕ) (k : ℕ) → k < length xs → k < length ys → get_or (by_turns xs ys) (2 * k + 1) 0 ≡ get_or ys k 0
odd_by_turns [] ys k h l = omega arith
odd_by_turns (x ∷ xs) [] k h l = omega arith
odd_by_turns (x ∷ xs) (y ∷ ys) zero h l = refl
odd_by_turns (x ∷ xs) (y ∷ ys) (suc k) h l =
    let e : 2 * suc k + 1 ≡ suc (suc (2 * k + 1)) = omega arith in rw e (odd_by_turns xs ys k (omega arith) (omega arith))

set_even : (xs ys : List ℕ) (k v : ℕ) → by_turns (set xs k v) ys ≡ set (by_turns xs ys) (2 * k) v
set_even [] ys k v = refl
set_even (x ∷ xs) [] zero v = refl
set_even (x ∷ xs) [] (suc k) v = refl
set_even (x ∷ xs) (y ∷ ys) zero v = refl
set_even (x ∷ xs) (y ∷ ys) (suc k) v =
    let e : 2 * suc k ≡ suc (suc (2 * k)) = omega arith in rw e (ap (λ (t : List ℕ). x ∷ y ∷ t) (set_even xs ys k v))

set_odd : (xs ys : List ℕ) (k v : ℕ) → by_turns xs (set ys k v) ≡ set (by_turns xs ys) (2 * k + 1) v
set_odd [] ys k v = refl
set_odd (x ∷ xs) [] k v = refl
set_odd (x ∷ xs) (y ∷ ys) zero v = refl
set_odd (x ∷ xs) (y ∷ ys) (suc k) v =
    let e : 2 * suc k + 1 ≡ suc (suc (2 * k + 1)) = omega arith in rw e (ap (λ (t : List ℕ). x ∷ y ∷ t) (set_odd xs ys k v))

take_of_set : (m : ℕ) (xs : List ℕ) (k v : ℕ) → take m (set xs k v) ≡ set (take m xs) k v
take_of_set zero xs k v = refl
take_of_set (suc m) [] k v = refl
take_of_set (suc m) (x ∷ xs) zero v = refl
take_of_set (suc m) (x ∷ xs) (suc k) v = ap (λ (t : List ℕ). x ∷ t) (take_of_set m xs k v)

pub length_woven : (xs ys : List ℕ) → length (woven xs ys) ≡ 2 * min (2 ^ 62) (min (length xs) (length ys))
length_woven xs ys =
    let h = length_by_turns (counted xs) (counted ys) in
    let a = length-take (2 ^ 62) xs in
    let b = length-take (2 ^ 62) ys in
    omega arith

module _ (xs ys : List ℕ) (k : ℕ) (inside : 2 * k < length (woven xs ys)) where
  pub below : (k < 2 ^ 62) × (k < length xs) × (k < length ys)
  below = let h = length_woven xs ys in (omega arith, omega arith, omega arith)

  pub woven_even : get_or (woven xs ys) (2 * k) 0 ≡ get_or xs k 0
  woven_even =
      let b = below in
      let a = length-take (2 ^ 62) xs in
      let c = length-take (2 ^ 62) ys in
      even_by_turns (counted xs) (counted ys) k (omega arith) (omega arith) ∙ get_or-take (2 ^ 62) xs k 0 b.0

  pub woven_odd : get_or (woven xs ys) (2 * k + 1) 0 ≡ get_or ys k 0
  woven_odd =
      let b = below in
      let a = length-take (2 ^ 62) xs in
      let c = length-take (2 ^ 62) ys in
      odd_by_turns (counted xs) (counted ys) k (omega arith) (omega arith) ∙ get_or-take (2 ^ 62) ys k 0 b.0

pub set_woven_even : (xs ys : List ℕ) (k v : ℕ) → woven (set xs k v) ys ≡ set (woven xs ys) (2 * k) v
set_woven_even xs ys k v =
    ap (λ (t : List ℕ). by_turns t (counted ys)) (take_of_set (2 ^ 62) xs k v) ∙ set_even (counted xs) (counted ys) k v

pub set_woven_odd : (xs ys : List ℕ) (k v : ℕ) → woven xs (set ys k v) ≡ set (woven xs ys) (2 * k + 1) v
set_woven_odd xs ys k v =
    ap (λ (t : List ℕ). by_turns (counted xs) t) (take_of_set (2 ^ 62) ys k v) ∙ set_odd (counted xs) (counted ys) k v
