-- Slots of a list, each of which holds something or nothing.
use Rattle.std.proofs.Common.{◌≡◌, ℕ, zero, suc, ◌+◌, ◌<◌, ◌≤◌, true, false, eqb, ◌⊎◌, List, [], ◌∷◌, map, length, get_or, set, Some, None, Option, sym, refl, ap, ◌∙◌, inl, inr, ⊎_elim, arith}
use Rattle.std.proofs.lemmas.List.{length-set, get_or-set_same, get_or-set_other, get_or_past}
use Rattle.std.proofs.lemmas.Bool.{cases_Bool, cases_eq, cases_lt, cond-true, cond-false}
use Rattle.debts.specs.declared.debt.Debt.{Debt}
use Rattle.debts.specs.Debts.{open_debt}
use Rattle.std.proofs.lemmas.Option.{none-some, same_Some}
use Rattle.tlb.specs.Slots.{empty_slot}

-- what a slot holds after one is set
pub set_holds : {A : Type 0} (xs : List (Option A)) (n : ℕ) (x : Option A) (m : ℕ) (y : A) → get_or (set xs n x) m None ≡ Some y → ((m ≡ n) × (x ≡ Some y)) ⊎ ((m ≡ n → ⊥) × (get_or xs m None ≡ Some y))
set_holds xs n x m y e =
    ⊎_elim
    (λ (q : m ≡ n).
    ⊎_elim
    (λ (l : n < length xs). inl (q, sym (get_or-set_same xs n x None l) ∙ ap (λ (k : ℕ). get_or (set xs n x) k None) (sym q) ∙ e))
    (λ (l : length xs ≤ n).
    absurd (none-some y (sym (get_or_past (set xs n x) m None (omega (arith, length-set xs n x))) ∙ e))) (cases_lt n (length xs)))
    (λ (ne : m ≡ n → ⊥). inr (ne, sym (get_or-set_other xs n m x None ne) ∙ e)) (cases_eq m n)

-- an empty slot that was found is empty
pub empty_there : {A : Type 0} (i : ℕ) (xs : List (Option A)) (n : ℕ) → empty_slot i xs ≡ Some n → (k : ℕ) × ((n ≡ i + k) × ((get_or xs k None ≡ None) × (k < length xs)))
empty_there i [] n e = absurd (none-some n e)
empty_there i (None ∷ xs) n e = (0, (let q : i ≡ n = cc in omega arith, (refl, omega arith)))
empty_there i (Some x ∷ xs) n e =
    let r = empty_there (i + 1) xs n e in
    (suc r.0, (omega (arith, r.1.0), (r.1.1.0, omega (arith, r.1.1.1))))

pub empty_at : {A : Type 0} (xs : List (Option A)) (n : ℕ) → empty_slot 0 xs ≡ Some n → (get_or xs n None ≡ None) × (n < length xs)
empty_at xs n e =
    let r = empty_there 0 xs n e in
    let q : n ≡ r.0 = omega (arith, r.1.0) in
    (ap (λ (k : ℕ). get_or xs k None) q ∙ r.1.1.0, omega (arith, r.1.1.1))

-- a debt that was found is in its slot
pub open_slot : (number i : ℕ) (xs : List (Option Debt)) (n : ℕ) (d : Debt) → open_debt number i xs ≡ Some (n, d) → (k : ℕ) × ((n ≡ i + k) × (get_or xs k None ≡ Some d))
open_slot number i [] n d e = absurd (none-some (n, d) e)
open_slot number i (None ∷ xs) n d e =
    let r = open_slot number (i + 1) xs n d e in
    (suc r.0, (omega (arith, r.1.0), r.1.1))
open_slot number i (Some x ∷ xs) n d e =
    let more : open_debt number (i + 1) xs ≡ Some (n, d) → (k : ℕ) × ((n ≡ i + 1 + k) × (get_or xs k None ≡ Some d)) = open_slot number (i + 1) xs n d in
    ⊎_elim
    (λ (t : eqb x.number number ≡ true).
    let r = sym (cond-true (eqb x.number number) (Some (i, x)) (open_debt number (i + 1) xs) t) ∙ e in
    let pair : ◌≡◌ {A = ℕ × Debt} (i, x) (n, d) = same_Some (i, x) (n, d) r in
    (0, (omega (arith, ap (λ (y : ℕ × Debt). y.0) pair), ap (λ (y : ℕ × Debt). Some y.1) pair)))
    (λ (t : eqb x.number number ≡ false).
    let r = more (sym (cond-false (eqb x.number number) (Some (i, x)) (open_debt number (i + 1) xs) t) ∙ e) in
    (suc r.0, (omega (arith, r.1.0), r.1.1))) (cases_Bool (eqb x.number number))

pub open_at : (number : ℕ) (xs : List (Option Debt)) (n : ℕ) (d : Debt) → open_debt number 0 xs ≡ Some (n, d) → get_or xs n None ≡ Some d
open_at number xs n d e =
    let r = open_slot number 0 xs n d e in
    let q : n ≡ r.0 = omega (arith, r.1.0) in
    ap (λ (k : ℕ). get_or xs k None) q ∙ r.1.1

-- a change of each slot that leaves empty ones empty
pub map_holds : {A : Type 0} (f : Option A → Option A) → f None ≡ None → (xs : List (Option A)) (n : ℕ) → get_or (map f xs) n None ≡ f (get_or xs n None)
map_holds f e [] n = sym e
map_holds f e (x ∷ xs) zero = refl
map_holds f e (x ∷ xs) (suc n) = map_holds f e xs n
