-- The marks of a debt, a bit for each hart.
use Rattle.std.proofs.Common.{◌≡◌, ℕ, zero, suc, ◌+◌, ◌-◌, ◌/◌, ◌%◌, ◌^◌, ◌<◌, ◌≤◌, true, false, eqb, Some, None, sym, ap, ◌∙◌, ⊎_elim, arith, pow-add}
use native.Mathlib.Nat.{zero-div, div-eq_of_lt, mul-mod_left}
use lib.Bits.{bit_or, or_shr, or_mod, or_zero_r}
use lib.Pow.{pow-lt, shl-shr}
use Rattle.std.proofs.lemmas.Bool.{cases_Bool, cases_lt, cond-true, cond-false}
use Rattle.std.proofs.lemmas.Option.{none-some}
use Rattle.sv39.specs.Layout.{bit}
use Rattle.debts.specs.Debts.{unmarked_from, lowest_unmarked}

pub zero_unmarked : (h : ℕ) → bit 0 h ≡ false
zero_unmarked h = ap (λ (n : ℕ). eqb (n % 2) 1) (zero-div (2 ^ h))

power_bit : (h k : ℕ) → (h ≡ k → ⊥) → 2 ^ h / 2 ^ k % 2 ≡ 0
power_bit h k ne =
    ⊎_elim (λ (l : h < k). ap (λ (n : ℕ). n % 2) (div-eq_of_lt (pow-lt l)))
    (λ (l : k ≤ h).
    let j : ℕ = h - k - 1 in
    let e : h ≡ j + 1 + k = omega (arith, ne) in
    ap (λ (n : ℕ). 2 ^ n / 2 ^ k % 2) e
    ∙ ap (λ (n : ℕ). n / 2 ^ k % 2) (pow-add 2 (j + 1) k)
    ∙ ap (λ (n : ℕ). n % 2) (shl-shr (2 ^ (j + 1)) k)
    ∙ ap (λ (n : ℕ). n % 2) (pow-add 2 j 1) ∙ mul-mod_left (2 ^ j) 2) (cases_lt h k)

-- a mark of one hart leaves those of the others
pub mark_other : (marks h k : ℕ) → (h ≡ k → ⊥) → bit (bit_or marks (2 ^ h)) k ≡ bit marks k
mark_other marks h k ne =
    ap (λ (n : ℕ). eqb n 1)
    (ap (λ (n : ℕ). n % 2) (or_shr marks (2 ^ h) k) ∙ or_mod (marks / 2 ^ k) (2 ^ h / 2 ^ k) 1 ∙ ap (bit_or (marks / 2 ^ k % 2)) (power_bit h k ne) ∙ or_zero_r (marks / 2 ^ k % 2))

-- where no hart is unmarked each is marked
all_from : (marks i n k : ℕ) → unmarked_from marks i n ≡ None → i ≤ k → k < i + n → bit marks k ≡ true
all_from marks i zero k e l u = absurd (omega arith)
all_from marks i (suc n) k e l u =
    let more : unmarked_from marks (i + 1) n ≡ None → i + 1 ≤ k → k < i + 1 + n → bit marks k ≡ true = all_from marks (i + 1) n k in
    ⊎_elim
    (λ (t : bit marks i ≡ true).
    let r = sym (cond-true (bit marks i) (unmarked_from marks (i + 1) n) (Some i) t) ∙ e in
    ⊎_elim (λ (l' : k < i + 1). let q : i ≡ k = omega arith in ap (bit marks) (sym q) ∙ t)
    (λ (l' : i + 1 ≤ k). more r l' (omega arith)) (cases_lt k (i + 1)))
    (λ (t : bit marks i ≡ false).
    absurd (none-some i (sym (sym (cond-false (bit marks i) (unmarked_from marks (i + 1) n) (Some i) t) ∙ e)))) (cases_Bool (bit marks i))

pub all_marked : (marks count k : ℕ) → lowest_unmarked marks count ≡ None → k < count → bit marks k ≡ true
all_marked marks count k e l = all_from marks 0 count k e (omega arith) (omega arith)
