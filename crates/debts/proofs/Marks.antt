-- The harts that are marked on a debt, as bits.
use Rattle.std.proofs.Common.{◌≡◌, ℕ, zero, suc, ◌+◌, ◌/◌, ◌%◌, ◌^◌, ◌==◌, ◌<◌, ◌≤◌, Bool, true, false, cond, not, Some, Option, refl, ap, arith}
use Rattle.std.proofs.Math.Nat.{pow-le-pow_right, div-eq_of_lt}
use Rattle.std.specs.List.{find, range_with_len}
use Rattle.sv39.specs.Layout.{bit}
use Rattle.debts.specs.Debts.{unmarked_from}

-- a search through the harts finds the lowest that is not marked
pub find_is_unmarked : (marks h n : ℕ) → find (λ k. not (bit marks k)) (range_with_len h n) ≡ unmarked_from marks h n
find_is_unmarked marks h zero = refl
find_is_unmarked marks h (suc n) = at (bit marks h) (find_is_unmarked marks (h + 1) n)
  where
    at : (b : Bool) {x y : Option ℕ} → x ≡ y → cond (not b) (Some h) x ≡ cond b y (Some h)
    at true e = e
    at false e = refl

-- a set of eight bits has no bit past them
pub no_bit_past : (marks h : ℕ) → marks < 2 ^ 8 → 8 ≤ h → bit marks h ≡ false
no_bit_past marks h low past =
    let more : 2 ^ 8 ≤ 2 ^ h = pow-le-pow_right {n = 2} (omega arith) past in
    let none : marks / 2 ^ h ≡ 0 = div-eq_of_lt (omega arith) in
    ap (λ (q : ℕ). q % 2 == 1) none
