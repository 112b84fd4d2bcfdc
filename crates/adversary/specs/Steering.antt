-- What a script's number stands for is a way, and never the one touched last.
use Rattle.std.specs.Prelude.{◌≡◌, ℕ, ◌+◌, ◌%◌, ◌<◌, Bool, true, false, cond, Some, None, Option, ◌==◌, ◌≢◌, refl}
use native.Mathlib.Omega.{arith}
use Rattle.std.proofs.lemmas.Bool.{both_ways, eqb-true, eq-eqb}
use Rattle.std.proofs.lemmas.Option.{none-some, same_Some}
use Rattle.policy.specs.Dial.{is_last}
use Rattle.adversary.specs.Steered.{steered}

pub steered_within : (number : ℕ) (last : Option ℕ) → steered number last < 16
steered_within number last = by (is_last last (number % 16))
  where
    by : (b : Bool) → cond b ((number % 16 + 1) % 16) (number % 16) < 16
    by true = omega arith
    by false = omega arith

pub steered_apart : (number : ℕ) (last : Option ℕ) → last ≢ Some (steered number last)
steered_apart number None e = none-some _ e
steered_apart number (Some w) e = by (w == number % 16) refl (same_Some _ _ e)
  where
    by : (b : Bool) → (w == number % 16) ≡ b → w ≡ cond b ((number % 16 + 1) % 16) (number % 16) → ⊥
    by true h p = let l = eqb-true w (number % 16) h in omega arith
    by false h p = both_ways (w == number % 16) h (eq-eqb w (number % 16) p)
