-- What every policy answers, and which way of which hart was touched last.
use Rattle.std.specs.Prelude.{ℕ, Bool, cond, ◌&&◌, Some, Ok, Err, Option, Result, ◌==◌, nat_lt}
use Rattle.policy.specs.declared.meaning.PolicyRefusal.{PolicyRefusal}
use Rattle.policy.specs.declared.meaning.PolicyRefusal.TheVariants.{NoHart, NoWay}

abbrev pub refusal_number : PolicyRefusal → ℕ
refusal_number NoHart = 10
refusal_number NoWay = 7

-- a touch refuses a hart above 7, then a way above 15
abbrev pub touch_of : ℕ → ℕ → Result (Unit {0}) PolicyRefusal
touch_of hart way = cond (nat_lt hart 8) (cond (nat_lt way 16) (Ok tt) (Err NoWay)) (Err NoHart)

-- a pick answers the choice, and refuses a hart above 7
abbrev pub pick_of : ℕ → ℕ → Result ℕ PolicyRefusal
pick_of choice hart = cond (nat_lt hart 8) (Ok choice) (Err NoHart)

-- an accepted touch sets the last touched way of its hart alone
abbrev pub accepted : ℕ → ℕ → Bool
accepted hart way = nat_lt hart 8 && nat_lt way 16

abbrev pub last_after : (ℕ → Option ℕ) → ℕ → ℕ → ℕ → Option ℕ
last_after last hart way h = cond (accepted hart way && h == hart) (Some way) (last h)
