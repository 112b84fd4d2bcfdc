-- Two memories taken by turns.
use Rattle.std.specs.Prelude.{ℕ, ◌/◌, ◌%◌, ◌^◌, Bool, cond, not, ◌&&◌, List, [], ◌∷◌, length, take, ◌==◌, nat_lt, slice_set}

-- x₀ y₀ x₁ y₁ .., as far as both lists go
abbrev pub by_turns : List ℕ → List ℕ → List ℕ
by_turns [] ys = []
by_turns (x ∷ xs) [] = []
by_turns (x ∷ xs) (y ∷ ys) = x ∷ y ∷ by_turns xs ys

-- of a side at most 2^62 doublewords count
abbrev pub counted : List ℕ → List ℕ
counted side = take (2 ^ 62) side

-- the list of an interleaved memory: even doublewords are the first side's, odd ones the second's
abbrev pub woven : List ℕ → List ℕ → List ℕ
woven first second = by_turns (counted first) (counted second)

abbrev pub even : ℕ → Bool
even n = n % 2 == 0

-- what each side holds after a write of n: the side of n has the value at n ÷ 2, the other is as it was;
-- where the write is refused both are
abbrev pub first_after : List ℕ → List ℕ → ℕ → ℕ → List ℕ
first_after first second n value =
    cond (nat_lt n (length (woven first second)) && even n) (slice_set first (n / 2) value) first

abbrev pub second_after : List ℕ → List ℕ → ℕ → ℕ → List ℕ
second_after first second n value =
    cond (nat_lt n (length (woven first second)) && not (even n)) (slice_set second (n / 2) value) second
