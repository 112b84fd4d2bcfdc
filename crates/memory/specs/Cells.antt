-- What a memory answers, over its list of doublewords.
use Rattle.std.specs.Prelude.{ℕ, cond, List, length, Ok, Err, Result, nat_lt, slice_index, slice_set}
use Rattle.memory.specs.declared.beyond.Beyond.{Beyond}

-- the refusal at a place: number 1, and it tells the place
abbrev pub beyond : ℕ → Beyond
beyond n = record { place = n }

abbrev pub size_of : List ℕ → ℕ
size_of cells = length cells

-- a read of n answers doubleword n, and refuses exactly if n is not below the length
abbrev pub read_of : List ℕ → ℕ → Result ℕ Beyond
read_of cells n = cond (nat_lt n (length cells)) (Ok (slice_index cells n)) (Err (beyond n))

-- a write refuses exactly where a read does
abbrev pub write_of : List ℕ → ℕ → Result (Unit {0}) Beyond
write_of cells n = cond (nat_lt n (length cells)) (Ok tt) (Err (beyond n))

-- what a write leaves: the value at n and every other doubleword as it was; past the end, the list itself
abbrev pub after : List ℕ → ℕ → ℕ → List ℕ
after cells n value = slice_set cells n value
