-- What a read or a write of an interleaved memory is on the side that it falls to.
use Rattle.std.proofs.Common.{◌≡◌, ℕ, ◌+◌, ◌*◌, ◌/◌, ◌%◌, ◌^◌, ◌<◌, ◌≤◌, not, List, length, get_or, set, Ok, sym, ap, ◌∙◌, arith}
use Rattle.std.proofs.lemmas.Bool.{lt-ltb, le-ltb, eq-eqb, ne_eqb, cond-true, cond-false, and_from, and_left, and_right}
use Rattle.memory.specs.Cells.{read_of, write_of}
use Rattle.memory.specs.Interleave.{woven, first_after, second_after}
use Rattle.memory.proofs.ByTurns.{below, woven_even, woven_odd, set_woven_even, set_woven_odd}
use Rattle.memory.proofs.Refusals.{read_inside, write_inside}

module _ (xs ys : List ℕ) (n : ℕ) (inside : n < length (woven xs ys)) where
  module _ (e : n % 2 ≡ 0) where
    twice : 2 * (n / 2) ≡ n
    twice = omega arith

    half : (n / 2 < 2 ^ 62) × (n / 2 < length xs) × (n / 2 < length ys)
    half = let t = twice in below xs ys (n / 2) (omega arith)

    pub read_even : read_of (woven xs ys) n ≡ read_of xs (n / 2)
    read_even =
        let t = twice in
        let w : get_or (woven xs ys) (2 * (n / 2)) 0 ≡ get_or xs (n / 2) 0 = woven_even xs ys (n / 2) (omega arith) in
        read_inside (woven xs ys) n inside ∙ ap Ok (rw t at w) ∙ sym (read_inside xs (n / 2) half.1)

    pub write_even : write_of (woven xs ys) n ≡ write_of xs (n / 2)
    write_even = write_inside (woven xs ys) n inside ∙ sym (write_inside xs (n / 2) half.1)

    pub list_even : (v : ℕ) → woven (set xs (n / 2) v) ys ≡ set (woven xs ys) n v
    list_even v = let t = twice in rw t at (set_woven_even xs ys (n / 2) v)

    pub first_even : (v : ℕ) → set xs (n / 2) v ≡ first_after xs ys n v
    first_even v = sym (cond-true _ _ _ (and_from _ _ (lt-ltb n (length (woven xs ys)) inside) (eq-eqb (n % 2) 0 e)))

    pub second_even : (v : ℕ) → ys ≡ second_after xs ys n v
    second_even v = sym (cond-false _ _ _ (and_right _ _ (ap not (eq-eqb (n % 2) 0 e))))

  module _ (e : n % 2 ≡ 0 → ⊥) where
    odd : 2 * (n / 2) + 1 ≡ n
    odd = omega arith

    half_odd : (n / 2 < 2 ^ 62) × (n / 2 < length xs) × (n / 2 < length ys)
    half_odd = let t = odd in below xs ys (n / 2) (omega arith)

    pub read_odd : read_of (woven xs ys) n ≡ read_of ys (n / 2)
    read_odd =
        let t = odd in
        let w : get_or (woven xs ys) (2 * (n / 2) + 1) 0 ≡ get_or ys (n / 2) 0 = woven_odd xs ys (n / 2) (omega arith) in
        read_inside (woven xs ys) n inside ∙ ap Ok (rw t at w) ∙ sym (read_inside ys (n / 2) half_odd.2)

    pub write_odd : write_of (woven xs ys) n ≡ write_of ys (n / 2)
    write_odd = write_inside (woven xs ys) n inside ∙ sym (write_inside ys (n / 2) half_odd.2)

    pub list_odd : (v : ℕ) → woven xs (set ys (n / 2) v) ≡ set (woven xs ys) n v
    list_odd v = let t = odd in rw t at (set_woven_odd xs ys (n / 2) v)

    pub first_odd : (v : ℕ) → xs ≡ first_after xs ys n v
    first_odd v = sym (cond-false _ _ _ (and_right _ _ (ne_eqb (n % 2) 0 e)))

    pub second_odd : (v : ℕ) → set ys (n / 2) v ≡ second_after xs ys n v
    second_odd v =
        sym (cond-true _ _ _ (and_from _ _ (lt-ltb n (length (woven xs ys)) inside) (ap not (ne_eqb (n % 2) 0 e))))

module _ (xs ys : List ℕ) (n v : ℕ) (past : length (woven xs ys) ≤ n) where
  pub first_past : xs ≡ first_after xs ys n v
  first_past = sym (cond-false _ _ _ (and_left _ _ (le-ltb n (length (woven xs ys)) past)))

  pub second_past : ys ≡ second_after xs ys n v
  second_past = sym (cond-false _ _ _ (and_left _ _ (le-ltb n (length (woven xs ys)) past)))
