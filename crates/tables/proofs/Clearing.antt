-- A frame filled with zeros, doubleword by doubleword.
use Rattle.std.proofs.Common.{◌≡◌, ℕ, suc, ◌+◌, ◌*◌, List, set, refl, ap, arith}
use Rattle.tables.specs.Tables.{cleared_to}

pub cleared_none : (cells : List ℕ) (frame : ℕ) → cells ≡ cleared_to 0 cells frame
unfolding cleared_to
cleared_none cells frame = refl

pub cleared_more : (cells : List ℕ) (frame n : ℕ) → set (cleared_to n cells frame) (512 * frame + n) 0 ≡ cleared_to (n + 1) cells frame
unfolding cleared_to
cleared_more cells frame n =
    let e : suc n ≡ n + 1 = omega arith in
    ap (λ (k : ℕ). cleared_to k cells frame) e
