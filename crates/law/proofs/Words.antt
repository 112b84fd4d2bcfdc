-- Doublewords of frames: writes and zeros in one frame and what they leave of the others.
use Rattle.std.proofs.Common.{◌≡◌, ℕ, zero, suc, ◌+◌, ◌*◌, ◌<◌, ◌≤◌, List, length, get_or, set, refl, ap, ◌∙◌, ⊎_elim, arith}
use Rattle.std.proofs.lemmas.List.{length-set, get_or-set_same, get_or-set_other, get_or_past}
use Rattle.std.proofs.lemmas.Bool.{cases_eq, cases_lt}
use Rattle.tables.specs.Tables.{cleared, cleared_to}

-- a doubleword of a frame
abbrev pub word_at : List ℕ → ℕ → ℕ → ℕ
word_at cells t i = get_or cells (512 * t + i) 0

-- one place in a frame is one doubleword
pub places_apart : (t i u j : ℕ) → i < 512 → j < 512 → ((t ≡ u) × (i ≡ j) → ⊥) → 512 * t + i ≡ 512 * u + j → ⊥
places_apart t i u j hi hj ne e =
    let p : t ≡ u = omega arith in
    let q : i ≡ j = omega arith in
    ne (p, q)

module _ (cells : List ℕ) (u j value : ℕ) (hj : j < 512) where
  pub word_same : 512 * u + j < length cells → word_at (set cells (512 * u + j) value) u j ≡ value
  word_same l = get_or-set_same cells (512 * u + j) value 0 l

  pub word_other : (t i : ℕ) → i < 512 → ((t ≡ u) × (i ≡ j) → ⊥) → word_at (set cells (512 * u + j) value) t i ≡ word_at cells t i
  word_other t i hi ne = get_or-set_other cells (512 * u + j) (512 * t + i) value 0 (places_apart t i u j hi hj ne)

pub length_cleared_to : (n : ℕ) (cells : List ℕ) (f : ℕ) → length (cleared_to n cells f) ≡ length cells
unfolding cleared_to
length_cleared_to zero cells f = refl
length_cleared_to (suc n) cells f = length-set (cleared_to n cells f) (512 * f + n) 0 ∙ length_cleared_to n cells f

pub length_cleared : (cells : List ℕ) (f : ℕ) → length (cleared cells f) ≡ length cells
length_cleared cells f = length_cleared_to 512 cells f

-- a write of 0 reads as 0, inside the list and beyond it
zero_reads : (cells : List ℕ) (n : ℕ) → get_or (set cells n 0) n 0 ≡ 0
zero_reads cells n =
    ⊎_elim (λ (l : n < length cells). get_or-set_same cells n 0 0 l)
    (λ (l : length cells ≤ n).
    let h : length (set cells n 0) ≤ n = omega (arith, length-set cells n 0) in
    get_or_past (set cells n 0) n 0 h) (cases_lt n (length cells))

cleared_to_zero : (n : ℕ) (cells : List ℕ) (f i : ℕ) → i < n → get_or (cleared_to n cells f) (512 * f + i) 0 ≡ 0
unfolding cleared_to
cleared_to_zero zero cells f i h = absurd (omega arith)
cleared_to_zero (suc n) cells f i h =
    let below : i < n → get_or (cleared_to n cells f) (512 * f + i) 0 ≡ 0 = cleared_to_zero n cells f i in
    ⊎_elim
    (λ (e : i ≡ n). ap (λ (k : ℕ). get_or (set (cleared_to n cells f) (512 * f + n) 0) (512 * f + k) 0) e ∙ zero_reads (cleared_to n cells f) (512 * f + n))
    (λ (ne : i ≡ n → ⊥).
    get_or-set_other (cleared_to n cells f) (512 * f + n) (512 * f + i) 0 0 (λ q. ne (omega arith)) ∙ below (omega arith)) (cases_eq i n)

cleared_to_other : (n : ℕ) (cells : List ℕ) (f m : ℕ) → ((i : ℕ) → i < n → m ≡ 512 * f + i → ⊥) → get_or (cleared_to n cells f) m 0 ≡ get_or cells m 0
unfolding cleared_to
cleared_to_other zero cells f m ne = refl
cleared_to_other (suc n) cells f m ne =
    get_or-set_other (cleared_to n cells f) (512 * f + n) m 0 0 (ne n (omega arith))
    ∙ cleared_to_other n cells f m (λ i h q. ne i (omega arith) q)

-- a frame filled with zeros
pub cleared_zero : (cells : List ℕ) (f i : ℕ) → i < 512 → word_at (cleared cells f) f i ≡ 0
cleared_zero cells f i h = cleared_to_zero 512 cells f i h

pub cleared_other : (cells : List ℕ) (f t i : ℕ) → i < 512 → (t ≡ f → ⊥) → word_at (cleared cells f) t i ≡ word_at cells t i
cleared_other cells f t i h ne = cleared_to_other 512 cells f (512 * t + i) (λ j l q. ne (omega arith))
