-- Checks: what a write leaves sound, and when a look-over finds nothing.
use Rattle.std.proofs.Common.{◌≡◌, ℕ, zero, suc, ◌+◌, ◌-◌, ◌*◌, ◌/◌, ◌%◌, ◌^◌, ◌<◌, ◌≤◌, Bool, true, false, cond, ◌⊎◌, List, length, get_or, take, drop, set, not, add-zero, Some, None, Ok, Err, Option, sym, refl, ap, ◌∙◌, inl, inr, ⊎_elim, zero-add, length-take, arith}
use Rattle.std.proofs.lemmas.List.FromFn.{length-map-range_with_len, get_or-map-range_with_len}
use Rattle.std.specs.Int.{w64, from_le_bytes}
use Rattle.std.specs.List.{find, fold, range_with_len}
use Rattle.std.specs.Simd.{first_chunks}
use lib.Bits.{bit_xor}
use Rattle.std.proofs.lemmas.List.{drop-drop, ext_get_or, length-set, length-drop, get_or-set_same, get_or-set_other}
use Rattle.std.proofs.lemmas.Bool.{cases_eq, cases_lt, cases_Bool, eq-eqb, ne_eqb, eqb-true, cond-true, cond-false}
use Rattle.memory.specs.declared.blocks.Damage.{Damage}
use Rattle.memory.specs.declared.blocks.Damage.TheVariants.{NotWhole}
use Rattle.memory.specs.Block.{word_at, bytes_of, put, byte_of, start_of, blocks_in, cells_of, rotated, check_up_to, check_for, sound, stored, lowest_wrong, empty, whole, verdict, look_over}
use Rattle.memory.proofs.Bytes.{word_put, word_of_eight, word_of_part, word_beside, length_put_word, drop_put_word}

-- a check is a matter of its own block's doublewords
check_same : (bs cs : List ℕ) (block place : ℕ) → ((p : ℕ) → p < place → word_at bs (byte_of block p) ≡ word_at cs (byte_of block p)) → check_up_to bs block place ≡ check_up_to cs block place
unfolding check_up_to
check_same bs cs block zero same = refl
check_same bs cs block (suc place) same =
    let h = check_same bs cs block place (λ p l. same p (omega arith)) in
    let w = same place (omega arith) in
    cc

-- the bytes of two places of blocks lie apart
apart : (a b p q : ℕ) → p < 64 → q < 64 → (64 * a + p ≡ 64 * b + q → ⊥) → (byte_of a p + 8 ≤ byte_of b q) ⊎ (byte_of b q + 8 ≤ byte_of a p)
apart a b p q hp hq ne =
    ⊎_elim (λ (h : 64 * a + p < 64 * b + q). inl (omega arith))
    (λ (h : 64 * b + q ≤ 64 * a + p). inr (omega arith)) (cases_lt (64 * a + p) (64 * b + q))

-- how many doublewords the bytes hold
pub length_cells : (bytes : List ℕ) → length (cells_of bytes) ≡ blocks_in bytes * 63
length_cells bytes = length-map-range_with_len (λ i. word_at bytes (start_of i)) 0 (blocks_in bytes * 63)

pub cell_at : (bytes : List ℕ) (n : ℕ) → n < blocks_in bytes * 63 → get_or (cells_of bytes) n 0 ≡ word_at bytes (start_of n)
cell_at bytes n h = get_or-map-range_with_len (λ i. word_at bytes (start_of i)) 0 (blocks_in bytes * 63) n n 0 h (zero-add n)

-- A doubleword's write: its bytes, then its block's check.
module _ (bytes : List ℕ) (n v : ℕ) (inside : n < blocks_in bytes * 63) where
  fits : start_of n + 8 ≤ length bytes
  fits = omega arith

  block_fits : byte_of (n / 63) 63 + 8 ≤ length bytes
  block_fits = omega arith

  -- the bytes with the doubleword put, its check not yet renewed
  unfoldable pub mid : List ℕ
  mid = put bytes (start_of n) (bytes_of v)

  pub length_mid : length mid ≡ length bytes
  unfolding mid
  length_mid = length_put_word bytes (start_of n) v fits

  unfoldable pub done : List ℕ
  done = stored bytes n v

  pub length_done : length done ≡ length bytes
  unfolding done mid
  length_done =
      let l = length_mid in
      let f = block_fits in
      length_put_word mid (byte_of (n / 63) 63) (check_for mid (n / 63)) (omega arith) ∙ l

  -- every doubleword but n is as it was, and so is every other block's check
  word_kept : (a p : ℕ) → p < 63 → (63 * a + p ≡ n → ⊥) → word_at done (byte_of a p) ≡ word_at bytes (byte_of a p)
  unfolding done mid
  word_kept a p hp ne =
      let l = length_mid in
      let f = block_fits in
      word_beside mid (byte_of (n / 63) 63) (check_for mid (n / 63)) (byte_of a p) (omega arith) (apart a (n / 63) p 63 (omega arith) (omega arith) (λ e. omega arith))
      ∙ word_beside bytes (start_of n) v (byte_of a p) fits (apart a (n / 63) p (n % 63) (omega arith) (omega arith) (λ e. ne (omega arith)))

  check_kept : (a : ℕ) → (a ≡ n / 63 → ⊥) → word_at done (byte_of a 63) ≡ word_at bytes (byte_of a 63)
  unfolding done mid
  check_kept a ne =
      let l = length_mid in
      let f = block_fits in
      word_beside mid (byte_of (n / 63) 63) (check_for mid (n / 63)) (byte_of a 63) (omega arith) (apart a (n / 63) 63 63 (omega arith) (omega arith) (λ e. ne (omega arith)))
      ∙ word_beside bytes (start_of n) v (byte_of a 63) fits (apart a (n / 63) 63 (n % 63) (omega arith) (omega arith) (λ e. omega arith))

  pub done_tail : drop (512 * blocks_in bytes) done ≡ drop (512 * blocks_in bytes) bytes
  unfolding done mid
  done_tail =
      let l = length_mid in
      let f = block_fits in
      drop_put_word mid (byte_of (n / 63) 63) (check_for mid (n / 63)) (512 * blocks_in bytes) (omega arith) (omega arith)
      ∙ drop_put_word bytes (start_of n) v (512 * blocks_in bytes) fits (omega arith)

  module _ (small : v < 2 ^ 64) where
    word_new : word_at done (start_of n) ≡ v
    unfolding done mid
    word_new =
        let l = length_mid in
        let f = block_fits in
        word_beside mid (byte_of (n / 63) 63) (check_for mid (n / 63)) (start_of n) (omega arith) (apart (n / 63) (n / 63) (n % 63) 63 (omega arith) (omega arith) (λ e. omega arith))
        ∙ word_put bytes (start_of n) v small fits

    cell : (k : ℕ) → k < blocks_in bytes * 63 → word_at done (start_of k) ≡ get_or (set (cells_of bytes) n v) k 0
    cell k h =
        let w = length_cells bytes in
        ⊎_elim
        (λ (e : k ≡ n). rw e (word_new ∙ sym (get_or-set_same (cells_of bytes) n v 0 (omega arith))))
        (λ (e : k ≡ n → ⊥).
        word_kept (k / 63) (k % 63) (omega arith) (λ t. e (omega arith))
        ∙ sym (cell_at bytes k h)
        ∙ sym (get_or-set_other (cells_of bytes) n k v 0 e)) (cases_eq k n)

    -- the list that the bytes hold now is the old one with the value at n
    pub cells_done : cells_of done ≡ set (cells_of bytes) n v
    cells_done =
        let w = length_cells bytes in
        let m = length_cells done in
        let l = length_done in
        let q : blocks_in done ≡ blocks_in bytes = ap (λ (i : ℕ). i / 512) l in
        ext_get_or 0 (cells_of done) (set (cells_of bytes) n v) (m ∙ ap (λ (i : ℕ). i * 63) q ∙ sym w ∙ sym (length-set (cells_of bytes) n v))
        (λ k h. cell_at done k (omega arith) ∙ cell k (omega arith))

  module _ (small : check_for mid (n / 63) < 2 ^ 64) where
    -- the block that was written is sound, whatever its check was
    sound_new : sound done (n / 63) ≡ true
    unfolding done mid
    sound_new =
        let l = length_mid in
        let f = block_fits in
        let w = word_put mid (byte_of (n / 63) 63) (check_for mid (n / 63)) small (omega arith) in
        let s =
        check_same done mid (n / 63) 63
        (λ p h. word_beside mid (byte_of (n / 63) 63) (check_for mid (n / 63)) (byte_of (n / 63) p) (omega arith) (inl (omega arith))) in
        eq-eqb (word_at done (byte_of (n / 63) 63)) (check_for done (n / 63)) (w ∙ sym s)

    sound_kept : (a : ℕ) → (a ≡ n / 63 → ⊥) → sound bytes a ≡ true → sound done a ≡ true
    sound_kept a ne t =
        let s = check_same done bytes a 63 (λ p h. word_kept a p h (λ e. ne (omega arith))) in
        eq-eqb (word_at done (byte_of a 63)) (check_for done a)
        (check_kept a ne ∙ eqb-true (word_at bytes (byte_of a 63)) (check_for bytes a) t ∙ sym s)

    pub sound_done : (a : ℕ) → sound bytes a ≡ true → sound done a ≡ true
    sound_done a t =
        ⊎_elim (λ (e : a ≡ n / 63). rw e sound_new) (λ (e : a ≡ n / 63 → ⊥). sound_kept a e t) (cases_eq a (n / 63))

-- the lowest wrong block is the first one found that is not sound
pub lowest_found : (bytes : List ℕ) (block count : ℕ) → find (λ (b : ℕ). not (sound bytes b)) (range_with_len block count) ≡ lowest_wrong bytes block count
lowest_found bytes block zero = refl
lowest_found bytes block (suc count) = by (sound bytes block) (lowest_found bytes (block + 1) count)
  where
    by : (b : Bool) {found lowest : Option ℕ} → found ≡ lowest → cond (not b) (Some block) found ≡ cond b lowest (Some block)
    by true e = e
    by false e = refl

-- a check taken on over one more doubleword, given as its bytes
abbrev pub checked : ℕ → List ℕ → ℕ
checked check word = bit_xor (rotated check) (from_le_bytes w64 word)

check_onward : (bytes part : List ℕ) (block place count : ℕ) → ((p : ℕ) → p < place + count → word_at part (8 * p) ≡ word_at bytes (byte_of block p)) → fold checked (check_up_to bytes block place) (first_chunks 8 count (drop (8 * place) part)) ≡ check_up_to bytes block (place + count)
unfolding check_up_to
check_onward bytes part block place zero same = sym (ap (check_up_to bytes block) (add-zero place))
check_onward bytes part block place (suc count) same =
    let w : from_le_bytes w64 (take 8 (drop (8 * place) part)) ≡ word_at bytes (byte_of block place) =
    word_of_eight part (8 * place) ∙ same place (omega arith) in
    let e : 8 * place + 8 ≡ 8 * suc place = omega arith in
    let d : drop 8 (drop (8 * place) part) ≡ drop (8 * suc place) part =
    drop-drop 8 (8 * place) part ∙ ap (λ (k : ℕ). drop k part) e in
    let n : suc place + count ≡ place + suc count = omega arith in
    ap (λ (word : ℕ). fold checked (bit_xor (rotated (check_up_to bytes block place)) word) (first_chunks 8 count (drop 8 (drop (8 * place) part)))) w
    ∙ ap (λ (rest : List ℕ). fold checked (check_up_to bytes block (suc place)) (first_chunks 8 count rest)) d
    ∙ check_onward bytes part block (suc place) count (λ p l. same p (omega arith))
    ∙ ap (check_up_to bytes block) n

-- the check taken over the bytes from a block's first place to its check
pub check_over : (bytes : List ℕ) (block start end : ℕ) → 512 * block + 512 ≤ length bytes → start ≡ byte_of block 0 → end ≡ byte_of block 63 → fold checked (block + 1) (first_chunks 8 (length (take (end - start) (drop start bytes)) / 8) (take (end - start) (drop start bytes))) ≡ check_for bytes block
unfolding check_up_to
check_over bytes block start end fits s e =
    let part : List ℕ = take (end - start) (drop start bytes) in
    let t = length-take (end - start) (drop start bytes) in
    let d = length-drop start bytes in
    let n : 0 + length part / 8 ≡ 63 = omega arith in
    check_onward bytes part block 0 (length part / 8)
    (λ p l. word_of_part bytes start (end - start) (8 * p) (omega arith) ∙ by_place p)
    ∙ ap (check_up_to bytes block) n
  where
    by_place : (p : ℕ) → word_at bytes (start + 8 * p) ≡ word_at bytes (byte_of block p)
    by_place p = let k : start + 8 * p ≡ byte_of block p = omega arith in ap (word_at bytes) k

-- what a look-over answers of whole blocks
pub looked_over : (bytes : List ℕ) → (length bytes ≡ 0 → ⊥) → length bytes % 512 ≡ 0 → look_over bytes ≡ verdict (lowest_wrong bytes 0 (blocks_in bytes))
looked_over bytes ne e = cond-false (empty bytes) _ _ (ne_eqb (length bytes) 0 ne) ∙ cond-true (whole bytes) _ _ (eq-eqb (length bytes % 512) 0 e)

-- no block is the lowest wrong one exactly if every block is sound
sound_from_none : (bytes : List ℕ) (block count : ℕ) → lowest_wrong bytes block count ≡ None → (a : ℕ) → block ≤ a → a < block + count → sound bytes a ≡ true
sound_from_none bytes block zero e a l u = absurd (omega arith)
sound_from_none bytes block (suc count) e a l u =
    ⊎_elim
    (λ (t : sound bytes block ≡ true).
    ⊎_elim (λ (q : a ≡ block). rw q t)
    (λ (q : a ≡ block → ⊥).
    sound_from_none bytes (block + 1) count (sym (cond-true (sound bytes block) (lowest_wrong bytes (block + 1) count) (Some block) t) ∙ e) a (omega arith) (omega arith)) (cases_eq a block))
    (λ (t : sound bytes block ≡ false).
    let z : Some block ≡ None = sym (cond-false (sound bytes block) (lowest_wrong bytes (block + 1) count) (Some block) t) ∙ e in
    let w : ◌≡◌ {A = ℕ} 0 1 = cc in absurd (omega arith)) (cases_Bool (sound bytes block))

none_from_sound : (bytes : List ℕ) (block count : ℕ) → ((a : ℕ) → block ≤ a → a < block + count → sound bytes a ≡ true) → lowest_wrong bytes block count ≡ None
none_from_sound bytes block zero h = refl
none_from_sound bytes block (suc count) h =
    cond-true (sound bytes block) (lowest_wrong bytes (block + 1) count) (Some block) (h block (omega arith) (omega arith))
    ∙ none_from_sound bytes (block + 1) count (λ a l u. h a (omega arith) (omega arith))

clean_parts : (none all : Bool) (wrong : Option ℕ) (d : Damage) → cond none (Err d) (cond all (verdict wrong) (Err d)) ≡ Ok tt → (none ≡ false) × (all ≡ true) × (wrong ≡ None)
clean_parts true all wrong d h = let z : ◌≡◌ {A = ℕ} 0 1 = cc in absurd (omega arith)
clean_parts false true None d h = (refl, refl, refl)
clean_parts false true (Some block) d h = let z : ◌≡◌ {A = ℕ} 0 1 = cc in absurd (omega arith)
clean_parts false false wrong d h = let z : ◌≡◌ {A = ℕ} 0 1 = cc in absurd (omega arith)

-- what is looked over and clean stays so where lengths are the same and sound blocks stay sound
pub clean_kept : (bs cs : List ℕ) → length cs ≡ length bs → ((a : ℕ) → sound bs a ≡ true → sound cs a ≡ true) → look_over bs ≡ Ok tt → look_over cs ≡ Ok tt
clean_kept bs cs l kept clean =
    let was = clean_parts (empty bs) (whole bs) (lowest_wrong bs 0 (blocks_in bs)) (NotWhole (length bs)) clean in
    let none : lowest_wrong cs 0 (blocks_in cs) ≡ None =
    none_from_sound cs 0 (blocks_in cs)
    (λ a h u. kept a (sound_from_none bs 0 (blocks_in bs) was.2 a h (rw l at u))) in
    cond-false (empty cs) _ _ (rw l was.0) ∙ cond-true (whole cs) _ _ (rw l was.1) ∙ ap verdict none
