-- Doublewords in bytes: what a write of bytes leaves, and that a doubleword's bytes read back as it.
use Rattle.std.proofs.Common.{◌≡◌, ℕ, zero, suc, ◌+◌, ◌-◌, ◌^◌, ◌<◌, ◌≤◌, ◌⊎◌, List, [], ◌∷◌, ◌++◌, length, get_or, take, drop, sym, refl, ap, ◌∙◌, ⊎_elim, div-one, add-zero, add_assoc, arith}
use Rattle.std.specs.Int.{w64, from_le_bytes}
use native.Mathlib.Nat.{div-div-eq-div-mul, sub_self}
use borrow.Rule.Slice.PartMut.{put_mid}
use Rattle.std.proofs.lemmas.List.Edits.{paste_all}
use Rattle.std.proofs.lemmas.List.{get_or_append_left, get_or-append_right, get_or-take, get_or-drop, length-append, length-take-le, length-drop, ext_get_or}
use Rattle.std.proofs.lemmas.Slice.{put_mid-paste}
use Rattle.memory.specs.Block.{little, bytes_from, word_at, bytes_of, put}

-- what `copy_from_slice` to eight bytes from at on leaves is `put`
pub put_from_mid : (at : ℕ) (bytes others : List ℕ) → length others ≡ 8 → put_mid at (at + 8 - at) bytes others ≡ put bytes at others
unfolding put
put_from_mid at bytes others e =
    put_mid-paste at (at + 8 - at) bytes others others (length others) refl (omega arith) refl
    ∙ paste_all bytes at others (length others) refl

module _ (bytes : List ℕ) (at : ℕ) (others : List ℕ) (fits : at + length others ≤ length bytes) where
  front : length (take at bytes) ≡ at
  front = length-take-le at bytes (omega arith)

  pub length_put : length (put bytes at others) ≡ length bytes
  unfolding put
  length_put =
      let f = front in
      let a = length-append (take at bytes) (others ++ drop (at + length others) bytes) in
      let b = length-append others (drop (at + length others) bytes) in
      let c = length-drop (at + length others) bytes in
      omega arith

  pub before_put : (k : ℕ) → k < at → get_or (put bytes at others) k 0 ≡ get_or bytes k 0
  unfolding put
  before_put k h =
      let f = front in
      get_or_append_left (take at bytes) (others ++ drop (at + length others) bytes) 0 k (omega arith)
      ∙ get_or-take at bytes k 0 h

  pub inside_put : (k : ℕ) → at ≤ k → k < at + length others → get_or (put bytes at others) k 0 ≡ get_or others (k - at) 0
  unfolding put
  inside_put k g h =
      get_or-append_right (take at bytes) (others ++ drop (at + length others) bytes) at k 0 front g
      ∙ get_or_append_left others (drop (at + length others) bytes) 0 (k - at) (omega arith)

  pub after_put : (k : ℕ) → at + length others ≤ k → get_or (put bytes at others) k 0 ≡ get_or bytes k 0
  unfolding put
  after_put k h =
      let e : at + length others + (k - at - length others) ≡ k = omega arith in
      get_or-append_right (take at bytes) (others ++ drop (at + length others) bytes) at k 0 front (omega arith)
      ∙ get_or-append_right others (drop (at + length others) bytes) (length others) (k - at) 0 refl (omega arith)
      ∙ get_or-drop (at + length others) bytes (k - at - length others) 0
      ∙ ap (λ (i : ℕ). get_or bytes i 0) e

  pub drop_put : (n : ℕ) → at + length others ≤ n → drop n (put bytes at others) ≡ drop n bytes
  drop_put n h =
      let l = length_put in
      ext_get_or 0 (drop n (put bytes at others)) (drop n bytes)
      (length-drop n (put bytes at others) ∙ ap (λ (m : ℕ). m - n) l ∙ sym (length-drop n bytes))
      (λ k g. get_or-drop n (put bytes at others) k 0 ∙ after_put (n + k) (omega arith) ∙ sym (get_or-drop n bytes k 0))

-- doublewords whose bytes are the same are the same
bytes_from_same : (bs cs : List ℕ) (at count : ℕ) → ((k : ℕ) → at ≤ k → k < at + count → get_or bs k 0 ≡ get_or cs k 0) → bytes_from bs at count ≡ bytes_from cs at count
bytes_from_same bs cs at zero same = refl
bytes_from_same bs cs at (suc count) same =
    let h : get_or bs at 0 ≡ get_or cs at 0 = same at (omega arith) (omega arith) in
    let t = bytes_from_same bs cs (at + 1) count (λ k l u. same k (omega arith) (omega arith)) in
    cc

pub word_same : (bs cs : List ℕ) (at : ℕ) → ((k : ℕ) → at ≤ k → k < at + 8 → get_or bs k 0 ≡ get_or cs k 0) → word_at bs at ≡ word_at cs at
unfolding word_at
word_same bs cs at same = ap little (bytes_from_same bs cs at 8 same)

byte_of_eight : (bytes : List ℕ) (at i : ℕ) → i < 8 → get_or (take 8 (drop at bytes)) i 0 ≡ get_or bytes (at + i) 0
byte_of_eight bytes at i h = get_or-take 8 (drop at bytes) i 0 h ∙ get_or-drop at bytes i 0

-- eight bytes as an array are the doubleword that begins with them
pub word_of_eight : (bytes : List ℕ) (at : ℕ) → from_le_bytes w64 (take 8 (drop at bytes)) ≡ word_at bytes at
unfolding word_at
word_of_eight bytes at =
    let xs : List ℕ = take 8 (drop at bytes) in
    let a : get_or xs 0 0 ≡ get_or bytes at 0 = byte_of_eight bytes at 0 (omega arith) ∙ ap (λ (i : ℕ). get_or bytes i 0) (add-zero at) in
    let b = byte_of_eight bytes at 1 (omega arith) in
    let c = byte_of_eight bytes at 2 (omega arith) in
    let d = byte_of_eight bytes at 3 (omega arith) in
    let e = byte_of_eight bytes at 4 (omega arith) in
    let f = byte_of_eight bytes at 5 (omega arith) in
    let g = byte_of_eight bytes at 6 (omega arith) in
    let h = byte_of_eight bytes at 7 (omega arith) in
    simp add_assoc (omega arith)

bytes_from_part : (bytes : List ℕ) (start count at n : ℕ) → at + n ≤ count → bytes_from (take count (drop start bytes)) at n ≡ bytes_from bytes (start + at) n
bytes_from_part bytes start count at zero h = refl
bytes_from_part bytes start count at (suc n) h =
    let b : get_or (take count (drop start bytes)) at 0 ≡ get_or bytes (start + at) 0 =
    get_or-take count (drop start bytes) at 0 (omega arith) ∙ get_or-drop start bytes at 0 in
    let t : bytes_from (take count (drop start bytes)) (at + 1) n ≡ bytes_from bytes (start + at + 1) n =
    bytes_from_part bytes start count (at + 1) n (omega arith) ∙ ap (λ (i : ℕ). bytes_from bytes i n) (sym (add_assoc start at 1)) in
    cc

-- a doubleword of a part of the bytes
pub word_of_part : (bytes : List ℕ) (start count at : ℕ) → at + 8 ≤ count → word_at (take count (drop start bytes)) at ≡ word_at bytes (start + at)
unfolding word_at
word_of_part bytes start count at h = ap little (bytes_from_part bytes start count at 8 h)

-- the bytes of a doubleword stand for it
little_bytes_of : (v : ℕ) → v < 2 ^ 64 → little (bytes_of v) ≡ v
unfolding bytes_of
little_bytes_of v h =
    let a = div-one v in
    let b = div-div-eq-div-mul v 256 256 in
    let c = div-div-eq-div-mul v 65536 256 in
    let d = div-div-eq-div-mul v 16777216 256 in
    let e = div-div-eq-div-mul v 4294967296 256 in
    let f = div-div-eq-div-mul v 1099511627776 256 in
    let g = div-div-eq-div-mul v 281474976710656 256 in
    omega arith

bytes_from_is : (bs xs : List ℕ) (at : ℕ) → ((k : ℕ) → at ≤ k → k < at + length xs → get_or bs k 0 ≡ get_or xs (k - at) 0) → bytes_from bs at (length xs) ≡ xs
bytes_from_is bs [] at same = refl
bytes_from_is bs (x ∷ xs) at same =
    let h : get_or bs at 0 ≡ get_or (x ∷ xs) (at - at) 0 = same at (omega arith) (omega arith) in
    let z : get_or (x ∷ xs) (at - at) 0 ≡ x = rw (sub_self at) in
    let t : bytes_from bs (at + 1) (length xs) ≡ xs =
    bytes_from_is bs xs (at + 1)
    (λ k l u.
    let e : k - at ≡ suc (k - (at + 1)) = omega arith in
    same k (omega arith) (omega arith) ∙ ap (λ (i : ℕ). get_or (x ∷ xs) i 0) e) in
    cc

-- a doubleword is read back where it was put
pub word_put : (bytes : List ℕ) (at v : ℕ) → v < 2 ^ 64 → at + 8 ≤ length bytes → word_at (put bytes at (bytes_of v)) at ≡ v
unfolding word_at bytes_of
word_put bytes at v small fits =
    ap little
    (bytes_from_is (put bytes at (bytes_of v)) (bytes_of v) at (λ k l u. inside_put bytes at (bytes_of v) fits k l u))
    ∙ little_bytes_of v small

-- a doubleword beside what was put is as it was
pub word_beside : (bytes : List ℕ) (at v place : ℕ) → at + 8 ≤ length bytes → (place + 8 ≤ at) ⊎ (at + 8 ≤ place) → word_at (put bytes at (bytes_of v)) place ≡ word_at bytes place
unfolding bytes_of
word_beside bytes at v place fits apart =
    word_same (put bytes at (bytes_of v)) bytes place
    (λ k l u. ⊎_elim
    (λ (h : place + 8 ≤ at). before_put bytes at (bytes_of v) fits k (omega arith))
    (λ (h : at + 8 ≤ place). after_put bytes at (bytes_of v) fits k (omega arith)) apart)

pub length_put_word : (bytes : List ℕ) (at v : ℕ) → at + 8 ≤ length bytes → length (put bytes at (bytes_of v)) ≡ length bytes
unfolding bytes_of
length_put_word bytes at v fits = length_put bytes at (bytes_of v) fits

pub drop_put_word : (bytes : List ℕ) (at v n : ℕ) → at + 8 ≤ length bytes → at + 8 ≤ n → drop n (put bytes at (bytes_of v)) ≡ drop n bytes
unfolding bytes_of
drop_put_word bytes at v n fits h = drop_put bytes at (bytes_of v) fits n h
