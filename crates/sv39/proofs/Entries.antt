-- Entries: equal by their fields; packing and unpacking undo each other.
use Rattle.std.proofs.Common.{◌≡◌, ℕ, ◌+◌, ◌*◌, ◌/◌, ◌%◌, ◌^◌, ◌<◌, ◌≤◌, Bool, true, false, eqb, sym, refl, ap, ◌∙◌, ⊎_elim, mod-lt, div-one, arith, lit<}
use mathlib.Core.HLevel.{is_prop→PathP}
use native.Mathlib.Bridge.{le_prop}
use native.Mathlib.Nat.{div-div-eq-div-mul}
use mir.Val.{bool_byte}
use Rattle.std.proofs.lemmas.Bool.{cases_eq, eq-eqb, ne_eqb}
use Rattle.sv39.specs.declared.entry.Flags.{Flags}
use Rattle.sv39.specs.declared.entry.Entry.{Entry}
use Rattle.sv39.specs.Layout.{bit, one, flags_of, packed_flags, unpacked, packed}

pub entry_same : (e f : Entry) → e.flags ≡ f.flags → e.rsw ≡ f.rsw → e.ppn ≡ f.ppn → e.top ≡ f.top → e ≡ f
entry_same e f p q r s =
    λ i. record {
      flags = p i;
      rsw = q i;
      ppn = r i;
      top = s i;
      narrow = (
        is_prop→PathP (λ j. q j < 2 ^ 2) (λ j. le_prop) e.narrow.0 f.narrow.0 i,
        is_prop→PathP (λ j. r j < 2 ^ 44) (λ j. le_prop) e.narrow.1 f.narrow.1 i,
        is_prop→PathP (λ j. s j < 2 ^ 10) (λ j. le_prop) e.narrow.2 f.narrow.2 i,
      );
    }

-- a flag as a number
pub flag_number : (b : Bool) → (bool_byte b ≡ one b) × (one b ≤ 1)
flag_number true = (refl, omega arith)
flag_number false = (refl, omega arith)

one_bit : (n : ℕ) → n < 2 → one (eqb n 1) ≡ n
one_bit n h =
    ⊎_elim (λ (e : n ≡ 1). ap one (eq-eqb n 1 e) ∙ sym e)
    (λ (e : n ≡ 1 → ⊥). let z : n ≡ 0 = omega arith in ap one (ne_eqb n 1 e) ∙ sym z) (cases_eq n 1)

bit_one : (b : Bool) → eqb (one b) 1 ≡ b
bit_one true = refl
bit_one false = refl

-- a bit as a number
bit_number : (word k : ℕ) → one (bit word k) ≡ word / 2 ^ k % 2
bit_number word k = one_bit (word / 2 ^ k % 2) (mod-lt (word / 2 ^ k) (lit< tt))

-- a doubleword is the sum of its fields
fields_sum : (n : ℕ) → n < 2 ^ 64 → n / 1 % 2 + 2 * (n / 2 % 2) + 4 * (n / 4 % 2) + 8 * (n / 8 % 2) + 16 * (n / 16 % 2) + 32 * (n / 32 % 2) + 64 * (n / 64 % 2) + 128 * (n / 128 % 2) + 2 ^ 8 * (n / 2 ^ 8 % 2 ^ 2) + 2 ^ 10 * (n / 2 ^ 10 % 2 ^ 44) + 2 ^ 54 * (n / 2 ^ 54 % 2 ^ 10) ≡ n
fields_sum n h =
    let a = div-one n in
    let b = div-div-eq-div-mul n 2 2 in
    let c = div-div-eq-div-mul n 4 2 in
    let d = div-div-eq-div-mul n 8 2 in
    let e = div-div-eq-div-mul n 16 2 in
    let f = div-div-eq-div-mul n 32 2 in
    let g = div-div-eq-div-mul n 64 2 in
    let i = div-div-eq-div-mul n 128 2 in
    let j = div-div-eq-div-mul n 256 4 in
    let k = div-div-eq-div-mul n 1024 (2 ^ 44) in
    omega arith

pub packed_unpacked : (word : ℕ) → word < 2 ^ 64 → packed (unpacked word) ≡ word
unfolding unpacked
packed_unpacked word h =
    let s = fields_sum word h in
    let b0 = bit_number word 0 in
    let b1 = bit_number word 1 in
    let b2 = bit_number word 2 in
    let b3 = bit_number word 3 in
    let b4 = bit_number word 4 in
    let b5 = bit_number word 5 in
    let b6 = bit_number word 6 in
    let b7 = bit_number word 7 in
    omega arith

-- a bit of a number that is a flag's
bit_is : (n k : ℕ) (b : Bool) → n / 2 ^ k % 2 ≡ one b → bit n k ≡ b
bit_is n k b h = ap (λ (m : ℕ). eqb m 1) h ∙ bit_one b

module _ (e : Entry) where
  -- the flags as numbers, and the other fields, are small
  small : (one e.flags.v ≤ 1) × (one e.flags.r ≤ 1) × (one e.flags.w ≤ 1) × (one e.flags.x ≤ 1) × (one e.flags.u ≤ 1) × (one e.flags.g ≤ 1) × (one e.flags.a ≤ 1) × (one e.flags.d ≤ 1)
  small = (
    (flag_number e.flags.v).1,
    (flag_number e.flags.r).1,
    (flag_number e.flags.w).1,
    (flag_number e.flags.x).1,
    (flag_number e.flags.u).1,
    (flag_number e.flags.g).1,
    (flag_number e.flags.a).1,
    (flag_number e.flags.d).1,
  )

  flags_of_packed : flags_of (packed e) ≡ e.flags
  flags_of_packed =
      let s = small in
      let v = bit_is (packed e) 0 e.flags.v (omega arith) in
      let r = bit_is (packed e) 1 e.flags.r (omega arith) in
      let w = bit_is (packed e) 2 e.flags.w (omega arith) in
      let x = bit_is (packed e) 3 e.flags.x (omega arith) in
      let u = bit_is (packed e) 4 e.flags.u (omega arith) in
      let g = bit_is (packed e) 5 e.flags.g (omega arith) in
      let a = bit_is (packed e) 6 e.flags.a (omega arith) in
      let d = bit_is (packed e) 7 e.flags.d (omega arith) in
      λ i. record { v = v i; r = r i; w = w i; x = x i; u = u i; g = g i; a = a i; d = d i }

  pub unpacked_packed : unpacked (packed e) ≡ e
  unfolding unpacked
  unpacked_packed =
      let s = small in
      entry_same (unpacked (packed e)) e flags_of_packed (omega arith) (omega arith) (omega arith)

-- what packs an entry unpacks to it, and the other way round
pub unpacked_is : (n : ℕ) (e : Entry) → n ≡ packed e → unpacked n ≡ e
unpacked_is n e h = ap unpacked h ∙ unpacked_packed e

-- the entry that a doubleword holds, by its fields
pub unpacked_by : (e : Entry) (word : ℕ) → word < 2 ^ 64 → e.flags ≡ flags_of word → e.rsw ≡ word / 2 ^ 8 % 2 ^ 2 → e.ppn ≡ word / 2 ^ 10 % 2 ^ 44 → e.top ≡ word / 2 ^ 54 → e ≡ unpacked word
unfolding unpacked
unpacked_by e word h f r p t = entry_same e (unpacked word) f r p (omega arith)

-- a doubleword from its fields
pub packed_by : (f : Flags) (rsw ppn top word : ℕ) → word < 2 ^ 64 → f ≡ flags_of word → rsw ≡ word / 2 ^ 8 % 2 ^ 2 → ppn ≡ word / 2 ^ 10 % 2 ^ 44 → top ≡ word / 2 ^ 54 → packed_flags f + 2 ^ 8 * rsw + 2 ^ 10 * ppn + 2 ^ 54 * top ≡ word
unfolding unpacked
packed_by f rsw ppn top word h q r p t =
    let e = packed_unpacked word h in
    let g = ap packed_flags q in
    omega arith
