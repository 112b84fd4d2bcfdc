-- A walk goes by the page of its address, up to its last step.
use Rattle.std.proofs.Common.{◌≡◌, ℕ, zero, suc, ◌+◌, ◌-◌, ◌*◌, ◌/◌, ◌%◌, ◌^◌, Bool, cond, eqb, ltb, List, length, get_or, Ok, Err, Result, sym, refl, ap, ◌∙◌, arith}
use native.Mathlib.Nat.{div-div-eq-div-mul}
use Rattle.std.proofs.lemmas.Nat.{pow-add}
use Rattle.memory.specs.Cells.{beyond}
use Rattle.sv39.specs.declared.access.Kind.{Kind}
use Rattle.sv39.specs.declared.access.Mode.{Mode}
use Rattle.sv39.specs.declared.entry.Entry.{Entry}
use Rattle.walker.specs.declared.fault.Stop.{Stop}
use Rattle.walker.specs.declared.fault.Stop.TheVariants.{EntryBeyond, PointerAtZero}
use Rattle.walker.specs.declared.fault.WalkFault.{WalkFault}
use Rattle.walker.specs.declared.fault.WalkFault.TheVariants.{RootTooWide, NotCanonical}
use Rattle.walker.specs.declared.walking.Step.{Step}
use Rattle.walker.specs.declared.walking.Step.TheVariants.{Pointer, Leaf}
use Rattle.walker.specs.declared.walking.Translation.{Translation}
use Rattle.sv39.specs.Address.{canonical, page, page_number, index, entry_of, frame_of}
use Rattle.sv39.specs.Layout.{bit, unpacked}
use Rattle.walker.specs.Laws.{at, GoesByPage}
use Rattle.walker.specs.Walk.{decided, look_of, stopped, onward, walk_from, found}

-- what an address is above its low 12 bits is a matter of its page number
above : (a k : ℕ) → a / 2 ^ (12 + k) ≡ page_number a / 2 ^ k
above a k = ap (λ (n : ℕ). a / n) (pow-add 2 12 k) ∙ sym (div-div-eq-div-mul a 4096 (2 ^ k))

pub number_of_page : (a b : ℕ) → page a ≡ page b → page_number a ≡ page_number b
number_of_page a b e = omega arith

module _ (a b : ℕ) (same : page_number a ≡ page_number b) where
  pub index_same : (level : ℕ) → index a level ≡ index b level
  index_same level =
      ap (λ (n : ℕ). n % 512) (above a (9 * level) ∙ ap (λ (p : ℕ). p / 2 ^ (9 * level)) same ∙ sym (above b (9 * level)))

  pub canonical_same : canonical a ≡ canonical b
  canonical_same =
      let h : a / 2 ^ 39 ≡ b / 2 ^ 39 = above a 27 ∙ ap (λ (p : ℕ). p / 2 ^ 27) same ∙ sym (above b 27) in
      let l : a / 2 ^ 38 ≡ b / 2 ^ 38 = above a 26 ∙ ap (λ (p : ℕ). p / 2 ^ 26) same ∙ sym (above b 26) in
      ap (λ (n : ℕ). eqb n (cond (bit a 38) (2 ^ 25 - 1) 0)) h
      ∙ ap (λ (n : ℕ). eqb (b / 2 ^ 39) (cond (eqb (n % 2) 1) (2 ^ 25 - 1) 0)) l

  pub entry_same_page : (table level : ℕ) → entry_of table a level ≡ entry_of table b level
  entry_same_page table level = ap (λ (i : ℕ). 512 * table + i) (index_same level)

  pub frame_same_page : (ppn level : ℕ) → frame_of ppn a level ≡ frame_of ppn b level
  frame_same_page ppn level = ap (λ (p : ℕ). ppn / 2 ^ (9 * level) * 2 ^ (9 * level) + p % 2 ^ (9 * level)) same

  module _ (cells : List ℕ) (kind : Kind) (mode : Mode) (sum mxr : Bool) where
    decided_same : (level : ℕ) (e : Entry) → decided (at a kind mode sum mxr) level e ≡ decided (at b kind mode sum mxr) level e
    decided_same level e = rw (frame_same_page e.ppn level)

    look_same : (level entry : ℕ) → look_of cells (at a kind mode sum mxr) level entry ≡ look_of cells (at b kind mode sum mxr) level entry
    unfolding look_of
    look_same level entry = ap (λ (r : Result Step Stop). cond (ltb entry (length cells)) r (Err (EntryBeyond (beyond entry)))) (decided_same level (unpacked (get_or cells entry 0)))

    onward_same : (level entry : ℕ) (r : Result Step Stop) (there here : ℕ → Result (ℕ × Translation) WalkFault) → ((next : ℕ) → there next ≡ here next) → onward (at a kind mode sum mxr) level entry there r ≡ onward (at b kind mode sum mxr) level entry here r
    onward_same level entry (Ok (Pointer next)) there here h = h next
    onward_same level entry (Ok (Leaf leaf)) there here h = refl
    onward_same level entry (Err stop) there here h = refl

    walk_same : (level table : ℕ) → walk_from cells (at a kind mode sum mxr) level table ≡ walk_from cells (at b kind mode sum mxr) level table
    unfolding walk_from
    walk_same zero table =
        ap (λ (n : ℕ). onward (at a kind mode sum mxr) 0 n (λ _. stopped (at a kind mode sum mxr) 0 n PointerAtZero) (look_of cells (at a kind mode sum mxr) 0 n)) (entry_same_page table 0)
        ∙ ap (onward (at a kind mode sum mxr) 0 (entry_of table b 0) (λ _. stopped (at a kind mode sum mxr) 0 (entry_of table b 0) PointerAtZero)) (look_same 0 (entry_of table b 0))
        ∙ onward_same 0 (entry_of table b 0) (look_of cells (at b kind mode sum mxr) 0 (entry_of table b 0)) _ _ (λ _. refl)
    walk_same (suc level) table =
        ap (λ (n : ℕ). onward (at a kind mode sum mxr) (suc level) n (walk_from cells (at a kind mode sum mxr) level) (look_of cells (at a kind mode sum mxr) (suc level) n)) (entry_same_page table (suc level))
        ∙ ap (onward (at a kind mode sum mxr) (suc level) (entry_of table b (suc level)) (walk_from cells (at a kind mode sum mxr) level)) (look_same (suc level) (entry_of table b (suc level)))
        ∙ onward_same (suc level) (entry_of table b (suc level)) (look_of cells (at b kind mode sum mxr) (suc level) (entry_of table b (suc level))) (walk_from cells (at a kind mode sum mxr) level) (walk_from cells (at b kind mode sum mxr) level) (walk_same level)

pub goes_by_page : GoesByPage
unfolding found
goes_by_page cells root a b kind mode sum mxr same =
    let n = number_of_page a b same in
    ap (λ (t : Bool). cond (ltb root (2 ^ 44)) (cond t (walk_from cells (at a kind mode sum mxr) 2 root) (Err (NotCanonical kind))) (Err (RootTooWide (record {})))) (canonical_same a b n)
    ∙ ap (λ (r : Result (ℕ × Translation) WalkFault). cond (ltb root (2 ^ 44)) (cond (canonical b) r (Err (NotCanonical kind))) (Err (RootTooWide (record {})))) (walk_same a b n cells kind mode sum mxr 2 root)
