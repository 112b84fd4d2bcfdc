-- A walk is decided by the entries that it reads, at most three.
use Rattle.std.proofs.Common.{◌≡◌, ℕ, zero, suc, ◌+◌, ◌^◌, ◌<◌, ◌≤◌, Bool, true, false, cond, ltb, List, [], ◌∷◌, length, get_or, Some, Ok, Err, Result, refl, ap, ◌∙◌, arith}
use Rattle.memory.specs.Cells.{beyond}
use Rattle.sv39.specs.declared.access.Access.{Access}
use Rattle.walker.specs.declared.fault.Stop.{Stop}
use Rattle.walker.specs.declared.fault.Stop.TheVariants.{EntryBeyond, PointerAtZero, FrameBeyond}
use Rattle.walker.specs.declared.fault.WalkFault.{WalkFault}
use Rattle.walker.specs.declared.fault.WalkFault.TheVariants.{RootTooWide, NotCanonical}
use Rattle.walker.specs.declared.walking.Step.{Step}
use Rattle.walker.specs.declared.walking.Step.TheVariants.{Pointer, Leaf}
use Rattle.walker.specs.declared.walking.Translation.{Translation}
use Rattle.sv39.specs.Address.{canonical, entry_of, doubleword_of}
use Rattle.sv39.specs.Layout.{unpacked}
use Rattle.walker.specs.Laws.{below, read_from, entries_read, named, last_of, Agree, ReadsFew}
use Rattle.walker.specs.Walk.{decided, look_of, stopped, onward, walk_from, found, last_step, walked}

module _ (cells others : List ℕ) (same_length : length others ≡ length cells) (q : Access) where
  look_same : (level entry : ℕ) → get_or others entry 0 ≡ get_or cells entry 0 → look_of others q level entry ≡ look_of cells q level entry
  unfolding look_of
  look_same level entry e =
      ap (λ (w : ℕ). cond (ltb entry (length others)) (decided q level (unpacked w)) (Err (EntryBeyond (beyond entry)))) e
      ∙ ap (λ (n : ℕ). cond (ltb entry n) (decided q level (unpacked (get_or cells entry 0))) (Err (EntryBeyond (beyond entry)))) same_length

  onward_same : (level entry : ℕ) (r : Result Step Stop) (there here : ℕ → Result (ℕ × Translation) WalkFault) (reads : ℕ → List ℕ) → ((next : ℕ) → Agree cells others (reads next) → there next ≡ here next) → Agree cells others (below reads r) → onward q level entry there r ≡ onward q level entry here r
  onward_same level entry (Ok (Pointer next)) there here reads same agree = same next agree
  onward_same level entry (Ok (Leaf leaf)) there here reads same agree = refl
  onward_same level entry (Err stop) there here reads same agree = refl

  walk_same : (level table : ℕ) → Agree cells others (read_from cells q level table) → walk_from others q level table ≡ walk_from cells q level table
  unfolding walk_from read_from
  walk_same zero table agree =
      ap (onward q 0 (entry_of table q.address 0) (λ _. stopped q 0 (entry_of table q.address 0) PointerAtZero))
      (look_same 0 (entry_of table q.address 0) agree.0)
  walk_same (suc level) table agree =
      ap (onward q (suc level) (entry_of table q.address (suc level)) (walk_from others q level)) (look_same (suc level) (entry_of table q.address (suc level)) agree.0)
      ∙ onward_same (suc level) (entry_of table q.address (suc level)) (look_of cells q (suc level) (entry_of table q.address (suc level))) (walk_from others q level) (walk_from cells q level) (read_from cells q level) (walk_same level) agree.1

  guarded_same : (narrow straight : Bool) (there here wide bent : Result (ℕ × Translation) WalkFault) (reads : List ℕ) → (Agree cells others reads → there ≡ here) → Agree cells others (cond narrow (cond straight reads []) []) → cond narrow (cond straight there bent) wide ≡ cond narrow (cond straight here bent) wide
  guarded_same true true there here wide bent reads same agree = same agree
  guarded_same true false there here wide bent reads same agree = refl
  guarded_same false straight there here wide bent reads same agree = refl

  found_same : (root : ℕ) → Agree cells others (entries_read cells root q) → found others root q ≡ found cells root q
  unfolding found entries_read
  found_same root agree = guarded_same (ltb root (2 ^ 44)) (canonical q.address) (walk_from others q 2 root) (walk_from cells q 2 root) _ _ (read_from cells q 2 root) (walk_same 2 root) agree

  last_same : (r : Result (ℕ × Translation) WalkFault) → last_step others q r ≡ last_step cells q r
  last_same (Ok leaf) = ap (λ (n : ℕ). cond (ltb (doubleword_of leaf.1.frame q.address) n) (Ok leaf.1) (stopped q leaf.1.level leaf.0 (FrameBeyond (beyond (doubleword_of leaf.1.frame q.address))))) same_length
  last_same (Err fault) = refl

  walked_same : (root : ℕ) → Agree cells others (entries_read cells root q) → walked others root q ≡ walked cells root q
  walked_same root agree = ap (last_step others q) (found_same root agree) ∙ last_same (found cells root q)

few_below : (reads : ℕ → List ℕ) (n : ℕ) (r : Result Step Stop) → ((next : ℕ) → length (reads next) ≤ n) → length (below reads r) ≤ n
few_below reads n (Ok (Pointer next)) few = few next
few_below reads n (Ok (Leaf leaf)) few = omega arith
few_below reads n (Err stop) few = omega arith

few_guarded : (narrow straight : Bool) (reads : List ℕ) → length reads ≤ 3 → length (cond narrow (cond straight reads []) []) ≤ 3
few_guarded true true reads h = h
few_guarded true false reads h = omega arith
few_guarded false straight reads h = omega arith

last_cons : (n : ℕ) (ns : List ℕ) → 0 < length ns → last_of (n ∷ ns) ≡ last_of ns
last_cons n [] h = absurd (omega arith)
last_cons n (m ∷ ns) h = refl

module _ (cells : List ℕ) (q : Access) where
  few_from : (level table : ℕ) → length (read_from cells q level table) ≤ level + 1
  unfolding read_from
  few_from zero table = omega arith
  few_from (suc level) table =
      let h = few_below (read_from cells q level) (level + 1) (look_of cells q (suc level) (entry_of table q.address (suc level))) (few_from level) in
      omega arith

  some_from : (level table : ℕ) → 0 < length (read_from cells q level table)
  unfolding read_from
  some_from zero table = omega arith
  some_from (suc level) table = omega arith

  last_onward : (level entry : ℕ) (r : Result Step Stop) (next : ℕ → Result (ℕ × Translation) WalkFault) (reads : ℕ → List ℕ) → ((t : ℕ) → 0 < length (reads t)) → ((t : ℕ) → last_of (reads t) ≡ named (next t)) → last_of (entry ∷ below reads r) ≡ named (onward q level entry next r)
  last_onward level entry (Ok (Pointer t)) next reads some last = last_cons entry (reads t) (some t) ∙ last t
  last_onward level entry (Ok (Leaf leaf)) next reads some last = refl
  last_onward level entry (Err stop) next reads some last = refl

  last_zero : (entry : ℕ) (r : Result Step Stop) → Some entry ≡ named (onward q 0 entry (λ _. stopped q 0 entry PointerAtZero) r)
  last_zero entry (Ok (Pointer t)) = refl
  last_zero entry (Ok (Leaf leaf)) = refl
  last_zero entry (Err stop) = refl

  last_from : (level table : ℕ) → last_of (read_from cells q level table) ≡ named (walk_from cells q level table)
  unfolding read_from walk_from
  last_from zero table = last_zero (entry_of table q.address 0) (look_of cells q 0 (entry_of table q.address 0))
  last_from (suc level) table =
      last_onward (suc level) (entry_of table q.address (suc level)) (look_of cells q (suc level) (entry_of table q.address (suc level))) (walk_from cells q level) (read_from cells q level) (some_from level) (last_from level)

  last_guarded : (narrow straight : Bool) (reads : List ℕ) (r : Result (ℕ × Translation) WalkFault) → last_of reads ≡ named r → last_of (cond narrow (cond straight reads []) []) ≡ named (cond narrow (cond straight r (Err (NotCanonical q.kind))) (Err (RootTooWide (record {}))))
  last_guarded true true reads r h = h
  last_guarded true false reads r h = refl
  last_guarded false straight reads r h = refl

pub reads_few : ReadsFew
unfolding entries_read found
reads_few cells root q =
    record {
      few = few_guarded (ltb root (2 ^ 44)) (canonical q.address) (read_from cells q 2 root) (few_from cells q 2 root);
      names = last_guarded cells q (ltb root (2 ^ 44)) (canonical q.address) (read_from cells q 2 root) (walk_from cells q 2 root) (last_from cells q 2 root);
      enough = λ others same agree. walked_same cells others same q root agree;
    }
