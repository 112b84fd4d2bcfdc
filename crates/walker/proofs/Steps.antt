-- How the walk's definition unfolds: at an entry, and from one level to the next.
use Rattle.std.proofs.Common.{◌≡◌, ℕ, zero, suc, ◌^◌, ◌<◌, ◌≤◌, true, false, ltb, List, length, get_or, Ok, Err, Result, sym, ap, ◌∙◌, arith}
use Rattle.std.proofs.lemmas.Bool.{lt-ltb, le-ltb, cond-true, cond-false}
use Rattle.memory.specs.Cells.{beyond}
use Rattle.sv39.specs.declared.access.Access.{Access}
use Rattle.walker.specs.declared.fault.Stop.{Stop}
use Rattle.walker.specs.declared.fault.Stop.TheVariants.{EntryBeyond, PointerAtZero, FrameBeyond}
use Rattle.walker.specs.declared.fault.WalkFault.{WalkFault}
use Rattle.walker.specs.declared.fault.WalkFault.TheVariants.{RootTooWide, NotCanonical}
use Rattle.walker.specs.declared.walking.Step.{Step}
use Rattle.walker.specs.declared.walking.Step.TheVariants.{Pointer, Leaf}
use Rattle.walker.specs.declared.walking.Translation.{Translation}
use Rattle.sv39.specs.Address.{canonical, entry_of, doubleword_of}
use Rattle.sv39.specs.Layout.{unpacked}
use Rattle.walker.specs.Walk.{decided, look_of, stopped, onward, walk_from, found, last_step, faulted, step_of}

module _ (cells : List ℕ) (q : Access) where
  pub look_inside : (level entry word : ℕ) → entry < length cells → get_or cells entry 0 ≡ word → look_of cells q level entry ≡ decided q level (unpacked word)
  unfolding look_of
  look_inside level entry word h e =
      cond-true (ltb entry (length cells)) _ _ (lt-ltb entry (length cells) h) ∙ ap (λ (w : ℕ). decided q level (unpacked w)) e

  pub look_past : (level entry : ℕ) → length cells ≤ entry → look_of cells q level entry ≡ Err (EntryBeyond (beyond entry))
  unfolding look_of
  look_past level entry h = cond-false (ltb entry (length cells)) _ _ (le-ltb entry (length cells) h)

module _ (q : Access) (level entry : ℕ) (next : ℕ → Result (ℕ × Translation) WalkFault) where
  onward_pointer : (r : Result Step Stop) (table : ℕ) → faulted q level entry r ≡ Ok (Pointer table) → onward q level entry next r ≡ next table
  onward_pointer (Ok (Pointer t)) table e = ap next cc
  onward_pointer (Ok (Leaf f)) table e = let z : ◌≡◌ {A = ℕ} 0 1 = cc in absurd (omega arith)
  onward_pointer (Err s) table e = let z : ◌≡◌ {A = ℕ} 0 1 = cc in absurd (omega arith)

  onward_leaf : (r : Result Step Stop) (leaf : Translation) → faulted q level entry r ≡ Ok (Leaf leaf) → onward q level entry next r ≡ Ok (entry, leaf)
  onward_leaf (Ok (Pointer t)) leaf e = let z : ◌≡◌ {A = ℕ} 0 1 = cc in absurd (omega arith)
  onward_leaf (Ok (Leaf f)) leaf e = let h : f ≡ leaf = cc in ap (λ (t : Translation). Ok (entry, t)) h
  onward_leaf (Err s) leaf e = let z : ◌≡◌ {A = ℕ} 0 1 = cc in absurd (omega arith)

  onward_fault : (r : Result Step Stop) (fault : WalkFault) → faulted q level entry r ≡ Err fault → onward q level entry next r ≡ Err fault
  onward_fault (Ok s) fault e = let z : ◌≡◌ {A = ℕ} 0 1 = cc in absurd (omega arith)
  onward_fault (Err s) fault e = let h = e in cc

-- the walk from a table, by what the step r at its entry came to
module _ (cells : List ℕ) (q : Access) (level table entry : ℕ) (r : Result Step WalkFault) (here : entry ≡ entry_of table q.address level) (step : r ≡ step_of cells q level entry) where
  stepped : r ≡ step_of cells q level (entry_of table q.address level)
  stepped = step ∙ ap (step_of cells q level) here

  pub on_leaf : (s : Step) (leaf : Translation) → r ≡ Ok s → s ≡ Leaf leaf → Ok (entry, leaf) ≡ walk_from cells q level table
  unfolding walk_from
  on_leaf s leaf w i = ap (λ (n : ℕ). Ok (n, leaf)) here ∙ sym (leaf_at level (sym stepped ∙ w ∙ ap Ok i))
    where
      leaf_at : (l : ℕ) → step_of cells q l (entry_of table q.address l) ≡ Ok (Leaf leaf) → walk_from cells q l table ≡ Ok (entry_of table q.address l, leaf)
      leaf_at zero e = onward_leaf q 0 _ _ _ leaf e
      leaf_at (suc l) e = onward_leaf q (suc l) _ _ _ leaf e

  pub on_fault : (fault : WalkFault) → r ≡ Err fault → Err fault ≡ walk_from cells q level table
  unfolding walk_from
  on_fault fault w = sym (fault_at level (sym stepped ∙ w))
    where
      fault_at : (l : ℕ) → step_of cells q l (entry_of table q.address l) ≡ Err fault → walk_from cells q l table ≡ Err fault
      fault_at zero e = onward_fault q 0 _ _ _ fault e
      fault_at (suc l) e = onward_fault q (suc l) _ _ _ fault e

  pub on_pointer : (below next : ℕ) (s : Step) → level ≡ suc below → r ≡ Ok s → s ≡ Pointer next → walk_from cells q level table ≡ walk_from cells q below next
  unfolding walk_from
  on_pointer below next s l w i = pointer_at level l (sym stepped ∙ w ∙ ap Ok i)
    where
      pointer_at : (k : ℕ) → k ≡ suc below → step_of cells q k (entry_of table q.address k) ≡ Ok (Pointer next) → walk_from cells q k table ≡ walk_from cells q below next
      pointer_at zero l e = absurd (omega arith)
      pointer_at (suc k) l e =
          let h : k ≡ below = omega arith in
          onward_pointer q (suc k) _ (walk_from cells q k) _ next e ∙ ap (λ (n : ℕ). walk_from cells q n next) h

pub on_pointer_at_zero : (cells : List ℕ) (q : Access) (table entry : ℕ) (r : Result Step WalkFault) → entry ≡ entry_of table q.address 0 → r ≡ step_of cells q 0 entry → (s : Step) (next : ℕ) → r ≡ Ok s → s ≡ Pointer next → stopped q 0 entry PointerAtZero ≡ walk_from cells q 0 table
unfolding walk_from
on_pointer_at_zero cells q table entry r here step s next w i =
    ap (λ (n : ℕ). stopped q 0 n PointerAtZero) here
    ∙ sym (onward_pointer q 0 (entry_of table q.address 0) (λ _. stopped q 0 (entry_of table q.address 0) PointerAtZero) _ next (ap (step_of cells q 0) (sym here) ∙ sym step ∙ w ∙ ap Ok i))

-- the steps before the tables are looked at
module _ (cells : List ℕ) (root : ℕ) (q : Access) where
  pub found_wide : 2 ^ 44 ≤ root → found cells root q ≡ Err (RootTooWide (record {}))
  unfolding found
  found_wide h = cond-false (ltb root (2 ^ 44)) _ _ (le-ltb root (2 ^ 44) h)

  pub found_not_canonical : root < 2 ^ 44 → canonical q.address ≡ false → found cells root q ≡ Err (NotCanonical q.kind)
  unfolding found
  found_not_canonical h e = cond-true (ltb root (2 ^ 44)) _ _ (lt-ltb root (2 ^ 44) h) ∙ cond-false (canonical q.address) _ _ e

  pub found_below : root < 2 ^ 44 → canonical q.address ≡ true → found cells root q ≡ walk_from cells q 2 root
  unfolding found
  found_below h e = cond-true (ltb root (2 ^ 44)) _ _ (lt-ltb root (2 ^ 44) h) ∙ cond-true (canonical q.address) _ _ e

-- the last step
module _ (cells : List ℕ) (q : Access) (entry : ℕ) (leaf : Translation) where
  pub last_inside : doubleword_of leaf.frame q.address < length cells → last_step cells q (Ok (entry, leaf)) ≡ Ok leaf
  last_inside h = cond-true (ltb (doubleword_of leaf.frame q.address) (length cells)) _ _ (lt-ltb (doubleword_of leaf.frame q.address) (length cells) h)

  pub last_past : length cells ≤ doubleword_of leaf.frame q.address → last_step cells q (Ok (entry, leaf)) ≡ stopped q leaf.level entry (FrameBeyond (beyond (doubleword_of leaf.frame q.address)))
  last_past h = cond-false (ltb (doubleword_of leaf.frame q.address) (length cells)) _ _ (le-ltb (doubleword_of leaf.frame q.address) (length cells) h)
