-- A leaf that a walk found serves every other access to the page that its flags let pass.
use Rattle.std.proofs.Common.{◌≡◌, ℕ, zero, suc, ◌^◌, Bool, true, false, cond, not, ◌&&◌, ltb, List, length, get_or, Ok, Err, Result, sym, refl, ap, ◌∙◌, arith}
use Rattle.std.proofs.lemmas.Bool.{cond-false}
use Rattle.memory.specs.Cells.{beyond}
use Rattle.sv39.specs.declared.access.Access.{Access}
use Rattle.sv39.specs.declared.entry.Entry.{Entry}
use Rattle.sv39.specs.declared.entry.Flags.{Flags}
use Rattle.walker.specs.declared.fault.Stop.{Stop}
use Rattle.walker.specs.declared.fault.Stop.TheVariants.{EntryBeyond, Invalid, WriteOnly, PointerAtZero, Rights, Misaligned, Marks}
use Rattle.walker.specs.declared.fault.WalkFault.{WalkFault}
use Rattle.walker.specs.declared.fault.WalkFault.TheVariants.{RootTooWide, NotCanonical}
use Rattle.walker.specs.declared.walking.Step.{Step}
use Rattle.walker.specs.declared.walking.Step.TheVariants.{Pointer, Leaf}
use Rattle.walker.specs.declared.walking.Translation.{Translation}
use Rattle.sv39.specs.Address.{canonical, page_number, entry_of, doubleword_of}
use Rattle.walker.specs.House.{pointer, pointer_unseen, seen}
use Rattle.sv39.specs.Layout.{unpacked}
use Rattle.walker.specs.Laws.{LeafServes}
use Rattle.sv39.specs.Rules.{permits, marked}
use Rattle.walker.specs.Walk.{misaligned, translated, decided, look_of, stopped, onward, walk_from, found, last_step}
use Rattle.walker.proofs.Pages.{number_of_page, canonical_same, entry_same_page, frame_same_page}
use Rattle.walker.proofs.Steps.{last_inside}

-- the tests of an entry in their order
abbrev tried : Bool → Bool → Bool → Bool → Bool → Bool → ℕ → Translation → Result Step Stop
tried invalid writeOnly points denied skewed unmarked next leaf =
    cond invalid (Err Invalid) (cond writeOnly (Err WriteOnly) (cond points (Ok (Pointer next)) (cond denied (Err Rights) (cond skewed (Err Misaligned) (cond unmarked (Err Marks) (Ok (Leaf leaf)))))))

-- a pointer is one whatever the access
tried_pointer : (i w p d s u d' s' u' : Bool) (next table : ℕ) (leaf leaf' : Translation) → tried i w p d s u next leaf ≡ Ok (Pointer table) → tried i w p d' s' u' next leaf' ≡ Ok (Pointer table)
tried_pointer true w p d s u d' s' u' next table leaf leaf' e = let z : ◌≡◌ {A = ℕ} 0 1 = cc in absurd (omega arith)
tried_pointer false true p d s u d' s' u' next table leaf leaf' e = let z : ◌≡◌ {A = ℕ} 0 1 = cc in absurd (omega arith)
tried_pointer false false true d s u d' s' u' next table leaf leaf' e = e
tried_pointer false false false true s u d' s' u' next table leaf leaf' e = let z : ◌≡◌ {A = ℕ} 0 1 = cc in absurd (omega arith)
tried_pointer false false false false true u d' s' u' next table leaf leaf' e = let z : ◌≡◌ {A = ℕ} 0 1 = cc in absurd (omega arith)
tried_pointer false false false false false true d' s' u' next table leaf leaf' e = let z : ◌≡◌ {A = ℕ} 0 1 = cc in absurd (omega arith)
tried_pointer false false false false false false d' s' u' next table leaf leaf' e = let z : ◌≡◌ {A = ℕ} 0 1 = cc in absurd (omega arith)

-- a leaf passed every test
tried_leaf : (i w p d s u : Bool) (next : ℕ) (leaf t : Translation) → tried i w p d s u next leaf ≡ Ok (Leaf t) → (i ≡ false) × (w ≡ false) × (p ≡ false) × (s ≡ false) × (leaf ≡ t)
tried_leaf true w p d s u next leaf t e = let z : ◌≡◌ {A = ℕ} 0 1 = cc in absurd (omega arith)
tried_leaf false true p d s u next leaf t e = let z : ◌≡◌ {A = ℕ} 0 1 = cc in absurd (omega arith)
tried_leaf false false true d s u next leaf t e = let z : ◌≡◌ {A = ℕ} 0 1 = cc in absurd (omega arith)
tried_leaf false false false true s u next leaf t e = let z : ◌≡◌ {A = ℕ} 0 1 = cc in absurd (omega arith)
tried_leaf false false false false true u next leaf t e = let z : ◌≡◌ {A = ℕ} 0 1 = cc in absurd (omega arith)
tried_leaf false false false false false true next leaf t e = let z : ◌≡◌ {A = ℕ} 0 1 = cc in absurd (omega arith)
tried_leaf false false false false false false next leaf t e = (refl, refl, refl, refl, cc)

leaf_tried : (i w p d s u : Bool) (next : ℕ) (leaf : Translation) → i ≡ false → w ≡ false → p ≡ false → d ≡ false → s ≡ false → u ≡ false → tried i w p d s u next leaf ≡ Ok (Leaf leaf)
leaf_tried i w p d s u next leaf hi hw hp hd hs hu =
    cond-false i _ _ hi ∙ cond-false w _ _ hw ∙ cond-false p _ _ hp ∙ cond-false d _ _ hd ∙ cond-false s _ _ hs ∙ cond-false u _ _ hu

-- of a leaf the walk looks at every flag
pointer_seen : (b : Bool) (f : Flags) → pointer (cond b (pointer_unseen f) f) ≡ pointer f
pointer_seen true f = refl
pointer_seen false f = refl

seen_leaf : (e : Entry) → pointer (seen e).flags ≡ false → (seen e).flags ≡ e.flags
seen_leaf e h = cond-false (pointer e.flags) _ _ (sym (pointer_seen (pointer e.flags) e.flags) ∙ h)

-- what is accepted under a test is accepted under the same test
kept_under : (b : Bool) (r r' : Result Step Stop) (s : Step) (stop : Stop) → (r ≡ Ok s → r' ≡ Ok s) → cond b r (Err stop) ≡ Ok s → cond b r' (Err stop) ≡ Ok s
kept_under true r r' s stop h e = h e
kept_under false r r' s stop h e = let z : ◌≡◌ {A = ℕ} 0 1 = cc in absurd (omega arith)

found_under : (b : Bool) (r r' : Result (ℕ × Translation) WalkFault) (leaf : ℕ × Translation) (fault : WalkFault) → (r ≡ Ok leaf → r' ≡ Ok leaf) → cond b r (Err fault) ≡ Ok leaf → cond b r' (Err fault) ≡ Ok leaf
found_under true r r' leaf fault h e = h e
found_under false r r' leaf fault h e = let z : ◌≡◌ {A = ℕ} 0 1 = cc in absurd (omega arith)

module _ (q other : Access) (same : page_number other.address ≡ page_number q.address) where
  decided_pointer : (level table : ℕ) (e : Entry) → decided q level e ≡ Ok (Pointer table) → decided other level e ≡ Ok (Pointer table)
  decided_pointer level table e h =
      tried_pointer (not (seen e).flags.v) ((seen e).flags.w && not (seen e).flags.r) (pointer (seen e).flags) (not (permits (seen e).flags q)) (misaligned (seen e).ppn level) (not (marked (seen e).flags q.kind)) (not (permits (seen e).flags other)) (misaligned (seen e).ppn level) (not (marked (seen e).flags other.kind)) (seen e).ppn table (translated q level e) (translated other level e) h

  translated_same : (level : ℕ) (e : Entry) → translated other level e ≡ translated q level e
  translated_same level e =
      ap (λ (f : ℕ). record { frame = f; level = level; leaf = e }) (frame_same_page other.address q.address same e.ppn level)

  module _ (t : Translation) (may : permits t.leaf.flags other ≡ true) (has : marked t.leaf.flags other.kind ≡ true) where
    decided_leaf : (level : ℕ) (e : Entry) → decided q level e ≡ Ok (Leaf t) → decided other level e ≡ Ok (Leaf t)
    decided_leaf level e h =
        let r = tried_leaf (not (seen e).flags.v) ((seen e).flags.w && not (seen e).flags.r) (pointer (seen e).flags) (not (permits (seen e).flags q)) (misaligned (seen e).ppn level) (not (marked (seen e).flags q.kind)) (seen e).ppn (translated q level e) t h in
        let f : t.leaf.flags ≡ (seen e).flags = ap (λ (x : Translation). x.leaf.flags) (sym r.4) ∙ sym (seen_leaf e r.2) in
        leaf_tried (not (seen e).flags.v) ((seen e).flags.w && not (seen e).flags.r) (pointer (seen e).flags) (not (permits (seen e).flags other)) (misaligned (seen e).ppn level) (not (marked (seen e).flags other.kind)) (seen e).ppn (translated other level e)
        r.0 r.1 r.2 (ap not (ap (λ (g : Flags). permits g other) (sym f) ∙ may)) r.3 (ap not (ap (λ (g : Flags). marked g other.kind) (sym f) ∙ has))
        ∙ ap (λ (x : Translation). Ok (Leaf x)) (translated_same level e ∙ r.4)

    module _ (cells : List ℕ) where
      look_pointer : (level entry table : ℕ) → look_of cells q level entry ≡ Ok (Pointer table) → look_of cells other level entry ≡ Ok (Pointer table)
      unfolding look_of
      look_pointer level entry table h =
          kept_under (ltb entry (length cells)) (decided q level (unpacked (get_or cells entry 0))) (decided other level (unpacked (get_or cells entry 0))) (Pointer table) (EntryBeyond (beyond entry)) (decided_pointer level table (unpacked (get_or cells entry 0))) h

      look_leaf : (level entry : ℕ) → look_of cells q level entry ≡ Ok (Leaf t) → look_of cells other level entry ≡ Ok (Leaf t)
      unfolding look_of
      look_leaf level entry h =
          kept_under (ltb entry (length cells)) (decided q level (unpacked (get_or cells entry 0))) (decided other level (unpacked (get_or cells entry 0))) (Leaf t) (EntryBeyond (beyond entry)) (decided_leaf level (unpacked (get_or cells entry 0))) h

      onward_serves : (level entry n : ℕ) (r r' : Result Step Stop) (next next' : ℕ → Result (ℕ × Translation) WalkFault) → ((x : ℕ) → r ≡ Ok (Pointer x) → r' ≡ Ok (Pointer x)) → (r ≡ Ok (Leaf t) → r' ≡ Ok (Leaf t)) → ((x : ℕ) → next x ≡ Ok (n, t) → next' x ≡ Ok (n, t)) → onward q level entry next r ≡ Ok (n, t) → onward other level entry next' r' ≡ Ok (n, t)
      onward_serves level entry n (Ok (Pointer x)) r' next next' hp hl hn e = ap (onward other level entry next') (hp x refl) ∙ hn x e
      onward_serves level entry n (Ok (Leaf leaf)) r' next next' hp hl hn e =
          let p : ◌≡◌ {A = ℕ × Translation} (entry, leaf) (n, t) = cc in
          let l = ap (λ (x : ℕ × Translation). x.1) p in
          let k = ap (λ (x : ℕ × Translation). x.0) p in
          ap (onward other level entry next') (hl (ap (λ (x : Translation). Ok (Leaf x)) l)) ∙ ap (λ (i : ℕ). Ok (i, t)) k
      onward_serves level entry n (Err stop) r' next next' hp hl hn e = let z : ◌≡◌ {A = ℕ} 0 1 = cc in absurd (omega arith)

      walk_serves : (level table n : ℕ) → walk_from cells q level table ≡ Ok (n, t) → walk_from cells other level table ≡ Ok (n, t)
      unfolding walk_from
      walk_serves zero table n e =
          let k = entry_same_page other.address q.address same table 0 in
          ap (λ (i : ℕ). onward other 0 i (λ _. stopped other 0 i PointerAtZero) (look_of cells other 0 i)) k
          ∙ onward_serves 0 (entry_of table q.address 0) n (look_of cells q 0 (entry_of table q.address 0)) (look_of cells other 0 (entry_of table q.address 0)) (λ _. stopped q 0 (entry_of table q.address 0) PointerAtZero) (λ _. stopped other 0 (entry_of table q.address 0) PointerAtZero) (look_pointer 0 (entry_of table q.address 0)) (look_leaf 0 (entry_of table q.address 0)) (λ x h. let z : ◌≡◌ {A = ℕ} 0 1 = cc in absurd (omega arith)) e
      walk_serves (suc level) table n e =
          let k = entry_same_page other.address q.address same table (suc level) in
          ap (λ (i : ℕ). onward other (suc level) i (walk_from cells other level) (look_of cells other (suc level) i)) k
          ∙ onward_serves (suc level) (entry_of table q.address (suc level)) n (look_of cells q (suc level) (entry_of table q.address (suc level))) (look_of cells other (suc level) (entry_of table q.address (suc level))) (walk_from cells q level) (walk_from cells other level) (look_pointer (suc level) (entry_of table q.address (suc level))) (look_leaf (suc level) (entry_of table q.address (suc level))) (λ x. walk_serves level x n) e

      found_serves : (root n : ℕ) → found cells root q ≡ Ok (n, t) → found cells root other ≡ Ok (n, t)
      unfolding found
      found_serves root n e =
          found_under (ltb root (2 ^ 44)) (cond (canonical q.address) (walk_from cells q 2 root) (Err (NotCanonical q.kind))) (cond (canonical other.address) (walk_from cells other 2 root) (Err (NotCanonical other.kind))) (n, t) (RootTooWide (record {}))
          (λ h.
          ap (λ (b : Bool). cond b (walk_from cells other 2 root) (Err (NotCanonical other.kind))) (canonical_same other.address q.address same)
          ∙ straight (canonical q.address) (walk_from cells q 2 root) (walk_from cells other 2 root) (walk_serves 2 root n) h) e
        where
          straight : (b : Bool) (r r' : Result (ℕ × Translation) WalkFault) → (r ≡ Ok (n, t) → r' ≡ Ok (n, t)) → cond b r (Err (NotCanonical q.kind)) ≡ Ok (n, t) → cond b r' (Err (NotCanonical other.kind)) ≡ Ok (n, t)
          straight true r r' h k = h k
          straight false r r' h k = let z : ◌≡◌ {A = ℕ} 0 1 = cc in absurd (omega arith)

-- an answered walk found its leaf
pub leaf_found : (cells : List ℕ) (q : Access) (t : Translation) (r : Result (ℕ × Translation) WalkFault) → last_step cells q r ≡ Ok t → (n : ℕ) × (r ≡ Ok (n, t))
leaf_found cells q t (Ok leaf) e =
    (leaf.0, inside (ltb (doubleword_of leaf.1.frame q.address) (length cells)) _ e)
  where
    inside : (b : Bool) (fault : WalkFault) → cond b (Ok leaf.1) (Err fault) ≡ Ok t → ◌≡◌ {A = Result (ℕ × Translation) WalkFault} (Ok leaf) (Ok (leaf.0, t))
    inside true fault e = let h : leaf.1 ≡ t = cc in ap (λ (x : Translation). Ok (leaf.0, x)) h
    inside false fault e = let z : ◌≡◌ {A = ℕ} 0 1 = cc in absurd (omega arith)
leaf_found cells q t (Err fault) e = let z : ◌≡◌ {A = ℕ} 0 1 = cc in absurd (omega arith)

pub leaf_serves : LeafServes
leaf_serves cells root q other t e same may has inside =
    let n = number_of_page other.address q.address same in
    let l = leaf_found cells q t (found cells root q) e in
    ap (last_step cells other) (found_serves q other n t may has cells root l.0 l.1) ∙ last_inside cells other l.0 t inside
