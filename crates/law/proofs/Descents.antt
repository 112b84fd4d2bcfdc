-- From a space's root down to a page: how the walk goes, and what the calls find there.
use Rattle.std.proofs.Common.{◌≡◌, ℕ, zero, suc, ◌+◌, ◌*◌, ◌/◌, ◌^◌, ◌<◌, ◌≤◌, true, false, List, get_or, Some, None, Ok, Err, Option, Result, sym, refl, ap, ◌∙◌, subst, inl, inr, ⊎_elim, mod-lt, arith, lit<}
use Rattle.std.proofs.lemmas.Bool.{cases_Bool, cond-false}
use Rattle.frames.specs.Frames.{Frames}
use Rattle.sv39.specs.declared.access.Access.{Access}
use Rattle.sv39.specs.declared.entry.Entry.{Entry}
use Rattle.std.proofs.lemmas.Option.{}
use Rattle.sv39.specs.declared.entry.Rights.{Rights}
use Rattle.sv39.specs.Address.{index, canonical, entry_of, frame_of}
use Rattle.sv39.specs.Layout.{unpacked}
use Rattle.sv39.specs.Making.{pointer_doubleword, leaf_doubleword, leaf_flags}
use Rattle.tables.specs.Tables.{table_of, table_below_of, low_below, valid_at, leaf_in, leaf_of}
use Rattle.walker.specs.declared.fault.Stop.{Stop}
use Rattle.walker.specs.declared.fault.Stop.TheVariants.{Invalid, PointerAtZero}
use Rattle.walker.specs.declared.fault.WalkFault.{WalkFault}
use Rattle.walker.specs.declared.walking.Step.{Step}
use Rattle.walker.specs.declared.walking.Step.TheVariants.{Pointer, Leaf}
use Rattle.walker.specs.declared.walking.Translation.{Translation}
use Rattle.walker.specs.Walk.{decided, look_of, onward, stopped, walk_from, found, walked}
use Rattle.walker.proofs.Serving.{leaf_found}
use Rattle.walker.proofs.Steps.{look_inside, found_below, found_not_canonical}
use Rattle.machine.specs.Rights.{valid}
use Rattle.law.proofs.Entries.{plain, unpacked_pointer, unpacked_leaf, zero_invalid, zero_no_table, zero_not_valid, pointer_leads, pointer_table, leaf_decided, leaf_no_pointer}
use Rattle.law.proofs.Places.{Place, root, mid, low, Holder, in_leaf, Standing, Fit, Leads, Maps, Tables}
use Rattle.law.proofs.TableSteps.{place_inside}
use Rattle.law.proofs.Words.{word_at}

-- what the tables hold on the way to a page
pub data Descent (cells : List ℕ) (at : ℕ → Place) (s r a : ℕ) : Type 0 where
  no_mid : word_at cells r (index a 2) ≡ 0 → Descent cells at s r a
  no_low : (m : ℕ) → word_at cells r (index a 2) ≡ pointer_doubleword m → at m ≡ mid s (index a 2) → word_at cells m (index a 1) ≡ 0 → Descent cells at s r a
  comes : (m l : ℕ) → word_at cells r (index a 2) ≡ pointer_doubleword m → at m ≡ mid s (index a 2) → word_at cells m (index a 1) ≡ pointer_doubleword l → at l ≡ low s (index a 2) (index a 1) → Descent cells at s r a

-- the leaf of a page
pub record LeafAt (cells : List ℕ) (at : ℕ → Place) (held : ℕ → Holder) (s a : ℕ) : Type 0 where
  pub table : ℕ
  pub frame : ℕ
  pub rights : Rights
  pub place : at table ≡ low s (index a 2) (index a 1)
  pub allowed : valid rights ≡ true
  pub word : word_at cells table (index a 0) ≡ leaf_doubleword frame rights
  pub there : held frame ≡ in_leaf table (index a 0)

-- what a walk came to is the leaf of its page
pub record Reaches (cells : List ℕ) (at : ℕ → Place) (held : ℕ → Holder) (s : ℕ) (q : Access) (t : Translation) : Type 0 where
  pub leaf : LeafAt cells at held s q.address
  pub frame : t.frame ≡ leaf.frame
  pub flags : t.leaf.flags ≡ leaf_flags leaf.rights
  pub address : canonical q.address ≡ true

-- what a call found at a page is the leaf of that page
pub record Finds (cells : List ℕ) (at : ℕ → Place) (held : ℕ → Holder) (s a place : ℕ) (e : Entry) : Type 0 where
  pub leaf : LeafAt cells at held s a
  pub where_it_is : place ≡ 512 * leaf.table + index a 0
  pub ppn : e.ppn ≡ leaf.frame
  pub flags : e.flags ≡ leaf_flags leaf.rights
  pub rest : (e.rsw ≡ 0) × (e.top ≡ 0)

pub index_below : (a level : ℕ) → index a level < 512
index_below a level = mod-lt (a / 2 ^ (12 + 9 * level)) (lit< tt)

module _ (cells : List ℕ) (v : Frames) (roots : List (Option ℕ)) (at : ℕ → Place) (held : ℕ → Holder) (T : Tables cells v roots at held) (few : v.limit ≤ 1024) where
  pub narrow : (t : ℕ) → Standing (at t) → t < 2 ^ 44
  narrow t s = let l = (T.placed t s).0 in omega arith

  frame_narrow : (f t k : ℕ) → held f ≡ in_leaf t k → f < 2 ^ 44
  frame_narrow f t k e = let l = (T.mapped f t k e).0 in omega arith

  module _ (s r : ℕ) (rooted : get_or roots s None ≡ Some r) (a : ℕ) where
    root_place : at r ≡ root s
    root_place = T.rooted s r rooted

    by_low : (m : ℕ) → word_at cells r (index a 2) ≡ pointer_doubleword m → at m ≡ mid s (index a 2) → Leads at (low s (index a 2) (index a 1)) (word_at cells m (index a 1)) → Descent cells at s r a
    by_low m e p (inl z) = no_low m e p z
    by_low m e p (inr l) = comes m l.to e p l.word l.there

    by_mid : Leads at (mid s (index a 2)) (word_at cells r (index a 2)) → Descent cells at s r a
    by_mid (inl z) = no_mid z
    by_mid (inr l) =
        by_low l.to l.word l.there
        (subst (λ (p : Place). Fit at held p l.to (index a 1) (word_at cells l.to (index a 1))) l.there (T.fits l.to (index a 1) (index_below a 1)))

    pub descent : Descent cells at s r a
    descent =
        by_mid (subst (λ (p : Place). Fit at held p r (index a 2) (word_at cells r (index a 2))) root_place (T.fits r (index a 2) (index_below a 2)))

  -- how the calls go down
  pub table_none : (t a level : ℕ) → word_at cells t (index a level) ≡ 0 → table_below_of cells v.limit t a level ≡ None
  table_none t a level z = ap (λ (w : ℕ). table_of v.limit (unpacked w)) z ∙ zero_no_table v.limit

  pub table_some : (t a level m : ℕ) → word_at cells t (index a level) ≡ pointer_doubleword m → Standing (at m) → table_below_of cells v.limit t a level ≡ Some m
  table_some t a level m e st =
      ap (λ (w : ℕ). table_of v.limit (unpacked w)) e ∙ ap (table_of v.limit) (unpacked_pointer m (narrow m st))
      ∙ pointer_table v.limit m (narrow m st) (T.placed m st).0

  -- how the walk goes down
  module _ (q : Access) where
    look_at : (level t : ℕ) → Standing (at t) → (w : ℕ) → word_at cells t (index q.address level) ≡ w → look_of cells q level (entry_of t q.address level) ≡ decided q level (unpacked w)
    look_at level t st w e =
        look_inside cells q level (entry_of t q.address level) w (place_inside cells v roots at held T t (index q.address level) st (index_below q.address level)) e

    walk_stops : (level t : ℕ) → Standing (at t) → word_at cells t (index q.address level) ≡ 0 → walk_from cells q level t ≡ stopped q level (entry_of t q.address level) Invalid
    unfolding walk_from
    walk_stops zero t st z = ap (onward q 0 (entry_of t q.address 0) _) (look_at 0 t st 0 z ∙ zero_invalid q 0)
    walk_stops (suc level) t st z = ap (onward q (suc level) (entry_of t q.address (suc level)) (walk_from cells q level)) (look_at (suc level) t st 0 z ∙ zero_invalid q (suc level))

    walk_down : (level t m : ℕ) → Standing (at t) → word_at cells t (index q.address (suc level)) ≡ pointer_doubleword m → Standing (at m) → walk_from cells q (suc level) t ≡ walk_from cells q level m
    unfolding walk_from
    walk_down level t m st e sm =
        ap (onward q (suc level) (entry_of t q.address (suc level)) (walk_from cells q level))
        (look_at (suc level) t st (pointer_doubleword m) e ∙ ap (decided q (suc level)) (unpacked_pointer m (narrow m sm)) ∙ pointer_leads q (suc level) m (narrow m sm))

    -- a look that is no pointer ends in its leaf
    onward_leaf : (entry n : ℕ) (t : Translation) (d : Result Step Stop) → ((x : ℕ) → d ≡ Ok (Pointer x) → ⊥) → onward q 0 entry (λ _. stopped q 0 entry PointerAtZero) d ≡ Ok (n, t) → d ≡ Ok (Leaf t)
    onward_leaf entry n t (Ok (Pointer x)) ne e = absurd (ne x refl)
    onward_leaf entry n t (Ok (Leaf u)) ne e =
        let p : ◌≡◌ {A = ℕ × Translation} (entry, u) (n, t) = cc in
        ap (λ (x : ℕ × Translation). Ok (Leaf x.1)) p
    onward_leaf entry n t (Err stop) ne e = let z : ◌≡◌ {A = ℕ} 0 1 = cc in absurd (omega arith)

    fault_not_leaf : (fault : WalkFault) (n : ℕ) (t : Translation) → ◌≡◌ {A = Result (ℕ × Translation) WalkFault} (Err fault) (Ok (n, t)) → ⊥
    fault_not_leaf fault n t e = let z : ◌≡◌ {A = ℕ} 0 1 = cc in omega arith

    low_walk : (s l n : ℕ) (t : Translation) → canonical q.address ≡ true → at l ≡ low s (index q.address 2) (index q.address 1) → Maps held l (index q.address 0) (word_at cells l (index q.address 0)) → walk_from cells q 0 l ≡ Ok (n, t) → Reaches cells at held s q t
    unfolding walk_from
    low_walk s l n t c p (inl z) e =
        absurd (fault_not_leaf _ n t (sym (walk_stops 0 l (subst Standing (sym p) tt) z) ∙ e))
    low_walk s l n t c p (inr lf) e =
        let a : ℕ = q.address in
        let h = frame_narrow lf.frame l (index a 0) lf.there in
        let d = plain (leaf_flags lf.rights) lf.frame h in
        let look = look_at 0 l (subst Standing (sym p) tt) (leaf_doubleword lf.frame lf.rights) lf.word ∙ ap (decided q 0) (unpacked_leaf lf.frame h lf.rights) in
        let is = leaf_decided lf.rights q 0 lf.frame h lf.allowed t
        (onward_leaf (entry_of l a 0) n t (decided q 0 d) (leaf_no_pointer lf.rights q 0 lf.frame h lf.allowed) (sym (ap (onward q 0 (entry_of l a 0) (λ _. stopped q 0 (entry_of l a 0) PointerAtZero)) look) ∙ e)) in
        let whole : frame_of lf.frame a 0 ≡ lf.frame = omega arith in
        record {
          leaf = record { table = l; frame = lf.frame; rights = lf.rights; place = p; allowed = lf.allowed; word = lf.word; there = lf.there };
          frame = ap (λ (x : Translation). x.frame) (sym is) ∙ whole;
          flags = ap (λ (x : Translation). x.leaf.flags) (sym is);
          address = c;
        }

    module _ (s r : ℕ) (rooted : get_or roots s None ≡ Some r) where
      st_root : Standing (at r)
      st_root = subst Standing (sym (T.rooted s r rooted)) tt

      from_descent : (n : ℕ) (t : Translation) → canonical q.address ≡ true → Descent cells at s r q.address → walk_from cells q 2 r ≡ Ok (n, t) → Reaches cells at held s q t
      from_descent n t c (no_mid z) e = absurd (fault_not_leaf _ n t (sym (walk_stops 2 r st_root z) ∙ e))
      from_descent n t c (no_low m w p z) e =
          let sm : Standing (at m) = subst Standing (sym p) tt in
          absurd (fault_not_leaf _ n t (sym (walk_down 1 r m st_root w sm ∙ walk_stops 1 m sm z) ∙ e))
      from_descent n t c (comes m l w p x y) e =
          let sm : Standing (at m) = subst Standing (sym p) tt in
          let sl : Standing (at l) = subst Standing (sym y) tt in
          low_walk s l n t c y
          (subst (λ (z : Place). Fit at held z l (index q.address 0) (word_at cells l (index q.address 0))) y (T.fits l (index q.address 0) (index_below q.address 0)))
          (sym (walk_down 1 r m st_root w sm ∙ walk_down 0 m l sm x sl) ∙ e)

      pub walk_reaches : (t : Translation) → walked cells r q ≡ Ok t → Reaches cells at held s q t
      walk_reaches t e =
          let f = leaf_found cells q t (found cells r q) e in
          let h = narrow r st_root in
          ⊎_elim
          (λ (c : canonical q.address ≡ true).
          from_descent f.0 t c (descent s r rooted q.address) (sym (found_below cells r q h c) ∙ f.1))
          (λ (c : canonical q.address ≡ false).
          absurd (fault_not_leaf _ f.0 t (sym (found_not_canonical cells r q h c) ∙ f.1))) (cases_Bool (canonical q.address))

  -- what protect and unmap find
  module _ (s r : ℕ) (rooted : get_or roots s None ≡ Some r) (a : ℕ) where
    none_not_some : (x : ℕ × Entry) → ◌≡◌ {A = Option (ℕ × Entry)} None (Some x) → ⊥
    none_not_some x e = let z : ◌≡◌ {A = ℕ} 0 1 = cc in omega arith

    low_leaf : (l place : ℕ) (e : Entry) → at l ≡ low s (index a 2) (index a 1) → Maps held l (index a 0) (word_at cells l (index a 0)) → leaf_in cells a (Some l) ≡ Some (place, e) → Finds cells at held s a place e
    low_leaf l place e p (inl z) f =
        absurd (none_not_some (place, e) (sym (ap (λ (w : ℕ). valid_at (entry_of l a 0) (unpacked w)) z ∙ cond-false (unpacked 0).flags.v _ _ zero_not_valid) ∙ f))
    low_leaf l place e p (inr lf) f =
        let h = frame_narrow lf.frame l (index a 0) lf.there in
        let is = sym (ap (λ (w : ℕ). valid_at (entry_of l a 0) (unpacked w)) lf.word ∙ ap (valid_at (entry_of l a 0)) (unpacked_leaf lf.frame h lf.rights)) ∙ f in
        let pair : ◌≡◌ {A = ℕ × Entry} (entry_of l a 0, plain (leaf_flags lf.rights) lf.frame h) (place, e) = cc in
        let entry = ap (λ (x : ℕ × Entry). x.1) pair in
        record {
          leaf = record { table = l; frame = lf.frame; rights = lf.rights; place = p; allowed = lf.allowed; word = lf.word; there = lf.there };
          where_it_is = sym (ap (λ (x : ℕ × Entry). x.0) pair);
          ppn = ap (λ (x : Entry). x.ppn) (sym entry);
          flags = ap (λ (x : Entry). x.flags) (sym entry);
          rest = (ap (λ (x : Entry). x.rsw) (sym entry), ap (λ (x : Entry). x.top) (sym entry));
        }

    finds_by : (place : ℕ) (e : Entry) → Descent cells at s r a → leaf_of cells v.limit r a ≡ Some (place, e) → Finds cells at held s a place e
    finds_by place e (no_mid z) f =
        absurd (none_not_some (place, e) (sym (ap (λ (o : Option ℕ). leaf_in cells a (low_below cells v.limit a o)) (table_none r a 2 z)) ∙ f))
    finds_by place e (no_low m w p z) f =
        absurd
        (none_not_some (place, e)
        (sym (ap (λ (o : Option ℕ). leaf_in cells a (low_below cells v.limit a o)) (table_some r a 2 m w (subst Standing (sym p) tt)) ∙ ap (leaf_in cells a) (table_none m a 1 z)) ∙ f))
    finds_by place e (comes m l w p x y) f =
        low_leaf l place e y
        (subst (λ (z : Place). Fit at held z l (index a 0) (word_at cells l (index a 0))) y (T.fits l (index a 0) (index_below a 0)))
        (sym (ap (λ (o : Option ℕ). leaf_in cells a (low_below cells v.limit a o)) (table_some r a 2 m w (subst Standing (sym p) tt)) ∙ ap (leaf_in cells a) (table_some m a 1 l x (subst Standing (sym y) tt))) ∙ f)

    pub leaf_finds : (place : ℕ) (e : Entry) → leaf_of cells v.limit r a ≡ Some (place, e) → Finds cells at held s a place e
    leaf_finds place e f = finds_by place e (descent s r rooted a) f
