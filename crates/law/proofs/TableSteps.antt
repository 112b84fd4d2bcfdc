-- What is done to tables keeps what always holds of them.
use Rattle.std.proofs.Common.{◌≡◌, ℕ, ◌+◌, ◌*◌, ◌<◌, ◌≤◌, true, ◌⊎◌, List, length, get_or, set, Some, None, Option, sym, refl, ap, ◌∙◌, subst, inl, inr, ⊎_elim, arith}
use Rattle.std.proofs.lemmas.List.{length-set, get_or-set_same, get_or-set_other}
use Rattle.std.proofs.lemmas.Bool.{cases_eq}
use Rattle.frames.specs.declared.state.FrameState.{FrameState}
use Rattle.frames.specs.declared.state.FrameState.TheVariants.{Free, Table, Held, Mapped, Owed}
use Rattle.frames.specs.Busy.{tag}
use Rattle.frames.specs.Frames.{Frames}
use Rattle.sv39.specs.declared.entry.Rights.{Rights}
use Rattle.sv39.specs.Making.{pointer_doubleword, leaf_doubleword}
use Rattle.tables.specs.Tables.{cleared}
use Rattle.machine.specs.Rights.{valid}
use Rattle.law.proofs.Places.{Place, none, root, mid, low, Holder, nowhere, in_leaf, in_debt, Standing, child, Fit, Tables, at_one, at_same, at_other, none_unless, zero_fits, fit_kept, nowhere_not_leaf, nowhere_not_debt, leaf_not_debt, leaf_same}
use Rattle.law.proofs.Pools.{state_at, Moves}
use Rattle.law.proofs.Words.{word_at, word_same, word_other, length_cleared, cleared_zero, cleared_other}

-- one place or another
pub cases_place : (t i u j : ℕ) → ((t ≡ u) × (i ≡ j)) ⊎ ((t ≡ u) × (i ≡ j) → ⊥)
cases_place t i u j =
    ⊎_elim
    (λ (p : t ≡ u).
    ⊎_elim {B = i ≡ j → ⊥} (λ (q : i ≡ j). inl (p, q)) (λ (ne : i ≡ j → ⊥). inr (λ both. ne both.1)) (cases_eq i j))
    (λ (ne : t ≡ u → ⊥). inr (λ both. ne both.0)) (cases_eq t u)

child_stands : (p : Place) (i : ℕ) → Standing (child p i) → Standing p
child_stands none i s = s
child_stands (root s') i s = tt
child_stands (mid s' j) i s = tt
child_stands (low s' j k) i s = tt

-- a pointer to the table placed below fits
lead_fits : (at : ℕ → Place) (held : ℕ → Holder) (p : Place) (t i f w : ℕ) → Standing (child p i) → at f ≡ child p i → w ≡ pointer_doubleword f → Fit at held p t i w
lead_fits at held none t i f w s e q = tt
lead_fits at held (root s') t i f w s e q = inr (record { to = f; word = q; there = e })
lead_fits at held (mid s' j) t i f w s e q = inr (record { to = f; word = q; there = e })
lead_fits at held (low s' j k) t i f w s e q = absurd s

holder_cases : (h : Holder) → ((t k : ℕ) → h ≡ in_leaf t k → ⊥) → ((n : ℕ) → h ≡ in_debt n → ⊥) → h ≡ nowhere
holder_cases nowhere l d = refl
holder_cases (in_leaf t k) l d = absurd (l t k refl)
holder_cases (in_debt n) l d = absurd (d n refl)

module _ (cells : List ℕ) (v : Frames) (roots : List (Option ℕ)) (at : ℕ → Place) (held : ℕ → Holder) (T : Tables cells v roots at held) where
  -- a frame in another state than table is no table, and so on
  pub unplaced : (f : ℕ) (st : FrameState) → state_at v f ≡ st → (tag st ≡ 1 → ⊥) → Standing (at f) → ⊥
  unplaced f st e n s = n (ap tag (sym e ∙ (T.placed f s).1))

  pub unheld : (f : ℕ) (st : FrameState) → state_at v f ≡ st → (tag st ≡ 3 → ⊥) → (tag st ≡ 4 → ⊥) → held f ≡ nowhere
  unheld f st e m o =
      holder_cases (held f) (λ t k q. m (ap tag (sym e ∙ (T.mapped f t k q).1))) (λ n q. o (ap tag (sym e ∙ (T.owed f n q).1)))

  pub place_inside : (t i : ℕ) → Standing (at t) → i < 512 → 512 * t + i < length cells
  place_inside t i s h = let l = (T.placed t s).0 in omega (arith, T.room)

  -- where one frame goes from one state to another, the other frames keep theirs
  module _ (v' : Frames) (f : ℕ) (from to : FrameState) (m : Moves v v' f from to) where
    other_kept : (g : ℕ) (st : FrameState) → (g < v.limit) × (state_at v g ≡ st) → (g ≡ f → ⊥) → (g < v'.limit) × (state_at v' g ≡ st)
    other_kept g st p ne = (omega (arith, p.0, m.limit), m.others g ne ∙ p.1)

    differs_by : (g : ℕ) (st : FrameState) → state_at v g ≡ st → (tag st ≡ tag from → ⊥) → g ≡ f → ⊥
    differs_by g st e n q = n (ap tag (sym e ∙ ap (state_at v) q ∙ m.was))

    placed_kept : (tag from ≡ 1 → ⊥) → (t : ℕ) → Standing (at t) → (t < v'.limit) × (state_at v' t ≡ Table)
    placed_kept n t s = other_kept t Table (T.placed t s) (differs_by t Table (T.placed t s).1 (λ q. n (sym q)))

    mapped_kept : (tag from ≡ 3 → ⊥) → (g t k : ℕ) → held g ≡ in_leaf t k → (g < v'.limit) × (state_at v' g ≡ Mapped)
    mapped_kept n g t k e = other_kept g Mapped (T.mapped g t k e) (differs_by g Mapped (T.mapped g t k e).1 (λ q. n (sym q)))

    owed_kept : (tag from ≡ 4 → ⊥) → (g n : ℕ) → held g ≡ in_debt n → (g < v'.limit) × (state_at v' g ≡ Owed)
    owed_kept n g d e = other_kept g Owed (T.owed g d e) (differs_by g Owed (T.owed g d e).1 (λ q. n (sym q)))

  -- A free frame is taken, filled with zeros, and is a table at a place or none.
  module _ (v' : Frames) (f : ℕ) (to : FrameState) (m : Moves v v' f Free to) where
    untabled : Standing (at f) → ⊥
    untabled = unplaced f Free m.was (λ q. omega arith)

    new_kept : (p : Place) (g : ℕ) → Standing (at g) → at_one at f p g ≡ at g
    new_kept p g s = at_other at f p g (λ q. untabled (subst (λ (n : ℕ). Standing (at n)) q s))

    new_placed : (p : Place) → (Standing p → to ≡ Table) → (t : ℕ) → Standing (at_one at f p t) → (t < v'.limit) × (state_at v' t ≡ Table)
    new_placed p is-table t s =
        ⊎_elim
        (λ (q : t ≡ f).
        let s' : Standing p = subst Standing (ap (at_one at f p) q ∙ at_same at f p) s in
        (omega (arith, m.inside, m.limit), ap (state_at v') q ∙ m.is ∙ is-table s'))
        (λ (ne : t ≡ f → ⊥).
        placed_kept v' f Free to m (λ q. omega arith) t (subst Standing (at_other at f p t ne) s)) (cases_eq t f)

    -- grant
    pub granted_tables : Tables (cleared cells f) v' roots at held
    granted_tables =
        record {
          room = omega (arith, T.room, m.limit, length_cleared cells f);
          placed = placed_kept v' f Free to m (λ q. omega arith);
          rooted = T.rooted;
          fits = λ t i h.
              ⊎_elim (λ (q : t ≡ f). zero_fits at held (at t) t i _ (ap (λ (n : ℕ). word_at (cleared cells f) n i) q ∙ cleared_zero cells f i h))
              (λ (ne : t ≡ f → ⊥). subst (Fit at held (at t) t i) (sym (cleared_other cells f t i h ne)) (T.fits t i h)) (cases_eq t f);
          mapped = mapped_kept v' f Free to m (λ q. omega arith);
          owed = owed_kept v' f Free to m (λ q. omega arith);
        }

  -- a table for a root
  pub space_tables : (v' : Frames) (s f : ℕ) → Moves v v' f Free Table → s < length roots → Tables (cleared cells f) v' (set roots s (Some f)) (at_one at f (root s)) held
  space_tables v' s f m l =
      let granted = granted_tables v' f Table m in
      record {
        room = granted.room;
        placed = new_placed v' f Table m (root s) (λ x. refl);
        rooted = λ u r e.
            ⊎_elim
            (λ (q : u ≡ s).
            let w = sym (get_or-set_same roots s (Some f) None l) ∙ ap (λ (n : ℕ). get_or (set roots s (Some f)) n None) (sym q) ∙ e in
            let same : f ≡ r = cc in
            ap (at_one at f (root s)) (sym same) ∙ at_same at f (root s) ∙ ap root (sym q))
            (λ (ne : u ≡ s → ⊥).
            let old = T.rooted u r (sym (get_or-set_other roots s u (Some f) None ne) ∙ e) in
            new_kept v' f Table m (root s) r (subst Standing (sym old) tt) ∙ old) (cases_eq u s);
        fits = λ t i h.
            ⊎_elim
            (λ (q : t ≡ f).
            zero_fits (at_one at f (root s)) held (at_one at f (root s) t) t i _ (ap (λ (n : ℕ). word_at (cleared cells f) n i) q ∙ cleared_zero cells f i h))
            (λ (ne : t ≡ f → ⊥).
            subst (λ (p : Place). Fit (at_one at f (root s)) held p t i (word_at (cleared cells f) t i)) (sym (at_other at f (root s) t ne))
            (fit_kept at (at_one at f (root s)) held held (new_kept v' f Table m (root s)) (at t) t i (word_at (cleared cells f) t i) (λ g x. refl) (granted.fits t i h))) (cases_eq t f);
        mapped = granted.mapped;
        owed = granted.owed;
      }

  -- a table below an entry of a table, which points to it
  pub grown_tables : (v' : Frames) (t i f : ℕ) → Moves v v' f Free Table → i < 512 → Standing (child (at t) i) → Tables (set (cleared cells f) (512 * t + i) (pointer_doubleword f)) v' roots (at_one at f (child (at t) i)) held
  grown_tables v' t i f m hi s =
      let granted = granted_tables v' f Table m in
      let p : Place = child (at t) i in
      let at' : ℕ → Place = at_one at f p in
      let cells' : List ℕ = cleared cells f in
      let w : ℕ = pointer_doubleword f in
      let st : Standing (at t) = child_stands (at t) i s in
      let apart : t ≡ f → ⊥ = λ q. untabled v' f Table m (subst (λ (n : ℕ). Standing (at n)) q st) in
      record {
        room = omega (arith, granted.room, length-set cells' (512 * t + i) w);
        placed = new_placed v' f Table m p (λ x. refl);
        rooted = λ u r e.
            let old = T.rooted u r e in
            new_kept v' f Table m p r (subst Standing (sym old) tt) ∙ old;
        fits = λ u j h.
            ⊎_elim
            (λ (q : u ≡ f).
            zero_fits at' held (at' u) u j _ (word_other cells' t i w hi u j h (λ both. apart (sym both.0 ∙ q)) ∙ ap (λ (n : ℕ). word_at cells' n j) q ∙ cleared_zero cells f j h))
            (λ (ne : u ≡ f → ⊥).
            subst (λ (x : Place). Fit at' held x u j (word_at (set cells' (512 * t + i) w) u j)) (sym (at_other at f p u ne))
            (⊎_elim
            (λ (both : (u ≡ t) × (j ≡ i)).
            let below : child (at u) j ≡ p = ap (λ (n : ℕ). child (at n) j) both.0 ∙ ap (child (at t)) both.1 in
            lead_fits at' held (at u) u j f _ (subst Standing (sym below) s) (at_same at f p ∙ sym below)
            (ap (λ (n : ℕ). word_at (set cells' (512 * t + i) w) n j) both.0 ∙ ap (word_at (set cells' (512 * t + i) w) t) both.1 ∙ word_same cells' t i w hi (omega (arith, place_inside t i st hi, length_cleared cells f))))
            (λ (no : (u ≡ t) × (j ≡ i) → ⊥).
            fit_kept at at' held held (new_kept v' f Table m p) (at u) u j _ (λ g x. refl)
            (subst (Fit at held (at u) u j) (sym (word_other cells' t i w hi u j h no)) (granted.fits u j h))) (cases_place u j t i))) (cases_eq u f);
        mapped = granted.mapped;
        owed = granted.owed;
      }

  -- An entry of a table of level 0 is written, while one frame goes from one state to another and one holder changes.
  module _ (t k w : ℕ) (hk : k < 512) (s i j : ℕ) (here : at t ≡ low s i j) where
    stands_here : Standing (at t)
    stands_here = subst Standing (sym here) tt

    leaf_word : word_at (set cells (512 * t + k) w) t k ≡ w
    leaf_word = word_same cells t k w hk (place_inside t k stands_here hk)

    leaf_room : (v' : Frames) → v'.limit ≡ v.limit → 512 * v'.limit ≤ length (set cells (512 * t + k) w)
    leaf_room v' e = omega (arith, T.room, length-set cells (512 * t + k) w)

    leaf_fits : (held' : ℕ → Holder) → ((u x g : ℕ) → ((u ≡ t) × (x ≡ k) → ⊥) → held g ≡ in_leaf u x → held' g ≡ held g) → Fit at held' (low s i j) t k w → (u x : ℕ) → x < 512 → Fit at held' (at u) u x (word_at (set cells (512 * t + k) w) u x)
    leaf_fits held' kept new u x h =
        ⊎_elim
        (λ (both : (u ≡ t) × (x ≡ k)).
        let word : word_at (set cells (512 * t + k) w) u x ≡ w =
        ap (λ (n : ℕ). word_at (set cells (512 * t + k) w) n x) both.0 ∙ ap (word_at (set cells (512 * t + k) w) t) both.1 ∙ leaf_word in
        subst (Fit at held' (at u) u x) (sym word)
        (subst (λ (p : Place). Fit at held' p u x w) (sym (ap at both.0 ∙ here))
        (subst (λ (n : ℕ). Fit at held' (low s i j) n x w) (sym both.0)
        (subst (λ (n : ℕ). Fit at held' (low s i j) t n w) (sym both.1) new))))
        (λ (no : (u ≡ t) × (x ≡ k) → ⊥).
        subst (Fit at held' (at u) u x) (sym (word_other cells t k w hk u x h no))
        (fit_kept at at held held' (λ g y. refl) (at u) u x _ (λ g e. kept u x g no e) (T.fits u x h))) (cases_place u x t k)

    -- map: a held frame's leaf is written
    pub mapped_tables : (v' : Frames) (f : ℕ) (rights : Rights) → Moves v v' f Held Mapped → valid rights ≡ true → w ≡ leaf_doubleword f rights → Tables (set cells (512 * t + k) w) v' roots at (at_one held f (in_leaf t k))
    mapped_tables v' f rights m ok e =
        let free : held f ≡ nowhere = unheld f Held m.was (λ q. omega arith) (λ q. omega arith) in
        let held' : ℕ → Holder = at_one held f (in_leaf t k) in
        let kept : (g : ℕ) → (held g ≡ nowhere → ⊥) → held' g ≡ held g = λ g n. at_other held f (in_leaf t k) g (λ q. n (ap held q ∙ free)) in
        record {
          room = leaf_room v' m.limit;
          placed = placed_kept v' f Held Mapped m (λ q. omega arith);
          rooted = T.rooted;
          fits =
              leaf_fits held' (λ u x g no q. kept g (λ z. nowhere_not_leaf u x (sym z ∙ q)))
              (inr (record { frame = f; rights = rights; allowed = ok; word = e; there = at_same held f (in_leaf t k) }));
          mapped = λ g u x q.
              ⊎_elim (λ (z : g ≡ f). (omega (arith, m.inside, m.limit), ap (state_at v') z ∙ m.is))
              (λ (ne : g ≡ f → ⊥).
              mapped_kept v' f Held Mapped m (λ y. omega arith) g u x (sym (at_other held f (in_leaf t k) g ne) ∙ q)) (cases_eq g f);
          owed = λ g n q.
              ⊎_elim
              (λ (z : g ≡ f). absurd (leaf_not_debt t k n (sym (at_same held f (in_leaf t k)) ∙ ap held' (sym z) ∙ q)))
              (λ (ne : g ≡ f → ⊥).
              owed_kept v' f Held Mapped m (λ y. omega arith) g n (sym (at_other held f (in_leaf t k) g ne) ∙ q)) (cases_eq g f);
        }

    -- protect: the leaf of the frame that is there has other rights
    pub protected_tables : (f : ℕ) (rights : Rights) → held f ≡ in_leaf t k → valid rights ≡ true → w ≡ leaf_doubleword f rights → Tables (set cells (512 * t + k) w) v roots at held
    protected_tables f rights there ok e =
        record {
          room = leaf_room v refl;
          placed = T.placed;
          rooted = T.rooted;
          fits = leaf_fits held (λ u x g no q. refl) (inr (record { frame = f; rights = rights; allowed = ok; word = e; there = there }));
          mapped = T.mapped;
          owed = T.owed;
        }

    -- unmap: the leaf becomes 0, its frame is owed by a debt
    pub unmapped_tables : (v' : Frames) (f n : ℕ) → Moves v v' f Mapped Owed → held f ≡ in_leaf t k → w ≡ 0 → Tables (set cells (512 * t + k) w) v' roots at (at_one held f (in_debt n))
    unmapped_tables v' f n m there e =
        let held' : ℕ → Holder = at_one held f (in_debt n) in
        record {
          room = leaf_room v' m.limit;
          placed = placed_kept v' f Mapped Owed m (λ q. omega arith);
          rooted = T.rooted;
          fits =
              leaf_fits held'
              (λ u x g no q.
              at_other held f (in_debt n) g
              (λ z. let both = leaf_same u x t k (sym q ∙ ap held z ∙ there) in no both)) (inl e);
          mapped = λ g u x q.
              ⊎_elim
              (λ (z : g ≡ f). absurd (leaf_not_debt u x n (sym q ∙ ap held' z ∙ at_same held f (in_debt n))))
              (λ (ne : g ≡ f → ⊥).
              let old = sym (at_other held f (in_debt n) g ne) ∙ q in
              other_kept v' f Mapped Owed m g Mapped (T.mapped g u x old) ne) (cases_eq g f);
          owed = λ g d q.
              ⊎_elim (λ (z : g ≡ f). (omega (arith, m.inside, m.limit), ap (state_at v') z ∙ m.is))
              (λ (ne : g ≡ f → ⊥).
              owed_kept v' f Mapped Owed m (λ y. omega arith) g d (sym (at_other held f (in_debt n) g ne) ∙ q)) (cases_eq g f);
        }

  -- a store into a frame that is no table
  pub stored_tables : (g x value : ℕ) → x < 512 → (Standing (at g) → ⊥) → Tables (set cells (512 * g + x) value) v roots at held
  stored_tables g x value hx untable =
      record {
        room = omega (arith, T.room, length-set cells (512 * g + x) value);
        placed = T.placed;
        rooted = T.rooted;
        fits = λ t i h.
            ⊎_elim
            (λ (q : t ≡ g).
            subst (λ (p : Place). Fit at held p t i (word_at (set cells (512 * g + x) value) t i)) (sym (ap at q ∙ none_unless (at g) untable)) tt)
            (λ (ne : t ≡ g → ⊥).
            subst (Fit at held (at t) t i) (sym (word_other cells g x value hx t i h (λ both. ne both.0))) (T.fits t i h)) (cases_eq t g);
        mapped = T.mapped;
        owed = T.owed;
      }

  -- a held frame goes back onto the pile
  pub backed_tables : (v' : Frames) (f : ℕ) → Moves v v' f Held Free → Tables cells v' roots at held
  backed_tables v' f m =
      record {
        room = omega (arith, T.room, m.limit);
        placed = placed_kept v' f Held Free m (λ q. omega arith);
        rooted = T.rooted;
        fits = T.fits;
        mapped = mapped_kept v' f Held Free m (λ q. omega arith);
        owed = owed_kept v' f Held Free m (λ q. omega arith);
      }

  -- an owed frame is released
  pub released_tables : (v' : Frames) (f n : ℕ) → Moves v v' f Owed Free → held f ≡ in_debt n → Tables cells v' roots at (at_one held f nowhere)
  released_tables v' f n m there =
      let held' : ℕ → Holder = at_one held f nowhere in
      record {
        room = omega (arith, T.room, m.limit);
        placed = placed_kept v' f Owed Free m (λ q. omega arith);
        rooted = T.rooted;
        fits = λ t i h.
            fit_kept at at held held' (λ g y. refl) (at t) t i _
            (λ g e. at_other held f nowhere g (λ z. leaf_not_debt t i n (sym e ∙ ap held z ∙ there))) (T.fits t i h);
        mapped = λ g u x q.
            ⊎_elim (λ (z : g ≡ f). absurd (nowhere_not_leaf u x (sym (at_same held f nowhere) ∙ ap held' (sym z) ∙ q)))
            (λ (ne : g ≡ f → ⊥).
            mapped_kept v' f Owed Free m (λ y. omega arith) g u x (sym (at_other held f nowhere g ne) ∙ q)) (cases_eq g f);
        owed = λ g d q.
            ⊎_elim (λ (z : g ≡ f). absurd (nowhere_not_debt d (sym (at_same held f nowhere) ∙ ap held' (sym z) ∙ q)))
            (λ (ne : g ≡ f → ⊥).
            let old = sym (at_other held f nowhere g ne) ∙ q in
            other_kept v' f Owed Free m g Owed (T.owed g d old) ne) (cases_eq g f);
      }
