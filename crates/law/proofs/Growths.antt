-- The tables on the way to a page, taken where they are missing, keep what always holds of tables.
use Rattle.std.proofs.Common.{◌≡◌, ℕ, ◌+◌, ◌-◌, ◌*◌, ◌<◌, ◌≤◌, ltb, List, [], ◌∷◌, length, get_or, set, Some, None, Option, sym, refl, ap, ◌∙◌, subst, inl, inr, ⊎_elim, arith}
use Rattle.std.proofs.lemmas.Bool.{cases_lt, lt-ltb, le-ltb, cond-true, cond-false}
use Rattle.frames.specs.declared.state.FrameState.{FrameState}
use Rattle.frames.specs.declared.state.FrameState.TheVariants.{Free, Table}
use Rattle.frames.specs.Busy.{tag}
use Rattle.frames.specs.Frames.{Frames, next, next_of, taken, taken_of, available}
use Rattle.sv39.specs.Address.{index, entry_of}
use Rattle.sv39.specs.Making.{pointer_doubleword}
use Rattle.tables.specs.Growth.{Growth, grown, grown_by, grown_mid, grown_low}
use Rattle.tables.specs.Tables.{cleared, missing, missing_mid, missing_low}
use Rattle.law.proofs.Descents.{Descent, no_mid, no_low, comes, descent, index_below, table_none, table_some}
use Rattle.law.proofs.Places.{Place, root, mid, low, Holder, Standing, child, Fit, Leads, Tables, at_one, at_same, at_other}
use Rattle.law.proofs.Pools.{state_at, Sound, take_moves}
use Rattle.law.proofs.TableSteps.{grown_tables, unplaced}
use Rattle.law.proofs.Words.{word_at}

-- where no frame can be taken there is none
next_by : (pile : List ℕ) (mark limit : ℕ) → next_of pile mark limit ≡ None → length pile + (limit - mark) ≡ 0
next_by [] mark limit e =
    ⊎_elim
    (λ (l : mark < limit).
    let r = sym (cond-true (ltb mark limit) (Some mark) None (lt-ltb mark limit l)) ∙ e in
    let z : ◌≡◌ {A = ℕ} 0 1 = cc in absurd (omega arith)) (λ (l : limit ≤ mark). omega arith) (cases_lt mark limit)
next_by (f ∷ pile) mark limit e = let z : ◌≡◌ {A = ℕ} 0 1 = cc in absurd (omega arith)

some_next : (v : Frames) → 0 < available v → (f : ℕ) × (next v ≡ Some f)
some_next v l = at (next v) refl
  where
    at : (o : Option ℕ) → next v ≡ o → (f : ℕ) × (next v ≡ Some f)
    at None e = absurd (omega (arith, next_by v.pile v.mark v.limit e))
    at (Some f) e = (f, e)

-- a frame taken is one less
fewer_by : (states : List FrameState) (pile : List ℕ) (mark limit : ℕ) (to : FrameState) (f : ℕ) → next_of pile mark limit ≡ Some f → available (taken_of states pile mark limit to) + 1 ≡ length pile + (limit - mark)
fewer_by states [] mark limit to f e =
    ⊎_elim
    (λ (l : mark < limit).
    ap (λ (w : Frames). available w + 1) (cond-true (ltb mark limit) _ _ (lt-ltb mark limit l)) ∙ omega arith)
    (λ (l : limit ≤ mark).
    let r = sym (cond-false (ltb mark limit) (Some mark) None (le-ltb mark limit l)) ∙ e in
    let z : ◌≡◌ {A = ℕ} 0 1 = cc in absurd (omega arith)) (cases_lt mark limit)
fewer_by states (g ∷ pile) mark limit to f e = omega arith

pub record Grew (v : Frames) (roots : List (Option ℕ)) (at : ℕ → Place) (held : ℕ → Holder) (g : Growth) (target : Place) : Type 0 where
  pub at' : ℕ → Place
  pub tables : Tables g.cells g.frames roots at' held
  pub there : at' g.table ≡ target
  pub kept : (t : ℕ) → Standing (at t) → at' t ≡ at t
  pub sound : Sound g.frames
  pub busy : (f : ℕ) (st : FrameState) → state_at v f ≡ st → (tag st ≡ 0 → ⊥) → state_at g.frames f ≡ st
  pub limit : g.frames.limit ≡ v.limit
  pub room : available g.frames + g.count ≡ available v
  pub few : g.count ≤ 1

module _ (cells : List ℕ) (v : Frames) (roots : List (Option ℕ)) (at : ℕ → Place) (held : ℕ → Holder) (T : Tables cells v roots at held) (sound : Sound v) (t a level : ℕ) (below : Standing (child (at t) (index a level))) where
  taken_grew : (f : ℕ) → next v ≡ Some f → Grew v roots at held (record { cells = set (cleared cells f) (512 * t + index a level) (pointer_doubleword f); frames = taken v Table; table = f; count = 1 }) (child (at t) (index a level))
  taken_grew f e =
      let m = take_moves v Table sound f e in
      let p : Place = child (at t) (index a level) in
      record {
        at' = at_one at f p;
        tables = grown_tables cells v roots at held T (taken v Table) t (index a level) f m (index_below a level) below;
        there = at_same at f p;
        kept = λ u st.
            at_other at f p u (λ q. unplaced cells v roots at held T f Free m.was (λ z. omega arith) (subst (λ (n : ℕ). Standing (at n)) q st));
        sound = m.sound;
        busy = λ g st is not-Free. m.others g (λ q. not-Free (ap tag (sym is ∙ ap (state_at v) q ∙ m.was))) ∙ is;
        limit = m.limit;
        room = fewer_by v.states v.pile v.mark v.limit Table f e;
        few = omega arith;
      }

  there_already : (m : ℕ) → at m ≡ child (at t) (index a level) → Grew v roots at held (record { cells = cells; frames = v; table = m; count = 0 }) (child (at t) (index a level))
  there_already m e =
      record { at' = at; tables = T; there = e; kept = λ u st. refl; sound = sound; busy = λ g st is not-Free. is; limit = refl; room = omega arith; few = omega arith }

  pub grew : Leads at (child (at t) (index a level)) (word_at cells t (index a level)) → (word_at cells t (index a level) ≡ 0 → 0 < available v) → Grew v roots at held (grown cells v t a level) (child (at t) (index a level))
  grew (inl z) free =
      let f = some_next v (free z) in
      subst (λ (g : Growth). Grew v roots at held g (child (at t) (index a level)))
      (sym (ap (λ (o : Option ℕ). grown_by cells v t (entry_of t a level) o (next v)) (table_none cells v roots at held T sound.limited.1 t a level z) ∙ ap (grown_by cells v t (entry_of t a level) None) f.1))
      (taken_grew f.0 f.1)
  grew (inr l) free =
      subst (λ (g : Growth). Grew v roots at held g (child (at t) (index a level)))
      (sym (ap (λ (o : Option ℕ). grown_by cells v t (entry_of t a level) o (next v)) (table_some cells v roots at held T sound.limited.1 t a level l.to l.word (subst Standing (sym l.there) below))))
      (there_already l.to l.there)

-- the same, to a place by name
grew_to : (cells : List ℕ) (v : Frames) (roots : List (Option ℕ)) (at : ℕ → Place) (held : ℕ → Holder) → Tables cells v roots at held → Sound v → (t a level : ℕ) (above p : Place) → at t ≡ above → child above (index a level) ≡ p → Standing p → (Fit at held above t (index a level) (word_at cells t (index a level)) → Leads at p (word_at cells t (index a level))) → (word_at cells t (index a level) ≡ 0 → 0 < available v) → Grew v roots at held (grown cells v t a level) p
grew_to cells v roots at held T sound t a level above p here e st leads free =
    let below : child (at t) (index a level) ≡ p = ap (λ (x : Place). child x (index a level)) here ∙ e in
    let fit = subst (λ (x : Place). Fit at held x t (index a level) (word_at cells t (index a level))) here (T.fits t (index a level) (index_below a level)) in
    subst (Grew v roots at held (grown cells v t a level)) below
    (grew cells v roots at held T sound t a level (subst Standing (sym below) st) (subst (λ (x : Place). Leads at x (word_at cells t (index a level))) (sym below) (leads fit)) free)

module _ (cells : List ℕ) (v : Frames) (roots : List (Option ℕ)) (at : ℕ → Place) (held : ℕ → Holder) (T : Tables cells v roots at held) (sound : Sound v) (s r : ℕ) (rooted : get_or roots s None ≡ Some r) (a : ℕ) (enough : missing cells v.limit r a ≤ available v) where
  few : v.limit ≤ 1024
  few = sound.limited.1

  first_free : Descent cells at s r a → word_at cells r (index a 2) ≡ 0 → 0 < available v
  first_free d z =
      let two : missing cells v.limit r a ≡ 2 = ap (missing_mid cells v.limit a) (table_none cells v roots at held T few r a 2 z) in
      omega arith

  pub mid_grew : Grew v roots at held (grown_mid cells v r a) (mid s (index a 2))
  mid_grew =
      grew_to cells v roots at held T sound r a 2 (root s) (mid s (index a 2)) (T.rooted s r rooted) refl tt (λ x. x) (first_free (descent cells v roots at held T few s r rooted a))

  -- where the table of level 1 is there already it is the growth's, and nothing else has changed
  mid_there : (m : ℕ) → word_at cells r (index a 2) ≡ pointer_doubleword m → at m ≡ mid s (index a 2) → grown_mid cells v r a ≡ record { cells = cells; frames = v; table = m; count = 0 }
  mid_there m w p =
      ap (λ (o : Option ℕ). grown_by cells v r (entry_of r a 2) o (next v)) (table_some cells v roots at held T few r a 2 m w (subst Standing (sym p) tt))

  second_free : Descent cells at s r a → word_at (grown_mid cells v r a).cells (grown_mid cells v r a).table (index a 1) ≡ 0 → 0 < available (grown_mid cells v r a).frames
  second_free (no_mid z) w =
      let two : missing cells v.limit r a ≡ 2 = ap (missing_mid cells v.limit a) (table_none cells v roots at held T few r a 2 z) in
      omega (arith, mid_grew.room, mid_grew.few)
  second_free (no_low m w p z) x =
      let one : missing cells v.limit r a ≡ 1 =
      ap (missing_mid cells v.limit a) (table_some cells v roots at held T few r a 2 m w (subst Standing (sym p) tt)) ∙ ap missing_low (table_none cells v roots at held T few m a 1 z) in
      let same = ap (λ (g : Growth). available g.frames) (mid_there m w p) in
      omega arith
  second_free (comes m l w p x y) z =
      let same : word_at cells m (index a 1) ≡ 0 = ap (λ (g : Growth). word_at g.cells g.table (index a 1)) (sym (mid_there m w p)) ∙ z in
      let word : pointer_doubleword l ≡ 0 = sym x ∙ same in
      absurd (omega arith)

  low_grew : Grew (grown_mid cells v r a).frames roots mid_grew.at' held (grown_low (grown_mid cells v r a) a) (low s (index a 2) (index a 1))
  low_grew =
      grew_to (grown_mid cells v r a).cells (grown_mid cells v r a).frames roots mid_grew.at' held mid_grew.tables mid_grew.sound (grown_mid cells v r a).table a 1 (mid s (index a 2)) (low s (index a 2) (index a 1)) mid_grew.there refl tt (λ x. x) (second_free (descent cells v roots at held T few s r rooted a))

  -- both tables, one after the other
  pub both_grew : (at'' : ℕ → Place) × (Tables (grown_low (grown_mid cells v r a) a).cells (grown_low (grown_mid cells v r a) a).frames roots at'' held × (at'' (grown_low (grown_mid cells v r a) a).table ≡ low s (index a 2) (index a 1)) × ((t : ℕ) → Standing (at t) → at'' t ≡ at t) × Sound (grown_low (grown_mid cells v r a) a).frames × ((f : ℕ) (st : FrameState) → state_at v f ≡ st → (tag st ≡ 0 → ⊥) → state_at (grown_low (grown_mid cells v r a) a).frames f ≡ st) × ((grown_low (grown_mid cells v r a) a).frames.limit ≡ v.limit))
  both_grew = (
    low_grew.at',
    (
      low_grew.tables,
      low_grew.there,
      (λ t st. low_grew.kept t (subst Standing (sym (mid_grew.kept t st)) st) ∙ mid_grew.kept t st),
      low_grew.sound,
      (λ f st is nf. low_grew.busy f st (mid_grew.busy f st is nf) nf),
      low_grew.limit ∙ mid_grew.limit,
    ),
  )
