-- map keeps what holds of every state.
use Rattle.std.proofs.Common.{◌≡◌, ℕ, ◌+◌, ◌*◌, ◌<◌, true, ◌&&◌, eqb, ◌∷◌, set, Ok, Err, Result, sym, refl, ap, ◌∙◌, subst, inl, inr, ⊎_elim, arith}
use Rattle.std.proofs.lemmas.Bool.{cases_eq, eq-eqb, and_from}
use Rattle.frames.specs.declared.state.FrameState.TheVariants as state
use Rattle.frames.specs.Frames.{Frames, next, turned}
use Rattle.sv39.specs.declared.entry.Rights.{Rights}
use Rattle.sv39.specs.Address.{index}
use Rattle.sv39.specs.Making.{leaf_doubleword}
use Rattle.tables.specs.Growth.{grown_mid, grown_low}
use Rattle.machine.specs.declared.call.Answer.TheVariants as answer
use Rattle.machine.specs.declared.call.Call.TheVariants.{Map}
use Rattle.machine.specs.declared.refusal.Refusal.{Refusal}
use Rattle.machine.specs.Calls.{call_step, told_as}
use Rattle.machine.specs.Pages.{is_page, map_allowed, map_by, with_frames}
use Rattle.machine.specs.Rights.{valid}
use Rattle.machine.specs.State.{State}
use Rattle.law.specs.History.{Event, History, PutSince}
use Rattle.law.specs.Runs.{event_of}
use Rattle.law.proofs.Allowing.{map_tells}
use Rattle.law.proofs.Descents.{index_below}
use Rattle.law.proofs.Good.{Good, later, moved, refused_quiet}
use Rattle.law.proofs.Growths.{both_grew}
use Rattle.law.proofs.Pages.{page_by_index}
use Rattle.law.proofs.Places.{low, Holder, nowhere, in_leaf, in_debt, Standing, at_one, at_same, at_other, nowhere_not_leaf, nowhere_not_debt, leaf_not_debt, leaf_same, low_same}
use Rattle.law.proofs.Pools.{state_at, Moves, turn_moves, is_in_tells, is_in_from, apart_by_tag}
use Rattle.law.proofs.TableSteps.{mapped_tables, unheld}

-- A held frame's leaf is written at a page where a map put it.
module _ (H : History) (s : State) (g : Good H s) (t f sp p : ℕ) (rights : Rights) (v' : Frames) (m : Moves s.frames v' f state.Held state.Mapped) (may : valid rights ≡ true) (here : g.at t ≡ low sp (index p 2) (index p 1)) (paged : is_page p ≡ true) (put : PutSince H sp p f) where
  abbrev held' : ℕ → Holder
  held' = at_one g.held f (in_leaf t (index p 0))

  was_nowhere : g.held f ≡ nowhere
  was_nowhere = unheld s.cells s.frames s.roots g.at g.held g.tables f state.Held m.was (λ q. omega arith) (λ q. omega arith)

  kept_leaf : (h u j : ℕ) → g.held h ≡ in_leaf u j → held' h ≡ g.held h
  kept_leaf h u j e = at_other g.held f (in_leaf t (index p 0)) h (λ q. nowhere_not_leaf u j (sym was_nowhere ∙ ap g.held (sym q) ∙ e))

  kept_debt : (h n : ℕ) → g.held h ≡ in_debt n → held' h ≡ g.held h
  kept_debt h n e = at_other g.held f (in_leaf t (index p 0)) h (λ q. nowhere_not_debt n (sym was_nowhere ∙ ap g.held (sym q) ∙ e))

  pub leaf_good : Good H (with_frames s (set s.cells (512 * t + index p 0) (leaf_doubleword f rights)) v')
  leaf_good =
      record {
        at = g.at;
        held = held';
        sound = m.sound;
        tables = mapped_tables s.cells s.frames s.roots g.at g.held g.tables t (index p 0) (leaf_doubleword f rights) (index_below p 0) sp (index p 2) (index p 1) here v' f rights m may refl;
        housed = λ h u j e.
            ⊎_elim
            (λ (q : h ≡ f).
            let same = leaf_same u j t (index p 0) (sym e ∙ ap held' q ∙ at_same g.held f (in_leaf t (index p 0))) in
            subst (λ (n : ℕ). Standing (g.at n)) (sym same.0) (subst Standing (sym here) tt))
            (λ (ne : h ≡ f → ⊥). g.housed h u j (sym (at_other g.held f (in_leaf t (index p 0)) h ne) ∙ e)) (cases_eq h f);
        enough = g.enough;
        owes = λ n d h a b. let old = g.owes n d h a b in kept_debt h n old ∙ old;
        owed_by = λ h n e.
            ⊎_elim
            (λ (q : h ≡ f). absurd (leaf_not_debt t (index p 0) n (sym (at_same g.held f (in_leaf t (index p 0))) ∙ ap held' (sym q) ∙ e)))
            (λ (ne : h ≡ f → ⊥). g.owed_by h n (sym (at_other g.held f (in_leaf t (index p 0)) h ne) ∙ e)) (cases_eq h f);
        ways = λ h i way x.
            let w = g.ways h i way x in
            record {
              paged = w.paged;
              home =
                  ⊎_elim
                  (λ y. inl (record { table = y.table; there = kept_leaf way.frame y.table (index way.of.page 0) y.there ∙ y.there; place = y.place }))
                  (λ y. inr (record { slot = y.slot; debt = y.debt; there = kept_debt way.frame y.slot y.there ∙ y.there; open_in = y.open_in; space = y.space; at_page = y.at_page; frame = y.frame; late = y.late }))
                  w.home;
              root = w.root;
              rooted = w.rooted;
              seen = w.seen;
            };
        unmade = g.unmade;
        leaf_put_is = λ h u j sp' i i' p' e at-u pg e2 e1 e0.
            ⊎_elim
            (λ (q : h ≡ f).
            let same = leaf_same u j t (index p 0) (sym e ∙ ap held' q ∙ at_same g.held f (in_leaf t (index p 0))) in
            let place = low_same sp' i i' sp (index p 2) (index p 1) (sym at-u ∙ ap g.at same.0 ∙ here) in
            let pages : p ≡ p' = page_by_index p p' paged pg (sym place.1 ∙ sym e2) (sym place.2 ∙ sym e1) (sym same.1 ∙ sym e0) in
            subst (λ (n : ℕ). PutSince H n p' h) (sym place.0)
            (subst (λ (n : ℕ). PutSince H sp n h) pages (subst (PutSince H sp p) (sym q) put)))
            (λ (ne : h ≡ f → ⊥).
            g.leaf_put_is h u j sp' i i' p' (sym (at_other g.held f (in_leaf t (index p 0)) h ne) ∙ e) at-u pg e2 e1 e0) (cases_eq h f);
        debt_put = g.debt_put;
        spaces = g.spaces;
        status = g.status;
        roots = g.roots;
        stands = g.stands;
      }

module _ (H : History) (s : State) (g : Good H s) (choice : ℕ → ℕ) (space address frame : ℕ) (rights : Rights) where
  pub map_good : Good (event_of s choice (Map space address frame rights) ∷ H) (call_step s choice (Map space address frame rights)).1
  unfolding later moved
  map_good = at (map_allowed s space address frame rights) refl
    where
      at : (o : Result (ℕ × ℕ) Refusal) → map_allowed s space address frame rights ≡ o → Good (record { call = Map space address frame rights; answer = told_as answer.Tables (map_by s address rights o).0; cells = s.cells; next = next s.frames } ∷ H) (map_by s address rights o).1
      at (Err refusal) e = later _ H (refused_quiet _ refusal refl) s g
      at (Ok allowed) e =
          let tells = map_tells s space address frame rights allowed e in
          let r = allowed.0 in
          let f = allowed.1 in
          let lo = grown_low (grown_mid s.cells s.frames r address) address in
          let ev : Event = record { call = Map space address frame rights; answer = told_as answer.Tables (map_by s address rights (Ok allowed)).0; cells = s.cells; next = next s.frames } in
          let grew = both_grew s.cells s.frames s.roots g.at g.held g.tables g.sound space r tells.rooted address tells.enough in
          let s1 : State = with_frames s lo.cells lo.frames in
          let g1 : Good (ev ∷ H) s1 =
          later ev H (record { frees = λ x. refl; fences = λ h sp p. refl; enters = λ h. refl; sets = λ h. refl; makes = λ sp. refl }) s1 (moved H s g lo.cells lo.frames grew.0 grew.1.0 grew.1.3 grew.1.2) in
          let holds = is_in_tells s.frames frame state.Held tells.holds in
          let still = grew.1.4 f state.Held (ap (state_at s.frames) (sym tells.same) ∙ holds.1) (λ q. omega arith) in
          let inside : f < lo.frames.limit = omega (arith, holds.0, tells.same, grew.1.5) in
          let m = turn_moves lo.frames f state.Held grew.1.3 (is_in_from lo.frames f state.Held inside still) (apart_by_tag state.Held state.Free (λ q. omega arith)) state.Mapped (apart_by_tag state.Mapped state.Free (λ q. omega arith)) in
          leaf_good (ev ∷ H) s1 g1 lo.table f space address rights (turned lo.frames f state.Held state.Mapped) m tells.may grew.1.1 tells.paged
          (inl (and_from (eqb space space) (eqb address address && eqb frame f) (eq-eqb space space refl) (and_from (eqb address address) (eqb frame f) (eq-eqb address address refl) (eq-eqb frame f tells.same))))
