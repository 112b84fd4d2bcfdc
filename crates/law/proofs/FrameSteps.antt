-- grant, back and space keep what holds of every state.
use Rattle.std.proofs.Common.{◌≡◌, ℕ, Bool, true, false, cond, ◌∷◌, get_or, set, Some, None, Ok, Err, Option, sym, refl, ap, ◌∙◌, subst, inl, inr, ⊎_elim, arith}
use Rattle.std.proofs.lemmas.List.{get_or-set_same, get_or-set_other}
use Rattle.std.proofs.lemmas.Bool.{cases_eq, cond-true, eq-eqb, ne_eqb}
use Rattle.frames.specs.declared.state.FrameState.TheVariants as state
use Rattle.frames.specs.Frames.{Frames, next, taken, is_in, released}
use Rattle.std.proofs.lemmas.Option.{none-some}
use Rattle.sv39.specs.Address.{index}
use Rattle.tables.specs.Tables.{cleared}
use Rattle.tlb.specs.Slots.{empty_slot}
use Rattle.machine.specs.declared.call.Answer.TheVariants as answer
use Rattle.machine.specs.declared.call.Call.TheVariants.{Space, Grant, Back}
use Rattle.machine.specs.declared.refusal.Refusal.TheVariants.{SpacesFull, NoFrame, NotHeld}
use Rattle.machine.specs.Calls.{call_step, told_as}
use Rattle.machine.specs.Pages.{grant_by, space_by, with_frames}
use Rattle.machine.specs.State.{State}
use Rattle.law.specs.History.{History, or_else, root_in}
use Rattle.law.specs.Runs.{event_of}
use Rattle.law.proofs.Good.{Good, later, moved, refused_quiet}
use Rattle.law.proofs.Places.{Place, root, Standing, at_one, at_other}
use Rattle.law.proofs.Pools.{Moves, take_moves, free_moves, apart_by_tag}
use Rattle.law.proofs.Slots.{empty_at}
use Rattle.law.proofs.TableSteps.{granted_tables, backed_tables, space_tables, unplaced}

module _ (H : History) (s : State) (g : Good H s) (choice : ℕ → ℕ) where
  pub grant_good : Good (event_of s choice Grant ∷ H) (call_step s choice Grant).1
  grant_good = at (next s.frames) refl
    where
      at : (o : Option ℕ) → next s.frames ≡ o → Good (record { call = Grant; answer = told_as answer.Frame (grant_by s o).0; cells = s.cells; next = next s.frames } ∷ H) (grant_by s o).1
      at None e = later _ H (refused_quiet _ NoFrame refl) s g
      at (Some f) e =
          let m = take_moves s.frames state.Held g.sound f e in
          later _ H (record { frees = λ x. refl; fences = λ h sp p. refl; enters = λ h. refl; sets = λ h. refl; makes = λ sp. refl }) (grant_by s (Some f)).1
          (moved H s g (cleared s.cells f) (taken s.frames state.Held) g.at
          (granted_tables s.cells s.frames s.roots g.at g.held g.tables (taken s.frames state.Held) f state.Held m) m.sound (λ t st. refl))

  pub back_good : (f : ℕ) → Good (event_of s choice (Back f) ∷ H) (call_step s choice (Back f)).1
  back_good f = at (is_in s.frames f state.Held) refl
    where
      at : (b : Bool) → is_in s.frames f state.Held ≡ b → Good (record { call = Back f; answer = told_as (λ _. answer.Done) (cond b (Ok (tt {0})) (Err NotHeld)); cells = s.cells; next = next s.frames } ∷ H) (with_frames s s.cells (cond b (released s.frames f) s.frames))
      at false e = later _ H (refused_quiet _ NotHeld refl) s g
      at true e =
          let m = subst (λ (w : Frames). Moves s.frames w f state.Held state.Free) (cond-true (is_in s.frames f state.Held) (released s.frames f) s.frames e)
          (free_moves s.frames f state.Held g.sound e (apart_by_tag state.Held state.Free (λ q. omega arith))) in
          later _ H (record { frees = λ x. refl; fences = λ h sp p. refl; enters = λ h. refl; sets = λ h. refl; makes = λ sp. refl }) (with_frames s s.cells (released s.frames f))
          (moved H s g s.cells (released s.frames f) g.at
          (backed_tables s.cells s.frames s.roots g.at g.held g.tables (released s.frames f) f m) m.sound (λ t st. refl))

  -- a new space: its root is a table, its pages are mapped nowhere, and no hart is in it
  pub space_good : Good (event_of s choice Space ∷ H) (call_step s choice Space).1
  space_good = at (empty_slot 0 s.roots) refl (next s.frames) refl
    where
      at : (n : Option ℕ) → empty_slot 0 s.roots ≡ n → (o : Option ℕ) → next s.frames ≡ o → Good (record { call = Space; answer = told_as answer.Space (space_by s n o).0; cells = s.cells; next = o } ∷ H) (space_by s n o).1
      at None e o x = later _ H (refused_quiet _ SpacesFull refl) s g
      at (Some n) e None x = later _ H (refused_quiet _ NoFrame refl) s g
      at (Some n) e (Some f) x =
          let m = take_moves s.frames state.Table g.sound f x in
          let slot = empty_at s.roots n e in
          let at' : ℕ → Place = at_one g.at f (root n) in
          let kept : (t : ℕ) → Standing (g.at t) → at' t ≡ g.at t =
          λ t st. at_other g.at f (root n) t (λ q. unplaced s.cells s.frames s.roots g.at g.held g.tables f state.Free m.was (λ z. omega arith) (subst (λ (k : ℕ). Standing (g.at k)) q st)) in
          let other : (sp : ℕ) → (sp ≡ n → ⊥) → root_in (record { call = Space; answer = Ok (answer.Space n); cells = s.cells; next = Some f } ∷ H) sp ≡ root_in H sp =
          λ sp ne. ap (λ (b : Bool). or_else (cond b (Some f) None) (root_in H sp)) (ne_eqb n sp (λ q. ne (sym q))) in
          let old_root : (sp r : ℕ) → root_in H sp ≡ Some r → sp ≡ n → ⊥ =
          λ sp r y q. none-some r (sym slot.0 ∙ ap (λ (k : ℕ). get_or s.roots k None) (sym q) ∙ g.roots sp ∙ y) in
          record {
            at = at';
            held = g.held;
            sound = m.sound;
            tables = space_tables s.cells s.frames s.roots g.at g.held g.tables (taken s.frames state.Table) n f m slot.1;
            housed = λ h t k y. subst Standing (sym (kept t (g.housed h t k y))) (g.housed h t k y);
            enough = g.enough;
            owes = g.owes;
            owed_by = g.owed_by;
            ways = λ h i way y.
                let w = g.ways h i way y in
                record {
                  paged = w.paged;
                  home =
                      ⊎_elim
                      (λ z. inl (record { table = z.table; there = z.there; place = kept z.table (g.housed way.frame z.table (index way.of.page 0) z.there) ∙ z.place }))
                      (λ z. inr z) w.home;
                  root = w.root;
                  rooted = other way.of.space (old_root way.of.space w.root w.rooted) ∙ w.rooted;
                  seen = (refl, inr w.seen);
                };
            unmade = g.unmade;
            leaf_put_is = λ h t k sp i j p a b c d y z. inr (refl, g.leaf_put_is h t k sp i j p a (sym (kept t (g.housed h t k a)) ∙ b) c d y z);
            debt_put = λ k d h a b. inr (refl, g.debt_put k d h a b);
            spaces = g.spaces;
            status = g.status;
            roots = λ sp.
                ⊎_elim
                (λ (q : sp ≡ n).
                ap (λ (k : ℕ). get_or (set s.roots n (Some f)) k None) q ∙ get_or-set_same s.roots n (Some f) None slot.1
                ∙ sym (ap (λ (b : Bool). or_else (cond b (Some f) None) (root_in H sp)) (eq-eqb n sp (sym q))))
                (λ (ne : sp ≡ n → ⊥). get_or-set_other s.roots n sp (Some f) None ne ∙ g.roots sp ∙ sym (other sp ne)) (cases_eq sp n);
            stands = λ h sp l y.
                let r = g.stands h sp l y in
                (r.0, get_or-set_other s.roots n sp (Some f) None (λ q. none-some r.0 (sym slot.0 ∙ ap (λ (k : ℕ). get_or s.roots k None) (sym q) ∙ r.1)) ∙ r.1);
          }
