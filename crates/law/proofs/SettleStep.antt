-- settle keeps what holds of every state.
use Rattle.std.proofs.Common.{◌≡◌, ℕ, ◌<◌, ◌≤◌, List, ◌∷◌, get_or, set, Some, None, Ok, Option, sym, refl, ap, ◌∙◌, subst, inl, inr, ⊎_elim, arith}
use Rattle.std.proofs.lemmas.List.{get_or-set_other}
use Rattle.std.proofs.lemmas.Bool.{both_ways, cases_eq, cases_lt, ne_eqb}
use Rattle.debts.specs.declared.debt.Debt.{Debt}
use Rattle.debts.specs.Debts.{Debts, open_debt, lowest_unmarked, settle_at, closed_at, closed_by, settled}
use Rattle.std.proofs.lemmas.Option.{none-some, same_Some}
use Rattle.debts.specs.Debts as ledger
use Rattle.frames.specs.declared.state.FrameState.TheVariants as state
use Rattle.frames.specs.Frames.{Frames, next, freed}
use Rattle.sv39.specs.Address.{index}
use Rattle.sv39.specs.Layout.{bit}
use Rattle.tlb.specs.declared.way.Way.{Way}
use Rattle.machine.specs.declared.call.Answer.TheVariants as answer
use Rattle.machine.specs.declared.call.Call.TheVariants.{Settle}
use Rattle.machine.specs.declared.refusal.Refusal.TheVariants.{NotOpen, Unmarked}
use Rattle.machine.specs.Calls.{call_step, told_as}
use Rattle.machine.specs.Harts.{settle_by, with_settled}
use Rattle.machine.specs.State.{State, row_of}
use Rattle.law.specs.History.{Event, History}
use Rattle.law.specs.Runs.{event_of}
use Rattle.law.proofs.Good.{Good, LeafHome, Late, later, refused_quiet}
use Rattle.law.proofs.Marks.{all_marked}
use Rattle.law.proofs.Places.{Holder, nowhere, in_leaf, in_debt, at_one, at_same, at_other, nowhere_not_leaf, nowhere_not_debt, leaf_not_debt, debt_same}
use Rattle.law.proofs.Pools.{Moves, free_moves, is_in_from, apart_by_tag}
use Rattle.law.proofs.Slots.{set_holds, open_at}
use Rattle.law.proofs.TableSteps.{released_tables}

-- what a list of slots holds once one is emptied
module _ (slots : List (Option Debt)) (i : ℕ) where
  emptied_holds : (k : ℕ) (x : Debt) → get_or (set slots i None) k None ≡ Some x → (k ≡ i → ⊥) × (get_or slots k None ≡ Some x)
  emptied_holds k x y =
      ⊎_elim (λ (p : (k ≡ i) × (None ≡ Some x)). absurd (none-some x p.1)) (λ (p : (k ≡ i → ⊥) × (get_or slots k None ≡ Some x)). p) (set_holds slots i None k x y)

  still_holds : (k : ℕ) (x : Debt) → (k ≡ i → ⊥) → get_or slots k None ≡ Some x → get_or (set slots i None) k None ≡ Some x
  still_holds k x ne y = get_or-set_other slots i k None None ne ∙ y

abbrev closed : State → ℕ → Debts
closed s i = record { slots = set s.debts.slots i None; next = s.debts.next }

module _ (H : History) (s : State) (g : Good H s) (i : ℕ) (d : Debt) (there : get_or s.debts.slots i None ≡ Some d) where
  same_debt : (k : ℕ) (x : Debt) → get_or s.debts.slots k None ≡ Some x → k ≡ i → x ≡ d
  same_debt k x y q = same_Some x d (sym y ∙ ap (λ (j : ℕ). get_or s.debts.slots j None) q ∙ there)

  -- a debt that owes no frame is closed
  pub closed_good : d.frame ≡ None → Good H (with_settled s s.frames (closed s i))
  closed_good none =
      let apart : (k : ℕ) (x : Debt) (f : ℕ) → get_or s.debts.slots k None ≡ Some x → x.frame ≡ Some f → k ≡ i → ⊥ =
      λ k x f y z q. none-some f (sym none ∙ ap (λ (j : Debt). j.frame) (sym (same_debt k x y q)) ∙ z) in
      record {
        at = g.at;
        held = g.held;
        sound = g.sound;
        tables = g.tables;
        housed = g.housed;
        enough = g.enough;
        owes = λ k x f y z. g.owes k x f (emptied_holds s.debts.slots i k x y).1 z;
        owed_by = λ f k e. let r = g.owed_by f k e in (r.0, (still_holds s.debts.slots i k r.0 (apart k r.0 f r.1.0 r.1.1) r.1.0, r.1.1));
        ways = λ h j way x.
            let w = g.ways h j way x in
            record {
              paged = w.paged;
              home =
                  ⊎_elim (λ y. inl y)
                  (λ y. inr (record { slot = y.slot; debt = y.debt; there = y.there; open_in = still_holds s.debts.slots i y.slot y.debt (apart y.slot y.debt way.frame y.open_in y.frame) y.open_in; space = y.space; at_page = y.at_page; frame = y.frame; late = y.late }))
                  w.home;
              root = w.root;
              rooted = w.rooted;
              seen = w.seen;
            };
        unmade = g.unmade;
        leaf_put_is = g.leaf_put_is;
        debt_put = λ k x f y z. g.debt_put k x f (emptied_holds s.debts.slots i k x y).1 z;
        spaces = g.spaces;
        status = g.status;
        roots = g.roots;
        stands = g.stands;
      }

  -- A debt on which every hart is marked is closed and its frame released: no way has that frame.
  module _ (f debt : ℕ) (frame : d.frame ≡ Some f) (marked : lowest_unmarked d.marks s.count ≡ None) where
    abbrev ev : Event
    ev = record { call = Settle debt; answer = Ok (answer.Settled (Some f)); cells = s.cells; next = next s.frames }

    abbrev held' : ℕ → Holder
    held' = at_one g.held f nowhere

    owed_here : g.held f ≡ in_debt i
    owed_here = g.owes i d f there frame

    leaf_elsewhere : (h u j : ℕ) → g.held h ≡ in_leaf u j → h ≡ f → ⊥
    leaf_elsewhere h u j e q = leaf_not_debt u j i (sym e ∙ ap g.held q ∙ owed_here)

    -- an open debt that owes the frame is this one
    debt_is : (h k : ℕ) → g.held h ≡ in_debt k → h ≡ f → k ≡ i
    debt_is h k e q = debt_same k i (sym e ∙ ap g.held q ∙ owed_here)

    no_way : (h j : ℕ) (way : Way) → get_or (row_of s h) j None ≡ Some way → way.frame ≡ f → ⊥
    no_way h j way x q =
        ⊎_elim (λ (y : LeafHome g.at g.held way.of.space way.of.page way.frame). leaf_elsewhere way.frame y.table (index way.of.page 0) y.there q)
        (λ (y : Late s.debts.slots g.held h way.of.space way.of.page way.frame).
        let same = same_debt y.slot y.debt y.open_in (debt_is way.frame y.slot y.there q) in
        ⊎_elim
        (λ (l : h < s.count).
        both_ways (bit d.marks h) (ap (λ (z : Debt). bit z.marks h) (sym same) ∙ y.late) (all_marked d.marks s.count h marked l))
        (λ (l : s.count ≤ h). none-some way (sym (g.unmade h j l) ∙ x)) (cases_lt h s.count)) (g.ways h j way x).home

    pub released_good : (v' : Frames) → Moves s.frames v' f state.Owed state.Free → Good (ev ∷ H) (with_settled s v' (closed s i))
    released_good v' m =
        let other_frame : (h k : ℕ) (x : Debt) → get_or s.debts.slots k None ≡ Some x → x.frame ≡ Some h → (k ≡ i → ⊥) → h ≡ f → ⊥ =
        λ h k x y z ne q. ne (debt_is h k (g.owes k x h y z) q) in
        record {
          at = g.at;
          held = held';
          sound = m.sound;
          tables = released_tables s.cells s.frames s.roots g.at g.held g.tables v' f i m owed_here;
          housed = λ h u j e.
              ⊎_elim (λ (q : h ≡ f). absurd (nowhere_not_leaf u j (sym (at_same g.held f nowhere) ∙ ap held' (sym q) ∙ e)))
              (λ (ne : h ≡ f → ⊥). g.housed h u j (sym (at_other g.held f nowhere h ne) ∙ e)) (cases_eq h f);
          enough = g.enough;
          owes = λ k x h y z.
              let old = emptied_holds s.debts.slots i k x y in
              at_other g.held f nowhere h (other_frame h k x old.1 z old.0) ∙ g.owes k x h old.1 z;
          owed_by = λ h k e.
              ⊎_elim (λ (q : h ≡ f). absurd (nowhere_not_debt k (sym (at_same g.held f nowhere) ∙ ap held' (sym q) ∙ e)))
              (λ (ne : h ≡ f → ⊥).
              let r = g.owed_by h k (sym (at_other g.held f nowhere h ne) ∙ e) in (
                r.0,
                (
                  still_holds s.debts.slots i k r.0 (λ q. ne (same_Some h f (sym r.1.1 ∙ ap (λ (z : Debt). z.frame) (same_debt k r.0 r.1.0 q) ∙ frame))) r.1.0,
                  r.1.1,
                ),
              )) (cases_eq h f);
          ways = λ h j way x.
              let w = g.ways h j way x in
              let ne = no_way h j way x in
              record {
                paged = w.paged;
                home =
                    ⊎_elim (λ y. inl (record { table = y.table; there = at_other g.held f nowhere way.frame ne ∙ y.there; place = y.place }))
                    (λ y. inr (record { slot = y.slot; debt = y.debt; there = at_other g.held f nowhere way.frame ne ∙ y.there; open_in = still_holds s.debts.slots i y.slot y.debt (λ q. ne (same_Some way.frame f (sym y.frame ∙ ap (λ (z : Debt). z.frame) (same_debt y.slot y.debt y.open_in q) ∙ frame))) y.open_in; space = y.space; at_page = y.at_page; frame = y.frame; late = y.late }))
                    w.home;
                root = w.root;
                rooted = w.rooted;
                seen = (refl, inr w.seen);
              };
          unmade = g.unmade;
          leaf_put_is = λ h u j sp a b p e c pg e2 e1 e0.
              ⊎_elim (λ (q : h ≡ f). absurd (nowhere_not_leaf u j (sym (at_same g.held f nowhere) ∙ ap held' (sym q) ∙ e)))
              (λ (ne : h ≡ f → ⊥).
              inr (ne_eqb f h (λ q. ne (sym q)), g.leaf_put_is h u j sp a b p (sym (at_other g.held f nowhere h ne) ∙ e) c pg e2 e1 e0)) (cases_eq h f);
          debt_put = λ k x h y z.
              let old = emptied_holds s.debts.slots i k x y in
              inr (ne_eqb f h (λ q. other_frame h k x old.1 z old.0 (sym q)), g.debt_put k x h old.1 z);
          spaces = g.spaces;
          status = g.status;
          roots = g.roots;
          stands = g.stands;
        }

module _ (H : History) (s : State) (g : Good H s) (choice : ℕ → ℕ) (debt : ℕ) where
  pub settle_good : Good (event_of s choice (Settle debt) ∷ H) (call_step s choice (Settle debt)).1
  settle_good = at (open_debt debt 0 s.debts.slots) refl
    where
      closes : (i : ℕ) (d : Debt) → open_debt debt 0 s.debts.slots ≡ Some (i, d) → lowest_unmarked d.marks s.count ≡ None → settled s.debts debt s.count ≡ closed s i
      closes i d e u = ap (closed_at s.debts s.count) e ∙ ap (closed_by s.debts i) u

      at_frame : (i : ℕ) (d : Debt) → open_debt debt 0 s.debts.slots ≡ Some (i, d) → lowest_unmarked d.marks s.count ≡ None → (fr : Option ℕ) → d.frame ≡ fr → Good (record { call = Settle debt; answer = told_as answer.Settled (settle_by s debt (Ok fr)).0; cells = s.cells; next = next s.frames } ∷ H) (settle_by s debt (Ok fr)).1
      at_frame i d e u None fr =
          later _ H (record { frees = λ x. refl; fences = λ h sp p. refl; enters = λ h. refl; sets = λ h. refl; makes = λ sp. refl }) _
          (subst (λ (l : Debts). Good H (with_settled s s.frames l)) (sym (closes i d e u)) (closed_good H s g i d (open_at debt s.debts.slots i d e) fr))
      at_frame i d e u (Some f) fr =
          let there = open_at debt s.debts.slots i d e in
          let owed = g.tables.owed f i (g.owes i d f there fr) in
          let m = free_moves s.frames f state.Owed g.sound (is_in_from s.frames f state.Owed owed.0 owed.1) (apart_by_tag state.Owed state.Free (λ q. omega arith)) in
          subst (λ (l : Debts). Good (ev H s g i d there f debt fr u ∷ H) (with_settled s (freed s.frames f state.Owed) l)) (sym (closes i d e u))
          (released_good H s g i d there f debt fr u (freed s.frames f state.Owed) m)

      at_unmarked : (i : ℕ) (d : Debt) → open_debt debt 0 s.debts.slots ≡ Some (i, d) → (u : Option ℕ) → lowest_unmarked d.marks s.count ≡ u → Good (record { call = Settle debt; answer = told_as answer.Settled (settle_by s debt (ledger.settle_by d u)).0; cells = s.cells; next = next s.frames } ∷ H) (settle_by s debt (ledger.settle_by d u)).1
      at_unmarked i d e (Some h) u = later _ H (refused_quiet _ (Unmarked h) refl) s g
      at_unmarked i d e None u = at_frame i d e u d.frame refl

      at : (o : Option (ℕ × Debt)) → open_debt debt 0 s.debts.slots ≡ o → Good (record { call = Settle debt; answer = told_as answer.Settled (settle_by s debt (settle_at s.count o)).0; cells = s.cells; next = next s.frames } ∷ H) (settle_by s debt (settle_at s.count o)).1
      at None e = later _ H (refused_quiet _ NotOpen refl) s g
      at (Some found) e = at_unmarked found.0 found.1 e (lowest_unmarked found.1.marks s.count) refl
