-- fence keeps what holds of every state.
use Rattle.std.proofs.Common.{◌≡◌, ℕ, ◌<◌, Bool, true, false, cond, ◌&&◌, eqb, ◌⊎◌, List, [], ◌∷◌, map, get_or, set, Some, None, Ok, Err, Option, sym, refl, ap, ◌∙◌, subst, inl, inr, ⊎_elim, arith}
use Rattle.std.proofs.lemmas.List.{get_or-set_same, get_or-set_other, length-set}
use Rattle.std.proofs.lemmas.Bool.{both_ways, cases_Bool, cases_eq, cond-true, cond-false, ltb-true, ne_eqb, and_left, and_right}
use Rattle.debts.specs.declared.debt.Debt.{Debt}
use Rattle.debts.specs.Debts.{marked_by, with_mark}
use Rattle.std.proofs.lemmas.Option.{none-some, same_Some}
use Rattle.debts.specs.Debts as ledger
use Rattle.frames.specs.Frames.{next}
use Rattle.tlb.specs.declared.way.Way.{Way}
use Rattle.tlb.specs.Rows.{matches, covers, spared, fenced}
use Rattle.machine.specs.declared.call.Answer.TheVariants as answer
use Rattle.machine.specs.declared.call.Call.TheVariants.{Fence}
use Rattle.machine.specs.declared.refusal.Refusal.TheVariants.{NoHart, NoSpace}
use Rattle.machine.specs.Calls.{call_step, told_as}
use Rattle.machine.specs.Harts.{fence_page, stands_in, fence_by}
use Rattle.machine.specs.State.{State, is_hart, row_of}
use Rattle.law.specs.History.{Event, History, covers_page, PutSince}
use Rattle.law.specs.Runs.{event_of}
use Rattle.law.proofs.Good.{Good, Late, later, refused_quiet}
use Rattle.law.proofs.Marks.{mark_other}
use Rattle.law.proofs.Slots.{map_holds}

-- what a fence makes of a slot
module _ (hart : ℕ) (space at : Option ℕ) where
  marked_cases : (o : Option Debt) (x : Debt) → marked_by hart space at o ≡ Some x → (d : Debt) × ((o ≡ Some d) × (((ledger.covers space at d ≡ true) × (x ≡ with_mark hart d)) ⊎ ((ledger.covers space at d ≡ false) × (x ≡ d))))
  marked_cases None x e = absurd (none-some x e)
  marked_cases (Some d) x e =
      ⊎_elim
      (λ (t : ledger.covers space at d ≡ true).
      (d, (refl, inl (t, sym (same_Some (with_mark hart d) x (sym (cond-true (ledger.covers space at d) (Some (with_mark hart d)) (Some d) t) ∙ e))))))
      (λ (t : ledger.covers space at d ≡ false).
      (d, (refl, inr (t, sym (same_Some d x (sym (cond-false (ledger.covers space at d) (Some (with_mark hart d)) (Some d) t) ∙ e)))))) (cases_Bool (ledger.covers space at d))

  marked_is : (d : Debt) → ((ledger.covers space at d ≡ true) × (marked_by hart space at (Some d) ≡ Some (with_mark hart d))) ⊎ ((ledger.covers space at d ≡ false) × (marked_by hart space at (Some d) ≡ Some d))
  marked_is d =
      ⊎_elim (λ (t : ledger.covers space at d ≡ true). inl (t, cond-true (ledger.covers space at d) (Some (with_mark hart d)) (Some d) t))
      (λ (t : ledger.covers space at d ≡ false). inr (t, cond-false (ledger.covers space at d) (Some (with_mark hart d)) (Some d) t)) (cases_Bool (ledger.covers space at d))

  spared_cases : (o : Option Way) (way : Way) → spared space at o ≡ Some way → (o ≡ Some way) × (covers space at way ≡ false)
  spared_cases None way e = absurd (none-some way e)
  spared_cases (Some x) way e =
      ⊎_elim
      (λ (t : covers space at x ≡ true). absurd (none-some way (sym (cond-true (covers space at x) None (Some x) t) ∙ e)))
      (λ (t : covers space at x ≡ false).
      let same = same_Some x way (sym (cond-false (covers space at x) None (Some x) t) ∙ e) in
      (ap Some same, ap (covers space at) (sym same) ∙ t)) (cases_Bool (covers space at x))

module _ (H : History) (s : State) (g : Good H s) (hart : ℕ) (space address : Option ℕ) (at : Option ℕ) (pages : fence_page address ≡ Some at) (l : hart < s.count) (n : ℕ) where
  abbrev ev : Event
  ev = record { call = Fence hart space address; answer = Ok (answer.Emptied n); cells = s.cells; next = next s.frames }

  abbrev slots' : List (Option Debt)
  slots' = map (marked_by hart space at) s.debts.slots

  abbrev after : State
  after = (fence_by s hart space (Some at)).1

  slot_is : (k : ℕ) → get_or slots' k None ≡ marked_by hart space at (get_or s.debts.slots k None)
  slot_is k = map_holds (marked_by hart space at) refl s.debts.slots k

  -- a debt after the fence is one before it, but for the mark
  debt_was : (k : ℕ) (x : Debt) → get_or slots' k None ≡ Some x → (d : Debt) × ((get_or s.debts.slots k None ≡ Some d) × ((x.frame ≡ d.frame) × ((x.of.space ≡ d.of.space) × (x.of.page ≡ d.of.page))))
  debt_was k x y =
      let r = marked_cases hart space at (get_or s.debts.slots k None) x (sym (slot_is k) ∙ y) in (
        r.0,
        (
          r.1.0,
          ⊎_elim
              (λ (p : (ledger.covers space at r.0 ≡ true) × (x ≡ with_mark hart r.0)).
              (ap (λ (z : Debt). z.frame) p.1, (ap (λ (z : Debt). z.of.space) p.1, ap (λ (z : Debt). z.of.page) p.1)))
              (λ (p : (ledger.covers space at r.0 ≡ false) × (x ≡ r.0)).
              (ap (λ (z : Debt). z.frame) p.1, (ap (λ (z : Debt). z.of.space) p.1, ap (λ (z : Debt). z.of.page) p.1))) r.1.1,
        ),
      )

  covers_other : (h sp p : ℕ) → (h ≡ hart → ⊥) → (eqb hart h && (matches space sp && covers_page (fence_page address) p)) ≡ false
  covers_other h sp p ne = and_left (eqb hart h) _ (ne_eqb hart h (λ q. ne (sym q)))

  covers_spared : (h : ℕ) (way : Way) → covers space at way ≡ false → (eqb hart h && (matches space way.of.space && covers_page (fence_page address) way.of.page)) ≡ false
  covers_spared h way c =
      ap (λ (o : Option (Option ℕ)). eqb hart h && (matches space way.of.space && covers_page o way.of.page)) pages
      ∙ and_right (eqb hart h) (covers space at way) c

  -- a way after the fence is one before it, and not covered if it is the fenced hart's
  way_was : (h i : ℕ) (way : Way) → get_or (row_of after h) i None ≡ Some way → (get_or (row_of s h) i None ≡ Some way) × ((h ≡ hart → ⊥) ⊎ (covers space at way ≡ false))
  way_was h i way x =
      ⊎_elim
      (λ (q : h ≡ hart).
      let row : row_of after h ≡ fenced space at (row_of s hart) =
      ap (λ (k : ℕ). get_or (set s.rows hart (fenced space at (row_of s hart))) k []) q ∙ get_or-set_same s.rows hart (fenced space at (row_of s hart)) [] (omega (arith, g.enough.1)) in
      let r = spared_cases hart space at (get_or (row_of s hart) i None) way (sym (map_holds (spared space at) refl (row_of s hart) i) ∙ ap (λ (ws : List (Option Way)). get_or ws i None) (sym row) ∙ x) in
      (ap (λ (k : ℕ). get_or (row_of s k) i None) q ∙ r.0, inr r.1))
      (λ (ne : h ≡ hart → ⊥).
      (ap (λ (ws : List (Option Way)). get_or ws i None) (sym (get_or-set_other s.rows hart h (fenced space at (row_of s hart)) [] ne)) ∙ x, inl ne)) (cases_eq h hart)

  late_still : (h : ℕ) (way : Way) → ((h ≡ hart → ⊥) ⊎ (covers space at way ≡ false)) → Late s.debts.slots g.held h way.of.space way.of.page way.frame → Late slots' g.held h way.of.space way.of.page way.frame
  late_still h way c y =
      let at_slot = slot_is y.slot ∙ ap (marked_by hart space at) y.open_in in
      ⊎_elim
      (λ (p : (ledger.covers space at y.debt ≡ true) × (marked_by hart space at (Some y.debt) ≡ Some (with_mark hart y.debt))).
      ⊎_elim
      (λ (ne : h ≡ hart → ⊥).
      record { slot = y.slot; debt = with_mark hart y.debt; there = y.there; open_in = at_slot ∙ p.1; space = y.space; at_page = y.at_page; frame = y.frame; late = mark_other y.debt.marks hart h (λ q. ne (sym q)) ∙ y.late })
      (λ (un : covers space at way ≡ false).
      absurd
      (both_ways (covers space at way) un
      (ap (λ (k : ℕ). matches space k && matches at way.of.page) (sym y.space) ∙ ap (λ (k : ℕ). matches space y.debt.of.space && matches at k) (sym y.at_page) ∙ p.0))) c)
      (λ (p : (ledger.covers space at y.debt ≡ false) × (marked_by hart space at (Some y.debt) ≡ Some y.debt)).
      record { slot = y.slot; debt = y.debt; there = y.there; open_in = at_slot ∙ p.1; space = y.space; at_page = y.at_page; frame = y.frame; late = y.late }) (marked_is hart space at y.debt)

  pub fenced_good : Good (ev ∷ H) after
  fenced_good =
      record {
        at = g.at;
        held = g.held;
        sound = g.sound;
        tables = g.tables;
        housed = g.housed;
        enough = (g.enough.0, omega (arith, g.enough.1, length-set s.rows hart (fenced space at (row_of s hart))));
        owes = λ k x f y z. let r = debt_was k x y in g.owes k r.0 f r.1.0 (sym r.1.1.0 ∙ z);
        owed_by = λ f k e.
            let r = g.owed_by f k e in
            let at_slot = slot_is k ∙ ap (marked_by hart space at) r.1.0 in
            ⊎_elim (λ (p : (ledger.covers space at r.0 ≡ true) × (marked_by hart space at (Some r.0) ≡ Some (with_mark hart r.0))). (with_mark hart r.0, (at_slot ∙ p.1, r.1.1)))
            (λ (p : (ledger.covers space at r.0 ≡ false) × (marked_by hart space at (Some r.0) ≡ Some r.0)). (r.0, (at_slot ∙ p.1, r.1.1))) (marked_is hart space at r.0);
        ways = λ h i way x.
            let was = way_was h i way x in
            let w = g.ways h i way was.0 in
            record {
              paged = w.paged;
              home = ⊎_elim (λ y. inl y) (λ y. inr (late_still h way was.1 y)) w.home;
              root = w.root;
              rooted = w.rooted;
              seen = (⊎_elim (λ ne. covers_other h way.of.space way.of.page ne) (λ c. covers_spared h way c) was.1, inr w.seen);
            };
        unmade = λ h i c.
            ap (λ (ws : List (Option Way)). get_or ws i None) (get_or-set_other s.rows hart h (fenced space at (row_of s hart)) [] (λ q. omega arith)) ∙ g.unmade h i c;
        leaf_put_is = λ f t k sp i j p a b c d x y. inr (refl, g.leaf_put_is f t k sp i j p a b c d x y);
        debt_put = λ k x f y z.
            let r = debt_was k x y in
            inr (
              refl,
              subst (λ (p : ℕ). PutSince H x.of.space p f) (sym r.1.1.1.1)
                  (subst (λ (p : ℕ). PutSince H p r.0.of.page f) (sym r.1.1.1.0) (g.debt_put k r.0 f r.1.0 (sym r.1.1.0 ∙ z))),
            );
        spaces = g.spaces;
        status = g.status;
        roots = g.roots;
        stands = g.stands;
      }

module _ (H : History) (s : State) (g : Good H s) (choice : ℕ → ℕ) (hart : ℕ) (space address : Option ℕ) where
  pub fence_good : Good (event_of s choice (Fence hart space address) ∷ H) (call_step s choice (Fence hart space address)).1
  fence_good = by_hart (is_hart s hart) refl
    where
      by_page : is_hart s hart ≡ true → (o : Option (Option ℕ)) → fence_page address ≡ o → Good (record { call = Fence hart space address; answer = told_as answer.Emptied (fence_by s hart space o).0; cells = s.cells; next = next s.frames } ∷ H) (fence_by s hart space o).1
      by_page t None e =
          later _ H
          (record {
            frees = λ x. refl;
            fences = λ h sp p.
                ap (λ (o : Option (Option ℕ)). eqb hart h && (matches space sp && covers_page o p)) e ∙ and_right (eqb hart h) (matches space sp && false) (and_right (matches space sp) false refl);
            enters = λ h. refl;
            sets = λ h. refl;
            makes = λ sp. refl;
          }) s g
      by_page t (Some at) e = fenced_good H s g hart space address at e (ltb-true hart s.count t) _

      by_space : is_hart s hart ≡ true → (b : Bool) → Good (record { call = Fence hart space address; answer = told_as answer.Emptied (cond b (fence_by s hart space (fence_page address)) (Err NoSpace, s)).0; cells = s.cells; next = next s.frames } ∷ H) (cond b (fence_by s hart space (fence_page address)) (Err NoSpace, s)).1
      by_space t true = by_page t (fence_page address) refl
      by_space t false = later _ H (refused_quiet _ NoSpace refl) s g

      by_hart : (b : Bool) → is_hart s hart ≡ b → Good (record { call = Fence hart space address; answer = told_as answer.Emptied (cond b (cond (stands_in s.roots space) (fence_by s hart space (fence_page address)) (Err NoSpace, s)) (Err NoHart, s)).0; cells = s.cells; next = next s.frames } ∷ H) (cond b (cond (stands_in s.roots space) (fence_by s hart space (fence_page address)) (Err NoSpace, s)) (Err NoHart, s)).1
      by_hart true t = by_space t (stands_in s.roots space)
      by_hart false t = later _ H (refused_quiet _ NoHart refl) s g
