-- protect and unmap keep what holds of every state.
use Rattle.std.proofs.Common.{◌≡◌, ℕ, ◌+◌, ◌*◌, ◌^◌, ◌<◌, Bool, true, false, ltb, ◌⊎◌, List, ◌∷◌, length, get_or, set, Some, None, Ok, Err, Option, Result, sym, refl, ap, ◌∙◌, subst, inl, inr, ⊎_elim, arith}
use Rattle.std.proofs.lemmas.List.{get_or-set_same, get_or-set_other}
use Rattle.std.proofs.lemmas.Bool.{cases_Bool, cases_eq, cond-true, cond-false}
use Rattle.debts.specs.declared.debt.Debt.{Debt}
use Rattle.debts.specs.Debts.{Debts, room, number_at, new_debt, opened_at}
use Rattle.std.proofs.lemmas.Option.{none-some, same_Some}
use Rattle.frames.specs.declared.state.FrameState.TheVariants as state
use Rattle.frames.specs.Frames.{next, turned}
use Rattle.sv39.specs.declared.entry.Entry.{Entry}
use Rattle.sv39.specs.declared.entry.Rights.{Rights}
use Rattle.sv39.specs.Address.{index}
use Rattle.sv39.specs.Layout.{packed}
use Rattle.sv39.specs.Making.{leaf_doubleword}
use Rattle.tlb.specs.declared.way.Way.{Way}
use Rattle.tlb.specs.Slots.{empty_slot}
use Rattle.machine.specs.declared.call.Answer.TheVariants as answer
use Rattle.machine.specs.declared.call.Call.TheVariants.{Protect, Unmap}
use Rattle.machine.specs.declared.refusal.Refusal.{Refusal}
use Rattle.machine.specs.declared.refusal.Refusal.TheVariants.{DebtsFull}
use Rattle.machine.specs.Calls.{call_step, told_as}
use Rattle.machine.specs.Pages.{with_frames, with_debts, reworked, protect_allowed, protect_due, protect_at, protect_by, unmap_allowed, unmap_at, unmap_by}
use Rattle.machine.specs.Rights.{valid, due}
use Rattle.machine.specs.State.{State}
use Rattle.law.specs.History.{History, PutSince}
use Rattle.law.specs.Runs.{event_of}
use Rattle.law.proofs.Allowing.{LeafTells, unmap_tells, protect_tells}
use Rattle.law.proofs.Descents.{Finds, leaf_finds, index_below}
use Rattle.law.proofs.Good.{Good, LeafHome, Late, WayGood, later, moved, refused_quiet}
use Rattle.law.proofs.Marks.{zero_unmarked}
use Rattle.law.proofs.Pages.{page_by_index}
use Rattle.law.proofs.Places.{low, Holder, in_leaf, in_debt, at_one, at_same, at_other, leaf_not_debt, leaf_same, debt_same, low_same}
use Rattle.law.proofs.Pools.{Moves, turn_moves, is_in_from, apart_by_tag}
use Rattle.law.proofs.Slots.{empty_at, set_holds}
use Rattle.law.proofs.TableSteps.{protected_tables, unmapped_tables}

-- where a new debt goes is an empty slot
pub room_empty : (v : Debts) (n : ℕ) → room v ≡ Some n → (get_or v.slots n None ≡ None) × (n < length v.slots)
room_empty v n e =
    ⊎_elim
    (λ (t : ltb v.next (2 ^ 32) ≡ true).
    empty_at v.slots n (sym (cond-true (ltb v.next (2 ^ 32)) (empty_slot 0 v.slots) None t) ∙ e))
    (λ (t : ltb v.next (2 ^ 32) ≡ false).
    absurd (none-some n (sym (cond-false (ltb v.next (2 ^ 32)) (empty_slot 0 v.slots) None t) ∙ e))) (cases_Bool (ltb v.next (2 ^ 32)))

module _ (H : History) (s : State) (g : Good H s) where
  leaf_of_is : (space address : ℕ) (leaf : ℕ × Entry) (tells : LeafTells s space address leaf) → Finds s.cells g.at g.held space address leaf.0 leaf.1
  leaf_of_is space address leaf tells =
      leaf_finds s.cells s.frames s.roots g.at g.held g.tables g.sound.limited.1 space tells.root tells.rooted address leaf.0 leaf.1 tells.found

  -- the leaf of a page with other rights
  pub reworked_good : (space address : ℕ) (rights : Rights) (leaf : ℕ × Entry) → valid rights ≡ true → LeafTells s space address leaf → Good H (with_frames s (set s.cells leaf.0 (packed (reworked leaf.1 rights))) s.frames)
  reworked_good space address rights leaf may tells =
      let found = leaf_of_is space address leaf tells in
      let L = found.leaf in
      let w : ℕ = packed (reworked leaf.1 rights) in
      let word : w ≡ leaf_doubleword L.frame rights = omega (arith, found.ppn, found.rest.0, found.rest.1) in
      subst (λ (n : ℕ). Good H (with_frames s (set s.cells n w) s.frames)) (sym found.where_it_is)
      (moved H s g (set s.cells (512 * L.table + index address 0) w) s.frames g.at
      (protected_tables s.cells s.frames s.roots g.at g.held g.tables L.table (index address 0) w (index_below address 0) space (index address 2) (index address 1) L.place L.frame rights L.there may word)
      g.sound (λ t st. refl))

  -- a debt that owes no frame
  pub opened_good : (n : ℕ) (d : Debt) → room s.debts ≡ Some n → d.frame ≡ None → Good H (with_debts s s.cells s.frames (opened_at s.debts d (Some n)))
  opened_good n d e none =
      let slot = room_empty s.debts n e in
      let other : (m : ℕ) (x : Debt) → get_or s.debts.slots m None ≡ Some x → get_or (set s.debts.slots n (Some d)) m None ≡ Some x =
      λ m x y. get_or-set_other s.debts.slots n m (Some d) None (λ q. none-some x (sym slot.0 ∙ ap (λ (k : ℕ). get_or s.debts.slots k None) (sym q) ∙ y)) ∙ y in
      let old : (m : ℕ) (x : Debt) (f : ℕ) → get_or (set s.debts.slots n (Some d)) m None ≡ Some x → x.frame ≡ Some f → get_or s.debts.slots m None ≡ Some x =
      λ m x f y z.
      ⊎_elim
      (λ (p : (m ≡ n) × (Some d ≡ Some x)).
      absurd (none-some f (sym none ∙ ap (λ (k : Debt). k.frame) (same_Some d x p.1) ∙ z)))
      (λ (p : (m ≡ n → ⊥) × (get_or s.debts.slots m None ≡ Some x)). p.1) (set_holds s.debts.slots n (Some d) m x y) in
      record {
        at = g.at;
        held = g.held;
        sound = g.sound;
        tables = g.tables;
        housed = g.housed;
        enough = g.enough;
        owes = λ m x f y z. g.owes m x f (old m x f y z) z;
        owed_by = λ f m x. let r = g.owed_by f m x in (r.0, (other m r.0 r.1.0, r.1.1));
        ways = λ h i way x.
            let w = g.ways h i way x in
            record {
              paged = w.paged;
              home =
                  ⊎_elim (λ y. inl y)
                  (λ y. inr (record { slot = y.slot; debt = y.debt; there = y.there; open_in = other y.slot y.debt y.open_in; space = y.space; at_page = y.at_page; frame = y.frame; late = y.late }))
                  w.home;
              root = w.root;
              rooted = w.rooted;
              seen = w.seen;
            };
        unmade = g.unmade;
        leaf_put_is = g.leaf_put_is;
        debt_put = λ m x f y z. g.debt_put m x f (old m x f y z) z;
        spaces = g.spaces;
        status = g.status;
        roots = g.roots;
        stands = g.stands;
      }

module _ (H : History) (s : State) (g : Good H s) (choice : ℕ → ℕ) (space address : ℕ) (rights : Rights) where
  pub protect_good : Good (event_of s choice (Protect space address rights) ∷ H) (call_step s choice (Protect space address rights)).1
  protect_good = at (protect_allowed s space address rights) refl
    where
      at_room : (leaf : ℕ × Entry) → valid rights ≡ true → LeafTells s space address leaf → (ro : Option ℕ) → room s.debts ≡ ro → Good (record { call = Protect space address rights; answer = told_as answer.Protected (protect_due s space address rights leaf.0 leaf.1 (number_at s.debts.next ro)).0; cells = s.cells; next = next s.frames } ∷ H) (protect_due s space address rights leaf.0 leaf.1 (number_at s.debts.next ro)).1
      at_room leaf may tells None r = later _ H (refused_quiet _ DebtsFull refl) s g
      at_room leaf may tells (Some n) r =
          let cells' : List ℕ = set s.cells leaf.0 (packed (reworked leaf.1 rights)) in
          let d : Debt = new_debt s.debts.next space address None in
          later _ H (record { frees = λ x. refl; fences = λ h sp p. refl; enters = λ h. refl; sets = λ h. refl; makes = λ sp. refl }) _
          (subst (λ (ro : Option ℕ). Good H (with_debts s cells' s.frames (opened_at s.debts d ro))) (sym r)
          (opened_good H (with_frames s cells' s.frames) (reworked_good H s g space address rights leaf may tells) n d r refl))

      at_due : (leaf : ℕ × Entry) → valid rights ≡ true → LeafTells s space address leaf → (b : Bool) → Good (record { call = Protect space address rights; answer = told_as answer.Protected (protect_at s space address rights leaf.0 leaf.1 b).0; cells = s.cells; next = next s.frames } ∷ H) (protect_at s space address rights leaf.0 leaf.1 b).1
      at_due leaf may tells false =
          later _ H (record { frees = λ x. refl; fences = λ h sp p. refl; enters = λ h. refl; sets = λ h. refl; makes = λ sp. refl }) _ (reworked_good H s g space address rights leaf may tells)
      at_due leaf may tells true = at_room leaf may tells (room s.debts) refl

      at : (o : Result (ℕ × Entry) Refusal) → protect_allowed s space address rights ≡ o → Good (record { call = Protect space address rights; answer = told_as answer.Protected (protect_by s space address rights o).0; cells = s.cells; next = next s.frames } ∷ H) (protect_by s space address rights o).1
      at (Err refusal) e = later _ H (refused_quiet _ refusal refl) s g
      at (Ok leaf) e =
          let tells = protect_tells s space address rights leaf e in
          at_due leaf tells.0 tells.1 (due leaf.1.flags rights)

-- A page's leaf becomes 0, and a debt in an empty slot owes its frame.
module _ (H : History) (s : State) (g : Good H s) (space address : ℕ) (leaf : ℕ × Entry) (tells : LeafTells s space address leaf) (n number : ℕ) (free-slot : room s.debts ≡ Some n) where
  module _ (f₀ t : ℕ) (there : g.held f₀ ≡ in_leaf t (index address 0)) (place : g.at t ≡ low space (index address 2) (index address 1)) (m : Moves s.frames (turned s.frames f₀ state.Mapped state.Owed) f₀ state.Mapped state.Owed) where
    abbrev owed_held : ℕ → Holder
    owed_held = at_one g.held f₀ (in_debt n)

    abbrev new : Debt
    new = new_debt number space address (Some f₀)

    slots_are : (k : ℕ) (x : Debt) → get_or (set s.debts.slots n (Some new)) k None ≡ Some x → ((k ≡ n) × (new ≡ x)) ⊎ ((k ≡ n → ⊥) × (get_or s.debts.slots k None ≡ Some x))
    slots_are k x y =
        ⊎_elim (λ (p : (k ≡ n) × (Some new ≡ Some x)). inl (p.0, same_Some new x p.1)) (λ (p : (k ≡ n → ⊥) × (get_or s.debts.slots k None ≡ Some x)). inr p) (set_holds s.debts.slots n (Some new) k x y)

    old_slot : (k : ℕ) (x : Debt) → get_or s.debts.slots k None ≡ Some x → get_or (set s.debts.slots n (Some new)) k None ≡ Some x
    old_slot k x y =
        get_or-set_other s.debts.slots n k (Some new) None (λ q. none-some x (sym (room_empty s.debts n free-slot).0 ∙ ap (λ (j : ℕ). get_or s.debts.slots j None) (sym q) ∙ y)) ∙ y

    new_slot : get_or (set s.debts.slots n (Some new)) n None ≡ Some new
    new_slot = get_or-set_same s.debts.slots n (Some new) None (room_empty s.debts n free-slot).1

    debt_elsewhere : (h k : ℕ) → g.held h ≡ in_debt k → h ≡ f₀ → ⊥
    debt_elsewhere h k e q = leaf_not_debt t (index address 0) k (sym there ∙ ap g.held (sym q) ∙ e)

    way_home : (h : ℕ) (way : Way) → WayGood H s.debts.slots g.at g.held h way → LeafHome g.at owed_held way.of.space way.of.page way.frame ⊎ Late (set s.debts.slots n (Some new)) owed_held h way.of.space way.of.page way.frame
    way_home h way w =
        ⊎_elim
        (λ (y : LeafHome g.at g.held way.of.space way.of.page way.frame).
        ⊎_elim
        (λ (q : way.frame ≡ f₀).
        let same = leaf_same y.table (index way.of.page 0) t (index address 0) (sym y.there ∙ ap g.held q ∙ there) in
        let places = low_same way.of.space (index way.of.page 2) (index way.of.page 1) space (index address 2) (index address 1) (sym y.place ∙ ap g.at same.0 ∙ place) in
        let pages : address ≡ way.of.page = page_by_index address way.of.page tells.paged w.paged (sym places.1) (sym places.2) (sym same.1) in
        inr (record { slot = n; debt = new; there = ap owed_held q ∙ at_same g.held f₀ (in_debt n); open_in = new_slot; space = sym places.0; at_page = pages; frame = ap Some (sym q); late = zero_unmarked h }))
        (λ (ne : way.frame ≡ f₀ → ⊥). inl (record { table = y.table; there = at_other g.held f₀ (in_debt n) way.frame ne ∙ y.there; place = y.place })) (cases_eq way.frame f₀))
        (λ (y : Late s.debts.slots g.held h way.of.space way.of.page way.frame).
        inr (record { slot = y.slot; debt = y.debt; there = at_other g.held f₀ (in_debt n) way.frame (debt_elsewhere way.frame y.slot y.there) ∙ y.there; open_in = old_slot y.slot y.debt y.open_in; space = y.space; at_page = y.at_page; frame = y.frame; late = y.late })) w.home

    pub unmapped_good : Good H (with_debts s (set s.cells (512 * t + index address 0) 0) (turned s.frames f₀ state.Mapped state.Owed) (opened_at s.debts new (Some n)))
    unmapped_good =
        record {
          at = g.at;
          held = owed_held;
          sound = m.sound;
          tables = unmapped_tables s.cells s.frames s.roots g.at g.held g.tables t (index address 0) 0 (index_below address 0) space (index address 2) (index address 1) place (turned s.frames f₀ state.Mapped state.Owed) f₀ n m there refl;
          housed = λ h u j e.
              ⊎_elim
              (λ (q : h ≡ f₀). absurd (leaf_not_debt u j n (sym e ∙ ap owed_held q ∙ at_same g.held f₀ (in_debt n))))
              (λ (ne : h ≡ f₀ → ⊥). g.housed h u j (sym (at_other g.held f₀ (in_debt n) h ne) ∙ e)) (cases_eq h f₀);
          enough = g.enough;
          owes = λ k x h y z.
              ⊎_elim
              (λ (p : (k ≡ n) × (new ≡ x)).
              let same : f₀ ≡ h = same_Some f₀ h (ap (λ (j : Debt). j.frame) p.1 ∙ z) in
              ap owed_held (sym same) ∙ at_same g.held f₀ (in_debt n) ∙ ap in_debt (sym p.0))
              (λ (p : (k ≡ n → ⊥) × (get_or s.debts.slots k None ≡ Some x)).
              let old = g.owes k x h p.1 z in
              at_other g.held f₀ (in_debt n) h (debt_elsewhere h k old) ∙ old) (slots_are k x y);
          owed_by = λ h k e.
              ⊎_elim
              (λ (q : h ≡ f₀).
              let same : n ≡ k = debt_same n k (sym (at_same g.held f₀ (in_debt n)) ∙ ap owed_held (sym q) ∙ e) in
              (new, (ap (λ (j : ℕ). get_or (set s.debts.slots n (Some new)) j None) (sym same) ∙ new_slot, ap Some (sym q))))
              (λ (ne : h ≡ f₀ → ⊥).
              let r = g.owed_by h k (sym (at_other g.held f₀ (in_debt n) h ne) ∙ e) in
              (r.0, (old_slot k r.0 r.1.0, r.1.1))) (cases_eq h f₀);
          ways = λ h i way x.
              let w = g.ways h i way x in
              record { paged = w.paged; home = way_home h way w; root = w.root; rooted = w.rooted; seen = w.seen };
          unmade = g.unmade;
          leaf_put_is = λ h u j sp i i' p e.
              g.leaf_put_is h u j sp i i' p
              (⊎_elim (λ (q : h ≡ f₀). absurd (leaf_not_debt u j n (sym e ∙ ap owed_held q ∙ at_same g.held f₀ (in_debt n))))
              (λ (ne : h ≡ f₀ → ⊥). sym (at_other g.held f₀ (in_debt n) h ne) ∙ e) (cases_eq h f₀));
          debt_put = λ k x h y z.
              ⊎_elim
              (λ (p : (k ≡ n) × (new ≡ x)).
              let same : f₀ ≡ h = same_Some f₀ h (ap (λ (j : Debt). j.frame) p.1 ∙ z) in
              subst (λ (j : Debt). PutSince H j.of.space j.of.page h) p.1
              (subst (PutSince H space address) same (g.leaf_put_is f₀ t (index address 0) space (index address 2) (index address 1) address there place tells.paged refl refl refl)))
              (λ (p : (k ≡ n → ⊥) × (get_or s.debts.slots k None ≡ Some x)). g.debt_put k x h p.1 z) (slots_are k x y);
          spaces = g.spaces;
          status = g.status;
          roots = g.roots;
          stands = g.stands;
        }

module _ (H : History) (s : State) (g : Good H s) (choice : ℕ → ℕ) (space address : ℕ) where
  pub unmap_good : Good (event_of s choice (Unmap space address) ∷ H) (call_step s choice (Unmap space address)).1
  unmap_good = at (unmap_allowed s space address) refl
    where
      at_room : (leaf : ℕ × Entry) → LeafTells s space address leaf → (ro : Option ℕ) → room s.debts ≡ ro → Good (record { call = Unmap space address; answer = told_as answer.Unmapped (unmap_at s space address leaf.0 leaf.1 (number_at s.debts.next ro)).0; cells = s.cells; next = next s.frames } ∷ H) (unmap_at s space address leaf.0 leaf.1 (number_at s.debts.next ro)).1
      at_room leaf tells None r = later _ H (refused_quiet _ DebtsFull refl) s g
      at_room leaf tells (Some n) r =
          let found = leaf_of_is H s g space address leaf tells in
          let L = found.leaf in
          let here : g.held leaf.1.ppn ≡ in_leaf L.table (index address 0) = ap g.held found.ppn ∙ L.there in
          let mapped = g.tables.mapped leaf.1.ppn L.table (index address 0) here in
          let m = turn_moves s.frames leaf.1.ppn state.Mapped g.sound (is_in_from s.frames leaf.1.ppn state.Mapped mapped.0 mapped.1) (apart_by_tag state.Mapped state.Free (λ q. omega arith)) state.Owed (apart_by_tag state.Owed state.Free (λ q. omega arith)) in
          let d : Debt = new_debt s.debts.next space address (Some leaf.1.ppn) in
          later _ H (record { frees = λ x. refl; fences = λ h sp p. refl; enters = λ h. refl; sets = λ h. refl; makes = λ sp. refl }) _
          (subst (λ (ro : Option ℕ). Good H (with_debts s (set s.cells leaf.0 0) (turned s.frames leaf.1.ppn state.Mapped state.Owed) (opened_at s.debts d ro))) (sym r)
          (subst (λ (k : ℕ). Good H (with_debts s (set s.cells k 0) (turned s.frames leaf.1.ppn state.Mapped state.Owed) (opened_at s.debts d (Some n)))) (sym found.where_it_is)
          (unmapped_good H s g space address leaf tells n s.debts.next r leaf.1.ppn L.table here L.place m)))

      at : (o : Result (ℕ × Entry) Refusal) → unmap_allowed s space address ≡ o → Good (record { call = Unmap space address; answer = told_as answer.Unmapped (unmap_by s space address o).0; cells = s.cells; next = next s.frames } ∷ H) (unmap_by s space address o).1
      at (Err refusal) e = later _ H (refused_quiet _ refusal refl) s g
      at (Ok leaf) e = at_room leaf (unmap_tells s space address leaf e) (room s.debts) refl
