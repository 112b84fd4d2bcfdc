-- Every access is lawful, and keeps what holds of every state.
use Rattle.std.proofs.Common.{◌≡◌, ℕ, ◌+◌, ◌*◌, ◌/◌, ◌%◌, ◌^◌, ◌<◌, ◌≤◌, Bool, true, false, cond, ◌⊎◌, List, [], ◌∷◌, length, get_or, set, Some, None, Ok, Err, Option, Result, sym, refl, ap, ◌∙◌, subst, inl, inr, ⊎_elim, mod-eq_of_lt, arith}
use Rattle.std.proofs.lemmas.Bool.{ltb-true}
use Rattle.frames.specs.declared.state.FrameState.TheVariants as state
use Rattle.frames.specs.Frames.{next}
use Rattle.sv39.specs.declared.access.Access.{Access}
use Rattle.std.proofs.lemmas.Option.{same_Some}
use Rattle.sv39.specs.Address.{index, page, doubleword_of}
use Rattle.tlb.specs.declared.way.Way.{Way}
use Rattle.tlb.specs.Trying.{tried}
use Rattle.tlb.specs.Ways.{way_of, serves}
use Rattle.walker.specs.declared.fault.WalkFault.{WalkFault}
use Rattle.walker.specs.declared.walking.Translation.{Translation}
use Rattle.walker.specs.Walk.{walked}
use Rattle.walker.proofs.Serving.{leaf_serves}
use Rattle.machine.specs.declared.access.Action.{Action}
use Rattle.machine.specs.declared.access.Action.TheVariants.{Fetch, Load, Store}
use Rattle.machine.specs.declared.access.Found.{Found}
use Rattle.machine.specs.declared.access.Reached.{Reached}
use Rattle.machine.specs.declared.access.Request.{Request}
use Rattle.machine.specs.declared.call.Answer.TheVariants as answer
use Rattle.machine.specs.declared.call.Call.TheVariants as call
use Rattle.machine.specs.declared.refusal.Cause.{Cause}
use Rattle.machine.specs.declared.refusal.Cause.TheVariants.{Misaligned, Walk}
use Rattle.machine.specs.declared.refusal.HartFault.{HartFault}
use Rattle.machine.specs.declared.refusal.Refusal.{Refusal}
use Rattle.machine.specs.declared.refusal.Refusal.TheVariants.{NoHart, InNoSpace, Fault}
use Rattle.machine.specs.Accesses.{access_of, with_cells, stored, find_step, moved_by, access_in, access_step}
use Rattle.machine.specs.Calls.{call_step, told_as}
use Rattle.machine.specs.State.{State, is_hart, hart_of, row_of, root_of}
use Rattle.law.specs.History.{Event, History, PutSince, SeenSince, status_in, root_in}
use Rattle.law.specs.Law.{asked, frame_of}
use Rattle.law.specs.Law as law
use Rattle.law.specs.Runs.{event_of}
use Rattle.law.proofs.AccessStep.{View, off, hit, fault, fill, view, rows_good, page_is_page, index_of_page}
use Rattle.law.proofs.Descents.{walk_reaches}
use Rattle.law.proofs.Good.{Good, Gives, LeafHome, Late, WayGood, Quiet, later, moved}
use Rattle.law.proofs.Hits.{tried_had, serves_tells}
use Rattle.law.proofs.Places.{in_leaf, low}
use Rattle.law.proofs.Pools.{state_at}
use Rattle.law.proofs.Slots.{set_holds}
use Rattle.law.proofs.TableSteps.{stored_tables, unplaced}

-- a frame that an access may reach: mapped or owed
pub record Lives (s : State) (f : ℕ) : Type 0 where
  pub inside : f < s.frames.limit
  pub use_of : (state_at s.frames f ≡ state.Mapped) ⊎ (state_at s.frames f ≡ state.Owed)

pub seen_map : {P Q : List ℕ → Type 0} → ((cells : List ℕ) → P cells → Q cells) → (H : History) (h sp p : ℕ) → SeenSince P H h sp p → SeenSince Q H h sp p
seen_map f [] h sp p x = x
seen_map f (e ∷ H) h sp p x =
    let more = seen_map f H h sp p in
    (x.0, ⊎_elim (λ y. inl (f e.cells y)) (λ y. inr (more y)) x.1)

-- a list that gave a way gives its frame for each access that the way serves
gives_walk : (root : ℕ) (way : Way) (q : Access) → serves way q ≡ true → page q.address ≡ way.of.page → (cells : List ℕ) → Gives root way cells → frame_of (walked cells root q) ≡ Some way.frame
gives_walk root way q may p cells G =
    let t = G.t in
    let tells = serves_tells t.leaf.flags q way.of.space way.of.page t.frame (subst (λ (w : Way). serves w q ≡ true) G.is may) in
    let inside : doubleword_of t.frame q.address < length cells = omega (arith, G.room, G.frame) in
    ap frame_of (leaf_serves cells root G.q q t G.walk (p ∙ sym G.same_page) tells.0 tells.1 inside) ∙ ap Some G.frame

module _ (H : History) (s : State) (g : Good H s) where
  way_put : (h : ℕ) (way : Way) → WayGood H s.debts.slots g.at g.held h way → PutSince H way.of.space way.of.page way.frame
  way_put h way w =
      ⊎_elim
      (λ (y : LeafHome g.at g.held way.of.space way.of.page way.frame).
      g.leaf_put_is way.frame y.table (index way.of.page 0) way.of.space (index way.of.page 2) (index way.of.page 1) way.of.page y.there y.place w.paged refl refl refl)
      (λ (y : Late s.debts.slots g.held h way.of.space way.of.page way.frame).
      subst (λ (n : ℕ). PutSince H way.of.space n way.frame) y.at_page
      (subst (λ (n : ℕ). PutSince H n y.debt.of.page way.frame) y.space (g.debt_put y.slot y.debt way.frame y.open_in y.frame))) w.home

  way_lives : (h : ℕ) (way : Way) → WayGood H s.debts.slots g.at g.held h way → Lives s way.frame
  way_lives h way w =
      ⊎_elim
      (λ (y : LeafHome g.at g.held way.of.space way.of.page way.frame).
      let m = g.tables.mapped way.frame y.table (index way.of.page 0) y.there in
      record { inside = m.0; use_of = inl m.1 })
      (λ (y : Late s.debts.slots g.held h way.of.space way.of.page way.frame).
      let m = g.tables.owed way.frame y.slot y.there in
      record { inside = m.0; use_of = inr m.1 }) w.home

  -- a store into such a frame moves no table
  pub stored_good : (f a : ℕ) (action : Action) → Lives s f → Good H (with_cells s (stored s.cells (doubleword_of f a) action))
  stored_good f a Fetch lives = g
  stored_good f a Load lives = g
  stored_good f a (Store value) lives =
      let x : a / 8 % 512 < 512 = omega arith in
      moved H s g (set s.cells (512 * f + a / 8 % 512) value) s.frames g.at
      (stored_tables s.cells s.frames s.roots g.at g.held g.tables f (a / 8 % 512) value x
      (λ st.
      ⊎_elim (λ (m : state_at s.frames f ≡ state.Mapped). unplaced s.cells s.frames s.roots g.at g.held g.tables f state.Mapped m (λ z. omega arith) st)
      (λ (o : state_at s.frames f ≡ state.Owed). unplaced s.cells s.frames s.roots g.at g.held g.tables f state.Owed o (λ z. omega arith) st) lives.use_of)) g.sound (λ t st. refl)

  module _ (choice hart space : ℕ) (q : Access) (r : ℕ) (rooted : root_of s space ≡ Some r) (l : hart < s.count) where
    few : s.frames.limit ≤ 1024
    few = g.sound.limited.1

    -- what a walk found lives, and was put there
    filled_put : (t : Translation) → walked s.cells r q ≡ Ok t → PutSince H space (page q.address) t.frame × Lives s t.frame
    filled_put t e =
        let reach = walk_reaches s.cells s.frames s.roots g.at g.held g.tables few q space r rooted t e in
        let L = reach.leaf in
        let a = q.address in
        let m = g.tables.mapped L.frame L.table (index a 0) L.there in (
          subst (PutSince H space (page a)) (sym reach.frame)
              (g.leaf_put_is L.frame L.table (index a 0) space (index a 2) (index a 1) (page a) L.there L.place (page_is_page a reach.address) (index_of_page a 2) (index_of_page a 1) (index_of_page a 0)),
          record { inside = omega (arith, m.0, reach.frame); use_of = inl (ap (state_at s.frames) reach.frame ∙ m.1) },
        )

    -- the way that it fills is as every way is
    filled_way : (t : Translation) → walked s.cells r q ≡ Ok t → ((P : List ℕ → Type 0) → P s.cells → SeenSince P H hart space (page q.address)) → WayGood H s.debts.slots g.at g.held hart (way_of space (page q.address) t.frame t.leaf.flags)
    filled_way t e now =
        let reach = walk_reaches s.cells s.frames s.roots g.at g.held g.tables few q space r rooted t e in
        let L = reach.leaf in
        let a = q.address in
        let m = g.tables.mapped L.frame L.table (index a 0) L.there in
        record {
          paged = page_is_page a reach.address;
          home =
              inl
              (record {
                table = L.table;
                there = ap g.held reach.frame ∙ L.there ∙ ap (in_leaf L.table) (sym (index_of_page a 0));
                place = L.place ∙ ap (λ (i : ℕ). low space i (index a 1)) (sym (index_of_page a 2)) ∙ ap (low space (index (page a) 2)) (sym (index_of_page a 1));
              });
          root = r;
          rooted = sym (g.roots space) ∙ rooted;
          seen =
              now _
              (record { q = q; t = t; same_page = refl; walk = e; frame = refl; is = refl; room = omega (arith, m.0, reach.frame, g.tables.room) });
        }

    had_way : (i : ℕ) (way : Way) → get_or (tried space (page q.address) q (row_of s hart)) i None ≡ Some way → WayGood H s.debts.slots g.at g.held hart way
    had_way i way x = g.ways hart i way (tried_had space (page q.address) q (row_of s hart) i way x)

    by_view : ((P : List ℕ → Type 0) → P s.cells → SeenSince P H hart space (page q.address)) → View s choice hart space q r → Good H (find_step s choice hart space q).1
    by_view now (off e) = subst (λ (x : Result Found Cause × State). Good H x.1) (sym e) g
    by_view now (hit h x e) = subst (λ (x : Result Found Cause × State). Good H x.1) (sym e) (rows_good H s g hart _ _ l had_way)
    by_view now (fault w x e) = subst (λ (x : Result Found Cause × State). Good H x.1) (sym e) (rows_good H s g hart _ _ l had_way)
    by_view now (fill t slot x e) =
        subst (λ (x : Result Found Cause × State). Good H x.1) (sym e)
        (rows_good H s g hart _ _ l
        (λ i way y.
        ⊎_elim
        (λ (p : (i ≡ slot) × (Some (way_of space (page q.address) t.frame t.leaf.flags) ≡ Some way)).
        subst (WayGood H s.debts.slots g.at g.held hart) (same_Some (way_of space (page q.address) t.frame t.leaf.flags) way p.1) (filled_way t x now))
        (λ (p : (i ≡ slot → ⊥) × (get_or (tried space (page q.address) q (row_of s hart)) i None ≡ Some way)). had_way i way p.1)
        (set_holds (tried space (page q.address) q (row_of s hart)) slot (Some (way_of space (page q.address) t.frame t.leaf.flags)) i way y)))

    pub find_good : ((P : List ℕ → Type 0) → P s.cells → SeenSince P H hart space (page q.address)) → Good H (find_step s choice hart space q).1
    find_good now = by_view now (view s choice hart space q r rooted)

    -- where an accepted access comes to
    ok_found : (x y : Found) → ◌≡◌ {A = Result Found Cause} (Ok x) (Ok y) → x ≡ y
    ok_found x y e = cc

    err_not : (c : Cause) (x : Found) → ◌≡◌ {A = Result Found Cause} (Err c) (Ok x) → ⊥
    err_not c x e = let z : ◌≡◌ {A = ℕ} 0 1 = cc in omega arith

    answer_at : (a : Result Found Cause) (t : State) (x : Result Found Cause) → find_step s choice hart space q ≡ (a, t) → (find_step s choice hart space q).0 ≡ x → a ≡ x
    answer_at a t x e h = sym (ap (λ (p : Result Found Cause × State). p.0) e) ∙ h

    found_by_is : (x : Found) → (find_step s choice hart space q).0 ≡ Ok x → View s choice hart space q r → (PutSince H space (page q.address) x.frame × Lives s x.frame) × ((frame_of (walked s.cells r q) ≡ Some x.frame) ⊎ SeenSince (λ cells. frame_of (walked cells r q) ≡ Some x.frame) H hart space (page q.address))
    found_by_is x h (off e) = absurd (err_not Misaligned x (answer_at _ _ _ e h))
    found_by_is x h (fault w y e) = absurd (err_not (Walk w) x (answer_at _ _ _ e h))
    found_by_is x h (fill t slot y e) =
        let same = ap (λ (f : Found). f.frame) (ok_found _ x (answer_at _ _ _ e h)) in
        let p = filled_put t y in (
          (subst (PutSince H space (page q.address)) same p.0, subst (Lives s) same p.1),
          inl (ap frame_of y ∙ ap Some same),
        )
    found_by_is x h (hit k y e) =
        let way = y.way in
        let w = g.ways hart k.0 way y.there in
        let lives = way_lives hart way w in
        let narrow : way.frame < 2 ^ 44 = omega (arith, lives.inside, few) in
        let same = sym (y.frame ∙ mod-eq_of_lt narrow) ∙ ap (λ (f : Found). f.frame) (ok_found _ x (answer_at _ _ _ e h)) in
        let root_is : w.root ≡ r = same_Some w.root r (sym w.rooted ∙ ap (λ (n : ℕ). root_in H n) y.space_is ∙ sym (g.roots space) ∙ rooted) in
        let put : PutSince H space (page q.address) way.frame =
        subst (λ (n : ℕ). PutSince H n (page q.address) way.frame) y.space_is (subst (λ (n : ℕ). PutSince H way.of.space n way.frame) y.page_is (way_put hart way w)) in
        let seen : SeenSince (λ cells. frame_of (walked cells r q) ≡ Some way.frame) H hart space (page q.address) =
        subst (λ (n : ℕ). SeenSince (λ cells. frame_of (walked cells r q) ≡ Some way.frame) H hart n (page q.address)) y.space_is
        (subst (λ (n : ℕ). SeenSince (λ cells. frame_of (walked cells r q) ≡ Some way.frame) H hart way.of.space n) y.page_is
        (subst (λ (n : ℕ). SeenSince (λ cells. frame_of (walked cells n q) ≡ Some way.frame) H hart way.of.space way.of.page) root_is
        (seen_map (gives_walk w.root way q y.may (sym y.page_is)) H hart way.of.space way.of.page w.seen))) in (
          (subst (PutSince H space (page q.address)) same put, subst (Lives s) same lives),
          inr (subst (λ (n : ℕ). SeenSince (λ cells. frame_of (walked cells r q) ≡ Some n) H hart space (page q.address)) same seen),
        )

    pub find_law : (x : Found) → (find_step s choice hart space q).0 ≡ Ok x → (PutSince H space (page q.address) x.frame × Lives s x.frame) × ((frame_of (walked s.cells r q) ≡ Some x.frame) ⊎ SeenSince (λ cells. frame_of (walked cells r q) ≡ Some x.frame) H hart space (page q.address))
    find_law x h = found_by_is x h (view s choice hart space q r rooted)

    -- a fault of the walk is the walk's
    walk_same : (c w : Cause) → ◌≡◌ {A = Result Found Cause} (Err c) (Err w) → c ≡ w
    walk_same c w e = cc

    ok_not : (x : Found) (c : Cause) → ◌≡◌ {A = Result Found Cause} (Ok x) (Err c) → ⊥
    ok_not x c e = let z : ◌≡◌ {A = ℕ} 0 1 = cc in omega arith

    faulted_by : (w : WalkFault) → (find_step s choice hart space q).0 ≡ Err (Walk w) → View s choice hart space q r → walked s.cells r q ≡ Err w
    faulted_by w h (off e) = let c = walk_same Misaligned (Walk w) (answer_at _ _ _ e h) in let z : ◌≡◌ {A = ℕ} 0 1 = cc in absurd (omega arith)
    faulted_by w h (hit k y e) = absurd (ok_not _ (Walk w) (answer_at _ _ _ e h))
    faulted_by w h (fill t slot y e) = absurd (ok_not _ (Walk w) (answer_at _ _ _ e h))
    faulted_by w h (fault v y e) = let c : v ≡ w = cc_walk v w (walk_same (Walk v) (Walk w) (answer_at _ _ _ e h)) in y ∙ ap Err c
      where
        cc_walk : (v w : WalkFault) → Walk v ≡ Walk w → v ≡ w
        cc_walk v w e = cc

    pub find_fault : (w : WalkFault) → (find_step s choice hart space q).0 ≡ Err (Walk w) → walked s.cells r q ≡ Err w
    find_fault w h = faulted_by w h (view s choice hart space q r rooted)

-- an access is quiet
access_quiet : (hart : ℕ) (request : Request) (cells : List ℕ) (n : Option ℕ) (x : Result Reached Refusal) → Quiet (record { call = call.Access hart request; answer = told_as answer.Reached x; cells = cells; next = n })
access_quiet hart request cells n (Ok r) = record { frees = λ f. refl; fences = λ h sp p. refl; enters = λ h. refl; sets = λ h. refl; makes = λ sp. refl }
access_quiet hart request cells n (Err e) = record { frees = λ f. refl; fences = λ h sp p. refl; enters = λ h. refl; sets = λ h. refl; makes = λ sp. refl }

module _ (H : History) (s : State) (g : Good H s) (choice : ℕ → ℕ) (hart : ℕ) (request : Request) where
  abbrev ev : Event
  ev = event_of s choice (call.Access hart request)

  g1 : Good (ev ∷ H) s
  g1 = later ev H (access_quiet hart request s.cells (next s.frames) (access_step s (choice hart) hart request).0) s g

  abbrev q : Access
  q = access_of (hart_of s hart) request

  -- the space that the hart is in has a root
  module _ (l : hart < s.count) (space : ℕ) (inside : (hart_of s hart).space ≡ Some space) where
    abbrev root_there : (r : ℕ) × (root_of s space ≡ Some r)
    root_there = g.stands hart space l inside

    now : (P : List ℕ → Type 0) → P s.cells → SeenSince P (ev ∷ H) hart space (page q.address)
    now P x = ((access_quiet hart request s.cells (next s.frames) (access_step s (choice hart) hart request).0).fences hart space (page q.address), inl x)

    found_good : Good (ev ∷ H) (find_step s (choice hart) hart space q).1
    found_good = find_good (ev ∷ H) s g1 (choice hart) hart space q root_there.0 root_there.1 l now

    moved_good : (x : Result Found Cause) → (find_step s (choice hart) hart space q).0 ≡ x → Good (ev ∷ H) (moved_by hart q request x (find_step s (choice hart) hart space q).1).1
    moved_good (Err c) e = found_good
    moved_good (Ok x) e =
        let lives = (find_law H s g (choice hart) hart space q root_there.0 root_there.1 l x e).0.1 in
        stored_good (ev ∷ H) (find_step s (choice hart) hart space q).1 found_good x.frame q.address request.action (lives_still x lives (view s (choice hart) hart space q root_there.0 root_there.1))
      where
        lives_still : (x : Found) → Lives s x.frame → View s (choice hart) hart space q root_there.0 → Lives (find_step s (choice hart) hart space q).1 x.frame
        lives_still x v (off e) = subst (λ (p : Result Found Cause × State). Lives p.1 x.frame) (sym e) v
        lives_still x v (hit k y e) = subst (λ (p : Result Found Cause × State). Lives p.1 x.frame) (sym e) (record { inside = v.inside; use_of = v.use_of })
        lives_still x v (fault w y e) = subst (λ (p : Result Found Cause × State). Lives p.1 x.frame) (sym e) (record { inside = v.inside; use_of = v.use_of })
        lives_still x v (fill t k y e) = subst (λ (p : Result Found Cause × State). Lives p.1 x.frame) (sym e) (record { inside = v.inside; use_of = v.use_of })

  pub access_good : Good (ev ∷ H) (call_step s choice (call.Access hart request)).1
  access_good = by_hart (is_hart s hart) refl
    where
      by_space : hart < s.count → (o : Option ℕ) → (hart_of s hart).space ≡ o → Good (ev ∷ H) (access_in s (choice hart) hart request o).1
      by_space l None e = g1
      by_space l (Some space) e = moved_good l space e (find_step s (choice hart) hart space q).0 refl

      by_hart : (b : Bool) → is_hart s hart ≡ b → Good (ev ∷ H) (cond b (access_in s (choice hart) hart request (hart_of s hart).space) (Err NoHart, s)).1
      by_hart true t = by_space (ltb-true hart s.count t) (hart_of s hart).space refl
      by_hart false t = g1

  -- the access as the history has it
  asked_is : hart < s.count → q ≡ asked request (status_in H hart)
  asked_is l = ap (asked request) (g.status hart l)

  refusal_not : (e : Refusal) (r : Reached) → ◌≡◌ {A = Result Reached Refusal} (Err e) (Ok r) → ⊥
  refusal_not e r x = let z : ◌≡◌ {A = ℕ} 0 1 = cc in omega arith

  reached_not : (r : Reached) (e : Refusal) → ◌≡◌ {A = Result Reached Refusal} (Ok r) (Err e) → ⊥
  reached_not r e x = let z : ◌≡◌ {A = ℕ} 0 1 = cc in omega arith

  accepted_law : hart < s.count → (space : ℕ) → (hart_of s hart).space ≡ Some space → (r : Reached) (x : Result Found Cause) → (find_step s (choice hart) hart space q).0 ≡ x → (moved_by hart q request x (find_step s (choice hart) hart space q).1).0 ≡ Ok r → law.Reaches ev H hart request r
  accepted_law l space inside r (Err c) e h = absurd (refusal_not _ r h)
  accepted_law l space inside r (Ok x) e h =
      let root = root_there l space inside in
      let same : x.frame ≡ r.frame = ap (λ (o : Result Reached Refusal). frame_is o) h in
      let found = find_law H s g (choice hart) hart space q root.0 root.1 l x e in
      let P : Access → ℕ → List ℕ → Type 0 = λ a f cells. frame_of (walked cells root.0 a) ≡ Some f in
      let quiet = (access_quiet hart request s.cells (next s.frames) (access_step s (choice hart) hart request).0).fences hart space (page request.address) in
      record {
        space = space;
        root = root.0;
        entered = sym (g.spaces hart l) ∙ inside;
        made = sym (g.roots space) ∙ root.1;
        reach = subst (PutSince H space (page request.address)) same found.0.0;
        fresh =
            subst (λ (a : Access). SeenSince (P a r.frame) (ev ∷ H) hart space (page request.address)) (asked_is l)
            (subst (λ (f : ℕ). SeenSince (P q f) (ev ∷ H) hart space (page request.address)) same (quiet, found.1));
      }
    where
      frame_is : Result Reached Refusal → ℕ
      frame_is (Ok a) = a.frame
      frame_is (Err b) = 0

  faulted_law : hart < s.count → (space : ℕ) → (hart_of s hart).space ≡ Some space → (f : HartFault) (w : WalkFault) → f.cause ≡ Walk w → (x : Result Found Cause) → (find_step s (choice hart) hart space q).0 ≡ x → (moved_by hart q request x (find_step s (choice hart) hart space q).1).0 ≡ Err (Fault f) → law.Faults ev H hart request w
  faulted_law l space inside f w c (Ok x) e h = absurd (reached_not _ (Fault f) h)
  faulted_law l space inside f w c (Err cause) e h =
      let root = root_there l space inside in
      let cause_is : cause ≡ Walk w = same_cause (record { hart = hart; kind = q.kind; address = q.address; cause = cause }) f h ∙ c in
      record {
        space = space;
        root = root.0;
        entered = sym (g.spaces hart l) ∙ inside;
        made = sym (g.roots space) ∙ root.1;
        walk =
            ap (λ (a : Access). walked s.cells root.0 a) (sym (asked_is l))
            ∙ find_fault H s g (choice hart) hart space q root.0 root.1 l w (e ∙ ap Err cause_is);
      }
    where
      same_cause : (a b : HartFault) → ◌≡◌ {A = Result Reached Refusal} (Err (Fault a)) (Err (Fault b)) → a.cause ≡ b.cause
      same_cause a b e = let p : a ≡ b = cc in ap (λ (z : HartFault). z.cause) p

  told_ok : (x : Result Reached Refusal) (r : Reached) → told_as answer.Reached x ≡ Ok (answer.Reached r) → x ≡ Ok r
  told_ok (Ok y) r e = let p : y ≡ r = cc in ap Ok p
  told_ok (Err y) r e = let z : ◌≡◌ {A = ℕ} 0 1 = cc in absurd (omega arith)

  told_err : (x : Result Reached Refusal) (f : Refusal) → told_as answer.Reached x ≡ Err f → x ≡ Err f
  told_err (Ok y) f e = let z : ◌≡◌ {A = ℕ} 0 1 = cc in absurd (omega arith)
  told_err (Err y) f e = let p : y ≡ f = cc in ap Err p

  pub access_law : law.AccessLaw ev H hart request
  access_law =
      record {
        accepted = λ r e. yes_hart (is_hart s hart) refl r (told_ok (access_step s (choice hart) hart request).0 r e);
        faulted = λ f w e c. bad_hart (is_hart s hart) refl f w c (told_err (access_step s (choice hart) hart request).0 (Fault f) e);
      }
    where
      yes_space : hart < s.count → (o : Option ℕ) → (hart_of s hart).space ≡ o → (r : Reached) → (access_in s (choice hart) hart request o).0 ≡ Ok r → law.Reaches ev H hart request r
      yes_space l None e r h = absurd (refusal_not InNoSpace r h)
      yes_space l (Some space) e r h = accepted_law l space e r (find_step s (choice hart) hart space q).0 refl h

      yes_hart : (b : Bool) → is_hart s hart ≡ b → (r : Reached) → (cond b (access_in s (choice hart) hart request (hart_of s hart).space) (Err NoHart, s)).0 ≡ Ok r → law.Reaches ev H hart request r
      yes_hart true t r h = yes_space (ltb-true hart s.count t) (hart_of s hart).space refl r h
      yes_hart false t r h = absurd (refusal_not NoHart r h)

      not_fault : (f : HartFault) → ◌≡◌ {A = Result Reached Refusal} (Err InNoSpace) (Err (Fault f)) → ⊥
      not_fault f e = let z : ◌≡◌ {A = ℕ} 0 1 = cc in omega arith

      not_fault_hart : (f : HartFault) → ◌≡◌ {A = Result Reached Refusal} (Err NoHart) (Err (Fault f)) → ⊥
      not_fault_hart f e = let z : ◌≡◌ {A = ℕ} 0 1 = cc in omega arith

      bad_space : hart < s.count → (o : Option ℕ) → (hart_of s hart).space ≡ o → (f : HartFault) (w : WalkFault) → f.cause ≡ Walk w → (access_in s (choice hart) hart request o).0 ≡ Err (Fault f) → law.Faults ev H hart request w
      bad_space l None e f w c h = absurd (not_fault f h)
      bad_space l (Some space) e f w c h = faulted_law l space e f w c (find_step s (choice hart) hart space q).0 refl h

      bad_hart : (b : Bool) → is_hart s hart ≡ b → (f : HartFault) (w : WalkFault) → f.cause ≡ Walk w → (cond b (access_in s (choice hart) hart request (hart_of s hart).space) (Err NoHart, s)).0 ≡ Err (Fault f) → law.Faults ev H hart request w
      bad_hart true t f w c h = bad_space (ltb-true hart s.count t) (hart_of s hart).space refl f w c h
      bad_hart false t f w c h = absurd (not_fault_hart f h)
