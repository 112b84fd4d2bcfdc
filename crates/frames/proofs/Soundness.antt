-- What always holds of a pool, kept by each use of it.
use Rattle.std.proofs.Common.{◌≡◌, ℕ, ◌+◌, ◌-◌, ◌<◌, ◌≤◌, List, length, get_or, set, sym, refl, ap, ◌∙◌, ⊎_elim, arith}
use Rattle.std.proofs.lemmas.List.{length-set, get_or-set_same, get_or-set_other}
use Rattle.std.proofs.lemmas.Bool.{cases_eq, cases_lt}
use Rattle.frames.specs.declared.pool.Pool.{Pool}
use Rattle.frames.specs.declared.state.FrameState.{FrameState}
use Rattle.frames.specs.declared.state.FrameState.TheVariants.{Free}
use Rattle.frames.specs.Busy.{one, busy}
use Rattle.frames.proofs.Counting.{busy_set, busy_inside}

abbrev pub Piled : List FrameState → List ℕ → ℕ → ℕ → Type 0
Piled states frames height mark =
    (i : ℕ) → i < height → (get_or frames i 0 < mark) × (get_or states (get_or frames i 0) Free ≡ Free)

abbrev pub Apart : List ℕ → ℕ → Type 0
Apart frames height = (i j : ℕ) → i < j → j < height → get_or frames i 0 ≡ get_or frames j 0 → ⊥

abbrev pub Unused : List FrameState → ℕ → Type 0
Unused states mark = (f : ℕ) → mark ≤ f → get_or states f Free ≡ Free

-- the facts of a pool, as its ghost fields have them
abbrev pub Sound : List FrameState → List ℕ → ℕ → ℕ → ℕ → Type 0
Sound states frames height mark limit = record {
  full : (length states ≡ 1024) × (length frames ≡ 1024);
  bounds : (mark ≤ limit) × (limit ≤ 1024);
  balance : height + busy states ≡ mark;
  piled : Piled states frames height mark;
  apart : Apart frames height;
  unused : Unused states mark;
}

pub sound : (p : Pool) → Sound p.states p.pile.frames p.pile.height p.mark p.limit
sound p = record { full = p.full; bounds = p.bounds; balance = p.balance; piled = p.piled; apart = p.apart; unused = p.unused }

-- a free frame is no busy one
pub differ : (states : List FrameState) (a b : ℕ) → get_or states a Free ≡ Free → one (get_or states b Free) ≡ 1 → a ≡ b → ⊥
differ states a b e h q =
    let z : get_or states b Free ≡ Free = ap (λ (n : ℕ). get_or states n Free) (sym q) ∙ e in
    let w : one (get_or states b Free) ≡ 0 = ap one z in
    omega arith

module _ (states : List FrameState) (frames : List ℕ) (height mark limit : ℕ) (s : Sound states frames height mark limit) where
  -- a busy frame was used
  pub busy_below : (f : ℕ) → one (get_or states f Free) ≡ 1 → f < mark
  busy_below f h =
      ⊎_elim (λ (l : f < mark). l)
      (λ (l : mark ≤ f). absurd (differ states f f (s.unused f l) h refl)) (cases_lt f mark)

  -- a busy frame to another use
  pub changed_sound : (f : ℕ) (to : FrameState) → one (get_or states f Free) ≡ 1 → one to ≡ 1 → Sound (set states f to) frames height mark limit
  changed_sound f to h t =
      let inside = busy_inside states f h in
      let count = busy_set states f to inside in
      let below = busy_below f h in
      let balance = s.balance in
      record {
        full = (length-set states f to ∙ s.full.0, s.full.1);
        bounds = s.bounds;
        balance = omega arith;
        piled = λ i l. ((s.piled i l).0, get_or-set_other states f (get_or frames i 0) to Free (differ states (get_or frames i 0) f (s.piled i l).1 h) ∙ (s.piled i l).1);
        apart = s.apart;
        unused = λ k l. get_or-set_other states f k to Free (λ e. omega arith) ∙ s.unused k l;
      }

  -- where a frame is busy the pile has room
  pub room_left : (f : ℕ) → one (get_or states f Free) ≡ 1 → (height < length frames) × (height < 1024)
  room_left f h =
      let count = busy_set states f Free (busy_inside states f h) in
      let balance = s.balance in
      (omega arith, omega arith)

  -- a busy frame onto the pile
  module _ (f : ℕ) (h : one (get_or states f Free) ≡ 1) where
    freed : (k : ℕ) → get_or states k Free ≡ Free → get_or (set states f Free) k Free ≡ Free
    freed k e =
        ⊎_elim (λ (q : k ≡ f). ap (λ (n : ℕ). get_or (set states f Free) n Free) q ∙ get_or-set_same states f Free Free (busy_inside states f h))
        (λ (q : k ≡ f → ⊥). get_or-set_other states f k Free Free q ∙ e) (cases_eq k f)

    top : get_or (set frames height f) height 0 ≡ f
    top = get_or-set_same frames height f 0 (room_left f h).0

    kept : (i : ℕ) → (i ≡ height → ⊥) → get_or (set frames height f) i 0 ≡ get_or frames i 0
    kept i ne = get_or-set_other frames height i f 0 ne

    pub released_piled : Piled (set states f Free) (set frames height f) (height + 1) mark
    released_piled i l =
        ⊎_elim
        (λ (q : i ≡ height).
        let e : get_or (set frames height f) i 0 ≡ f = ap (λ (n : ℕ). get_or (set frames height f) n 0) q ∙ top in
        let below = busy_below f h in
        (omega arith, ap (λ (n : ℕ). get_or (set states f Free) n Free) e ∙ get_or-set_same states f Free Free (busy_inside states f h)))
        (λ (q : i ≡ height → ⊥).
        let e = kept i q in
        let old = s.piled i (omega arith) in
        (omega arith, ap (λ (n : ℕ). get_or (set states f Free) n Free) e ∙ freed (get_or frames i 0) old.1)) (cases_eq i height)

    pub released_apart : Apart (set frames height f) (height + 1)
    released_apart i j l u e =
        let ei = kept i (λ q. omega arith) in
        ⊎_elim
        (λ (q : j ≡ height).
        let ej : get_or (set frames height f) j 0 ≡ f = ap (λ (n : ℕ). get_or (set frames height f) n 0) q ∙ top in
        differ states (get_or frames i 0) f (s.piled i (omega arith)).1 h (sym ei ∙ e ∙ ej))
        (λ (q : j ≡ height → ⊥). s.apart i j l (omega arith) (sym ei ∙ e ∙ kept j q)) (cases_eq j height)

    pub released_sound : Sound (set states f Free) (set frames height f) (height + 1) mark limit
    released_sound =
        let count = busy_set states f Free (busy_inside states f h) in
        let below = busy_below f h in
        let balance = s.balance in
        record {
          full = (length-set states f Free ∙ s.full.0, length-set frames height f ∙ s.full.1);
          bounds = s.bounds;
          balance = omega arith;
          piled = released_piled;
          apart = released_apart;
          unused = λ k l. get_or-set_other states f k Free Free (λ e. omega arith) ∙ s.unused k l;
        }

  -- the top of the pile taken
  pub popped_sound : (to : FrameState) → 0 < height → one to ≡ 1 → Sound (set states (get_or frames (height - 1) 0) to) frames (height - 1) mark limit
  popped_sound to some t =
      let f : ℕ = get_or frames (height - 1) 0 in
      let old = s.piled (height - 1) (omega arith) in
      let bounds = s.bounds in
      let full = s.full in
      let inside : f < length states = omega arith in
      let free : one (get_or states f Free) ≡ 0 = ap one old.1 in
      let count = busy_set states f to inside in
      let balance = s.balance in
      record {
        full = (length-set states f to ∙ s.full.0, s.full.1);
        bounds = s.bounds;
        balance = omega arith;
        piled = λ i l. (
          (s.piled i (omega arith)).0,
          get_or-set_other states f (get_or frames i 0) to Free (s.apart i (height - 1) l (omega arith)) ∙ (s.piled i (omega arith)).1,
        );
        apart = λ i j l u e. s.apart i j l (omega arith) e;
        unused = λ k l. get_or-set_other states f k to Free (λ e. omega arith) ∙ s.unused k l;
      }

  -- the lowest frame never used taken
  pub unused_sound : (to : FrameState) → mark < limit → one to ≡ 1 → Sound (set states mark to) frames height (mark + 1) limit
  unused_sound to l t =
      let bounds = s.bounds in
      let full = s.full in
      let inside : mark < length states = omega arith in
      let free : one (get_or states mark Free) ≡ 0 = ap one (s.unused mark (omega arith)) in
      let count = busy_set states mark to inside in
      let balance = s.balance in
      record {
        full = (length-set states mark to ∙ s.full.0, s.full.1);
        bounds = (omega arith, s.bounds.1);
        balance = omega arith;
        piled = λ i u.
            let old = s.piled i u in
            (omega arith, get_or-set_other states mark (get_or frames i 0) to Free (λ e. omega arith) ∙ old.1);
        apart = s.apart;
        unused = λ k u. get_or-set_other states mark k to Free (λ e. omega arith) ∙ s.unused k (omega arith);
      }
