-- The frame pool as a value: what always holds of it, and what taking, turning and releasing a frame leave.
use Rattle.std.proofs.Common.{◌≡◌, ℕ, ◌+◌, ◌<◌, ◌≤◌, true, ltb, List, [], ◌∷◌, length, get_or, set, Some, None, sym, refl, ap, ◌∙◌, subst, ⊎_elim, arith}
use Rattle.std.proofs.lemmas.List.{length-set, get_or-set_same, get_or-set_other}
use Rattle.std.proofs.lemmas.Bool.{cases_lt, ltb-true, lt-ltb, le-ltb, and_parts, and_from, eqb-true, eq-eqb, cond-true, cond-false}
use Rattle.frames.specs.declared.state.FrameState.{FrameState}
use Rattle.frames.specs.declared.state.FrameState.TheVariants.{Free, Table, Held, Mapped, Owed}
use Rattle.frames.specs.Busy.{same, tag}
use Rattle.frames.specs.Frames.{Frames, next, next_of, taken, taken_of, changed, released, is_in, turned, freed}

abbrev pub state_at : Frames → ℕ → FrameState
state_at v f = get_or v.states f Free

-- every one of a list
abbrev pub Each : (ℕ → Type 0) → List ℕ → Type 0
Each P [] = Unit {0}
Each P (x ∷ xs) = P x × Each P xs

pub each_weaker : {P Q : ℕ → Type 0} → ((x : ℕ) → P x → Q x) → (xs : List ℕ) → Each P xs → Each Q xs
each_weaker w [] e = tt
each_weaker w (x ∷ xs) e = (w x e.0, each_weaker w xs e.1)

-- no two of a list are the same
abbrev pub Distinct : List ℕ → Type 0
Distinct [] = Unit {0}
Distinct (x ∷ xs) = Each (λ y. y ≡ x → ⊥) xs × Distinct xs

-- The pile's frames are free, below the mark and there once; a frame from the mark on is free.
pub record Sound (v : Frames) : Type 0 where
  pub sized : length v.states ≡ 1024
  pub limited : (v.mark ≤ v.limit) × (v.limit ≤ 1024)
  pub piled : Each (λ f. (f < v.mark) × (state_at v f ≡ Free)) v.pile
  pub apart : Distinct v.pile
  pub unused : (f : ℕ) → v.mark ≤ f → state_at v f ≡ Free

-- One frame goes from one state to another: no other frame's state moves, and the pool stays sound.
pub record Moves (v v' : Frames) (f : ℕ) (from to : FrameState) : Type 0 where
  pub inside : f < v.limit
  pub was : state_at v f ≡ from
  pub is : state_at v' f ≡ to
  pub others : (g : ℕ) → (g ≡ f → ⊥) → state_at v' g ≡ state_at v g
  pub limit : v'.limit ≡ v.limit
  pub sound : Sound v'

module _ (states : List FrameState) (f : ℕ) (to : FrameState) where
  -- what a change of one frame's state leaves of the others
  pub other_state : (g : ℕ) → (g ≡ f → ⊥) → get_or (set states f to) g Free ≡ get_or states g Free
  other_state g ne = get_or-set_other states f g to Free ne

  still_free : (limit : ℕ) (xs : List ℕ) → Each (λ g. (g < limit) × (get_or states g Free ≡ Free)) xs → Each (λ g. g ≡ f → ⊥) xs → Each (λ g. (g < limit) × (get_or (set states f to) g Free ≡ Free)) xs
  still_free limit [] e d = tt
  still_free limit (x ∷ xs) e d = ((e.0.0, other_state x d.0 ∙ e.0.1), still_free limit xs e.1 d.1)

-- a free frame is not one that is not free
pub differs : (states : List FrameState) (f : ℕ) → (get_or states f Free ≡ Free → ⊥) → (limit : ℕ) (xs : List ℕ) → Each (λ g. (g < limit) × (get_or states g Free ≡ Free)) xs → Each (λ g. g ≡ f → ⊥) xs
differs states f n limit [] e = tt
differs states f n limit (x ∷ xs) e = (
  (λ q. n (ap (λ (k : ℕ). get_or states k Free) (sym q) ∙ e.0.1)),
  differs states f n limit xs e.1,
)

-- the next frame is taken
module _ (v : Frames) (to : FrameState) (s : Sound v) where
  from_mark : v.pile ≡ [] → v.mark < v.limit → Moves v (taken v to) v.mark Free to
  from_mark none l =
      let h : v.mark < length v.states = omega (arith, s.sized, s.limited.1) in
      let e : taken v to ≡ record { states = set v.states v.mark to; pile = []; mark = v.mark + 1; limit = v.limit } =
      ap (λ (xs : List ℕ). taken_of v.states xs v.mark v.limit to) none
      ∙ cond-true (ltb v.mark v.limit) _ _ (lt-ltb v.mark v.limit l) in
      subst (λ (w : Frames). Moves v w v.mark Free to) (sym e)
      (record {
        inside = l;
        was = s.unused v.mark (omega arith);
        is = get_or-set_same v.states v.mark to Free h;
        others = other_state v.states v.mark to;
        limit = refl;
        sound =
            record {
              sized = length-set v.states v.mark to ∙ s.sized;
              limited = (omega arith, s.limited.1);
              piled = tt;
              apart = tt;
              unused = λ g m. other_state v.states v.mark to g (λ q. omega arith) ∙ s.unused g (omega arith);
            };
      })

  from_pile : (f : ℕ) (pile : List ℕ) → v.pile ≡ f ∷ pile → Moves v (taken v to) f Free to
  from_pile f pile e =
      let piled : Each (λ g. (g < v.mark) × (state_at v g ≡ Free)) (f ∷ pile) = subst (Each (λ g. (g < v.mark) × (state_at v g ≡ Free))) e s.piled in
      let apart : Distinct (f ∷ pile) = subst Distinct e s.apart in
      let l : f < v.limit = omega (arith, s.limited.0, piled.0.0) in
      let h : f < length v.states = omega (arith, s.sized, s.limited.1) in
      subst (λ (xs : List ℕ). Moves v (taken_of v.states xs v.mark v.limit to) f Free to) (sym e)
      (record {
        inside = l;
        was = piled.0.1;
        is = get_or-set_same v.states f to Free h;
        others = other_state v.states f to;
        limit = refl;
        sound =
            record {
              sized = length-set v.states f to ∙ s.sized;
              limited = s.limited;
              piled = still_free v.states f to v.mark pile piled.1 apart.0;
              apart = apart.1;
              unused = λ g m. other_state v.states f to g (λ q. omega (arith, piled.0.0)) ∙ s.unused g m;
            };
      })

  by_pile : (f : ℕ) (pile : List ℕ) → v.pile ≡ pile → next_of pile v.mark v.limit ≡ Some f → Moves v (taken v to) f Free to
  by_pile f [] e n =
      ⊎_elim
      (λ (l : v.mark < v.limit).
      let r = sym (cond-true (ltb v.mark v.limit) (Some v.mark) None (lt-ltb v.mark v.limit l)) ∙ n in
      let q : v.mark ≡ f = cc in
      subst (λ (g : ℕ). Moves v (taken v to) g Free to) q (from_mark e l))
      (λ (l : v.limit ≤ v.mark).
      let r = sym (cond-false (ltb v.mark v.limit) (Some v.mark) None (le-ltb v.mark v.limit l)) ∙ n in
      let z : ◌≡◌ {A = ℕ} 0 1 = cc in absurd (omega arith)) (cases_lt v.mark v.limit)
  by_pile f (g ∷ pile) e n = let q : g ≡ f = cc in subst (λ (k : ℕ). Moves v (taken v to) k Free to) q (from_pile g pile e)

  pub take_moves : (f : ℕ) → next v ≡ Some f → Moves v (taken v to) f Free to
  take_moves f e = by_pile f v.pile refl e

-- uses with one number are the same
pub tag_same : (a b : FrameState) → tag a ≡ tag b → a ≡ b
tag_same Free Free e = refl
tag_same Free Table e = absurd (omega arith)
tag_same Free Held e = absurd (omega arith)
tag_same Free Mapped e = absurd (omega arith)
tag_same Free Owed e = absurd (omega arith)
tag_same Table Free e = absurd (omega arith)
tag_same Table Table e = refl
tag_same Table Held e = absurd (omega arith)
tag_same Table Mapped e = absurd (omega arith)
tag_same Table Owed e = absurd (omega arith)
tag_same Held Free e = absurd (omega arith)
tag_same Held Table e = absurd (omega arith)
tag_same Held Held e = refl
tag_same Held Mapped e = absurd (omega arith)
tag_same Held Owed e = absurd (omega arith)
tag_same Mapped Free e = absurd (omega arith)
tag_same Mapped Table e = absurd (omega arith)
tag_same Mapped Held e = absurd (omega arith)
tag_same Mapped Mapped e = refl
tag_same Mapped Owed e = absurd (omega arith)
tag_same Owed Free e = absurd (omega arith)
tag_same Owed Table e = absurd (omega arith)
tag_same Owed Held e = absurd (omega arith)
tag_same Owed Mapped e = absurd (omega arith)
tag_same Owed Owed e = refl

-- states are told apart by their numbers
pub apart_by_tag : (a b : FrameState) → (tag a ≡ tag b → ⊥) → a ≡ b → ⊥
apart_by_tag a b n e = n (ap tag e)

module _ (v : Frames) (f : ℕ) (from : FrameState) where
  pub is_in_tells : is_in v f from ≡ true → (f < v.limit) × (state_at v f ≡ from)
  is_in_tells e =
      let p = and_parts (ltb f v.limit) (same (state_at v f) from) e in
      (ltb-true f v.limit p.0, tag_same (state_at v f) from (eqb-true (tag (state_at v f)) (tag from) p.1))

  pub is_in_from : f < v.limit → state_at v f ≡ from → is_in v f from ≡ true
  is_in_from l e =
      and_from (ltb f v.limit) (same (state_at v f) from) (lt-ltb f v.limit l) (eq-eqb (tag (state_at v f)) (tag from) (ap tag e))

  -- a frame that is not free goes to another use, or onto the pile
  module _ (s : Sound v) (e : is_in v f from ≡ true) (n : from ≡ Free → ⊥) where
    below_mark : f < v.mark
    below_mark =
        ⊎_elim (λ (l : f < v.mark). l)
        (λ (l : v.mark ≤ f). absurd (n (sym (is_in_tells e).1 ∙ s.unused f l))) (cases_lt f v.mark)

    not_free : state_at v f ≡ Free → ⊥
    not_free q = n (sym (is_in_tells e).1 ∙ q)

    inside_states : f < length v.states
    inside_states = omega (arith, s.sized, s.limited.1, (is_in_tells e).0)

    pub turn_moves : (to : FrameState) → (to ≡ Free → ⊥) → Moves v (turned v f from to) f from to
    turn_moves to m =
        subst (λ (w : Frames). Moves v w f from to) (sym (cond-true (is_in v f from) (changed v f to) v e))
        (record {
          inside = (is_in_tells e).0;
          was = (is_in_tells e).1;
          is = get_or-set_same v.states f to Free inside_states;
          others = other_state v.states f to;
          limit = refl;
          sound =
              record {
                sized = length-set v.states f to ∙ s.sized;
                limited = s.limited;
                piled = still_free v.states f to v.mark v.pile s.piled (differs v.states f not_free v.mark v.pile s.piled);
                apart = s.apart;
                unused = λ g l. other_state v.states f to g (λ q. omega (arith, below_mark)) ∙ s.unused g l;
              };
        })

    pub free_moves : Moves v (freed v f from) f from Free
    free_moves =
        let same-frame = get_or-set_same v.states f Free Free inside_states in
        let others = differs v.states f not_free v.mark v.pile s.piled in
        subst (λ (w : Frames). Moves v w f from Free) (sym (cond-true (is_in v f from) (released v f) v e))
        (record {
          inside = (is_in_tells e).0;
          was = (is_in_tells e).1;
          is = same-frame;
          others = other_state v.states f Free;
          limit = refl;
          sound =
              record {
                sized = length-set v.states f Free ∙ s.sized;
                limited = s.limited;
                piled = ((below_mark, same-frame), still_free v.states f Free v.mark v.pile s.piled others);
                apart = (others, s.apart);
                unused = λ g l. other_state v.states f Free g (λ q. omega (arith, below_mark)) ∙ s.unused g l;
              };
        })
