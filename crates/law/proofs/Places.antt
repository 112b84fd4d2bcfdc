-- Where each table stands, and where each frame is mapped or owed: what always holds of a machine's tables.
use Rattle.std.proofs.Common.{◌≡◌, ℕ, ◌+◌, ◌*◌, ◌<◌, ◌≤◌, true, cond, eqb, ◌⊎◌, List, length, get_or, Some, None, Option, sym, refl, ◌∙◌, subst, inl, inr, arith}
use Rattle.std.proofs.lemmas.Bool.{eq-eqb, ne_eqb, cond-true, cond-false}
use Rattle.frames.specs.declared.state.FrameState.TheVariants.{Table, Mapped, Owed}
use Rattle.frames.specs.Frames.{Frames}
use Rattle.sv39.specs.declared.entry.Rights.{Rights}
use Rattle.sv39.specs.Making.{pointer_doubleword, leaf_doubleword}
use Rattle.machine.specs.Rights.{valid}
use Rattle.law.proofs.Pools.{state_at}

-- no table; the root of a space; its table of level 1 at an index; its table of level 0 at two
pub data Place : Type 0 where
  none : Place
  root : ℕ → Place
  mid : ℕ → ℕ → Place
  low : ℕ → ℕ → ℕ → Place

-- a frame is in no leaf and no debt; in the leaf at an index of a table of level 0; or owed by the debt in a slot
pub data Holder : Type 0 where
  nowhere : Holder
  in_leaf : ℕ → ℕ → Holder
  in_debt : ℕ → Holder

abbrev pub Standing : Place → Type 0
Standing none = ⊥
Standing (root s) = Unit {0}
Standing (mid s i) = Unit {0}
Standing (low s i j) = Unit {0}

-- the place of the table below a table
abbrev pub child : Place → ℕ → Place
child none i = none
child (root s) i = mid s i
child (mid s i) j = low s i j
child (low s i j) k = none

-- an entry leads to the table placed below it, or is 0
pub record Pointer (at : ℕ → Place) (p : Place) (w : ℕ) : Type 0 where
  pub to : ℕ
  pub word : w ≡ pointer_doubleword to
  pub there : at to ≡ p

abbrev pub Leads : (ℕ → Place) → Place → ℕ → Type 0
Leads at p w = (w ≡ 0) ⊎ Pointer at p w

-- an entry of a table of level 0 is the leaf of the frame held there, or is 0
pub record LeafTo (held : ℕ → Holder) (t k w : ℕ) : Type 0 where
  pub frame : ℕ
  pub rights : Rights
  pub allowed : valid rights ≡ true
  pub word : w ≡ leaf_doubleword frame rights
  pub there : held frame ≡ in_leaf t k

abbrev pub Maps : (ℕ → Holder) → ℕ → ℕ → ℕ → Type 0
Maps held t k w = (w ≡ 0) ⊎ LeafTo held t k w

abbrev pub Fit : (ℕ → Place) → (ℕ → Holder) → Place → ℕ → ℕ → ℕ → Type 0
Fit at held none t i w = Unit {0}
Fit at held (root s) t i w = Leads at (mid s i) w
Fit at held (mid s i) t j w = Leads at (low s i j) w
Fit at held (low s i j) t k w = Maps held t k w

pub record Tables (cells : List ℕ) (v : Frames) (roots : List (Option ℕ)) (at : ℕ → Place) (held : ℕ → Holder) : Type 0 where
  pub room : 512 * v.limit ≤ length cells
  pub placed : (t : ℕ) → Standing (at t) → (t < v.limit) × (state_at v t ≡ Table)
  pub rooted : (s r : ℕ) → get_or roots s None ≡ Some r → at r ≡ root s
  pub fits : (t i : ℕ) → i < 512 → Fit at held (at t) t i (get_or cells (512 * t + i) 0)
  pub mapped : (f t k : ℕ) → held f ≡ in_leaf t k → (f < v.limit) × (state_at v f ≡ Mapped)
  pub owed : (f n : ℕ) → held f ≡ in_debt n → (f < v.limit) × (state_at v f ≡ Owed)

-- a function with one value changed
abbrev pub at_one : {A : Type 0} → (ℕ → A) → ℕ → A → ℕ → A
at_one of f a g = cond (eqb g f) a (of g)

module _ {A : Type 0} (of : ℕ → A) (f : ℕ) (a : A) where
  pub at_same : at_one of f a f ≡ a
  at_same = cond-true (eqb f f) a (of f) (eq-eqb f f refl)

  pub at_other : (g : ℕ) → (g ≡ f → ⊥) → at_one of f a g ≡ of g
  at_other g ne = cond-false (eqb g f) a (of g) (ne_eqb g f ne)

-- a place is one or it is none
pub none_unless : (p : Place) → (Standing p → ⊥) → p ≡ none
none_unless none n = refl
none_unless (root s) n = absurd (n tt)
none_unless (mid s i) n = absurd (n tt)
none_unless (low s i j) n = absurd (n tt)

pub standing_at : {p q : Place} → p ≡ q → Standing q → Standing p
standing_at e s = subst Standing (sym e) s

-- a word that is 0 fits any place
pub zero_fits : (at : ℕ → Place) (held : ℕ → Holder) (p : Place) (t i w : ℕ) → w ≡ 0 → Fit at held p t i w
zero_fits at held none t i w e = tt
zero_fits at held (root s) t i w e = inl e
zero_fits at held (mid s j) t i w e = inl e
zero_fits at held (low s j k) t i w e = inl e

-- what fits goes on to fit where no place and no holder that it names moves
module _ (at at' : ℕ → Place) (held held' : ℕ → Holder) (at-kept : (g : ℕ) → Standing (at g) → at' g ≡ at g) where
  leads_kept : (p : Place) → Standing p → (w : ℕ) → Leads at p w → Leads at' p w
  leads_kept p s w (inl e) = inl e
  leads_kept p s w (inr l) =
      inr (record { to = l.to; word = l.word; there = at-kept l.to (standing_at l.there s) ∙ l.there })

  maps_kept : (t k w : ℕ) → ((g : ℕ) → held g ≡ in_leaf t k → held' g ≡ held g) → Maps held t k w → Maps held' t k w
  maps_kept t k w held_kept (inl e) = inl e
  maps_kept t k w held_kept (inr l) =
      inr (record { frame = l.frame; rights = l.rights; allowed = l.allowed; word = l.word; there = held_kept l.frame l.there ∙ l.there })

  pub fit_kept : (p : Place) (t i w : ℕ) → ((g : ℕ) → held g ≡ in_leaf t i → held' g ≡ held g) → Fit at held p t i w → Fit at' held' p t i w
  fit_kept none t i w h x = tt
  fit_kept (root s) t i w h x = leads_kept (mid s i) tt w x
  fit_kept (mid s j) t i w h x = leads_kept (low s j i) tt w x
  fit_kept (low s j k) t i w h x = maps_kept t i w h x

-- two different holders
pub nowhere_not_leaf : (t k : ℕ) → nowhere ≡ in_leaf t k → ⊥
nowhere_not_leaf t k e = let z : ◌≡◌ {A = ℕ} 0 1 = cc in omega arith

pub nowhere_not_debt : (n : ℕ) → nowhere ≡ in_debt n → ⊥
nowhere_not_debt n e = let z : ◌≡◌ {A = ℕ} 0 1 = cc in omega arith

pub leaf_not_debt : (t k n : ℕ) → in_leaf t k ≡ in_debt n → ⊥
leaf_not_debt t k n e = let z : ◌≡◌ {A = ℕ} 0 1 = cc in omega arith

pub leaf_same : (t k u j : ℕ) → in_leaf t k ≡ in_leaf u j → (t ≡ u) × (k ≡ j)
leaf_same t k u j e = (cc, cc)

pub debt_same : (n m : ℕ) → in_debt n ≡ in_debt m → n ≡ m
debt_same n m e = cc

pub low_same : (s i j s' i' j' : ℕ) → low s i j ≡ low s' i' j' → (s ≡ s') × (i ≡ i') × (j ≡ j')
low_same s i j s' i' j' e = (cc, cc, cc)
