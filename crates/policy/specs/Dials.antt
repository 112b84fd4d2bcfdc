-- Dials: a sweep ends at a way that is not the one touched last, and at the first that is free where one is.
use Rattle.std.specs.Prelude.{◌≡◌, ℕ, zero, suc, ◌+◌, ◌-◌, ◌%◌, ◌<◌, ◌≤◌, Bool, true, false, ◌⊎◌, List, length, Some, None, Option, ◌==◌, ◌≢◌, nat_eq, slice_index_or, slice_set, refl}
use Rattle.std.proofs.Common.{sym, ap, subst, ◌∙◌, inl, inr, ⊎_elim, arith}
use Rattle.std.proofs.lemmas.List.{get_or-set_same, get_or-set_other, get_or_past, length-set}
use Rattle.std.proofs.lemmas.Bool.{cases_lt, cases_Bool, cases_eq, eq-eqb, eqb-true, cond-true, cond-false}
use Rattle.policy.specs.Dial.{is_last, Swept, beyond, sweep, swept}
use Rattle.policy.specs.Laws.{ClockPicksUnmarked}

-- one look, by what it meets
module _ (looks : ℕ) (marks : List Bool) (hand : ℕ) (last : Option ℕ) where
  pub look_last : is_last last hand ≡ true → sweep (suc looks) marks hand last ≡ sweep looks marks (beyond hand) last
  unfolding sweep
  look_last e = cond-true (is_last last hand) _ _ e

  pub look_marked : is_last last hand ≡ false → slice_index_or marks hand false ≡ true → sweep (suc looks) marks hand last ≡ sweep looks (slice_set marks hand false) (beyond hand) last
  unfolding sweep
  look_marked e m = cond-false (is_last last hand) _ _ e ∙ cond-true (slice_index_or marks hand false) _ _ m

  pub look_free : is_last last hand ≡ false → slice_index_or marks hand false ≡ false → sweep (suc looks) marks hand last ≡ record { way = hand; marks = marks; hand = beyond hand }
  unfolding sweep
  look_free e m = cond-false (is_last last hand) _ _ e ∙ cond-false (slice_index_or marks hand false) _ _ m

-- the hand stays on the dial, and so does the way
pub swept_within : (looks : ℕ) (marks : List Bool) (hand : ℕ) (last : Option ℕ) → hand < 16 → (sweep looks marks hand last).way < 16
unfolding sweep
swept_within zero marks hand last h = h
swept_within (suc looks) marks hand last h =
    ⊎_elim
    (λ (e : is_last last hand ≡ true).
    subst (λ (s : Swept). s.way < 16) (sym (look_last looks marks hand last e)) (swept_within looks marks (beyond hand) last (omega arith)))
    (λ (e : is_last last hand ≡ false).
    ⊎_elim
    (λ (m : slice_index_or marks hand false ≡ true).
    subst (λ (s : Swept). s.way < 16) (sym (look_marked looks marks hand last e m)) (swept_within looks (slice_set marks hand false) (beyond hand) last (omega arith)))
    (λ (m : slice_index_or marks hand false ≡ false).
    subst (λ (s : Swept). s.way < 16) (sym (look_free looks marks hand last e m)) h) (cases_Bool (slice_index_or marks hand false))) (cases_Bool (is_last last hand))

-- a sweep that has a free way d beyond its hand ends at the first free one
pub record Ends (looks : ℕ) (marks : List Bool) (hand : ℕ) (last : Option ℕ) (d : ℕ) : Type 0 where
  pub far : ℕ
  pub near : far ≤ d
  pub there : (sweep looks marks hand last).way ≡ (hand + far) % 16
  pub unmarked : slice_index_or marks ((hand + far) % 16) false ≡ false
  pub apart : is_last last ((hand + far) % 16) ≡ false
  pub passed : (i : ℕ) → i < far → (slice_index_or marks ((hand + i) % 16) false ≡ true) ⊎ (is_last last ((hand + i) % 16) ≡ true)

ends_here : (looks : ℕ) (marks : List Bool) (hand : ℕ) (last : Option ℕ) (d : ℕ) → hand < 16 → is_last last hand ≡ false → slice_index_or marks hand false ≡ false → Ends (suc looks) marks hand last d
ends_here looks marks hand last d h e m =
    let z : (hand + 0) % 16 ≡ hand = omega arith in
    record {
      far = 0;
      near = omega arith;
      there = ap (λ (s : Swept). s.way) (look_free looks marks hand last e m) ∙ sym z;
      unmarked = rw z m;
      apart = rw z e;
      passed = λ i l. absurd (omega arith);
    }

-- one way passed
ends_on : (looks : ℕ) (marks marks' : List Bool) (hand : ℕ) (last : Option ℕ) (d : ℕ) → hand < 16 → d < 15 → sweep (suc looks) marks hand last ≡ sweep looks marks' (beyond hand) last → ((k : ℕ) → (k ≢ hand) → slice_index_or marks' k false ≡ slice_index_or marks k false) → (slice_index_or marks hand false ≡ true) ⊎ (is_last last hand ≡ true) → Ends looks marks' (beyond hand) last d → Ends (suc looks) marks hand last (d + 1)
ends_on looks marks marks' hand last d h small step others busy r =
    let f = r.far in
    let n = r.near in
    let e : (beyond hand + r.far) % 16 ≡ (hand + (r.far + 1)) % 16 = omega arith in
    let ne : (hand + (r.far + 1)) % 16 ≡ hand → ⊥ = λ q. omega arith in
    record {
      far = r.far + 1;
      near = omega arith;
      there = ap (λ (s : Swept). s.way) step ∙ r.there ∙ e;
      unmarked = sym (others ((hand + (r.far + 1)) % 16) ne) ∙ ap (λ (k : ℕ). slice_index_or marks' k false) (sym e) ∙ r.unmarked;
      apart = ap (is_last last) (sym e) ∙ r.apart;
      passed = λ i l. by_place i l (cases_eq i 0);
    }
  where
    by_place : (i : ℕ) → i < r.far + 1 → (i ≡ 0) ⊎ (i ≢ 0) → (slice_index_or marks ((hand + i) % 16) false ≡ true) ⊎ (is_last last ((hand + i) % 16) ≡ true)
    by_place i l (inl z) =
        let q : hand ≡ (hand + i) % 16 = omega arith in
        ⊎_elim (λ (m : slice_index_or marks hand false ≡ true). inl (ap (λ (k : ℕ). slice_index_or marks k false) (sym q) ∙ m))
        (λ (e : is_last last hand ≡ true). inr (ap (is_last last) (sym q) ∙ e)) busy
    by_place i l (inr z) =
        let j : i - 1 + 1 ≡ i = omega arith in
        let n = r.near in
        let q : (beyond hand + (i - 1)) % 16 ≡ (hand + i) % 16 = omega arith in
        let ne : (hand + i) % 16 ≡ hand → ⊥ = λ t. omega arith in
        ⊎_elim
        (λ (m : slice_index_or marks' ((beyond hand + (i - 1)) % 16) false ≡ true).
        inl (sym (others ((hand + i) % 16) ne) ∙ ap (λ (k : ℕ). slice_index_or marks' k false) (sym q) ∙ m))
        (λ (e : is_last last ((beyond hand + (i - 1)) % 16) ≡ true). inr (ap (is_last last) (sym q) ∙ e))
        (r.passed (i - 1) (omega arith))

pub ends_from : (looks : ℕ) (marks : List Bool) (hand : ℕ) (last : Option ℕ) (d : ℕ) → hand < 16 → d < looks → d < 16 → slice_index_or marks ((hand + d) % 16) false ≡ false → is_last last ((hand + d) % 16) ≡ false → Ends looks marks hand last d
ends_from zero marks hand last d h l u m e = absurd (omega arith)
ends_from (suc looks) marks hand last zero h l u m e =
    let z : (hand + 0) % 16 ≡ hand = omega arith in
    ends_here looks marks hand last 0 h (ap (is_last last) (sym z) ∙ e) (ap (λ (k : ℕ). slice_index_or marks k false) (sym z) ∙ m)
ends_from (suc looks) marks hand last (suc d) h l u m e =
    let q : (hand + suc d) % 16 ≡ (beyond hand + d) % 16 = omega arith in
    let ne : (hand + suc d) % 16 ≡ hand → ⊥ = λ t. omega arith in
    let b : beyond hand < 16 = omega arith in
    let one : d + 1 ≡ suc d = omega arith in
    subst (λ (k : ℕ). Ends (suc looks) marks hand last k) one
    (⊎_elim
    (λ (t : is_last last hand ≡ true).
    ends_on looks marks marks hand last d h (omega arith) (look_last looks marks hand last t) (λ k n. refl) (inr t)
    (ends_from looks marks (beyond hand) last d b (omega arith) (omega arith) (ap (λ (k : ℕ). slice_index_or marks k false) (sym q) ∙ m) (ap (is_last last) (sym q) ∙ e)))
    (λ (t : is_last last hand ≡ false).
    ⊎_elim
    (λ (c : slice_index_or marks hand false ≡ true).
    ends_on looks marks (slice_set marks hand false) hand last d h (omega arith) (look_marked looks marks hand last t c) (λ k n. get_or-set_other marks hand k false false n) (inl c)
    (ends_from looks (slice_set marks hand false) (beyond hand) last d b (omega arith) (omega arith) (ap (λ (k : ℕ). slice_index_or (slice_set marks hand false) k false) (sym q) ∙ get_or-set_other marks hand ((hand + suc d) % 16) false false ne ∙ m) (ap (is_last last) (sym q) ∙ e)))
    (λ (c : slice_index_or marks hand false ≡ false). ends_here looks marks hand last (d + 1) h t c) (cases_Bool (slice_index_or marks hand false))) (cases_Bool (is_last last hand)))

-- a way that a sweep has unmarked is free
cleared : (marks : List Bool) (hand : ℕ) → slice_index_or (slice_set marks hand false) hand false ≡ false
cleared marks hand =
    ⊎_elim (λ (h : hand < length marks). get_or-set_same marks hand false false h)
    (λ (h : length marks ≤ hand). get_or_past (slice_set marks hand false) hand false (subst (λ (n : ℕ). n ≤ hand) (sym (length-set marks hand false)) h)) (cases_lt hand (length marks))

-- from a way that is not the last touched, seventeen looks suffice
apart_from : (looks : ℕ) (marks : List Bool) (hand : ℕ) (last : Option ℕ) → 16 ≤ looks → hand < 16 → is_last last hand ≡ false → is_last last (sweep (suc looks) marks hand last).way ≡ false
apart_from looks marks hand last l h e =
    ⊎_elim
    (λ (m : slice_index_or marks hand false ≡ true).
    let q : (beyond hand + 15) % 16 ≡ hand = omega arith in
    let r = ends_from looks (slice_set marks hand false) (beyond hand) last 15 (omega arith) (omega arith) (omega arith) (ap (λ (k : ℕ). slice_index_or (slice_set marks hand false) k false) q ∙ cleared marks hand) (ap (is_last last) q ∙ e) in
    ap (λ (s : Swept). is_last last s.way) (look_marked looks marks hand last e m) ∙ ap (is_last last) r.there ∙ r.apart)
    (λ (m : slice_index_or marks hand false ≡ false).
    ap (λ (s : Swept). is_last last s.way) (look_free looks marks hand last e m) ∙ e) (cases_Bool (slice_index_or marks hand false))

one_last : (last : Option ℕ) (a b : ℕ) → is_last last a ≡ true → (a ≢ b) → is_last last b ≡ false
one_last None a b e ne = refl
one_last (Some w) a b e ne =
    ⊎_elim (λ (t : nat_eq w b ≡ true). absurd (ne (sym (eqb-true w a e) ∙ eqb-true w b t))) (λ (t : nat_eq w b ≡ false). t) (cases_Bool (w == b))

-- a pick is never the way touched last
pub swept_apart : (marks : List Bool) (hand : ℕ) (last : Option ℕ) → hand < 16 → is_last last (swept marks hand last).way ≡ false
unfolding swept
swept_apart marks hand last h =
    ⊎_elim
    (λ (e : is_last last hand ≡ true).
    let b : beyond hand < 16 = omega arith in
    let ne : hand ≡ beyond hand → ⊥ = λ t. omega arith in
    ap (λ (s : Swept). is_last last s.way) (look_last 17 marks hand last e)
    ∙ apart_from 16 marks (beyond hand) last (omega arith) b (one_last last hand (beyond hand) e ne))
    (λ (e : is_last last hand ≡ false). apart_from 17 marks hand last (omega arith) h e) (cases_Bool (is_last last hand))

pub last_is : (w : ℕ) → is_last (Some w) w ≡ true
last_is w = eq-eqb w w refl

-- the looks that are left before the look i, of eighteen
pub looks_left : (i : ℕ) (marks : List Bool) (hand : ℕ) (last : Option ℕ) → i < 18 → sweep (suc (18 - (i + 1))) marks hand last ≡ sweep (18 - i) marks hand last
looks_left i marks hand last h =
    let e : suc (18 - (i + 1)) ≡ 18 - i = omega arith in
    ap (λ (n : ℕ). sweep n marks hand last) e

pub no_look_left : (i : ℕ) (marks : List Bool) (hand : ℕ) (last : Option ℕ) → 18 ≤ i → record { way = hand; marks = marks; hand = hand } ≡ sweep (18 - i) marks hand last
unfolding sweep
no_look_left i marks hand last h =
    let e : 18 - i ≡ 0 = omega arith in
    sym (ap (λ (n : ℕ). sweep n marks hand last) e)

pub clock_picks_unmarked : ClockPicksUnmarked
unfolding swept
clock_picks_unmarked marks hand last free h f m e =
    let q : (hand + (free + 16 - hand) % 16) % 16 ≡ free = omega arith in
    let r = ends_from 18 marks hand last ((free + 16 - hand) % 16) h (omega arith) (omega arith) (ap (λ (k : ℕ). slice_index_or marks k false) q ∙ m) (ap (is_last last) q ∙ e) in
    let n = r.near in
    record {
      passes = r.far;
      once = omega arith;
      there = r.there;
      unmarked = ap (λ (k : ℕ). slice_index_or marks k false) r.there ∙ r.unmarked;
      apart = ap (is_last last) r.there ∙ r.apart;
      passed = r.passed;
    }
