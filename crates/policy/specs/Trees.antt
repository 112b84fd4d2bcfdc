-- Trees: the bits lead to a way, and after a touch not to the way touched.
use Rattle.std.specs.Prelude.{◌≡◌, ℕ, zero, suc, ◌^◌, ◌+◌, ◌*◌, ◌/◌, ◌%◌, ◌<◌, ◌≤◌, Bool, true, false, cond, List, [], ◌∷◌, ◌++◌, length, replicate, ◌==◌, ◌≢◌, slice_index_or, slice_set, refl}
use Rattle.std.proofs.Common.{sym, ◌∙◌, ⊎_elim, div-one, pow-suc, mul_comm}
use Rattle.std.proofs.Math.Nat.{pow-le-pow_right}
use Rattle.std.proofs.Math.Path.{ap}
use native.Mathlib.Omega.{arith}
use Rattle.std.proofs.lemmas.List.{get_or-set_same, length-set}
use Rattle.std.proofs.lemmas.Bool.{cases_lt, eq-eqb, ne_eqb}
use Rattle.policy.specs.Laws.{touched_all, PlruSparesTheLast}
use Rattle.policy.specs.Tree.{child_of, followed, turned, touched}

pub child_between : (nodes : List Bool) (n : ℕ) → (2 * n ≤ child_of nodes n) × (child_of nodes n ≤ 2 * n + 1)
child_between nodes n = by (slice_index_or nodes n false)
  where
    by : (b : Bool) → (2 * n ≤ cond b (2 * n + 1) (2 * n)) × (cond b (2 * n + 1) (2 * n) ≤ 2 * n + 1)
    by true = (omega arith, omega arith)
    by false = (omega arith, omega arith)

-- where the bits lead from a node, so many levels down
unfoldable pub down : List Bool → ℕ → ℕ → ℕ
down nodes node zero = node
down nodes node (suc levels) = child_of nodes (down nodes node levels)

pub down_between : (nodes : List Bool) (node levels : ℕ) → (2 ^ levels * node ≤ down nodes node levels) × (down nodes node levels < 2 ^ levels * (node + 1))
unfolding down
down_between nodes node zero = (omega arith, omega arith)
down_between nodes node (suc levels) =
    let h = down_between nodes node levels in
    let b = child_between nodes (down nodes node levels) in
    let e : 2 ^ suc levels ≡ 2 * 2 ^ levels = pow-suc 2 levels ∙ mul_comm (2 ^ levels) 2 in
    rw e (omega arith, omega arith)

pub down_inside : (nodes : List Bool) (levels : ℕ) → levels < 4 → down nodes 1 levels < 16
down_inside nodes levels h =
    let b = down_between nodes 1 levels in
    let p : 2 ^ levels ≤ 2 ^ 3 = pow-le-pow_right {n = 2} (omega arith) {i = levels} {j = 3} (omega arith) in
    omega arith

-- the four bits from the root, and the half that the root's bit names
module _ (nodes : List Bool) where
  pub followed_within : followed nodes < 16
  unfolding followed down
  followed_within = let b = down_between nodes 1 4 in omega arith

  high_half : slice_index_or nodes 1 false ≡ true → 8 ≤ followed nodes
  unfolding followed down
  high_half e =
      let a : child_of nodes 1 ≡ 3 = ap (λ (t : Bool). cond t 3 2) e in
      let b = down_between nodes (child_of nodes 1) 3 in
      omega arith

  low_half : slice_index_or nodes 1 false ≡ false → followed nodes < 8
  unfolding followed down
  low_half e =
      let a : child_of nodes 1 ≡ 2 = ap (λ (t : Bool). cond t 3 2) e in
      let b = down_between nodes (child_of nodes 1) 3 in
      omega arith

pub length_touched : (nodes : List Bool) (way : ℕ) → length (touched nodes way) ≡ length nodes
unfolding touched
length_touched nodes way = simp length-set

-- a touch turns the root's bit to the other half
root_turned : (nodes : List Bool) (way : ℕ) → way < 16 → length nodes ≡ 16 → slice_index_or (touched nodes way) 1 false ≡ ((16 + way) / 8 % 2 == 0)
unfolding touched
root_turned nodes way h l =
    let rest = turned (turned (turned nodes (16 + way)) ((16 + way) / 2)) ((16 + way) / 4) in
    let n : length rest ≡ 16 = simp length-set l in
    let i : (16 + way) / 8 / 2 ≡ 1 = omega arith in
    ap (λ (k : ℕ). slice_index_or (slice_set rest k ((16 + way) / 8 % 2 == 0)) 1 false) i
    ∙ get_or-set_same rest 1 ((16 + way) / 8 % 2 == 0) false (omega arith)

pub touched_away : (nodes : List Bool) (way : ℕ) → way < 16 → length nodes ≡ 16 → followed (touched nodes way) ≢ way
touched_away nodes way h l e =
    ⊎_elim
    (λ (low : way < 8).
    let z : (16 + way) / 8 % 2 ≡ 0 = omega arith in
    omega (arith, high_half (touched nodes way) (root_turned nodes way h l ∙ eq-eqb ((16 + way) / 8 % 2) 0 z)))
    (λ (high : 8 ≤ way).
    let z : (16 + way) / 8 % 2 ≡ 1 = omega arith in
    omega (arith, low_half (touched nodes way) (root_turned nodes way h l ∙ ne_eqb ((16 + way) / 8 % 2) 0 (λ q. omega arith)))) (cases_lt way 8)

-- a touch by levels, from the leaf upward
unfoldable pub turned_below : List Bool → ℕ → ℕ → List Bool
turned_below nodes way zero = nodes
turned_below nodes way (suc level) = turned (turned_below nodes way level) ((16 + way) / 2 ^ level)

pub all_turned : (nodes : List Bool) (way : ℕ) → turned_below nodes way 4 ≡ touched nodes way
unfolding turned_below touched
all_turned nodes way =
    let e = div-one (16 + way) in
    ap (λ (n : ℕ). turned (turned (turned (turned nodes n) ((16 + way) / 2)) ((16 + way) / 4)) ((16 + way) / 8)) e

length_touched_all : (nodes : List Bool) (ways : List ℕ) → length (touched_all nodes ways) ≡ length nodes
length_touched_all nodes [] = refl
length_touched_all nodes (way ∷ ways) = length_touched_all (touched nodes way) ways ∙ length_touched nodes way

last_touch : (nodes : List Bool) (before : List ℕ) (way : ℕ) → touched_all nodes (before ++ way ∷ []) ≡ touched (touched_all nodes before) way
last_touch nodes [] way = refl
last_touch nodes (w ∷ before) way = last_touch (touched nodes w) before way

pub plru_spares_the_last : PlruSparesTheLast
plru_spares_the_last before way h e =
    touched_away (touched_all (replicate 16 false) before) way h (length_touched_all (replicate 16 false) before)
    (ap followed (sym (last_touch (replicate 16 false) before way)) ∙ e)
