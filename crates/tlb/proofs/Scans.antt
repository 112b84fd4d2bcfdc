-- Going through a row way by way.
use Rattle.std.proofs.Common.{◌≡◌, ℕ, ◌+◌, ◌-◌, ◌<◌, Bool, true, false, cond, List, [], ◌∷◌, ◌++◌, length, get_or, take, drop, set, Some, None, Option, sym, refl, ap, ◌∙◌, arith}
use Rattle.std.proofs.lemmas.List.Edits.{map_over_more}
use Rattle.std.proofs.lemmas.List.{take_more, set-get_or, length-take-le, length-map, get_or-append_right, get_or-drop, get_or_default}
use Rattle.std.proofs.lemmas.List.Sums.{sum_by_push}
use Rattle.std.proofs.lemmas.Bool.{cond-true, cond-false}
use Rattle.tlb.specs.declared.way.Way.{Way}
use Rattle.tlb.specs.Rows.{found, covers, spared, covered, fenced, emptied}
use Rattle.std.specs.List.{position, position_from}
use Rattle.std.proofs.lemmas.Iterator.Adapters.{position_from-zero}
use Rattle.tlb.specs.Ways.{speaks_for}
use Rattle.tlb.proofs.Sparse.{inside_still}

-- whether a way is held and for a page of a space
abbrev pub holds_for : ℕ → ℕ → Option Way → Bool
holds_for space page None = false
holds_for space page (Some way) = speaks_for way space page

found_is_position_from : (space page i : ℕ) (ways : List (Option Way)) → position_from (holds_for space page) i ways ≡ found space page i ways
found_is_position_from space page i [] = refl
found_is_position_from space page i (None ∷ ways) = found_is_position_from space page (i + 1) ways
found_is_position_from space page i (Some way ∷ ways) = ap (cond (speaks_for way space page) (Some i)) (found_is_position_from space page (i + 1) ways)

pub found_is_position : (space page : ℕ) (ways : List (Option Way)) → position (holds_for space page) ways ≡ found space page 0 ways
found_is_position space page ways = position_from-zero (holds_for space page) ways ∙ found_is_position_from space page 0 ways

-- A fence that has come to way i: the row ys has the ways so far fenced and the others of xs as they were.
module _ (space page : Option ℕ) (xs ys : List (Option Way)) (i : ℕ) (inside : i < length xs) (so_far : ys ≡ fenced space page (take i xs) ++ drop i xs) where
  pub still : get_or ys i None ≡ get_or xs i None
  still =
      let l : length (fenced space page (take i xs)) ≡ i = length-map (take i xs) (spared space page) ∙ length-take-le i xs (omega arith) in
      let z : i + (i - i) ≡ i = omega arith in
      ap (λ (zs : List (Option Way)). get_or zs i None) so_far
      ∙ get_or-append_right (fenced space page (take i xs)) (drop i xs) i i None l (omega arith)
      ∙ get_or-drop i xs (i - i) None ∙ ap (λ (n : ℕ). get_or xs n None) z

  -- what the fence does at way i: o was there, and what is spared of it stays
  pub fenced_more : (o : Option Way) → get_or ys i None ≡ o → set ys i (spared space page o) ≡ fenced space page (take (i + 1) xs) ++ drop (i + 1) xs
  fenced_more o e = map_over_more (spared space page) xs ys i o inside so_far (sym e ∙ get_or_default ys i None o (inside_still (spared space page) xs ys i inside so_far))

  pub unchanged : (o : Option Way) → get_or ys i None ≡ o → set ys i o ≡ ys
  unchanged o e = ap (set ys i) (sym e) ∙ set-get_or ys i None

  pub emptied_more : (o : Option Way) → get_or ys i None ≡ o → emptied space page (take (i + 1) xs) ≡ emptied space page (take i xs) + cond (covered space page o) 1 0
  emptied_more o e =
      ap (emptied space page) (take_more xs i None inside ∙ ap (λ (x : Option Way). take i xs ++ x ∷ []) (sym still ∙ e))
      ∙ sum_by_push (λ x. cond (covered space page x) 1 0) (take i xs) o

  -- the two ways through the loop
  spared_covered : (o : Option Way) → covered space page o ≡ true → spared space page o ≡ None
  spared_covered None e = refl
  spared_covered (Some way) e = cond-true (covers space page way) _ _ e

  spared_other : (o : Option Way) → covered space page o ≡ false → spared space page o ≡ o
  spared_other None e = refl
  spared_other (Some way) e = cond-false (covers space page way) _ _ e

  pub step_covered : covered space page (get_or ys i None) ≡ true → (set ys i None ≡ fenced space page (take (i + 1) xs) ++ drop (i + 1) xs) × (emptied space page (take (i + 1) xs) ≡ emptied space page (take i xs) + 1)
  step_covered e = (
    ap (set ys i) (sym (spared_covered (get_or ys i None) e)) ∙ fenced_more (get_or ys i None) refl,
    emptied_more (get_or ys i None) refl ∙ ap (λ (n : ℕ). emptied space page (take i xs) + n) (ap (λ (b : Bool). cond b 1 0) e),
  )

  pub step_other : covered space page (get_or ys i None) ≡ false → (ys ≡ fenced space page (take (i + 1) xs) ++ drop (i + 1) xs) × (emptied space page (take (i + 1) xs) ≡ emptied space page (take i xs) + 0)
  step_other e = (
    sym (unchanged (get_or ys i None) refl) ∙ ap (set ys i) (sym (spared_other (get_or ys i None) e)) ∙ fenced_more (get_or ys i None) refl,
    emptied_more (get_or ys i None) refl ∙ ap (λ (n : ℕ). emptied space page (take i xs) + n) (ap (λ (b : Bool). cond b 1 0) e),
  )

-- the way for a page is one of the row's
pub found_within : (space page i : ℕ) (ways : List (Option Way)) (k : ℕ) → found space page i ways ≡ Some k → k < i + length ways
found_within space page i [] k e = let z : ◌≡◌ {A = ℕ} 0 1 = cc in absurd (omega arith)
found_within space page i (None ∷ ways) k e = let r = found_within space page (i + 1) ways k e in omega arith
found_within space page i (Some way ∷ ways) k e =
    let r : found space page (i + 1) ways ≡ Some k → k < i + 1 + length ways = found_within space page (i + 1) ways k in
    at (speaks_for way space page) r e
  where
    at : (b : Bool) → (found space page (i + 1) ways ≡ Some k → k < i + 1 + length ways) → cond b (Some i) (found space page (i + 1) ways) ≡ Some k → k < i + length (Some way ∷ ways)
    at true r t = let z : i ≡ k = cc in omega arith
    at false r t = let l = r t in omega arith
