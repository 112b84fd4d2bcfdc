-- What a row answers: a way for the page that serves the access, or a row with that way emptied.
use Rattle.std.proofs.Common.{◌≡◌, ℕ, suc, ◌+◌, ◌%◌, ◌^◌, true, false, cond, ◌&&◌, List, [], ◌∷◌, get_or, set, Some, None, Option, sym, refl, ap, ◌∙◌, ⊎_elim, arith}
use Rattle.std.proofs.lemmas.Bool.{cases_Bool, cond-true, cond-false, and_parts, eqb-true}
use Rattle.sv39.specs.declared.access.Access.{Access}
use Rattle.sv39.specs.declared.access.Kind.{Kind}
use Rattle.sv39.specs.declared.access.Kind.TheVariants.{Fetch, Load, Store}
use Rattle.std.proofs.lemmas.Option.{none-some, same_Some}
use Rattle.sv39.specs.declared.access.Mode.{Mode}
use Rattle.sv39.specs.declared.access.Mode.TheVariants.{User, Supervisor}
use Rattle.sv39.specs.declared.entry.Flags.{Flags}
use Rattle.sv39.specs.Rules.{granted, reachable, permits, marked}
use Rattle.tlb.specs.declared.way.Way.{Way}
use Rattle.tlb.specs.Rows.{found}
use Rattle.tlb.specs.Trying.{served_by, served_at, served, tried_by, tried_at, tried}
use Rattle.tlb.specs.Ways.{speaks_for, serves, flags_of, way_of}
use Rattle.law.proofs.Slots.{set_holds}

-- a way that was found is for the page
found_for : (space page i : ℕ) (ways : List (Option Way)) (n : ℕ) → found space page i ways ≡ Some n → (k : ℕ) × ((n ≡ i + k) × ((way : Way) × ((get_or ways k None ≡ Some way) × (speaks_for way space page ≡ true))))
found_for space page i [] n e = absurd (none-some n e)
found_for space page i (None ∷ ways) n e =
    let r = found_for space page (i + 1) ways n e in
    (suc r.0, (omega (arith, r.1.0), r.1.1))
found_for space page i (Some x ∷ ways) n e =
    let more : found space page (i + 1) ways ≡ Some n → (k : ℕ) × ((n ≡ i + 1 + k) × ((way : Way) × ((get_or ways k None ≡ Some way) × (speaks_for way space page ≡ true)))) = found_for space page (i + 1) ways n in
    ⊎_elim
    (λ (t : speaks_for x space page ≡ true).
    let q : i ≡ n = same_Some i n (sym (cond-true (speaks_for x space page) (Some i) (found space page (i + 1) ways) t) ∙ e) in
    (0, (omega arith, (x, (refl, t)))))
    (λ (t : speaks_for x space page ≡ false).
    let r = more (sym (cond-false (speaks_for x space page) (Some i) (found space page (i + 1) ways) t) ∙ e) in
    (suc r.0, (omega (arith, r.1.0), r.1.1))) (cases_Bool (speaks_for x space page))

pub record Hit (space page : ℕ) (q : Access) (ways : List (Option Way)) (hit : ℕ × ℕ) : Type 0 where
  pub way : Way
  pub there : get_or ways hit.0 None ≡ Some way
  pub space_is : way.of.space ≡ space
  pub page_is : way.of.page ≡ page
  pub may : serves way q ≡ true
  pub frame : hit.1 ≡ way.frame % 2 ^ 44

module _ (space page : ℕ) (q : Access) (ways : List (Option Way)) where
  hit_by : (i : ℕ) (hit : ℕ × ℕ) → found space page 0 ways ≡ Some i → served_by q i (get_or ways i None) ≡ Some hit → Hit space page q ways hit
  hit_by i hit e h =
      let r = found_for space page 0 ways i e in
      let k : i ≡ r.0 = omega (arith, r.1.0) in
      let way : Way = r.1.1.0 in
      let there : get_or ways i None ≡ Some way = ap (λ (n : ℕ). get_or ways n None) k ∙ r.1.1.1.0 in
      let speaks = and_parts _ _ r.1.1.1.1 in
      let served_way : cond (serves way q) (Some (i, way.frame % 2 ^ 44)) None ≡ Some hit = sym (ap (served_by q i) there) ∙ h in
      ⊎_elim
      (λ (t : serves way q ≡ true).
      let same : ◌≡◌ {A = ℕ × ℕ} (i, way.frame % 2 ^ 44) hit = same_Some (i, way.frame % 2 ^ 44) hit (sym (cond-true (serves way q) (Some (i, way.frame % 2 ^ 44)) None t) ∙ served_way) in
      record {
        way = way;
        there = ap (λ (x : ℕ × ℕ). get_or ways x.0 None) (sym same) ∙ there;
        space_is = eqb-true way.of.space space speaks.0;
        page_is = eqb-true way.of.page page speaks.1;
        may = t;
        frame = ap (λ (x : ℕ × ℕ). x.1) (sym same);
      })
      (λ (t : serves way q ≡ false).
      absurd (none-some hit (sym (cond-false (serves way q) (Some (i, way.frame % 2 ^ 44)) None t) ∙ served_way))) (cases_Bool (serves way q))

  served_by_is : (o : Option ℕ) (hit : ℕ × ℕ) → found space page 0 ways ≡ o → served_at q ways o ≡ Some hit → Hit space page q ways hit
  served_by_is None hit e h = absurd (none-some hit h)
  served_by_is (Some i) hit e h = hit_by i hit e h

  pub served_hit : (hit : ℕ × ℕ) → served space page q ways ≡ Some hit → Hit space page q ways hit
  served_hit hit e = served_by_is (found space page 0 ways) hit refl e

  -- a row that was tried has only ways that it had
  tried_by_is : (i : ℕ) (o : Option Way) (j : ℕ) (way : Way) → get_or (tried_by q ways i o) j None ≡ Some way → get_or ways j None ≡ Some way
  tried_by_is i None j way e = e
  tried_by_is i (Some x) j way e =
      ⊎_elim (λ (t : serves x q ≡ true). ap (λ (ws : List (Option Way)). get_or ws j None) (sym (cond-true (serves x q) ways (set ways i None) t)) ∙ e)
      (λ (t : serves x q ≡ false).
      ⊎_elim (λ (p : (j ≡ i) × (None ≡ Some way)). absurd (none-some way p.1)) (λ (p : (j ≡ i → ⊥) × (get_or ways j None ≡ Some way)). p.1)
      (set_holds ways i None j way (ap (λ (ws : List (Option Way)). get_or ws j None) (sym (cond-false (serves x q) ways (set ways i None) t)) ∙ e))) (cases_Bool (serves x q))

  tried_at_is : (o : Option ℕ) (j : ℕ) (way : Way) → get_or (tried_at q ways o) j None ≡ Some way → get_or ways j None ≡ Some way
  tried_at_is None j way e = e
  tried_at_is (Some i) j way e = tried_by_is i (get_or ways i None) j way e

  pub tried_had : (j : ℕ) (way : Way) → get_or (tried space page q ways) j None ≡ Some way → get_or ways j None ≡ Some way
  tried_had j way e = tried_at_is (found space page 0 ways) j way e

-- a way serves what its leaf's flags let pass
permits_same : (f : Flags) (q : Access) (space page frame : ℕ) → permits (flags_of (way_of space page frame f)) q ≡ permits f q
permits_same f q space page frame = at q.kind q.mode
  where
    at : (k : Kind) (m : Mode) → (granted (flags_of (way_of space page frame f)) k q.mxr && reachable (flags_of (way_of space page frame f)) m k q.sum) ≡ (granted f k q.mxr && reachable f m k q.sum)
    at Fetch User = refl
    at Fetch Supervisor = refl
    at Load User = refl
    at Load Supervisor = refl
    at Store User = refl
    at Store Supervisor = refl

marked_same : (f : Flags) (k : Kind) (space page frame : ℕ) → marked (flags_of (way_of space page frame f)) k ≡ marked f k
marked_same f Fetch space page frame = refl
marked_same f Load space page frame = refl
marked_same f Store space page frame = refl

pub serves_tells : (f : Flags) (q : Access) (space page frame : ℕ) → serves (way_of space page frame f) q ≡ true → (permits f q ≡ true) × (marked f q.kind ≡ true)
serves_tells f q space page frame e =
    let p = and_parts (permits (flags_of (way_of space page frame f)) q) (marked (flags_of (way_of space page frame f)) q.kind) e in
    (sym (permits_same f q space page frame) ∙ p.0, sym (marked_same f q.kind space page frame) ∙ p.1)
