-- What it tells that a call on a page was let pass.
use Rattle.std.proofs.Common.{◌≡◌, ℕ, ◌≤◌, Bool, true, false, cond, ltb, Some, None, Ok, Err, Option, Result, refl, ap, ◌∙◌, subst, arith}
use Rattle.std.proofs.lemmas.Bool.{ltb-false}
use Rattle.frames.specs.declared.state.FrameState.TheVariants as state
use Rattle.frames.specs.Frames.{is_in, available}
use Rattle.sv39.specs.declared.entry.Entry.{Entry}
use Rattle.sv39.specs.declared.entry.Rights.{Rights}
use Rattle.tables.specs.Tables.{missing}
use Rattle.machine.specs.declared.refusal.Refusal.{Refusal}
use Rattle.machine.specs.declared.refusal.Refusal.TheVariants.{NoFrame}
use Rattle.machine.specs.Pages.{is_page, located_by, located, leaf_below, map_unless_mapped, map_allowed_at, map_allowed, leaf_or, protect_allowed_at, protect_allowed, unmap_allowed_at, unmap_allowed}
use Rattle.machine.specs.Rights.{valid}
use Rattle.machine.specs.State.{State, root_of}

module _ {A : Type 0} where
  pub ok_under : (b : Bool) (x : Result A Refusal) (r : Refusal) (a : A) → cond b x (Err r) ≡ Ok a → (b ≡ true) × (x ≡ Ok a)
  ok_under true x r a e = (refl, e)
  ok_under false x r a e = let z : ◌≡◌ {A = ℕ} 0 1 = cc in absurd (omega arith)

  pub ok_unless : (b : Bool) (x : Result A Refusal) (r : Refusal) (a : A) → cond b (Err r) x ≡ Ok a → (b ≡ false) × (x ≡ Ok a)
  ok_unless false x r a e = (refl, e)
  ok_unless true x r a e = let z : ◌≡◌ {A = ℕ} 0 1 = cc in absurd (omega arith)

  pub err_not_ok : (r : Refusal) (a : A) → ◌≡◌ {A = Result A Refusal} (Err r) (Ok a) → ⊥
  err_not_ok r a e = let z : ◌≡◌ {A = ℕ} 0 1 = cc in omega arith

pub ok_same : {A : Type 0} (a b : A) → ◌≡◌ {A = Result A Refusal} (Ok a) (Ok b) → a ≡ b
ok_same a b e = cc

pub located_tells : (address : ℕ) (o : Option ℕ) (r : ℕ) → located_by address o ≡ Ok r → (o ≡ Some r) × (is_page address ≡ true)
located_tells address None r e = absurd (err_not_ok _ r e)
located_tells address (Some root) r e =
    let p = ok_under (is_page address) (Ok root) _ r e in
    (ap Some (ok_same root r p.1), p.0)

pub record MapTells (s : State) (space address frame : ℕ) (rights : Rights) (allowed : ℕ × ℕ) : Type 0 where
  pub rooted : root_of s space ≡ Some allowed.0
  pub paged : is_page address ≡ true
  pub may : valid rights ≡ true
  pub holds : is_in s.frames frame state.Held ≡ true
  pub same : frame ≡ allowed.1
  pub enough : missing s.cells s.frames.limit allowed.0 address ≤ available s.frames

module _ (s : State) (space address frame : ℕ) (rights : Rights) where
  unmapped_tells : (root : ℕ) (o : Option (ℕ × Entry)) (allowed : ℕ × ℕ) → map_unless_mapped s address frame root o ≡ Ok allowed → (missing s.cells s.frames.limit root address ≤ available s.frames) × (◌≡◌ {A = ℕ × ℕ} (root, frame) allowed)
  unmapped_tells root (Some leaf) allowed e = absurd (err_not_ok _ allowed e)
  unmapped_tells root None allowed e =
      let p = ok_unless (ltb (available s.frames) (missing s.cells s.frames.limit root address)) (Ok (root, frame)) NoFrame allowed e in
      (ltb-false (available s.frames) (missing s.cells s.frames.limit root address) p.0, ok_same (root, frame) allowed p.1)

  map_tells_at : (o : Result ℕ Refusal) → located s space address ≡ o → (allowed : ℕ × ℕ) → map_allowed_at s address frame rights o ≡ Ok allowed → MapTells s space address frame rights allowed
  map_tells_at (Err refusal) l allowed e = absurd (err_not_ok refusal allowed e)
  map_tells_at (Ok root) l allowed e =
      let where_it_is = located_tells address (root_of s space) root l in
      let p = ok_under (valid rights) _ _ allowed e in
      let q = ok_under (is_in s.frames frame state.Held) _ _ allowed p.1 in
      let r = unmapped_tells root (leaf_below s root address) allowed q.1 in
      let same_root : root ≡ allowed.0 = ap (λ (x : ℕ × ℕ). x.0) r.1 in
      record {
        rooted = where_it_is.0 ∙ ap Some same_root;
        paged = where_it_is.1;
        may = p.0;
        holds = q.0;
        same = ap (λ (x : ℕ × ℕ). x.1) r.1;
        enough = subst (λ (n : ℕ). missing s.cells s.frames.limit n address ≤ available s.frames) same_root r.0;
      }

  pub map_tells : (allowed : ℕ × ℕ) → map_allowed s space address frame rights ≡ Ok allowed → MapTells s space address frame rights allowed
  map_tells allowed e = map_tells_at (located s space address) refl allowed e

-- the leaf that protect and unmap work on
pub record LeafTells (s : State) (space address : ℕ) (leaf : ℕ × Entry) : Type 0 where
  pub root : ℕ
  pub rooted : root_of s space ≡ Some root
  pub paged : is_page address ≡ true
  pub found : leaf_below s root address ≡ Some leaf

leaf_or_tells : (o : Option (ℕ × Entry)) (leaf : ℕ × Entry) → leaf_or o ≡ Ok leaf → o ≡ Some leaf
leaf_or_tells None leaf e = absurd (err_not_ok _ leaf e)
leaf_or_tells (Some x) leaf e = ap Some (ok_same x leaf e)

module _ (s : State) (space address : ℕ) where
  unmap_tells_at : (o : Result ℕ Refusal) → located s space address ≡ o → (leaf : ℕ × Entry) → unmap_allowed_at s address o ≡ Ok leaf → LeafTells s space address leaf
  unmap_tells_at (Err refusal) l leaf e = absurd (err_not_ok refusal leaf e)
  unmap_tells_at (Ok root) l leaf e =
      let where_it_is = located_tells address (root_of s space) root l in
      record { root = root; rooted = where_it_is.0; paged = where_it_is.1; found = leaf_or_tells (leaf_below s root address) leaf e }

  pub unmap_tells : (leaf : ℕ × Entry) → unmap_allowed s space address ≡ Ok leaf → LeafTells s space address leaf
  unmap_tells leaf e = unmap_tells_at (located s space address) refl leaf e

  protect_tells_at : (rights : Rights) (o : Result ℕ Refusal) → located s space address ≡ o → (leaf : ℕ × Entry) → protect_allowed_at s address rights o ≡ Ok leaf → (valid rights ≡ true) × LeafTells s space address leaf
  protect_tells_at rights (Err refusal) l leaf e = absurd (err_not_ok refusal leaf e)
  protect_tells_at rights (Ok root) l leaf e =
      let where_it_is = located_tells address (root_of s space) root l in
      let p = ok_under (valid rights) _ _ leaf e in
      (p.0, record { root = root; rooted = where_it_is.0; paged = where_it_is.1; found = leaf_or_tells (leaf_below s root address) leaf p.1 })

  pub protect_tells : (rights : Rights) (leaf : ℕ × Entry) → protect_allowed s space address rights ≡ Ok leaf → (valid rights ≡ true) × LeafTells s space address leaf
  protect_tells rights leaf e = protect_tells_at rights (located s space address) refl leaf e
