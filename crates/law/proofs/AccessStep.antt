-- An access: where it comes to, and what it leaves.
use Rattle.std.proofs.Common.{◌≡◌, ℕ, ◌%◌, ◌<◌, true, false, eqb, List, [], get_or, set, Some, None, Ok, Err, Option, Result, sym, refl, ap, ◌∙◌, subst, ⊎_elim, arith}
use Rattle.std.proofs.lemmas.List.{get_or-set_same, get_or-set_other, length-set}
use Rattle.std.proofs.lemmas.Bool.{cases_Bool, cases_eq, cond-true, cond-false, and_from, eq-eqb}
use Rattle.sv39.specs.declared.access.Access.{Access}
use Rattle.sv39.specs.Address.{canonical, index, page}
use Rattle.tlb.specs.declared.way.Way.{Way}
use Rattle.tlb.specs.Slots.{empty_slot}
use Rattle.tlb.specs.Trying.{served, tried}
use Rattle.tlb.specs.Ways.{way_of}
use Rattle.walker.specs.declared.fault.WalkFault.{WalkFault}
use Rattle.walker.specs.declared.walking.Translation.{Translation}
use Rattle.walker.specs.Walk.{walked}
use Rattle.walker.proofs.Pages.{number_of_page, index_same, canonical_same}
use Rattle.machine.specs.declared.access.By.TheVariants as by
use Rattle.machine.specs.declared.refusal.Cause.TheVariants.{Misaligned, Walk}
use Rattle.machine.specs.Accesses.{with_row, touched, slot_of, filled_by, root_in, found_by, find_step}
use Rattle.machine.specs.Pages.{is_page}
use Rattle.machine.specs.State.{State, row_of, root_of}
use Rattle.law.specs.History.{History}
use Rattle.law.proofs.Good.{Good, WayGood}
use Rattle.law.proofs.Hits.{Hit, served_hit}

-- The ways of one hart change, to ways that are as every way is.
pub rows_good : (H : History) (s : State) (g : Good H s) (hart : ℕ) (row : List (Option Way)) (last : List (Option ℕ)) → hart < s.count → ((i : ℕ) (way : Way) → get_or row i None ≡ Some way → WayGood H s.debts.slots g.at g.held hart way) → Good H (with_row s hart row last)
rows_good H s g hart row last l ok =
    record {
      at = g.at;
      held = g.held;
      sound = g.sound;
      tables = g.tables;
      housed = g.housed;
      enough = (g.enough.0, omega (arith, g.enough.1, length-set s.rows hart row));
      owes = g.owes;
      owed_by = g.owed_by;
      ways = λ h i way x.
          ⊎_elim
          (λ (q : h ≡ hart).
          subst (λ (k : ℕ). WayGood H s.debts.slots g.at g.held k way) (sym q)
          (ok i way (sym (ap (λ (ws : List (Option Way)). get_or ws i None) (ap (λ (k : ℕ). get_or (set s.rows hart row) k []) q ∙ get_or-set_same s.rows hart row [] (omega (arith, g.enough.1)))) ∙ x)))
          (λ (ne : h ≡ hart → ⊥).
          g.ways h i way (ap (λ (ws : List (Option Way)). get_or ws i None) (sym (get_or-set_other s.rows hart h row [] ne)) ∙ x)) (cases_eq h hart);
      unmade = λ h i c.
          ap (λ (ws : List (Option Way)). get_or ws i None) (get_or-set_other s.rows hart h row [] (λ q. omega arith)) ∙ g.unmade h i c;
      leaf_put_is = g.leaf_put_is;
      debt_put = g.debt_put;
      spaces = g.spaces;
      status = g.status;
      roots = g.roots;
      stands = g.stands;
    }

-- a page is a page's address
page_of_page : (a : ℕ) → page (page a) ≡ page a
page_of_page a = omega arith

pub page_is_page : (a : ℕ) → canonical a ≡ true → is_page (page a) ≡ true
page_is_page a c =
    let same = number_of_page (page a) a (page_of_page a) in
    let rest : page a % 4096 ≡ 0 = omega arith in
    and_from (canonical (page a)) (eqb (page a % 4096) 0) (canonical_same (page a) a same ∙ c) (eq-eqb (page a % 4096) 0 rest)

pub index_of_page : (a level : ℕ) → index (page a) level ≡ index a level
index_of_page a level = index_same (page a) a (number_of_page (page a) a (page_of_page a)) level

-- what an access does to find its frame
pub data View (s : State) (choice hart space : ℕ) (q : Access) (r : ℕ) : Type 0 where
  off : find_step s choice hart space q ≡ (Err Misaligned, s) → View s choice hart space q r
  hit : (h : ℕ × ℕ) → Hit space (page q.address) q (row_of s hart) h → find_step s choice hart space q ≡ (Ok (record { frame = h.1; by = by.Hit }), with_row s hart (tried space (page q.address) q (row_of s hart)) (touched s hart h.0)) → View s choice hart space q r
  fault : (w : WalkFault) → walked s.cells r q ≡ Err w → find_step s choice hart space q ≡ (Err (Walk w), with_row s hart (tried space (page q.address) q (row_of s hart)) s.last) → View s choice hart space q r
  fill : (t : Translation) (slot : ℕ) → walked s.cells r q ≡ Ok t → find_step s choice hart space q ≡ (Ok (record { frame = t.frame; by = by.Walk }), with_row s hart (set (tried space (page q.address) q (row_of s hart)) slot (Some (way_of space (page q.address) t.frame t.leaf.flags))) (touched s hart slot)) → View s choice hart space q r

module _ (s : State) (choice hart space : ℕ) (q : Access) (r : ℕ) (rooted : root_of s space ≡ Some r) where
  by_walk : eqb (q.address % 8) 0 ≡ true → served space (page q.address) q (row_of s hart) ≡ None → (w : Result Translation WalkFault) → walked s.cells r q ≡ w → View s choice hart space q r
  by_walk t n (Err w) e =
      fault w e
      (cond-true (eqb (q.address % 8) 0) _ _ t ∙ ap (found_by s choice hart space q) n
      ∙ ap (λ (k : ℕ). filled_by s choice hart space q (tried space (page q.address) q (row_of s hart)) (walked s.cells k q)) (ap root_in rooted)
      ∙ ap (filled_by s choice hart space q (tried space (page q.address) q (row_of s hart))) e)
  by_walk t n (Ok found) e =
      fill found (slot_of choice (empty_slot 0 (tried space (page q.address) q (row_of s hart)))) e
      (cond-true (eqb (q.address % 8) 0) _ _ t ∙ ap (found_by s choice hart space q) n
      ∙ ap (λ (k : ℕ). filled_by s choice hart space q (tried space (page q.address) q (row_of s hart)) (walked s.cells k q)) (ap root_in rooted)
      ∙ ap (filled_by s choice hart space q (tried space (page q.address) q (row_of s hart))) e)

  by_served : eqb (q.address % 8) 0 ≡ true → (o : Option (ℕ × ℕ)) → served space (page q.address) q (row_of s hart) ≡ o → View s choice hart space q r
  by_served t None e = by_walk t e (walked s.cells r q) refl
  by_served t (Some h) e =
      hit h (served_hit space (page q.address) q (row_of s hart) h e)
      (cond-true (eqb (q.address % 8) 0) _ _ t ∙ ap (found_by s choice hart space q) e)

  pub view : View s choice hart space q r
  view =
      ⊎_elim (λ (t : eqb (q.address % 8) 0 ≡ true). by_served t (served space (page q.address) q (row_of s hart)) refl)
      (λ (t : eqb (q.address % 8) 0 ≡ false). off (cond-false (eqb (q.address % 8) 0) _ _ t)) (cases_Bool (eqb (q.address % 8) 0))
