-- enter and status keep what holds of every state.
use Rattle.std.proofs.Common.{◌≡◌, ℕ, ◌<◌, ◌≤◌, Bool, true, false, cond, ◌∷◌, length, set, Some, None, Ok, Err, Option, Result, sym, refl, ap, ◌∙◌, inr, ⊎_elim, arith}
use Rattle.std.proofs.lemmas.List.{get_or-set_same, get_or-set_other, length-set}
use Rattle.std.proofs.lemmas.Bool.{cases_eq, ltb-true, eq-eqb, ne_eqb}
use Rattle.frames.specs.Frames.{next}
use Rattle.machine.specs.declared.call.Answer.TheVariants as answer
use Rattle.std.proofs.lemmas.Option.{same_Some}
use Rattle.machine.specs.declared.call.Call.TheVariants.{Enter, Status}
use Rattle.machine.specs.declared.hart.Hart.{Hart}
use Rattle.machine.specs.declared.refusal.Refusal.{Refusal}
use Rattle.machine.specs.declared.refusal.Refusal.TheVariants.{NoHart, NoSpace}
use Rattle.machine.specs.Calls.{call_step, told_as}
use Rattle.machine.specs.Harts.{with_hart, enter_by}
use Rattle.machine.specs.State.{State, is_hart, hart_of, root_of, outside}
use Rattle.law.specs.History.{History, or_else, space_in, status_by, status_in, last_set}
use Rattle.law.specs.Runs.{event_of}
use Rattle.law.proofs.Good.{Good, later, refused_quiet}

-- A hart is set otherwise, by an event that is about that hart alone.
module _ (H : History) (s : State) (g : Good H s) (hart : ℕ) (l : hart < s.count) (to : Hart) where
  is_set : hart_of (with_hart s hart to) hart ≡ to
  is_set = get_or-set_same s.harts hart to outside (omega (arith, g.enough.0))

  is_kept : (h : ℕ) → (h ≡ hart → ⊥) → hart_of (with_hart s hart to) h ≡ hart_of s h
  is_kept h ne = get_or-set_other s.harts hart h to outside ne

  at_hart : {A : Type 0} (f : Hart → A) (x : A) (h : ℕ) → h ≡ hart → f to ≡ x → f (hart_of (with_hart s hart to) h) ≡ x
  at_hart f x h q e = ap (λ (k : ℕ). f (hart_of (with_hart s hart to) k)) q ∙ ap f is_set ∙ e

  size_kept : s.count ≤ length (set s.harts hart to)
  size_kept = omega (arith, g.enough.0, length-set s.harts hart to)

module _ (H : History) (s : State) (g : Good H s) (choice : ℕ → ℕ) (hart : ℕ) where
  entered : (space root : ℕ) → hart < s.count → root_of s space ≡ Some root → Good (record { call = Enter hart space; answer = Ok answer.Done; cells = s.cells; next = next s.frames } ∷ H) (enter_by s hart space (Some root)).1
  entered space root l r =
      let to : Hart = record { space = Some space; sum = (hart_of s hart).sum; mxr = (hart_of s hart).mxr } in
      record {
        at = g.at;
        held = g.held;
        sound = g.sound;
        tables = g.tables;
        housed = g.housed;
        enough = (size_kept H s g hart l to, g.enough.1);
        owes = g.owes;
        owed_by = g.owed_by;
        ways = λ h i way x.
            let w = g.ways h i way x in
            record { paged = w.paged; home = w.home; root = w.root; rooted = w.rooted; seen = (refl, inr w.seen) };
        unmade = g.unmade;
        leaf_put_is = λ f t k sp i j p a b c d x y. inr (refl, g.leaf_put_is f t k sp i j p a b c d x y);
        debt_put = λ n d f a b. inr (refl, g.debt_put n d f a b);
        spaces = λ h c.
            ⊎_elim
            (λ (q : h ≡ hart).
            at_hart H s g hart l to (λ (x : Hart). x.space) _ h q (sym (ap (λ (b : Bool). or_else (cond b (Some space) None) (space_in H h)) (eq-eqb hart h (sym q)))))
            (λ (ne : h ≡ hart → ⊥).
            ap (λ (x : Hart). x.space) (is_kept H s g hart l to h ne) ∙ g.spaces h c
            ∙ sym (ap (λ (b : Bool). or_else (cond b (Some space) None) (space_in H h)) (ne_eqb hart h (λ q. ne (sym q))))) (cases_eq h hart);
        status = λ h c.
            ⊎_elim
            (λ (q : h ≡ hart).
            at_hart H s g hart l to (λ (x : Hart). (x.sum, x.mxr)) (status_in H h) h q (ap (λ (k : ℕ). ((hart_of s k).sum, (hart_of s k).mxr)) (sym q) ∙ g.status h c))
            (λ (ne : h ≡ hart → ⊥). ap (λ (x : Hart). (x.sum, x.mxr)) (is_kept H s g hart l to h ne) ∙ g.status h c) (cases_eq h hart);
        roots = g.roots;
        stands = λ h sp c e.
            ⊎_elim
            (λ (q : h ≡ hart).
            let same : space ≡ sp = same_Some space sp (sym (at_hart H s g hart l to (λ (x : Hart). x.space) (Some space) h q refl) ∙ e) in
            (root, ap (root_of s) (sym same) ∙ r))
            (λ (ne : h ≡ hart → ⊥). g.stands h sp c (ap (λ (x : Hart). x.space) (sym (is_kept H s g hart l to h ne)) ∙ e)) (cases_eq h hart);
      }

  pub enter_good : (space : ℕ) → Good (event_of s choice (Enter hart space) ∷ H) (call_step s choice (Enter hart space)).1
  enter_good space = by_hart (is_hart s hart) refl
    where
      by_root : is_hart s hart ≡ true → (o : Option ℕ) → root_of s space ≡ o → Good (record { call = Enter hart space; answer = told_as (λ _. answer.Done) (enter_by s hart space o).0; cells = s.cells; next = next s.frames } ∷ H) (enter_by s hart space o).1
      by_root t None e = later _ H (refused_quiet _ NoSpace refl) s g
      by_root t (Some root) e = entered space root (ltb-true hart s.count t) e

      by_hart : (b : Bool) → is_hart s hart ≡ b → Good (record { call = Enter hart space; answer = told_as (λ _. answer.Done) (cond b (enter_by s hart space (root_of s space)) (Err NoHart, s)).0; cells = s.cells; next = next s.frames } ∷ H) (cond b (enter_by s hart space (root_of s space)) (Err NoHart, s)).1
      by_hart true t = by_root t (root_of s space) refl
      by_hart false t = later _ H (refused_quiet _ NoHart refl) s g

  set_to : (sum mxr : Bool) → hart < s.count → Good (record { call = Status hart sum mxr; answer = Ok answer.Done; cells = s.cells; next = next s.frames } ∷ H) (with_hart s hart (record { space = (hart_of s hart).space; sum = sum; mxr = mxr }))
  set_to sum mxr l =
      let to : Hart = record { space = (hart_of s hart).space; sum = sum; mxr = mxr } in
      record {
        at = g.at;
        held = g.held;
        sound = g.sound;
        tables = g.tables;
        housed = g.housed;
        enough = (size_kept H s g hart l to, g.enough.1);
        owes = g.owes;
        owed_by = g.owed_by;
        ways = λ h i way x.
            let w = g.ways h i way x in
            record { paged = w.paged; home = w.home; root = w.root; rooted = w.rooted; seen = (refl, inr w.seen) };
        unmade = g.unmade;
        leaf_put_is = λ f t k sp i j p a b c d x y. inr (refl, g.leaf_put_is f t k sp i j p a b c d x y);
        debt_put = λ n d f a b. inr (refl, g.debt_put n d f a b);
        spaces = λ h c.
            ⊎_elim
            (λ (q : h ≡ hart).
            at_hart H s g hart l to (λ (x : Hart). x.space) (space_in H h) h q (ap (λ (k : ℕ). (hart_of s k).space) (sym q) ∙ g.spaces h c))
            (λ (ne : h ≡ hart → ⊥). ap (λ (x : Hart). x.space) (is_kept H s g hart l to h ne) ∙ g.spaces h c) (cases_eq h hart);
        status = λ h c.
            ⊎_elim
            (λ (q : h ≡ hart).
            at_hart H s g hart l to (λ (x : Hart). (x.sum, x.mxr)) _ h q (sym (ap (λ (b : Bool). status_by (or_else (cond b (Some (sum, mxr)) None) (last_set H h))) (eq-eqb hart h (sym q)))))
            (λ (ne : h ≡ hart → ⊥).
            ap (λ (x : Hart). (x.sum, x.mxr)) (is_kept H s g hart l to h ne) ∙ g.status h c
            ∙ sym (ap (λ (b : Bool). status_by (or_else (cond b (Some (sum, mxr)) None) (last_set H h))) (ne_eqb hart h (λ q. ne (sym q))))) (cases_eq h hart);
        roots = g.roots;
        stands = λ h sp c e.
            g.stands h sp c
            (⊎_elim
            (λ (q : h ≡ hart). ap (λ (k : ℕ). (hart_of s k).space) q ∙ sym (at_hart H s g hart l to (λ (x : Hart). x.space) (hart_of s hart).space h q refl) ∙ e)
            (λ (ne : h ≡ hart → ⊥). ap (λ (x : Hart). x.space) (sym (is_kept H s g hart l to h ne)) ∙ e) (cases_eq h hart));
      }

  pub status_good : (sum mxr : Bool) → Good (event_of s choice (Status hart sum mxr) ∷ H) (call_step s choice (Status hart sum mxr)).1
  status_good sum mxr = by_hart (is_hart s hart) refl
    where
      by_hart : (b : Bool) → is_hart s hart ≡ b → Good (record { call = Status hart sum mxr; answer = told_as (λ _. answer.Done) (cond {A = Result (Unit {0}) Refusal × State} b (Ok (tt {0}), with_hart s hart (record { space = (hart_of s hart).space; sum = sum; mxr = mxr })) (Err NoHart, s)).0; cells = s.cells; next = next s.frames } ∷ H) (cond {A = Result (Unit {0}) Refusal × State} b (Ok (tt {0}), with_hart s hart (record { space = (hart_of s hart).space; sum = sum; mxr = mxr })) (Err NoHart, s)).1
      by_hart true t = set_to sum mxr (ltb-true hart s.count t)
      by_hart false t = later _ H (refused_quiet _ NoHart refl) s g
