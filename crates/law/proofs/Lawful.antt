-- Every history that the calls can make is lawful.
use Rattle.std.proofs.Common.{◌≡◌, ℕ, zero, suc, List, [], ◌∷◌, get_or, replicate, None, Option, sym, refl, ap, ◌∙◌, arith}
use lib.ListN.{length-replicate}
use Rattle.frames.specs.declared.state.FrameState.TheVariants.{Free}
use Rattle.frames.proofs.Counting.{all_free}
use Rattle.tlb.specs.declared.way.Way.{Way}
use Rattle.std.proofs.lemmas.Option.{none-some}
use Rattle.tlb.specs.Harts.{row_at}
use Rattle.machine.specs.declared.call.Call.{Call}
use Rattle.machine.specs.declared.call.Call.TheVariants.{Space, Grant, Back, Map, Protect, Unmap, Enter, Status, Access, Fence, Settle}
use Rattle.machine.specs.Calls.{call_step}
use Rattle.machine.specs.declared.hart.Hart.{Hart}
use Rattle.machine.specs.State.{State, fresh, outside}
use Rattle.law.specs.History.{History}
use Rattle.law.specs.Law.{EventLaw, Law}
use Rattle.law.specs.Runs.{Run, start, step, event_of, EveryHistoryIsLawful}
use Rattle.law.proofs.AccessLaw.{access_good, access_law}
use Rattle.law.proofs.DebtSteps.{protect_good, unmap_good}
use Rattle.law.proofs.FenceStep.{fence_good}
use Rattle.law.proofs.FrameSteps.{grant_good, back_good, space_good}
use Rattle.law.proofs.Good.{Good}
use Rattle.law.proofs.HartSteps.{enter_good, status_good}
use Rattle.law.proofs.MapStep.{map_good}
use Rattle.law.proofs.Places.{none, nowhere, nowhere_not_leaf, nowhere_not_debt}
use Rattle.law.proofs.SettleStep.{settle_good}

-- where everything is the same, so is each
same_at : {A : Type 0} (n : ℕ) (x : A) (i : ℕ) → get_or (replicate n x) i x ≡ x
same_at zero x i = refl
same_at (suc n) x zero = refl
same_at (suc n) x (suc i) = same_at n x i

row_empty : (n h i : ℕ) → ◌≡◌ {A = Option Way} (get_or (row_at (replicate n (replicate 16 None)) h) i None) None
row_empty zero h i = refl
row_empty (suc n) zero i = same_at 16 None i
row_empty (suc n) (suc h) i = row_empty n h i

pub fresh_good : (cells : List ℕ) (last : ℕ → Option ℕ) (harts : ℕ) → Good [] (fresh cells last harts)
fresh_good cells last harts =
    record {
      at = λ _. none;
      held = λ _. nowhere;
      sound =
          record {
            sized = length-replicate 1024 Free;
            limited = (omega arith, omega arith);
            piled = tt;
            apart = tt;
            unused = λ f l. all_free 1024 f;
          };
      tables =
          record {
            room = omega arith;
            placed = λ t s. absurd s;
            rooted = λ s r e. absurd (none-some r (sym (same_at 8 None s) ∙ e));
            fits = λ t i h. tt;
            mapped = λ f t k e. absurd (nowhere_not_leaf t k e);
            owed = λ f n e. absurd (nowhere_not_debt n e);
          };
      housed = λ f t k e. absurd (nowhere_not_leaf t k e);
      enough = (omega arith, omega arith);
      owes = λ n d f e x. absurd (none-some d (sym (same_at 64 None n) ∙ e));
      owed_by = λ f n e. absurd (nowhere_not_debt n e);
      ways = λ h i way e. absurd (none-some way (sym (row_empty 8 h i) ∙ e));
      unmade = λ h i l. row_empty 8 h i;
      leaf_put_is = λ f t k sp i j p e. absurd (nowhere_not_leaf t k e);
      debt_put = λ n d f e x. absurd (none-some d (sym (same_at 64 None n) ∙ e));
      spaces = λ h l. ap (λ (x : Hart). x.space) (same_at 8 outside h);
      status = λ h l. ap (λ (x : Hart). (x.sum, x.mxr)) (same_at 8 outside h);
      roots = λ sp. same_at 8 None sp;
      stands = λ h sp l e. absurd (none-some sp (sym (ap (λ (x : Hart). x.space) (same_at 8 outside h)) ∙ e));
    }

module _ (H : History) (s : State) (g : Good H s) (choice : ℕ → ℕ) where
  pub step_good : (c : Call) → Good (event_of s choice c ∷ H) (call_step s choice c).1
  step_good Space = space_good H s g choice
  step_good Grant = grant_good H s g choice
  step_good (Back frame) = back_good H s g choice frame
  step_good (Map space address frame rights) = map_good H s g choice space address frame rights
  step_good (Protect space address rights) = protect_good H s g choice space address rights
  step_good (Unmap space address) = unmap_good H s g choice space address
  step_good (Enter hart space) = enter_good H s g choice hart space
  step_good (Status hart sum mxr) = status_good H s g choice hart sum mxr
  step_good (Access hart request) = access_good H s g choice hart request
  step_good (Fence hart space address) = fence_good H s g choice hart space address
  step_good (Settle debt) = settle_good H s g choice debt

  pub step_law : (c : Call) → EventLaw (event_of s choice c) H c
  step_law Space = tt
  step_law Grant = tt
  step_law (Back frame) = tt
  step_law (Map space address frame rights) = tt
  step_law (Protect space address rights) = tt
  step_law (Unmap space address) = tt
  step_law (Enter hart space) = tt
  step_law (Status hart sum mxr) = tt
  step_law (Access hart request) = access_law H s g choice hart request
  step_law (Fence hart space address) = tt
  step_law (Settle debt) = tt

pub run_good : (from : State) → Good [] from → (H : History) (s : State) → Run from H s → Good H s
run_good from g _ _ start = g
run_good from g _ _ (step H s r choice ok c) = step_good H s (run_good from g H s r) choice c

pub run_law : (from : State) → Good [] from → (H : History) (s : State) → Run from H s → Law H
run_law from g _ _ start = tt
run_law from g _ _ (step H s r choice ok c) = (step_law H s (run_good from g H s r) choice c, run_law from g H s r)

pub every_history_is_lawful : EveryHistoryIsLawful
every_history_is_lawful cells last harts H s r = run_law (fresh cells last harts) (fresh_good cells last harts) H s r
