-- States by their parts, and steps told one way and another.
use Rattle.std.proofs.Common.{◌≡◌, subst}
use Rattle.machine.specs.State.{State, Did}

-- equal part by part, equal
pub state_same : (s t : State) → s.cells ≡ t.cells → s.frames ≡ t.frames → s.roots ≡ t.roots → s.debts ≡ t.debts → s.harts ≡ t.harts → s.rows ≡ t.rows → s.count ≡ t.count → s.last ≡ t.last → s ≡ t
state_same s t p q r u v w x y =
    λ i. record { cells = p i; frames = q i; roots = r i; debts = u i; harts = v i; rows = w i; count = x i; last = y i }

-- a call that did its step left the step's state
pub did_state : {A : Type 0} (step : A × State) (answered : A) (after : State) → Did step answered after → after ≡ step.1
did_state step answered after d =
    state_same after step.1 d.memory d.pool d.roots d.debts d.harts d.rows d.count d.last

-- a step that was done is the same step told otherwise
pub did_at : {A X : Type 0} (step : X → A × State) {x y : X} {answered : A} {after : State} → x ≡ y → Did (step x) answered after → Did (step y) answered after
did_at step {answered} {after} e d = subst (λ z. Did (step z) answered after) e d
