-- The step of a call, whichever it is.
use Rattle.std.specs.Prelude.{ℕ, Ok, Err, Result}
use Rattle.sv39.specs.declared.access.Mode.{Mode}
use Rattle.machine.specs.declared.access.Action.{Action}
use Rattle.machine.specs.declared.call.Answer.{Answer}
use Rattle.machine.specs.declared.call.Answer.TheVariants as answer
use Rattle.machine.specs.declared.call.Call.{Call}
use Rattle.machine.specs.declared.call.Call.TheVariants.{Space, Grant, Back, Map, Protect, Unmap, Enter, Status, Access, Fence, Settle}
use Rattle.machine.specs.declared.refusal.Refusal.{Refusal}
use Rattle.machine.specs.Accesses.{access_step}
use Rattle.machine.specs.Harts.{enter_step, status_step, fence_step, settle_step}
use Rattle.machine.specs.Pages.{space_step, grant_step, back_step, map_step, protect_step, unmap_step}
use Rattle.machine.specs.State.{State}

-- the call of an access, by its parts
abbrev pub access_call : ℕ → Mode → ℕ → Action → Call
access_call hart mode address action = Access hart (record { mode = mode; address = address; action = action })

-- a step with its answer told as one of all calls
abbrev pub told_as : {A : Type 0} → (A → Answer) → Result A Refusal → Result Answer Refusal
told_as as-answer (Ok a) = Ok (as-answer a)
told_as as-answer (Err refusal) = Err refusal

abbrev pub told : {A : Type 0} → (A → Answer) → Result A Refusal × State → Result Answer Refusal × State
told as-answer step = (told_as as-answer step.0, step.1)

-- the policy's choice for each hart is all that a step takes from outside
abbrev pub call_step : State → (ℕ → ℕ) → Call → Result Answer Refusal × State
call_step s choice Space = told answer.Space (space_step s)
call_step s choice Grant = told answer.Frame (grant_step s)
call_step s choice (Back frame) = told (λ _. answer.Done) (back_step s frame)
call_step s choice (Map space address frame rights) = told answer.Tables (map_step s space address frame rights)
call_step s choice (Protect space address rights) = told answer.Protected (protect_step s space address rights)
call_step s choice (Unmap space address) = told answer.Unmapped (unmap_step s space address)
call_step s choice (Enter hart space) = told (λ _. answer.Done) (enter_step s hart space)
call_step s choice (Status hart sum mxr) = told (λ _. answer.Done) (status_step s hart sum mxr)
call_step s choice (Access hart request) = told answer.Reached (access_step s (choice hart) hart request)
call_step s choice (Fence hart space address) = told answer.Emptied (fence_step s hart space address)
call_step s choice (Settle debt) = told answer.Settled (settle_step s debt)
