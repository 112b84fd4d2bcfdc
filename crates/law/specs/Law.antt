-- The law over histories: what holds of every access, whatever was called before it.
use Rattle.std.specs.Prelude.{◌≡◌, ℕ, Bool, [], ◌∷◌, Some, None, Ok, Err, Option, Result}
use Rattle.sv39.specs.declared.access.Access.{Access}
use Rattle.sv39.specs.Address.{page}
use Rattle.walker.specs.declared.fault.WalkFault.{WalkFault}
use Rattle.walker.specs.declared.walking.Translation.{Translation}
use Rattle.walker.specs.Walk.{walked}
use Rattle.machine.specs.declared.access.Reached.{Reached}
use Rattle.machine.specs.declared.access.Request.{Request}
use Rattle.machine.specs.declared.call.Answer.TheVariants as answer
use Rattle.machine.specs.declared.call.Call.{Call}
use Rattle.machine.specs.declared.call.Call.TheVariants.{Space, Grant, Back, Map, Protect, Unmap, Enter, Status, Access as Accesses, Fence, Settle}
use Rattle.machine.specs.declared.refusal.HartFault.{HartFault}
use Rattle.machine.specs.declared.refusal.Cause.TheVariants.{Walk}
use Rattle.machine.specs.declared.refusal.Refusal.TheVariants.{Fault}
use Rattle.machine.specs.Accesses.{kind_of}
use Rattle.law.specs.History.{Event, History, PutSince, SeenSince, space_in, status_in, root_in}

-- an access as the walk is asked for it, under SUM and MXR
abbrev pub asked : Request → Bool × Bool → Access
asked q status =
    record { address = q.address; kind = kind_of q.action; mode = q.mode; sum = status.0; mxr = status.1 }

-- the frame that a walk gives
abbrev pub frame_of : Result Translation WalkFault → Option ℕ
frame_of (Ok t) = Some t.frame
frame_of (Err fault) = None

-- Of an accepted access of a hart, in a history before it: the hart is in a space that it last entered, whose space
-- call took a root; the frame reached was put by a map at the page of that space and not released since; and the frame
-- is what the walk gives for the access of the memory's list before some call after the hart's last covering fence.
pub record Reaches (e : Event) (H : History) (hart : ℕ) (q : Request) (r : Reached) : Type 0 where
  pub space : ℕ
  pub root : ℕ
  pub entered : space_in H hart ≡ Some space
  pub made : root_in H space ≡ Some root
  pub reach : PutSince H space (page q.address) r.frame
  pub fresh : SeenSince (λ cells. frame_of (walked cells root (asked q (status_in H hart))) ≡ Some r.frame) (e ∷ H) hart space (page q.address)

-- Of a fault of the walk: it is what the walk gives of the list before the call.
pub record Faults (e : Event) (H : History) (hart : ℕ) (q : Request) (fault : WalkFault) : Type 0 where
  pub space : ℕ
  pub root : ℕ
  pub entered : space_in H hart ≡ Some space
  pub made : root_in H space ≡ Some root
  pub walk : walked e.cells root (asked q (status_in H hart)) ≡ Err fault

-- what holds of an access with its answer
pub record AccessLaw (e : Event) (H : History) (hart : ℕ) (q : Request) : Type 0 where
  pub accepted : (r : Reached) → e.answer ≡ Ok (answer.Reached r) → Reaches e H hart q r
  pub faulted : (f : HartFault) (fault : WalkFault) → e.answer ≡ Err (Fault f) → f.cause ≡ Walk fault → Faults e H hart q fault

abbrev pub EventLaw : Event → History → Call → Type 0
EventLaw e H (Accesses hart q) = AccessLaw e H hart q
EventLaw e H Space = Unit {0}
EventLaw e H Grant = Unit {0}
EventLaw e H (Back frame) = Unit {0}
EventLaw e H (Map space address frame rights) = Unit {0}
EventLaw e H (Protect space address rights) = Unit {0}
EventLaw e H (Unmap space address) = Unit {0}
EventLaw e H (Enter hart space) = Unit {0}
EventLaw e H (Status hart sum mxr) = Unit {0}
EventLaw e H (Fence hart space address) = Unit {0}
EventLaw e H (Settle debt) = Unit {0}

-- the law of a history: of each event and the history before it
abbrev pub Law : History → Type 0
Law [] = Unit {0}
Law (e ∷ H) = EventLaw e H e.call × Law H
