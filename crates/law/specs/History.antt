-- Histories: what was called on a machine, what it answered, and the memory's list before each call.
use Rattle.std.specs.Prelude.{◌≡◌, ℕ, Bool, true, false, cond, ◌&&◌, ◌⊎◌, List, [], ◌∷◌, Some, None, Ok, Err, Option, Result, ◌==◌}
use Rattle.tlb.specs.Rows.{matches}
use Rattle.machine.specs.declared.call.Answer.{Answer}
use Rattle.machine.specs.declared.call.Answer.TheVariants as answer
use Rattle.machine.specs.declared.call.Call.{Call}
use Rattle.machine.specs.declared.call.Call.TheVariants.{Space, Grant, Back, Map, Protect, Unmap, Enter, Status, Access, Fence, Settle}
use Rattle.machine.specs.declared.refusal.Refusal.{Refusal}
use Rattle.machine.specs.Harts.{fence_page}

-- a call, its answer, the memory's list before it, and the frame that was the next to be taken, which a space call
-- takes for its root
pub record Event : Type 0 where
  pub call : Call
  pub answer : Result Answer Refusal
  pub cells : List ℕ
  pub next : Option ℕ

-- the newest event first
abbrev pub History : Type 0
History = List Event

-- what an accepted call tells; a refused one tells nothing
abbrev pub accepted : {X : Type 0} → X → (Answer → X) → Result Answer Refusal → X
accepted nothing tells (Ok a) = tells a
accepted nothing tells (Err refusal) = nothing

-- the frame that a settle's answer names
abbrev pub settled_frame : Answer → Option ℕ
settled_frame (answer.Settled frame) = frame
settled_frame (answer.Space n) = None
settled_frame (answer.Frame n) = None
settled_frame answer.Done = None
settled_frame (answer.Tables n) = None
settled_frame (answer.Protected p) = None
settled_frame (answer.Unmapped u) = None
settled_frame (answer.Reached r) = None
settled_frame (answer.Emptied n) = None

abbrev pub is_same : Option ℕ → ℕ → Bool
is_same None n = false
is_same (Some m) n = m == n

-- a map puts its frame at its page of its space
abbrev pub puts_by : Call → ℕ → ℕ → ℕ → Bool
puts_by (Map space address frame rights) s p f = space == s && (address == p && frame == f)
puts_by Space s p f = false
puts_by Grant s p f = false
puts_by (Back frame) s p f = false
puts_by (Protect space address rights) s p f = false
puts_by (Unmap space address) s p f = false
puts_by (Enter hart space) s p f = false
puts_by (Status hart sum mxr) s p f = false
puts_by (Access hart request) s p f = false
puts_by (Fence hart space address) s p f = false
puts_by (Settle debt) s p f = false

abbrev pub puts : Event → ℕ → ℕ → ℕ → Bool
puts e s p f = accepted false (λ a. puts_by e.call s p f) e.answer

-- a settle that answers a frame releases it
abbrev pub releases : Event → ℕ → Bool
releases e f = accepted false (λ a. is_same (settled_frame a) f) e.answer

-- a map put the frame at the page of the space, and no settle has answered the frame since
abbrev pub PutSince : History → ℕ → ℕ → ℕ → Type 0
PutSince [] s p f = ⊥
PutSince (e ∷ H) s p f = (puts e s p f ≡ true) ⊎ ((releases e f ≡ false) × PutSince H s p f)

-- the space that a hart last entered
abbrev pub enters_by : Call → ℕ → Option ℕ
enters_by (Enter hart space) h = cond (hart == h) (Some space) None
enters_by Space h = None
enters_by Grant h = None
enters_by (Back frame) h = None
enters_by (Map space address frame rights) h = None
enters_by (Protect space address rights) h = None
enters_by (Unmap space address) h = None
enters_by (Status hart sum mxr) h = None
enters_by (Access hart request) h = None
enters_by (Fence hart space address) h = None
enters_by (Settle debt) h = None

abbrev pub or_else : {X : Type 0} → Option X → Option X → Option X
or_else None y = y
or_else (Some x) y = Some x

abbrev pub space_in : History → ℕ → Option ℕ
space_in [] h = None
space_in (e ∷ H) h = or_else (accepted None (λ a. enters_by e.call h) e.answer) (space_in H h)

-- a hart's SUM and MXR, as its last status call set them
abbrev pub sets_by : Call → ℕ → Option (Bool × Bool)
sets_by (Status hart sum mxr) h = cond (hart == h) (Some (sum, mxr)) None
sets_by Space h = None
sets_by Grant h = None
sets_by (Back frame) h = None
sets_by (Map space address frame rights) h = None
sets_by (Protect space address rights) h = None
sets_by (Unmap space address) h = None
sets_by (Enter hart space) h = None
sets_by (Access hart request) h = None
sets_by (Fence hart space address) h = None
sets_by (Settle debt) h = None

abbrev pub last_set : History → ℕ → Option (Bool × Bool)
last_set [] h = None
last_set (e ∷ H) h = or_else (accepted None (λ a. sets_by e.call h) e.answer) (last_set H h)

abbrev pub status_by : Option (Bool × Bool) → Bool × Bool
status_by None = (false, false)
status_by (Some status) = status

abbrev pub status_in : History → ℕ → Bool × Bool
status_in H h = status_by (last_set H h)

-- the root that the space call of a space took
abbrev pub number_made : Answer → Option ℕ
number_made (answer.Space n) = Some n
number_made (answer.Settled frame) = None
number_made (answer.Frame n) = None
number_made answer.Done = None
number_made (answer.Tables n) = None
number_made (answer.Protected p) = None
number_made (answer.Unmapped u) = None
number_made (answer.Reached r) = None
number_made (answer.Emptied n) = None

abbrev pub root_of_made : Event → ℕ → Option ℕ
root_of_made e s = accepted None (λ a. cond (is_same (number_made a) s) e.next None) e.answer

abbrev pub root_in : History → ℕ → Option ℕ
root_in [] s = None
root_in (e ∷ H) s = or_else (root_of_made e s) (root_in H s)

-- A covering fence of a hart for a page of a space: accepted, of that hart, for that space or all and that page or all;
-- one at an address that is not canonical covers nothing.
abbrev pub covers_page : Option (Option ℕ) → ℕ → Bool
covers_page None p = false
covers_page (Some at) p = matches at p

abbrev pub covers_by : Call → ℕ → ℕ → ℕ → Bool
covers_by (Fence hart space address) h s p = hart == h && (matches space s && covers_page (fence_page address) p)
covers_by Space h s p = false
covers_by Grant h s p = false
covers_by (Back frame) h s p = false
covers_by (Map space address frame rights) h s p = false
covers_by (Protect space address rights) h s p = false
covers_by (Unmap space address) h s p = false
covers_by (Enter hart space) h s p = false
covers_by (Status hart sum mxr) h s p = false
covers_by (Access hart request) h s p = false
covers_by (Settle debt) h s p = false

abbrev pub covers : Event → ℕ → ℕ → ℕ → Bool
covers e h s p = accepted false (λ a. covers_by e.call h s p) e.answer

-- something held of the memory's list before some call after the hart's last covering fence
abbrev pub SeenSince : (List ℕ → Type 0) → History → ℕ → ℕ → ℕ → Type 0
SeenSince P [] h s p = ⊥
SeenSince P (e ∷ H) h s p = (covers e h s p ≡ false) × (P e.cells ⊎ SeenSince P H h s p)
