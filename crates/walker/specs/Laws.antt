-- Three laws of the walk: what it reads, that it goes by the page, and that a leaf once found serves other accesses.
use Rattle.std.specs.Prelude.{◌≡◌, ℕ, zero, suc, ◌^◌, ◌<◌, ◌≤◌, Bool, true, cond, List, [], ◌∷◌, length, Some, None, Ok, Err, Option, Result, nat_lt, slice_index}
use Rattle.sv39.specs.declared.access.Access.{Access}
use Rattle.sv39.specs.declared.access.Kind.{Kind}
use Rattle.sv39.specs.declared.access.Mode.{Mode}
use Rattle.walker.specs.declared.fault.Stop.{Stop}
use Rattle.walker.specs.declared.fault.WalkFault.{WalkFault}
use Rattle.walker.specs.declared.fault.WalkFault.TheVariants.{RootTooWide, NotCanonical, Stopped}
use Rattle.walker.specs.declared.walking.Step.{Step}
use Rattle.walker.specs.declared.walking.Step.TheVariants.{Pointer, Leaf}
use Rattle.walker.specs.declared.walking.Translation.{Translation}
use Rattle.sv39.specs.Address.{canonical, page, entry_of, doubleword_of}
use Rattle.sv39.specs.Rules.{permits, marked}
use Rattle.walker.specs.Walk.{look_of, found, walked}

-- the entries that a walk reads, one a level while it meets pointers
abbrev pub below : (ℕ → List ℕ) → Result Step Stop → List ℕ
below next (Ok (Pointer table)) = next table
below next (Ok (Leaf leaf)) = []
below next (Err stop) = []

unfoldable pub read_from : List ℕ → Access → ℕ → ℕ → List ℕ
read_from cells q zero table = entry_of table q.address 0 ∷ []
read_from cells q (suc level) table =
    entry_of table q.address (suc level)
    ∷ below (read_from cells q level) (look_of cells q (suc level) (entry_of table q.address (suc level)))

unfoldable pub entries_read : List ℕ → ℕ → Access → List ℕ
entries_read cells root q = cond (nat_lt root (2 ^ 44)) (cond (canonical q.address) (read_from cells q 2 root) []) []

-- the entry that an outcome names: the leaf's, or the one that the walk stopped at
abbrev pub named : Result (ℕ × Translation) WalkFault → Option ℕ
named (Ok leaf) = Some leaf.0
named (Err (RootTooWide t)) = None
named (Err (NotCanonical kind)) = None
named (Err (Stopped stop kind level entry)) = Some entry

abbrev pub last_of : List ℕ → Option ℕ
last_of [] = None
last_of (n ∷ []) = Some n
last_of (n ∷ m ∷ ns) = last_of (m ∷ ns)

-- two lists hold the same at these places
abbrev pub Agree : List ℕ → List ℕ → List ℕ → Type 0
Agree cells others [] = Unit {0}
Agree cells others (n ∷ ns) = (slice_index others n ≡ slice_index cells n) × Agree cells others ns

-- A walk reads at most three doublewords, the last of them the entry that it names; a memory of the same length that
-- agrees on those gives the same answer.
pub record Reads (cells : List ℕ) (root : ℕ) (q : Access) : Type 0 where
  pub few : length (entries_read cells root q) ≤ 3
  pub names : last_of (entries_read cells root q) ≡ named (found cells root q)
  pub enough : (others : List ℕ) → length others ≡ length cells → Agree cells others (entries_read cells root q) → walked others root q ≡ walked cells root q

abbrev pub ReadsFew : Type 0
ReadsFew = (cells : List ℕ) (root : ℕ) (q : Access) → Reads cells root q

abbrev pub at : ℕ → Kind → Mode → Bool → Bool → Access
at address kind mode sum mxr = record { address = address; kind = kind; mode = mode; sum = sum; mxr = mxr }

-- Two addresses of one page walk alike, to one leaf or one fault, up to the last step, which asks for a doubleword of
-- its own.
abbrev pub GoesByPage : Type 0
GoesByPage =
    (cells : List ℕ) (root a b : ℕ) (kind : Kind) (mode : Mode) (sum mxr : Bool) →
    page a ≡ page b → found cells root (at a kind mode sum mxr) ≡ found cells root (at b kind mode sum mxr)

-- Where a walk answers a leaf, an access to that page of any kind and mode, under any SUM and MXR, that passes the
-- rights step and the A/D step on that leaf walks to the same frame, level and leaf, if its doubleword is inside.
abbrev pub LeafServes : Type 0
LeafServes =
    (cells : List ℕ) (root : ℕ) (q other : Access) (t : Translation) →
    walked cells root q ≡ Ok t → page other.address ≡ page q.address → permits t.leaf.flags other ≡ true →
    marked t.leaf.flags other.kind ≡ true → doubleword_of t.frame other.address < length cells →
    walked cells root other ≡ Ok t
