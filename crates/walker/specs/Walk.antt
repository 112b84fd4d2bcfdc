-- The walk of Sv39 page tables, over a memory's list of doublewords.
use Rattle.std.specs.Prelude.{ℕ, zero, suc, ◌*◌, ◌%◌, ◌^◌, ◌<◌, Bool, cond, not, ◌&&◌, List, length, Ok, Err, Result, ◌==◌, nat_lt, slice_index}
use Rattle.memory.specs.Cells.{beyond}
use Rattle.sv39.specs.declared.access.Access.{Access}
use Rattle.sv39.specs.declared.entry.Entry.{Entry}
use Rattle.walker.specs.declared.fault.Stop.{Stop}
use Rattle.walker.specs.declared.fault.Stop.TheVariants.{EntryBeyond, Invalid, WriteOnly, PointerAtZero, Rights, Misaligned, Marks, FrameBeyond}
use Rattle.walker.specs.declared.fault.WalkFault.{WalkFault}
use Rattle.walker.specs.declared.fault.WalkFault.TheVariants.{RootTooWide, NotCanonical, Stopped}
use Rattle.walker.specs.declared.walking.Step.{Step}
use Rattle.walker.specs.declared.walking.Step.TheVariants.{Pointer, Leaf}
use Rattle.walker.specs.declared.walking.Translation.{Translation}
use Rattle.sv39.specs.Address.{canonical, entry_of, frame_of, doubleword_of}
use Rattle.walker.specs.House.{pointer, seen}
use Rattle.sv39.specs.Layout.{unpacked}
use Rattle.sv39.specs.Rules.{permits, marked}

-- a leaf above level 0 whose PPN has one of its low 9 bits a level set
abbrev pub misaligned : ℕ → ℕ → Bool
misaligned ppn level = not (ppn % 2 ^ (9 * level) == 0)

abbrev pub translated : Access → ℕ → Entry → Translation
translated q level e = record { frame = frame_of e.ppn q.address level; level = level; leaf = e }

-- what an entry leads to: tried in this order, on what the walk looks at
abbrev pub decided_by : Access → ℕ → Entry → Entry → Result Step Stop
decided_by q level e s =
    cond (not s.flags.v) (Err Invalid)
    (cond (s.flags.w && not s.flags.r) (Err WriteOnly)
    (cond (pointer s.flags) (Ok (Pointer s.ppn))
    (cond (not (permits s.flags q)) (Err Rights)
    (cond (misaligned s.ppn level) (Err Misaligned)
    (cond (not (marked s.flags q.kind)) (Err Marks)
    (Ok (Leaf (translated q level e))))))))

abbrev pub decided : Access → ℕ → Entry → Result Step Stop
decided q level e = decided_by q level e (seen e)

-- an entry is a doubleword of the memory; beyond the memory it cannot be read
unfoldable pub look_of : List ℕ → Access → ℕ → ℕ → Result Step Stop
look_of cells q level entry =
    cond (nat_lt entry (length cells)) (decided q level (unpacked (slice_index cells entry))) (Err (EntryBeyond (beyond entry)))

abbrev pub stopped : {T : Type 0} → Access → ℕ → ℕ → Stop → Result T WalkFault
stopped q level entry stop = Err (Stopped stop q.kind level entry)

-- where a walk goes on, ends, or stops after the look at an entry of a level
abbrev pub onward : Access → ℕ → ℕ → (ℕ → Result (ℕ × Translation) WalkFault) → Result Step Stop → Result (ℕ × Translation) WalkFault
onward q level entry next (Ok (Pointer table)) = next table
onward q level entry next (Ok (Leaf found)) = Ok (entry, found)
onward q level entry next (Err stop) = stopped q level entry stop

-- the walk from a table of a level down to a leaf, with the leaf's entry
unfoldable pub walk_from : List ℕ → Access → ℕ → ℕ → Result (ℕ × Translation) WalkFault
walk_from cells q zero table =
    onward q 0 (entry_of table q.address 0) (λ _. stopped q 0 (entry_of table q.address 0) PointerAtZero)
    (look_of cells q 0 (entry_of table q.address 0))
walk_from cells q (suc level) table =
    onward q (suc level) (entry_of table q.address (suc level)) (walk_from cells q level)
    (look_of cells q (suc level) (entry_of table q.address (suc level)))

-- the steps up to the leaf: the root is a frame's number, the address is canonical, then from level 2 down
unfoldable pub found : List ℕ → ℕ → Access → Result (ℕ × Translation) WalkFault
found cells root q =
    cond (nat_lt root (2 ^ 44)) (cond (canonical q.address) (walk_from cells q 2 root) (Err (NotCanonical q.kind)))
    (Err (RootTooWide (record {})))

-- the last step: the doubleword that the access names lies in the memory
abbrev pub last_step : List ℕ → Access → Result (ℕ × Translation) WalkFault → Result Translation WalkFault
last_step cells q (Ok leaf) =
    cond (nat_lt (doubleword_of leaf.1.frame q.address) (length cells)) (Ok leaf.1)
    (stopped q leaf.1.level leaf.0 (FrameBeyond (beyond (doubleword_of leaf.1.frame q.address))))
last_step cells q (Err fault) = Err fault

-- the walk
abbrev pub walked : List ℕ → ℕ → Access → Result Translation WalkFault
walked cells root q = last_step cells q (found cells root q)

-- the step at an entry, with the fault of the walk where it stops there
abbrev pub faulted : Access → ℕ → ℕ → Result Step Stop → Result Step WalkFault
faulted q level entry (Ok step) = Ok step
faulted q level entry (Err stop) = stopped q level entry stop

abbrev pub step_of : List ℕ → Access → ℕ → ℕ → Result Step WalkFault
step_of cells q level entry = faulted q level entry (look_of cells q level entry)

-- a table that a step leads to, and a frame that a walk finds, are frames' numbers
abbrev pub StepWithin : Step → Type 0
StepWithin (Pointer table) = table < 2 ^ 44
StepWithin (Leaf leaf) = leaf.frame < 2 ^ 44
