-- What each fault of a walk tells.
use Rattle.std.specs.Prelude.{ℕ, Some, None}
use Rattle.memory.specs.declared.beyond.Beyond.{Beyond}
use Rattle.sv39.specs.declared.access.Kind.{Kind}
use Rattle.walker.specs.declared.fault.Stop.{Stop}
use Rattle.walker.specs.declared.fault.Stop.TheVariants.{EntryBeyond, Invalid, WriteOnly, PointerAtZero, Rights, Misaligned, Marks, FrameBeyond}
use Rattle.walker.specs.declared.fault.WalkFault.{WalkFault}
use Rattle.walker.specs.declared.fault.WalkFault.TheVariants.{RootTooWide, NotCanonical, Stopped}
use Rattle.walker.specs.declared.fault.Report.{Report}
use Rattle.sv39.specs.Rules.{page_fault, access_fault}

abbrev pub stop_number : Stop → ℕ
stop_number Invalid = 32
stop_number WriteOnly = 33
stop_number PointerAtZero = 34
stop_number Rights = 35
stop_number Misaligned = 36
stop_number Marks = 37
stop_number (EntryBeyond b) = 38
stop_number (FrameBeyond b) = 39

-- a page fault at an entry, and an access fault there with the memory's refusal
abbrev pub page : Stop → Kind → ℕ → ℕ → Report
page stop kind level entry =
    record { number = stop_number stop; code = Some (page_fault kind); level = Some level; entry = Some entry; beyond = None }

abbrev pub access : Stop → Kind → ℕ → ℕ → Beyond → Report
access stop kind level entry b =
    record { number = stop_number stop; code = Some (access_fault kind); level = Some level; entry = Some entry; beyond = Some b }

-- number, code, level, entry and the memory's refusal of every fault
abbrev pub reported : WalkFault → Report
reported (RootTooWide t) = record { number = 6; code = None; level = None; entry = None; beyond = None }
reported (NotCanonical kind) = record { number = 31; code = Some (page_fault kind); level = None; entry = None; beyond = None }
reported (Stopped Invalid kind level entry) = page Invalid kind level entry
reported (Stopped WriteOnly kind level entry) = page WriteOnly kind level entry
reported (Stopped PointerAtZero kind level entry) = page PointerAtZero kind level entry
reported (Stopped Rights kind level entry) = page Rights kind level entry
reported (Stopped Misaligned kind level entry) = page Misaligned kind level entry
reported (Stopped Marks kind level entry) = page Marks kind level entry
reported (Stopped (EntryBeyond b) kind level entry) = access (EntryBeyond b) kind level entry b
reported (Stopped (FrameBeyond b) kind level entry) = access (FrameBeyond b) kind level entry b
