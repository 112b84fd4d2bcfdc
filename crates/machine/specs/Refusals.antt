-- What each refusal of the machine tells.
use Rattle.std.specs.Prelude.{ℕ, cond, ◌||◌, List, length, Some, None, Ok, Err, Result, nat_lt}
use Rattle.debts.specs.declared.settling.Unsettled.{Unsettled}
use Rattle.debts.specs.declared.settling.Unsettled.TheVariants as debts
use Rattle.sv39.specs.declared.access.Kind.{Kind}
use Rattle.sv39.specs.Rules.{misaligned_fault}
use Rattle.walker.specs.declared.fault.Report.{Report}
use Rattle.walker.specs.Reported.{reported}
use Rattle.machine.specs.declared.refusal.Cause.{Cause}
use Rattle.machine.specs.declared.refusal.Cause.TheVariants.{Misaligned, Walk}
use Rattle.machine.specs.declared.refusal.HartFault.{HartFault}
use Rattle.machine.specs.declared.refusal.Refusal.{Refusal}
use Rattle.machine.specs.declared.refusal.Refusal.TheVariants.{TooSmall, HartCount, NoHart, NoSpace, InNoSpace, SpacesFull, NoFrame, NotHeld, NotAPage, BadRights, Mapped, NotMapped, DebtsFull, NotOpen, Unmarked, Fault}

-- number, code, level, entry and the memory's refusal of a hart's fault; the fault itself has hart, kind and address
abbrev pub cause_report : Kind → Cause → Report
cause_report kind Misaligned =
    record { number = 30; code = Some (misaligned_fault kind); level = None; entry = None; beyond = None }
cause_report kind (Walk fault) = reported fault

abbrev pub fault_report : HartFault → Report
fault_report f = cause_report f.kind f.cause

abbrev pub number_of : Refusal → ℕ
number_of TooSmall = 4
number_of HartCount = 5
number_of NoHart = 10
number_of NoSpace = 11
number_of InNoSpace = 12
number_of SpacesFull = 13
number_of NoFrame = 14
number_of NotHeld = 15
number_of NotAPage = 16
number_of BadRights = 17
number_of Mapped = 18
number_of NotMapped = 19
number_of DebtsFull = 20
number_of NotOpen = 21
number_of (Unmarked hart) = 22
number_of (Fault f) = (fault_report f).number

-- a debt that is not settled, as the machine's refusal
abbrev pub unsettled : Unsettled → Refusal
unsettled debts.NotOpen = NotOpen
unsettled (debts.Unmarked hart) = Unmarked hart

-- a machine that the rules allow: 5 for a count of harts that is not 1 to 8, then 4 for a small memory
abbrev pub check_for : List ℕ → ℕ → Result (Unit {0}) Refusal
check_for cells harts =
    cond (nat_lt harts 1 || nat_lt 8 harts) (Err HartCount) (cond (nat_lt (length cells) 2048) (Err TooSmall) (Ok tt))
