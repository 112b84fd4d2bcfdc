-- Two rules of this walk where the standard, from its version 1.12 on, would fault: what it does not look at.
use Rattle.std.specs.Prelude.{Bool, false, cond, not, ◌&&◌}
use Rattle.std.proofs.Common.{lit<}
use Rattle.sv39.specs.declared.entry.Flags.{Flags}
use Rattle.sv39.specs.declared.entry.Entry.{Entry}

-- with R and X clear an entry points to the next table
abbrev pub pointer : Flags → Bool
pointer f = not f.r && not f.x

-- bits 54 to 63 of an entry are not looked at
abbrev pub top_unseen : Entry → Entry
top_unseen e =
    record { flags = e.flags; rsw = e.rsw; ppn = e.ppn; top = 0; narrow = (e.narrow.0, e.narrow.1, lit< tt) }

-- A, D and U of a pointer are not looked at
abbrev pub pointer_unseen : Flags → Flags
pointer_unseen f = record { v = f.v; r = f.r; w = f.w; x = f.x; u = false; g = f.g; a = false; d = false }

abbrev pub marks_unseen : Entry → Entry
marks_unseen e =
    record { flags = cond (pointer e.flags) (pointer_unseen e.flags) e.flags; rsw = e.rsw; ppn = e.ppn; top = e.top; narrow = e.narrow }

-- what the walk looks at in an entry
abbrev pub seen : Entry → Entry
seen e = marks_unseen (top_unseen e)
