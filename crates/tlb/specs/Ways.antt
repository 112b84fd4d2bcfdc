-- Ways: what one holds, which page of which space it is for, and which accesses it serves.
use Rattle.std.specs.Prelude.{ℕ, Bool, true, false, ◌&&◌, ◌==◌}
use Rattle.sv39.specs.Rules.{permits, marked}
use Rattle.sv39.specs.declared.access.Access.{Access}
use Rattle.sv39.specs.declared.entry.Flags.{Flags}
use Rattle.tlb.specs.declared.way.Way.{Way}

abbrev pub way_of : ℕ → ℕ → ℕ → Flags → Way
way_of space page frame f =
    record { of = record { space = space; page = page }; frame = frame; rights = record { r = f.r; w = f.w; x = f.x; u = f.u }; a = f.a; d = f.d }

abbrev pub speaks_for : Way → ℕ → ℕ → Bool
speaks_for way space page = way.of.space == space && way.of.page == page

-- a way's flags as those of a valid leaf
abbrev pub flags_of : Way → Flags
flags_of way =
    record { v = true; r = way.rights.r; w = way.rights.w; x = way.rights.x; u = way.rights.u; g = false; a = way.a; d = way.d }

-- whether it passes the rights step and the A/D step of an access
abbrev pub serves : Way → Access → Bool
serves way q = permits (flags_of way) q && marked (flags_of way) q.kind
