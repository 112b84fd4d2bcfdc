-- Entries made from fields, and entries with one field changed.
use Rattle.std.specs.Prelude.{◌≡◌, ℕ, ◌+◌, ◌*◌, ◌^◌, ◌<◌, true, false, Ok, Err, Result}
use Rattle.sv39.specs.declared.entry.Flags.{Flags}
use Rattle.sv39.specs.declared.entry.Rights.{Rights}
use Rattle.sv39.specs.declared.entry.Entry.{Entry}
use Rattle.sv39.specs.declared.entry.TooWide.{TooWide}
use Rattle.sv39.specs.Layout.{packed_flags}

-- fields that are within their widths
abbrev pub Narrow : ℕ → ℕ → ℕ → Type 0
Narrow rsw ppn top = (rsw < 2 ^ 2) × (ppn < 2 ^ 44) × (top < 2 ^ 10)

-- an entry made from its fields has them; it is refused, with 6, exactly if one is too wide
abbrev pub Made : Flags → ℕ → ℕ → ℕ → Result Entry TooWide → Type 0
Made flags rsw ppn top (Ok e) = (e.flags ≡ flags) × (e.rsw ≡ rsw) × (e.ppn ≡ ppn) × (e.top ≡ top)
Made flags rsw ppn top (Err t) = Narrow rsw ppn top → ⊥

-- the rights that flags give
abbrev pub rights_of : Flags → Rights
rights_of f = record { r = f.r; w = f.w; x = f.x; u = f.u }

-- a leaf with rights: V, A, and D if W
abbrev pub leaf_flags : Rights → Flags
leaf_flags p = record { v = true; r = p.r; w = p.w; x = p.x; u = p.u; g = false; a = true; d = p.w }

-- a pointer: V alone
abbrev pub pointer_flags : Flags
pointer_flags = record { v = true; r = false; w = false; x = false; u = false; g = false; a = false; d = false }

abbrev pub with_flags : Entry → Flags → Entry
with_flags e flags = record { flags = flags; rsw = e.rsw; ppn = e.ppn; top = e.top; narrow = e.narrow }

-- the doublewords of a leaf and of a pointer
abbrev pub leaf_doubleword : ℕ → Rights → ℕ
leaf_doubleword frame p = packed_flags (leaf_flags p) + 2 ^ 10 * frame

abbrev pub pointer_doubleword : ℕ → ℕ
pointer_doubleword frame = packed_flags pointer_flags + 2 ^ 10 * frame
