-- The layout of a table entry: bits 0 to 7 V R W X U G A D, 8 and 9 RSW, 10 to 53 PPN, 54 to 63 top.
use Rattle.std.specs.Prelude.{ℕ, ◌+◌, ◌*◌, ◌/◌, ◌%◌, ◌^◌, Bool, cond, ◌==◌}
use Rattle.std.proofs.Common.{mod-lt, lit<}
use Rattle.sv39.specs.declared.entry.Flags.{Flags}
use Rattle.sv39.specs.declared.entry.Entry.{Entry}

-- bit k of a doubleword
abbrev pub bit : ℕ → ℕ → Bool
bit word k = word / 2 ^ k % 2 == 1

abbrev pub flags_of : ℕ → Flags
flags_of word = record { v = bit word 0; r = bit word 1; w = bit word 2; x = bit word 3; u = bit word 4; g = bit word 5; a = bit word 6; d = bit word 7 }

-- the entry that a doubleword holds
unfoldable pub unpacked : ℕ → Entry
unpacked word =
    record {
      flags = flags_of word;
      rsw = word / 2 ^ 8 % 2 ^ 2;
      ppn = word / 2 ^ 10 % 2 ^ 44;
      top = word / 2 ^ 54 % 2 ^ 10;
      narrow = (mod-lt (word / 2 ^ 8) (lit< tt), mod-lt (word / 2 ^ 10) (lit< tt), mod-lt (word / 2 ^ 54) (lit< tt));
    }

abbrev pub one : Bool → ℕ
one b = cond b 1 0

abbrev pub packed_flags : Flags → ℕ
packed_flags f =
    one f.v + 2 * one f.r + 4 * one f.w + 8 * one f.x + 16 * one f.u + 32 * one f.g + 64 * one f.a + 128 * one f.d

-- the doubleword of an entry
abbrev pub packed : Entry → ℕ
packed e = packed_flags e.flags + 2 ^ 8 * e.rsw + 2 ^ 10 * e.ppn + 2 ^ 54 * e.top
