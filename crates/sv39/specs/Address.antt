-- Addresses of 64 bits, under Sv39.
use Rattle.std.specs.Prelude.{ℕ, ◌+◌, ◌-◌, ◌*◌, ◌/◌, ◌%◌, ◌^◌, Bool, cond, ◌==◌}
use Rattle.sv39.specs.Layout.{bit}

-- bits 39 to 63 all equal bit 38
abbrev pub canonical : ℕ → Bool
canonical address = address / 2 ^ 39 == cond (bit address 38) (2 ^ 25 - 1) 0

-- the index at a level: bits 12 to 20 at level 0, 21 to 29 at level 1, 30 to 38 at level 2
abbrev pub index : ℕ → ℕ → ℕ
index address level = address / 2 ^ (12 + 9 * level) % 512

-- the address without its low 12 bits, and what is left, as a number
abbrev pub page : ℕ → ℕ
page address = address / 4096 * 4096

abbrev pub page_number : ℕ → ℕ
page_number address = address / 4096

-- the number of the doubleword that is an address's entry in the table of a frame
abbrev pub entry_of : ℕ → ℕ → ℕ → ℕ
entry_of table address level = 512 * table + index address level

-- the frame that a leaf of a level gives: its PPN, the low 9 bits a level taken from the page number
abbrev pub frame_of : ℕ → ℕ → ℕ → ℕ
frame_of ppn address level = ppn / 2 ^ (9 * level) * 2 ^ (9 * level) + page_number address % 2 ^ (9 * level)

-- the number of the doubleword that an address names in a frame
abbrev pub doubleword_of : ℕ → ℕ → ℕ
doubleword_of frame address = 512 * frame + address / 8 % 512
