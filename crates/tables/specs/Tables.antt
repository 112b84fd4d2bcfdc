-- Page tables in a memory's list of doublewords. What lies beyond the list reads as 0, and a write there leaves it.
use Rattle.std.specs.Prelude.{ℕ, zero, suc, ◌+◌, ◌*◌, Bool, cond, not, ◌&&◌, List, Some, None, Option, nat_lt, slice_index, slice_set}
use Rattle.sv39.specs.declared.entry.Flags.{Flags}
use Rattle.sv39.specs.declared.entry.Entry.{Entry}
use Rattle.sv39.specs.Address.{entry_of}
use Rattle.sv39.specs.Layout.{unpacked}

-- a frame with its first so many doublewords 0, and with all 512
unfoldable pub cleared_to : ℕ → List ℕ → ℕ → List ℕ
cleared_to zero cells frame = cells
cleared_to (suc n) cells frame = slice_set (cleared_to n cells frame) (512 * frame + n) 0

abbrev pub cleared : List ℕ → ℕ → List ℕ
cleared cells frame = cleared_to 512 cells frame

-- the entry of an address in a table of a level
abbrev pub entry_at : List ℕ → ℕ → ℕ → ℕ → Entry
entry_at cells table address level = unpacked (slice_index cells (entry_of table address level))

-- an entry leads on to a table if it is a pointer to one of the first so many frames
abbrev pub pointer : Flags → Bool
pointer f = f.v && (not f.r && (not f.w && not f.x))

abbrev pub table_of : ℕ → Entry → Option ℕ
table_of limit e = cond (pointer e.flags && nat_lt e.ppn limit) (Some e.ppn) None

abbrev pub table_below_of : List ℕ → ℕ → ℕ → ℕ → ℕ → Option ℕ
table_below_of cells limit table address level = table_of limit (entry_at cells table address level)

-- the table of level 0 for an address
abbrev pub low_below : List ℕ → ℕ → ℕ → Option ℕ → Option ℕ
low_below cells limit address None = None
low_below cells limit address (Some mid) = table_below_of cells limit mid address 1

abbrev pub low_table_of : List ℕ → ℕ → ℕ → ℕ → Option ℕ
low_table_of cells limit root address = low_below cells limit address (table_below_of cells limit root address 2)

-- a page is mapped if its entry at level 0 is there and valid: its leaf, with the leaf's place
abbrev pub valid_at : ℕ → Entry → Option (ℕ × Entry)
valid_at place e = cond e.flags.v (Some (place, e)) None

abbrev pub leaf_in : List ℕ → ℕ → Option ℕ → Option (ℕ × Entry)
leaf_in cells address None = None
leaf_in cells address (Some low) = valid_at (entry_of low address 0) (entry_at cells low address 0)

abbrev pub leaf_of : List ℕ → ℕ → ℕ → ℕ → Option (ℕ × Entry)
leaf_of cells limit root address = leaf_in cells address (low_table_of cells limit root address)

-- how many tables are missing on the way to a page
abbrev pub missing_low : Option ℕ → ℕ
missing_low None = 1
missing_low (Some low) = 0

abbrev pub missing_mid : List ℕ → ℕ → ℕ → Option ℕ → ℕ
missing_mid cells limit address None = 2
missing_mid cells limit address (Some mid) = missing_low (table_below_of cells limit mid address 1)

abbrev pub missing : List ℕ → ℕ → ℕ → ℕ → ℕ
missing cells limit root address = missing_mid cells limit address (table_below_of cells limit root address 2)
