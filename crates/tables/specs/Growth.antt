-- The tables on the way to a page, taken where they are missing.
use Rattle.std.specs.Prelude.{ℕ, List, Some, None, Option, slice_set}
use Rattle.frames.specs.declared.state.FrameState.TheVariants.{Table}
use Rattle.frames.specs.Frames.{Frames, next, taken}
use Rattle.sv39.specs.declared.entry.Rights.{Rights}
use Rattle.sv39.specs.Address.{entry_of}
use Rattle.sv39.specs.Making.{pointer_doubleword, leaf_doubleword}
use Rattle.tables.specs.Tables.{cleared, table_below_of}

-- the memory's list, the frames, the table come to, and how many tables were taken
pub record Growth : Type 0 where
  pub cells : List ℕ
  pub frames : Frames
  pub table : ℕ
  pub count : ℕ

-- The table below an entry: the one that it leads to, else the next frame, filled with zeros and pointed to. (Where no
-- frame is free none is taken; a map asks first, and does not come to this.)
abbrev pub grown_by : List ℕ → Frames → ℕ → ℕ → Option ℕ → Option ℕ → Growth
grown_by cells frames table entry (Some below) free = record { cells = cells; frames = frames; table = below; count = 0 }
grown_by cells frames table entry None (Some frame) =
    record { cells = slice_set (cleared cells frame) entry (pointer_doubleword frame); frames = taken frames Table; table = frame; count = 1 }
grown_by cells frames table entry None None = record { cells = cells; frames = taken frames Table; table = table; count = 0 }

abbrev pub grown : List ℕ → Frames → ℕ → ℕ → ℕ → Growth
grown cells frames table address level =
    grown_by cells frames table (entry_of table address level) (table_below_of cells frames.limit table address level) (next frames)

-- both tables below a root, that of level 1 first
abbrev pub grown_mid : List ℕ → Frames → ℕ → ℕ → Growth
grown_mid cells frames root address = grown cells frames root address 2

abbrev pub grown_low : Growth → ℕ → Growth
grown_low mid address = grown mid.cells mid.frames mid.table address 1

-- a page's leaf written into its table of level 0
abbrev pub leaf_put : List ℕ → ℕ → ℕ → ℕ → Rights → List ℕ
leaf_put cells low address frame rights = slice_set cells (entry_of low address 0) (leaf_doubleword frame rights)
