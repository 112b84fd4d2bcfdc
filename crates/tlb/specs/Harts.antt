-- The rows of all harts, as a value.
use Rattle.std.specs.Prelude.{ℕ, List, [], map, Option, slice_index_or}
use Rattle.tlb.specs.declared.row.Row.{Row}
use Rattle.tlb.specs.declared.rows.Rows.{Rows}
use Rattle.tlb.specs.declared.way.Way.{Way}

abbrev pub ways_of : Row → List (Option Way)
ways_of row = row.ways

abbrev pub rows_of : Rows → List (List (Option Way))
rows_of r = map ways_of r.rows

abbrev pub row_at : List (List (Option Way)) → ℕ → List (Option Way)
row_at rows hart = slice_index_or rows hart []
