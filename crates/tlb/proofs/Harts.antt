-- A hart's row among those of all, as a value.
use Rattle.std.proofs.Common.{◌≡◌, ℕ, ◌<◌, List, [], map, length, get_or, set, Option, sym, ap, ◌∙◌}
use Rattle.std.proofs.lemmas.List.{get_or-map, map-set}
use Rattle.tlb.specs.declared.row.Row.{Row}
use Rattle.tlb.specs.declared.way.Way.{Way}
use Rattle.tlb.specs.Harts.{ways_of, row_at}

pub row_at_is : (rows : List Row) (hart : ℕ) (d : Row) → hart < length rows → ways_of (get_or rows hart d) ≡ row_at (map ways_of rows) hart
row_at_is rows hart d h = sym (get_or-map ways_of rows hart d [] h)

pub row_put : (rows : List Row) (hart : ℕ) (row : Row) (ways : List (Option Way)) → row.ways ≡ ways → map ways_of (set rows hart row) ≡ set (map ways_of rows) hart ways
row_put rows hart row ways e = map-set ways_of rows hart row ∙ ap (set (map ways_of rows) hart) e
