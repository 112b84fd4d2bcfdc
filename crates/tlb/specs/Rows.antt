-- Rows of ways.
use Rattle.std.specs.Prelude.{ℕ, ◌+◌, Bool, true, false, cond, ◌&&◌, List, [], ◌∷◌, map, Some, None, count_by, Option, ◌==◌}
use Rattle.tlb.specs.declared.way.Way.{Way}
use Rattle.tlb.specs.Ways.{speaks_for}

-- the lowest way for a page of a space, counted from i
abbrev pub found : ℕ → ℕ → ℕ → List (Option Way) → Option ℕ
found space page i [] = None
found space page i (None ∷ ways) = found space page (i + 1) ways
found space page i (Some way ∷ ways) = cond (speaks_for way space page) (Some i) (found space page (i + 1) ways)

-- whether a fence of a space or all, at a page or all, is for a way
abbrev pub matches : Option ℕ → ℕ → Bool
matches None n = true
matches (Some m) n = n == m

abbrev pub covers : Option ℕ → Option ℕ → Way → Bool
covers space page way = matches space way.of.space && matches page way.of.page

-- what a fence leaves of a way
abbrev pub spared : Option ℕ → Option ℕ → Option Way → Option Way
spared space page None = None
spared space page (Some way) = cond (covers space page way) None (Some way)

abbrev pub fenced : Option ℕ → Option ℕ → List (Option Way) → List (Option Way)
fenced space page ways = map (spared space page) ways

-- how many ways it empties
abbrev pub covered : Option ℕ → Option ℕ → Option Way → Bool
covered space page None = false
covered space page (Some way) = covers space page way

abbrev pub emptied : Option ℕ → Option ℕ → List (Option Way) → ℕ
emptied space page ways = count_by (covered space page) ways
