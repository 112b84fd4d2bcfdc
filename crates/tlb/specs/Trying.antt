-- A row asked for an access to a page of a space.
use Rattle.std.specs.Prelude.{ℕ, ◌%◌, ◌^◌, cond, List, Some, None, Option, slice_index_or, slice_set}
use Rattle.sv39.specs.declared.access.Access.{Access}
use Rattle.tlb.specs.declared.way.Way.{Way}
use Rattle.tlb.specs.Rows.{found}
use Rattle.tlb.specs.Ways.{serves}

-- the way for the page, if it passes the rights step and the A/D step, with its frame: a number of 44 bits
abbrev pub served_by : Access → ℕ → Option Way → Option (ℕ × ℕ)
served_by q i None = None
served_by q i (Some way) = cond (serves way q) (Some (i, way.frame % 2 ^ 44)) None

abbrev pub served_at : Access → List (Option Way) → Option ℕ → Option (ℕ × ℕ)
served_at q ways None = None
served_at q ways (Some i) = served_by q i (slice_index_or ways i None)

abbrev pub served : ℕ → ℕ → Access → List (Option Way) → Option (ℕ × ℕ)
served space page q ways = served_at q ways (found space page 0 ways)

-- the row after that: a way for the page that does not pass is emptied
abbrev pub tried_by : Access → List (Option Way) → ℕ → Option Way → List (Option Way)
tried_by q ways i None = ways
tried_by q ways i (Some way) = cond (serves way q) ways (slice_set ways i None)

abbrev pub tried_at : Access → List (Option Way) → Option ℕ → List (Option Way)
tried_at q ways None = ways
tried_at q ways (Some i) = tried_by q ways i (slice_index_or ways i None)

abbrev pub tried : ℕ → ℕ → Access → List (Option Way) → List (Option Way)
tried space page q ways = tried_at q ways (found space page 0 ways)
