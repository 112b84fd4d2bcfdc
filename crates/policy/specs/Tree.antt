-- The tree of Tree-PLRU: nodes 1 to 15 hold a bit; the children of n are 2n (bit clear) and 2n + 1 (bit set); way w is
-- leaf 16 + w.
use Rattle.std.specs.Prelude.{ℕ, ◌+◌, ◌-◌, ◌*◌, ◌/◌, ◌%◌, Bool, false, cond, List, ◌==◌, slice_index_or, slice_set}

-- the child that a node's bit names
abbrev pub child_of : List Bool → ℕ → ℕ
child_of nodes n = cond (slice_index_or nodes n false) (2 * n + 1) (2 * n)

-- the way that the bits lead to from the root
unfoldable pub followed : List Bool → ℕ
followed nodes = child_of nodes (child_of nodes (child_of nodes (child_of nodes 1))) - 16

-- the bit of a node turned away from one of its children
abbrev pub turned : List Bool → ℕ → List Bool
turned nodes leaf = slice_set nodes (leaf / 2) (leaf % 2 == 0)

-- a touch of a way turns every bit on its path away from it
unfoldable pub touched : List Bool → ℕ → List Bool
touched nodes way =
    turned (turned (turned (turned nodes (16 + way)) ((16 + way) / 2)) ((16 + way) / 4)) ((16 + way) / 8)
