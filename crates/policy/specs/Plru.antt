-- Tree-PLRU: a tree for each hart.
use Rattle.std.specs.Prelude.{ℕ, Bool, false, cond, ◌&&◌, List, replicate, None, Option, ◌==◌, slice_index_or, refl}
use Rattle.std.proofs.lemmas.Option.{none-some}
use Rattle.policy.specs.declared.tree.Tree.{Tree}
use Rattle.policy.specs.declared.plru.TreePlru.{TreePlru}
use Rattle.policy.specs.Answers.{accepted}
use Rattle.policy.specs.Tree.{touched}

-- a tree with all bits clear and no way touched
abbrev pub fresh : Tree
fresh = record { nodes = replicate 16 false; last = None; full = refl; apart = none-some _ }

abbrev pub tree_of : TreePlru → ℕ → Tree
tree_of p hart = slice_index_or p.trees hart fresh

-- a hart's bits, by the node's number, and the way that it touched last
abbrev pub nodes_of : TreePlru → ℕ → List Bool
nodes_of p hart = (tree_of p hart).nodes

abbrev pub last_of : TreePlru → ℕ → Option ℕ
last_of p hart = (tree_of p hart).last

-- an accepted touch turns the bits of its hart alone
abbrev pub nodes_after : (ℕ → List Bool) → ℕ → ℕ → ℕ → List Bool
nodes_after nodes hart way h = cond (accepted hart way && h == hart) (touched (nodes hart) way) (nodes h)
