use Rattle.std.proofs.Common.{◌≡◌}
use Rattle.policy.specs.Trees.{down}
use Rattle.policy.proofs.tree.Tree.follow.Given as goal

-- the node is where the bits lead, so many levels down
abbrev pub invariant-loop-level : goal.invariant-loop-level
invariant-loop-level l = l.node ≡ down l.self.nodes 1 l._level
