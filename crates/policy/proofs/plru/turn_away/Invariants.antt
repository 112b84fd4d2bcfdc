use Rattle.std.proofs.Common.{◌≡◌}
use Rattle.policy.specs.Trees.{turned_below}
use Rattle.policy.proofs.plru.turn_away.Given as goal

-- the bits above the levels so far are turned
abbrev pub invariant-loop-level : goal.invariant-loop-level
invariant-loop-level l = l.nodes ≡ turned_below l.initial.nodes l.way l.level
