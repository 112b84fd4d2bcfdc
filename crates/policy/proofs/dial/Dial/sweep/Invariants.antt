use Rattle.std.proofs.Common.{◌≡◌, ◌-◌}
use Rattle.policy.specs.Dial.{sweep, swept}
use Rattle.policy.proofs.dial.Dial.sweep.Given as goal

-- what is left of the sweep ends as the whole does
abbrev pub invariant-loop-look : goal.invariant-loop-look
invariant-loop-look l =
    (sweep (18 - l._look) l.self.marks l.self.hand l.self.last ≡ swept l.initial.self.marks l.initial.self.hand l.initial.self.last)
    × (l.self.last ≡ l.initial.self.last)
