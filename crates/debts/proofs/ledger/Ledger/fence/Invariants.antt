use Rattle.std.proofs.Common.{◌≡◌, ◌++◌, map, take, drop}
use Rattle.debts.specs.Debts.{marked_by}
use Rattle.debts.proofs.ledger.Ledger.fence.Given as goal

-- the slots so far are fenced, the others are as they were
abbrev pub invariant-loop-slot : goal.invariant-loop-slot
invariant-loop-slot l =
    l.slot-items ≡ map (marked_by l.hart.number l.scope.space l.scope.page) (take l.slot-index l.fn.self.slots) ++ drop l.slot-index l.fn.self.slots
