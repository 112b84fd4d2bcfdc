use Rattle.std.proofs.Common.{◌≡◌, ◌≤◌, take, is_some, count_by}
use Rattle.debts.proofs.ledger.Ledger.count.Given as goal

-- the slots so far are counted
abbrev pub invariant-loop-slot : goal.invariant-loop-slot
invariant-loop-slot l = (l.count ≡ count_by is_some (take l.slot-index l.self.slots)) × (l.count ≤ l.slot-index)
