use Rattle.std.proofs.Common.{◌≡◌, ◌≤◌, ◌++◌, take, drop}
use Rattle.tlb.specs.Rows.{fenced, emptied}
use Rattle.tlb.proofs.row.Row.fence.Given as goal

-- the ways so far are fenced and counted, the others are as they were
abbrev pub invariant-loop-way : goal.invariant-loop-way
invariant-loop-way l =
    (l.way-items ≡ fenced l.scope.space l.scope.page (take l.way-index l.fn.self.ways) ++ drop l.way-index l.fn.self.ways)
    × (l.count ≡ emptied l.scope.space l.scope.page (take l.way-index l.fn.self.ways))
    × (l.count ≤ l.way-index)
