use Rattle.std.proofs.Common.{◌≡◌}
use Rattle.tables.specs.Tables.{cleared_to}
use Rattle.tables.proofs.words.clear_frame.Given as goal

-- the frame's doublewords so far are 0
abbrev pub invariant-loop-n : goal.invariant-loop-n
invariant-loop-n g l = g.M.Memory.cells l.memory ≡ cleared_to l.n (g.M.Memory.cells l.initial.memory) l.frame
