use Rattle.std.proofs.Common.{arith}
use Rattle.memory.proofs.ByTurns.{length_woven}
use Rattle.memory.proofs.interleaved.InterleavedMemory.size.Goals as goal

pub returns : goal.returns
returns g c =
    let h = length_woven (g.A.Memory.cells c.args.self.now.first) (g.B.Memory.cells c.args.self.now.second) in
    omega arith
