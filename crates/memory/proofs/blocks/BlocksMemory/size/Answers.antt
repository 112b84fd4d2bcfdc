use Rattle.std.proofs.Common.{arith}
use Rattle.memory.proofs.Checks.{length_cells}
use Rattle.memory.proofs.blocks.BlocksMemory.size.Goals as goal

pub returns : goal.returns
returns c = omega (arith, length_cells c.args.self.now.bytes.now)
