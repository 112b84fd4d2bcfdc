use Rattle.std.proofs.Common.{arith}
use Rattle.frames.proofs.Stacks.{length_stack}
use Rattle.frames.proofs.pool.Pool.available.Goals as goal

pub returns : goal.returns
returns c = omega (arith, length_stack c.args.self.now.pile.frames c.args.self.now.pile.height)
