use Rattle.settled.proofs.Computed.{settled}
use Rattle.settled.proofs.settled_values.Goals as goal

pub returns : goal.returns
returns c = settled
