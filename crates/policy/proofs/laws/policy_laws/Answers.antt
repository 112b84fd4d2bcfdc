use Rattle.policy.specs.Dials.{clock_picks_unmarked}
use Rattle.policy.specs.Trees.{plru_spares_the_last}
use Rattle.policy.proofs.laws.policy_laws.Goals as goal

pub returns : goal.returns
returns c = record { plru = plru_spares_the_last; clock = clock_picks_unmarked }
