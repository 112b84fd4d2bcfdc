use Rattle.law.proofs.Lawful.{every_history_is_lawful}
use Rattle.law.proofs.laws.histories_are_lawful.Goals as goal

pub returns : goal.returns
returns c = every_history_is_lawful
