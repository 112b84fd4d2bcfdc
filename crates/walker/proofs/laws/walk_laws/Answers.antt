use Rattle.walker.proofs.Locality.{reads_few}
use Rattle.walker.proofs.Pages.{goes_by_page}
use Rattle.walker.proofs.Serving.{leaf_serves}
use Rattle.walker.proofs.laws.walk_laws.Goals as goal

pub returns : goal.returns
returns c = record { reads = reads_few; pages = goes_by_page; serves = leaf_serves }
