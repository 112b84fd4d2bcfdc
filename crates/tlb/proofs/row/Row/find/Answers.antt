use Rattle.std.proofs.Common.{◌∙◌, rules, tests}
use Rattle.std.proofs.lemmas.Iterator.{YieldsList-from_slice}
use Rattle.std.proofs.lemmas.Iterator.Search.{position_from_yields_List}
use Rattle.tlb.proofs.Scans.{holds_for, found_is_position}
use Rattle.tlb.proofs.row.Row.find.Goals as goal

pub returns : goal.returns
returns c =
    position_from_yields_List (holds_for c.args.page.space c.args.page.page) _ _ c.position.result c.position.ensures.ran (YieldsList-from_slice c.args.self.now.ways cc) (λ x b q k. search (rules, tests))
    ∙ found_is_position c.args.page.space c.args.page.page c.args.self.now.ways
