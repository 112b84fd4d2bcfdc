use Rattle.std.proofs.Common.{◌∙◌, not, is_some, rules, tests}
use Rattle.std.proofs.lemmas.Iterator.{YieldsList-from_slice}
use Rattle.std.proofs.lemmas.Iterator.Search.{position_from_yields_List}
use Rattle.tlb.proofs.Sparse.{empty_slot_is_position}
use Rattle.tlb.proofs.slots.lowest_empty.Goals as goal

pub returns : goal.returns
returns g c =
    position_from_yields_List (λ o. not (is_some o)) _ _ c.position.result c.position.ensures.ran (YieldsList-from_slice c.args.slots.now cc) (λ x b q k. search (rules, tests))
    ∙ empty_slot_is_position c.args.slots.now
