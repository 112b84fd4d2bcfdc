use Rattle.std.proofs.Common.{sym, ◌∙◌, not, rules, tests, arith}
use Rattle.std.proofs.lemmas.Iterator.Adapters.{option_map_id}
use Rattle.std.proofs.lemmas.Iterator.{YieldsList-from_range}
use Rattle.std.proofs.lemmas.Iterator.Search.{find_from_yields_List}
use Rattle.sv39.specs.Layout.{bit}
use Rattle.debts.proofs.Marks.{find_is_unmarked}
use Rattle.debts.proofs.debt.Debt.lowest_unmarked.Goals as goal

pub returns : goal.returns
returns c =
    let marks = c.args.self.now.marks in
    let found = find_from_yields_List (λ k. not (bit marks k)) _ _ c.find.result c.find.ensures.ran (YieldsList-from_range 0 c.args.harts c.args.harts (cc) (omega arith)) (λ x b q k. search (rules, tests)) in
    sym (option_map_id c.find.result) ∙ found ∙ find_is_unmarked marks 0 c.args.harts
