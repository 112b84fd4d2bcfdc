use Rattle.std.proofs.Common.{◌≡◌, Option, sym, ap, ◌∙◌, rules, tests}
use Rattle.std.specs.List.{position}
use Rattle.std.specs.Option.{option_map}
use Rattle.std.proofs.lemmas.Iterator.{YieldsList-from_slice}
use Rattle.std.proofs.lemmas.Iterator.Search.{position_from_yields_List}
use Rattle.debts.specs.declared.debt.Debt.{Debt}
use Rattle.debts.proofs.Ledgers.{is_numbered, open_found, open_not_found}
use Rattle.debts.proofs.ledger.Ledger.find.Goals as goal
use Rattle.debts.proofs.ledger.Ledger.find.Goals.{After-position}

-- the search goes for the number
searched : (c : After-position) → c.position.result ≡ position (is_numbered c.args.number) c.args.self.now.slots
searched c =
    position_from_yields_List (is_numbered c.args.number) _ _ c.position.result c.position.ensures.ran (YieldsList-from_slice c.args.self.now.slots cc) (λ x b q k. search (rules, tests))

pub returns-in_err-slot : goal.returns-in_err-slot
returns-in_err-slot c =
    c.from_residual.ensures
    ∙ sym (open_not_found c.args.number c.args.self.now.slots (sym c.in_err-slot.was ∙ searched (goal.at.returns-in_err-slot c).After-position))

pub returns : goal.returns
returns c =
    let slots = c.args.self.now.slots in
    let slot = c.in_ok-slot.slot in
    sym
    (open_found c.args.number slots slot (sym c.in_ok-slot.was ∙ searched (goal.at.returns c).After-position)
    ∙ ap (λ (o : Option Debt). option_map (λ (d : Debt). (slot, d)) o) c.in_ok-debt.was)
