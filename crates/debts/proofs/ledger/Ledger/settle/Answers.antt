use Rattle.std.proofs.Common.{◌<◌, sym, ◌∙◌, arith}
use Rattle.debts.proofs.Ledgers.{open_below}
use Rattle.debts.proofs.ledger.Ledger.settle.Goals as goal
use Rattle.debts.proofs.ledger.Ledger.settle.Goals.{In_default}

-- the slot found is one of the ledger's
inside : (c : In_default) → c.in_ok-slot.slot < 64
inside c =
    let full = c.args.self.now.full in
    omega (arith, open_below c.args.self.now.slots 0 c.args.number c.in_ok-slot.slot c.in_ok-slot.debt (sym c.find.ensures ∙ c.in_ok-slot.ensures.ok_part))

pub offset_bounds-self-slot : goal.offset_bounds-self-slot
offset_bounds-self-slot c = let h = inside c in omega arith

pub bounds-self-slot : goal.bounds-self-slot
bounds-self-slot c = inside (goal.at.bounds-self-slot c).In_default
