use Rattle.std.proofs.Common.{sym, arith}
use Rattle.debts.specs.Debts.{debts_of}
use Rattle.debts.proofs.Ledgers.{room_below}
use Rattle.debts.proofs.ledger.Ledger.open.Goals as goal

pub offset_bounds-self-slot : goal.offset_bounds-self-slot
offset_bounds-self-slot c =
    let full = c.args.self.now.full in
    omega (arith, room_below (debts_of c.args.self.now) c.in_ok-slot.slot (sym c.in_ok-slot.ensures))

pub bounds-self-slot : goal.bounds-self-slot
bounds-self-slot c =
    let full = c.args.self.now.full in
    omega (arith, room_below (debts_of c.args.self.now) c.in_ok-slot.slot (sym c.in_ok-slot.ensures))
