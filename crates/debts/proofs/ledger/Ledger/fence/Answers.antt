use Rattle.std.proofs.Common.{◌<◌, length, get_or, set, None, ap, ◌∙◌, arith}
use Rattle.std.proofs.lemmas.List.Edits.{map_over_more}
use Rattle.std.proofs.lemmas.List.{get_or_default}
use Rattle.tlb.proofs.Sparse.{inside_still}
use Rattle.debts.specs.Debts.{marked_by}
use Rattle.debts.proofs.ledger.Ledger.fence.Goals as goal

pub loop-slot-preserved : goal.loop-slot-preserved
loop-slot-preserved c =
    let xs = c.args.self.now.slots in
    let ys = c.loop-slot.slot-items in
    let i = c.loop-slot.slot-index in
    let full = c.args.self.now.full in
    let inside : i < length c.args.self.now.slots = omega arith in
    let mark = marked_by c.args.hart.number c.args.scope.space c.args.scope.page in
    let there = inside_still mark xs ys i inside c.loop-slot.invariant in
    ap (set ys i) c.fenced_slot.ensures
    ∙ map_over_more mark xs ys i _ inside c.loop-slot.invariant (get_or_default ys i None (get_or ys i None) there)
