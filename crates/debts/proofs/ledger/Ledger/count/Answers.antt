use Rattle.std.proofs.Common.{ℕ, ◌+◌, ◌<◌, ◌≤◌, List, length, is_some, None, count_by, Option, sym, ap, ◌∙◌, arith}
use Rattle.std.proofs.lemmas.List.{take_all}
use Rattle.std.proofs.lemmas.List.Sums.{count_by_more_yes, count_by_more_no}
use Rattle.debts.specs.declared.debt.Debt.{Debt}
use Rattle.debts.proofs.ledger.Ledger.count.Goals as goal
use Rattle.debts.proofs.ledger.Ledger.count.Goals.{then-is_some, else-is_some}

pub loop-slot-preserved : goal.loop-slot-preserved
loop-slot-preserved c =
    let l = c.args.self.now in
    let i = c.loop-slot.slot-index in
    let full = l.full in
    let inside : i < length l.slots = omega arith in
    let inv = c.loop-slot.invariant in
    elim c.if-is_some.branch [
      | then-is_some w ↦
          let more = count_by_more_yes (is_some {T = Debt}) l.slots i None inside (sym c.is_some.ensures ∙ w.if-is_some.true) in
          let n = w.count-is in
          (w.count-is ∙ ap (λ (k : ℕ). k + 1) inv.0 ∙ sym more, omega arith)
      | else-is_some w ↦
          let more = count_by_more_no (is_some {T = Debt}) l.slots i None inside (sym c.is_some.ensures ∙ w.if-is_some.false) in
          let n = w.count-is in
          (w.count-is ∙ inv.0 ∙ sym more, omega arith)
    ]

pub returns : goal.returns
returns c =
    let l = c.args.self.now in
    let full = l.full in
    let all : length l.slots ≤ c.loop-slot.slot-index = omega arith in
    c.loop-slot.invariant.0 ∙ ap (λ (xs : List (Option Debt)). count_by is_some xs) (take_all c.loop-slot.slot-index l.slots all)
