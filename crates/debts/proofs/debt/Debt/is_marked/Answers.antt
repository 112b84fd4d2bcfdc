use Rattle.std.proofs.Common.{◌≡◌, ltb, false, sym, ◌∙◌, rules}
use Rattle.debts.proofs.Marks.{no_bit_past}
use Rattle.debts.proofs.debt.Debt.is_marked.Goals as goal

pub returns-else-hart-lt8 : goal.returns-else-hart-lt8
returns-else-hart-lt8 c =
    let past : ltb c.args.hart 8 ≡ false = search rules in
    past ∙ sym (no_bit_past c.args.self.now.marks c.args.hart (search rules) c.if-hart-lt8.false)
