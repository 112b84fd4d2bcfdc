use Rattle.std.proofs.Common.{ap, sym, ◌∙◌, length}
use Rattle.std.proofs.lemmas.Option.{same_Some}
use Rattle.policy.specs.Tree.{followed}
use Rattle.policy.specs.Trees.{touched_away, length_touched}
use Rattle.policy.proofs.tree.Tree.touch.Goals as goal

pub invariant_of-self : goal.invariant_of-self
invariant_of-self c = record {
  full = ap length c.turn_away.ensures ∙ length_touched c.args.self.now.nodes c.args.way ∙ c.args.self.now.full;
  apart = λ e.
      touched_away c.args.self.now.nodes c.args.way c.requires c.args.self.now.full
      (sym (same_Some c.args.way (followed c.turn_away.new.nodes) e ∙ ap followed c.turn_away.ensures));
}
