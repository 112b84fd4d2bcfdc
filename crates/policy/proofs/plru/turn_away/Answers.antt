use Rattle.std.proofs.Common.{◌≡◌, ◌+◌, ◌/◌, ◌^◌, Bool, List, refl, ap, ◌∙◌, add-one, arith}
use Rattle.policy.specs.Tree.{turned}
use Rattle.policy.specs.Trees.{turned_below, all_turned}
use Rattle.policy.proofs.plru.turn_away.Goals as goal

pub loop-level-init : goal.loop-level-init
unfolding turned_below
loop-level-init c = refl

pub loop-level-preserved : goal.loop-level-preserved
unfolding turned_below
loop-level-preserved c =
    rw add-one (ap (λ (nodes : List Bool). turned nodes ((16 + c.args.way) / 2 ^ c.loop-level.level)) c.loop-level.invariant)

pub returns : goal.returns
returns c =
    let e : c.loop-level.level ≡ 4 = omega arith in
    c.loop-level.invariant ∙ ap (turned_below c.args.nodes.now c.args.way) e ∙ all_turned c.args.nodes.now c.args.way
