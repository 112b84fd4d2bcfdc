use Rattle.std.proofs.Common.{◌≡◌, ◌+◌, ◌-◌, ◌*◌, ◌<◌, ℕ, Bool, true, false, cond, List, get_or, refl, ap, sym, subst, ◌∙◌, add-one, arith}
use Rattle.policy.specs.Tree.{child_of, followed}
use Rattle.policy.specs.Trees.{child_between, down, down_between, down_inside, followed_within}
use Rattle.policy.proofs.tree.Tree.follow.Goals as goal
use Rattle.std.specs.Int.{from_bool}

-- the child that a bit names, with the bit as a number
child_by_bit : (nodes : List Bool) (node : ℕ) → 2 * node + from_bool (get_or nodes node false) ≡ child_of nodes node
child_by_bit nodes node = by (get_or nodes node false)
  where
    by : (b : Bool) → 2 * node + from_bool b ≡ cond b (2 * node + 1) (2 * node)
    by true = refl
    by false = omega arith

pub loop-level-init : goal.loop-level-init
unfolding down
loop-level-init c = refl

pub bounds-self-node : goal.bounds-self-node
bounds-self-node c = omega (arith, down_inside c.args.self.now.nodes c.loop-level._level c.loop-level-test.true)

pub overflow_mul-node : goal.overflow_mul-node
overflow_mul-node c = omega (arith, down_inside c.args.self.now.nodes c.loop-level._level c.loop-level-test.true)

pub overflow_add-node : goal.overflow_add-node
overflow_add-node c =
    let w = child_between c.args.self.now.nodes c.loop-level.node in
    let e = child_by_bit c.args.self.now.nodes c.loop-level.node in
    omega (arith, c.from.ensures, down_inside c.args.self.now.nodes c.loop-level._level c.loop-level-test.true)

pub loop-level-preserved : goal.loop-level-preserved
unfolding down
loop-level-preserved c =
    let e : 2 * c.loop-level.node + c.from.result ≡ child_of c.args.self.now.nodes c.loop-level.node =
    ap (λ (k : ℕ). 2 * c.loop-level.node + k) c.from.ensures ∙ child_by_bit c.args.self.now.nodes c.loop-level.node in
    rw add-one (e ∙ ap (child_of c.args.self.now.nodes) c.loop-level.invariant)

pub overflow_sub-result : goal.overflow_sub-result
overflow_sub-result c =
    let e : c.loop-level._level ≡ 4 = omega arith in
    let i : c.loop-level.node ≡ down c.args.self.now.nodes 1 4 = c.loop-level.invariant ∙ ap (down c.args.self.now.nodes 1) e in
    let w = down_between c.args.self.now.nodes 1 4 in
    omega arith

pub returns : goal.returns
unfolding down followed
returns c =
    let e : c.loop-level._level ≡ 4 = omega arith in
    let f : c.loop-level.node - 16 ≡ followed c.args.self.now.nodes =
    ap (λ (n : ℕ). n - 16) (c.loop-level.invariant ∙ ap (down c.args.self.now.nodes 1) e) in
    record { value = f; bound = subst (λ (n : ℕ). n < 16) (sym f) (followed_within c.args.self.now.nodes) }
