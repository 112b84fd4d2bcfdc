use Rattle.std.proofs.Common.{◌≡◌, get_or, rules, tests, arith}
use Rattle.frames.specs.declared.state.FrameState.TheVariants.{Free}
use Rattle.frames.specs.Busy.{one}
use Rattle.frames.proofs.Counting.{busy_use}
use Rattle.frames.proofs.Soundness.{sound, changed_sound}
use Rattle.frames.proofs.pool.Pool.change.Goals as goal

pub invariant_of-self : goal.invariant_of-self
invariant_of-self c =
    let p = c.args.self.now in
    let busy : one (get_or p.states c.args.frame Free) ≡ 1 = search (rules, tests) in
    let used : one c.into.result ≡ 1 = grind (arith, busy_use) in
    changed_sound p.states p.pile.frames p.pile.height p.mark p.limit (sound p) c.args.frame c.into.result busy used
