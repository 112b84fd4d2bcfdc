use Rattle.std.proofs.Common.{ℕ, set, sym, ap, ◌∙◌, subst}
use Rattle.frames.specs.declared.state.FrameState.{FrameState}
use Rattle.frames.specs.Busy.{one, state_of_use}
use Rattle.frames.specs.Frames.{stack}
use Rattle.frames.proofs.Counting.{busy_use}
use Rattle.frames.proofs.Soundness.{Sound, sound}
use Rattle.frames.proofs.Takes.{pool, top_next, top_taken, top_sound}
use Rattle.frames.proofs.pool.Pool.take.Goals as goal

pub invariant_of-self-2 : goal.invariant_of-self-2
invariant_of-self-2 c =
    let p = c.args.self.now in
    let rest = c.pop.new.self in
    let to = c.into.result in
    subst (λ (n : ℕ). Sound (set p.states n to) rest.frames rest.height p.mark p.limit) (sym c.from.ensures)
    (top_sound p.states p.pile.frames p.pile.height p.mark p.limit to c.in-Some.frame rest.height rest.frames (sym c.in-Some.ensures.top) c.pop.ensures.height c.pop.ensures.frames (sound p) (ap one c.into.ensures ∙ busy_use c.args.to))

pub returns : goal.returns
returns c =
    let p = c.args.self.now in
    let rest = c.pop.new.self in
    let to = state_of_use c.args.to in
    record {
      frame = top_next p.states p.pile.frames p.pile.height p.mark p.limit to c.in-Some.frame rest.height rest.frames (sym c.in-Some.ensures.top) c.pop.ensures.height c.pop.ensures.frames;
      after =
          ap (λ (n : ℕ). pool (set p.states n c.into.result) p.mark p.limit (stack rest.frames rest.height)) c.from.ensures
          ∙ ap (λ (s : FrameState). pool (set p.states c.in-Some.frame s) p.mark p.limit (stack rest.frames rest.height)) c.into.ensures
          ∙ top_taken p.states p.pile.frames p.pile.height p.mark p.limit to c.in-Some.frame rest.height rest.frames (sym c.in-Some.ensures.top) c.pop.ensures.height c.pop.ensures.frames;
    }
