use Rattle.std.proofs.Common.{ℕ, ◌+◌, set, sym, ap, ◌∙◌, subst}
use Rattle.frames.specs.declared.state.FrameState.{FrameState}
use Rattle.frames.specs.Busy.{one, state_of_use}
use Rattle.frames.specs.Frames.{stack}
use Rattle.frames.proofs.Counting.{busy_use}
use Rattle.frames.proofs.Soundness.{Sound, sound, unused_sound}
use Rattle.frames.proofs.Takes.{pool, unused_next, unused_taken, none_next, none_taken}
use Rattle.frames.proofs.pool.Pool.take_unused.Goals as goal

pub returns-then-self : goal.returns-then-self
returns-then-self c =
    let p = c.args.self.now in
    let to = state_of_use c.args.to in
    record {
      frame = none_next p.states p.pile.frames p.pile.height p.mark p.limit to c.requires c.if-self.true;
      after = none_taken p.states p.pile.frames p.pile.height p.mark p.limit to c.requires c.if-self.true;
    }

pub invariant_of-self : goal.invariant_of-self
invariant_of-self c =
    let p = c.args.self.now in
    let to = c.into.result in
    subst (λ (n : ℕ). Sound (set p.states n to) p.pile.frames p.pile.height (p.mark + 1) p.limit) (sym c.from.ensures)
    (unused_sound p.states p.pile.frames p.pile.height p.mark p.limit (sound p) to c.if-self.false (ap one c.into.ensures ∙ busy_use c.args.to))

pub returns : goal.returns
returns c =
    let p = c.args.self.now in
    let to = state_of_use c.args.to in
    record {
      frame = unused_next p.states p.pile.frames p.pile.height p.mark p.limit to c.requires c.if-self.false;
      after =
          ap (λ (n : ℕ). pool (set p.states n c.into.result) (p.mark + 1) p.limit (stack p.pile.frames p.pile.height)) c.from.ensures
          ∙ ap (λ (s : FrameState). pool (set p.states p.mark s) (p.mark + 1) p.limit (stack p.pile.frames p.pile.height)) c.into.ensures
          ∙ unused_taken p.states p.pile.frames p.pile.height p.mark p.limit to c.requires c.if-self.false;
    }
