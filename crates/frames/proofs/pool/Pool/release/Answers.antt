use Rattle.std.proofs.Common.{◌≡◌, ℕ, ◌+◌, true, List, ◌∷◌, get_or, set, sym, ap, ◌∙◌, subst, rules, tests}
use Rattle.std.proofs.lemmas.Bool.{lt-ltb, cond-true}
use Rattle.frames.specs.declared.state.FrameState.TheVariants.{Free}
use Rattle.frames.specs.Busy.{one}
use Rattle.frames.specs.Frames.{frames_of, stack, is_busy, released}
use Rattle.frames.proofs.Soundness.{Sound, sound, room_left, released_sound}
use Rattle.frames.proofs.Stacks.{stack_push}
use Rattle.frames.proofs.Takes.{pool}
use Rattle.frames.proofs.pool.Pool.release.Goals as goal
use Rattle.frames.proofs.pool.Pool.release.Goals.{After-push}

-- the frame goes on top, since the pile has room
pushed : (c : After-push) → one (get_or c.args.self.now.states c.args.frame Free) ≡ 1
    → (c.push.new.self.height ≡ c.args.self.now.pile.height + 1) × (c.push.new.self.frames ≡ set c.args.self.now.pile.frames c.args.self.now.pile.height c.args.frame)
pushed c busy =
    let p = c.args.self.now in
    let room = room_left p.states p.pile.frames p.pile.height p.mark p.limit (sound p) c.args.frame busy in
    let low = lt-ltb p.pile.height 1024 room.1 in
    (c.push.ensures.height ∙ cond-true _ _ _ low, c.push.ensures.frames ∙ cond-true _ _ _ low)

pub invariant_of-self : goal.invariant_of-self
invariant_of-self c =
    let p = c.args.self.now in
    let f : ℕ = c.args.frame in
    let busy : one (get_or p.states f Free) ≡ 1 = search (rules, tests) in
    let top = pushed c busy in
    let r = released_sound p.states p.pile.frames p.pile.height p.mark p.limit (sound p) f busy in
    subst (λ (xs : List ℕ). Sound (set p.states f Free) xs c.push.new.self.height p.mark p.limit) (sym top.1)
    (subst (λ (n : ℕ). Sound (set p.states f Free) (set p.pile.frames p.pile.height f) n p.mark p.limit) (sym top.0) r)

pub returns : goal.returns
returns c =
    let p = c.args.self.now in
    let v = frames_of p in
    let f : ℕ = c.args.frame in
    let busy : one (get_or p.states f Free) ≡ 1 = search (rules, tests) in
    let test : is_busy v f ≡ true = search (rules, tests) in
    let top = pushed (goal.at.returns c).After-push busy in
    let room = room_left p.states p.pile.frames p.pile.height p.mark p.limit (sound p) f busy in
    let e : stack c.push.new.self.frames c.push.new.self.height ≡ f ∷ stack p.pile.frames p.pile.height =
    ap (λ (xs : List ℕ). stack xs c.push.new.self.height) top.1
    ∙ ap (λ (n : ℕ). stack (set p.pile.frames p.pile.height f) n) top.0
    ∙ stack_push p.pile.frames p.pile.height f room.0 in
    ap (pool (set p.states f Free) p.mark p.limit) e ∙ sym (cond-true (is_busy v f) (released v f) v test)
