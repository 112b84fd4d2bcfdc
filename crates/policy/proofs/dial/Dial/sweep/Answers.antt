use Rattle.std.proofs.Common.{◌≡◌, suc, ◌+◌, ◌-◌, sym, refl, ap, ◌∙◌}
use Rattle.policy.specs.Dial.{Swept, beyond, sweep, swept}
use Rattle.policy.specs.Dials.{look_last, look_marked, look_free, looks_left, no_look_left}
use Rattle.policy.proofs.dial.Dial.sweep.Goals as goal
use Rattle.policy.proofs.dial.Dial.sweep.Goals.{In-loop-look}

-- the sweep from this look on ends as the whole does
onward : (c : In-loop-look) → sweep (suc (18 - (c.loop-look._look + 1))) c.loop-look.self.marks c.loop-look.self.hand c.loop-look.self.last ≡ swept c.args.self.now.marks c.args.self.now.hand c.args.self.now.last
onward c =
    let s = c.loop-look.self in
    looks_left c.loop-look._look s.marks s.hand s.last c.loop-look-test.true ∙ c.loop-look.invariant.0

pub loop-look-init : goal.loop-look-init
unfolding swept
loop-look-init c = (refl, refl)

pub loop-look-preserved-then-is_last : goal.loop-look-preserved-then-is_last
loop-look-preserved-then-is_last c =
    let s = c.loop-look.self in (
      sym (look_last (18 - (c.loop-look._look + 1)) s.marks s.hand s.last (sym c.if-is_last.ensures))
          ∙ onward (goal.at.loop-look-preserved-then-is_last c).In-loop-look,
      c.loop-look.invariant.1,
    )

pub returns-then-not-self-way : goal.returns-then-not-self-way
returns-then-not-self-way c =
    let s = c.loop-look.self in
    let e : ◌≡◌ {A = Swept} (record { way = s.hand; marks = s.marks; hand = beyond s.hand }) (swept c.args.self.now.marks c.args.self.now.hand c.args.self.now.last) =
    sym (look_free (18 - (c.loop-look._look + 1)) s.marks s.hand s.last (sym c.if-is_last.ensures) c.if-not-self-way.true)
    ∙ onward (goal.at.returns-then-not-self-way c).In-loop-look in
    record {
      way = ap (λ (w : Swept). w.way) e;
      marks = ap (λ (w : Swept). w.marks) e;
      hand = ap (λ (w : Swept). w.hand) e;
      last = c.loop-look.invariant.1;
    }

pub loop-look-preserved : goal.loop-look-preserved
loop-look-preserved c =
    let s = c.loop-look.self in (
      sym (look_marked (18 - (c.loop-look._look + 1)) s.marks s.hand s.last (sym c.if-is_last.ensures) c.if-not-self-way.false)
          ∙ onward (goal.at.loop-look-preserved c).In-loop-look,
      c.loop-look.invariant.1,
    )

pub returns : goal.returns
returns c =
    let s = c.loop-look.self in
    let e : ◌≡◌ {A = Swept} (record { way = s.hand; marks = s.marks; hand = s.hand }) (swept c.args.self.now.marks c.args.self.now.hand c.args.self.now.last) =
    no_look_left c.loop-look._look s.marks s.hand s.last c.loop-look-test.false ∙ c.loop-look.invariant.0 in
    record {
      way = ap (λ (w : Swept). w.way) e;
      marks = ap (λ (w : Swept). w.marks) e;
      hand = ap (λ (w : Swept). w.hand) e;
      last = c.loop-look.invariant.1;
    }
