-- CLOCK: a dial for each hart.
use Rattle.std.specs.Prelude.{ℕ, Bool, true, false, cond, ◌&&◌, List, replicate, None, Option, ◌==◌, nat_lt, slice_index_or, slice_set}
use Rattle.std.proofs.Common.{lit<}
use Rattle.policy.specs.declared.dial.Dial.{Dial}
use Rattle.policy.specs.declared.clock.Clock.{Clock}
use Rattle.policy.specs.Answers.{accepted}
use Rattle.policy.specs.Dial.{swept}

-- a dial with no way marked or touched and the hand at 0
abbrev pub fresh : Dial
fresh = record { marks = replicate 16 false; hand = 0; last = None; on = lit< tt }

abbrev pub dial_of : Clock → ℕ → Dial
dial_of p hart = slice_index_or p.dials hart fresh

abbrev pub marks_of : Clock → ℕ → List Bool
marks_of p hart = (dial_of p hart).marks

abbrev pub hand_of : Clock → ℕ → ℕ
hand_of p hart = (dial_of p hart).hand

abbrev pub last_of : Clock → ℕ → Option ℕ
last_of p hart = (dial_of p hart).last

-- an accepted touch marks its way of its hart alone
abbrev pub marks_after_touch : Clock → ℕ → ℕ → ℕ → List Bool
marks_after_touch p hart way h = cond (accepted hart way && h == hart) (slice_set (marks_of p hart) way true) (marks_of p h)

-- an accepted pick moves the marks and the hand of its hart alone
abbrev pub marks_after_pick : Clock → ℕ → ℕ → List Bool
marks_after_pick p hart h =
    cond (nat_lt hart 8 && h == hart) (swept (marks_of p hart) (hand_of p hart) (last_of p hart)).marks (marks_of p h)

abbrev pub hand_after_pick : Clock → ℕ → ℕ → ℕ
hand_after_pick p hart h =
    cond (nat_lt hart 8 && h == hart) (swept (marks_of p hart) (hand_of p hart) (last_of p hart)).hand (hand_of p h)
