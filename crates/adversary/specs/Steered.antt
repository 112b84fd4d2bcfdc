-- The way that a number of a script stands for, and what a pick and a touch leave.
use Rattle.std.specs.Prelude.{ℕ, ◌+◌, ◌-◌, ◌%◌, ◌^◌, min, cond, List, Some, Option, nat_lt, slice_set}
use Rattle.policy.specs.Answers.{accepted}
use Rattle.policy.specs.Dial.{is_last}

-- the number's way, or the next one where that was touched last
abbrev pub steered : ℕ → Option ℕ → ℕ
steered number last = cond (is_last last (number % 16)) ((number % 16 + 1) % 16) (number % 16)

-- an accepted pick goes on to the script's next number, up to the largest place that there is
abbrev pub cursor_after : ℕ → ℕ → ℕ
cursor_after hart cursor = cond (nat_lt hart 8) (min (cursor + 1) (2 ^ 64 - 1)) cursor

-- an accepted touch sets its hart's way
abbrev pub lasts_after : ℕ → ℕ → List (Option ℕ) → List (Option ℕ)
lasts_after hart way lasts = cond (accepted hart way) (slice_set lasts hart (Some way)) lasts
