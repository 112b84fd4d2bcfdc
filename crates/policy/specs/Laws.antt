-- What the two policies keep, in the words of the subject.
use Rattle.std.specs.Prelude.{◌≡◌, ℕ, ◌+◌, ◌%◌, ◌<◌, Bool, true, false, ◌⊎◌, List, [], ◌∷◌, ◌++◌, replicate, Option, ◌≢◌, slice_index_or}
use Rattle.policy.specs.Dial.{is_last, swept}
use Rattle.policy.specs.Tree.{followed, touched}

-- a tree after touches of these ways, in their order
abbrev pub touched_all : List Bool → List ℕ → List Bool
touched_all nodes [] = nodes
touched_all nodes (way ∷ ways) = touched_all (touched nodes way) ways

-- Whatever ways a fresh tree was touched at, in whatever order, its bits do not lead to the one touched last.
abbrev pub PlruSparesTheLast : Type 0
PlruSparesTheLast =
    (before : List ℕ) (way : ℕ) → way < 16 → followed (touched_all (replicate 16 false) (before ++ way ∷ [])) ≢ way

-- The way is the first from the hand that is neither marked nor touched last; so each way is passed at most once.
pub record FirstFree (marks : List Bool) (hand : ℕ) (last : Option ℕ) (way : ℕ) : Type 0 where
  pub passes : ℕ
  pub once : passes < 16
  pub there : way ≡ (hand + passes) % 16
  pub unmarked : slice_index_or marks way false ≡ false
  pub apart : is_last last way ≡ false
  pub passed : (i : ℕ) → i < passes → (slice_index_or marks ((hand + i) % 16) false ≡ true) ⊎ (is_last last ((hand + i) % 16) ≡ true)

-- Where some way other than the one touched last is unmarked, CLOCK picks the first such.
abbrev pub ClockPicksUnmarked : Type 0
ClockPicksUnmarked =
    (marks : List Bool) (hand : ℕ) (last : Option ℕ) (free : ℕ) → hand < 16 → free < 16 → slice_index_or marks free false ≡ false →
    is_last last free ≡ false → FirstFree marks hand last (swept marks hand last).way
