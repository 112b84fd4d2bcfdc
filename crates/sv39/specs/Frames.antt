-- Frames by their numbers.
use Rattle.std.specs.Prelude.{ℕ}
use Rattle.sv39.specs.declared.frame.Frame.{Frame}

abbrev pub number : Frame → ℕ
number frame = frame.number
