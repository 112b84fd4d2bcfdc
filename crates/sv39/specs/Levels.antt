-- The levels of the tables, by their numbers.
use Rattle.std.specs.Prelude.{ℕ}
use Rattle.sv39.specs.declared.address.Level.{Level}
use Rattle.sv39.specs.declared.address.Level.TheVariants.{Zero, One, Two}

abbrev pub number_of : Level → ℕ
number_of Zero = 0
number_of One = 1
number_of Two = 2
