-- What a vector file says of a walk.
use Rattle.std.specs.Prelude.{Ok, Err, Result}
use Rattle.sv39.specs.Layout.{packed}
use Rattle.walker.specs.declared.fault.WalkFault.{WalkFault}
use Rattle.walker.specs.declared.walking.Translation.{Translation}
use Rattle.walks.specs.declared.vectors.Found.{Found}

-- frame, level and the leaf's doubleword, or the fault
abbrev pub outcome_of : Result Translation WalkFault → Result Found WalkFault
outcome_of (Ok t) = Ok (record { frame = t.frame; level = t.level; leaf = packed t.leaf })
outcome_of (Err fault) = Err fault
