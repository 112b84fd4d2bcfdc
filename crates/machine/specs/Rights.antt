-- What map and protect ask of rights.
use Rattle.std.specs.Prelude.{Bool, cond, not, ◌&&◌, ◌||◌}
use Rattle.sv39.specs.declared.entry.Flags.{Flags}
use Rattle.sv39.specs.declared.entry.Rights.{Rights}

-- rights that a leaf may have: not W without R, and one of R, W and X
abbrev pub valid : Rights → Bool
valid p = p.r || (p.x && not p.w)

abbrev pub differ : Bool → Bool → Bool
differ a b = cond a (not b) b

-- a debt is due if one of R, W, X is taken away or U changes
abbrev pub due : Flags → Rights → Bool
due f p = (f.r && not p.r) || ((f.w && not p.w) || ((f.x && not p.x) || differ f.u p.u))
