-- What a leaf's flags allow, and the standard's codes.
use Rattle.std.specs.Prelude.{ℕ, Bool, not, ◌&&◌, ◌||◌}
use Rattle.sv39.specs.declared.entry.Flags.{Flags}
use Rattle.sv39.specs.declared.access.Kind.{Kind}
use Rattle.sv39.specs.declared.access.Kind.TheVariants.{Fetch, Load, Store}
use Rattle.sv39.specs.declared.access.Mode.{Mode}
use Rattle.sv39.specs.declared.access.Mode.TheVariants.{User, Supervisor}
use Rattle.sv39.specs.declared.access.Access.{Access}

-- a fetch needs X; a load R, or X under MXR; a store W
abbrev pub granted : Flags → Kind → Bool → Bool
granted f Fetch mxr = f.x
granted f Load mxr = f.r || (f.x && mxr)
granted f Store mxr = f.w

-- user mode needs U; supervisor on a U page may not fetch, and may load or store only under SUM
abbrev pub reachable : Flags → Mode → Kind → Bool → Bool
reachable f User kind sum = f.u
reachable f Supervisor Fetch sum = not f.u
reachable f Supervisor Load sum = not f.u || sum
reachable f Supervisor Store sum = not f.u || sum

-- the rights step
abbrev pub permits : Flags → Access → Bool
permits f q = granted f q.kind q.mxr && reachable f q.mode q.kind q.sum

-- the A/D step: A is set, and D on a store
abbrev pub marked : Flags → Kind → Bool
marked f Fetch = f.a
marked f Load = f.a
marked f Store = f.a && f.d

-- codes of the standard for fetch, load, store
abbrev pub page_fault : Kind → ℕ
page_fault Fetch = 12
page_fault Load = 13
page_fault Store = 15

abbrev pub access_fault : Kind → ℕ
access_fault Fetch = 1
access_fault Load = 5
access_fault Store = 7

abbrev pub misaligned_fault : Kind → ℕ
misaligned_fault Fetch = 0
misaligned_fault Load = 4
misaligned_fault Store = 6
