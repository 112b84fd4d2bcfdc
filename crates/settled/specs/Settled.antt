-- The values that settle how the rules are read.
use Rattle.std.specs.Prelude.{◌≡◌, ℕ, ◌^◌, ◌<◌, Bool, true, false, List, [], ◌∷◌, replicate, Some, Ok, Err, slice_set}
use Rattle.std.proofs.Common.{lit<}
use Rattle.std.specs.List.{range_with_len}
use Rattle.memory.specs.Block.{check_for}
use Rattle.sv39.specs.declared.access.Access.{Access}
use Rattle.sv39.specs.declared.access.Kind.TheVariants.{Load}
use Rattle.sv39.specs.declared.access.Mode.TheVariants.{User}
use Rattle.sv39.specs.declared.entry.Entry.{Entry}
use Rattle.sv39.specs.declared.entry.Flags.{Flags}
use Rattle.sv39.specs.declared.entry.Rights.{Rights}
use Rattle.walker.specs.declared.fault.Stop.TheVariants.{Misaligned}
use Rattle.walker.specs.declared.walking.Step.TheVariants.{Leaf}
use Rattle.sv39.specs.Address.{canonical}
use Rattle.walker.specs.Laws.{at}
use Rattle.sv39.specs.Layout.{packed}
use Rattle.sv39.specs.Making.{leaf_flags, pointer_flags}
use Rattle.walker.specs.Reported.{stop_number}
use Rattle.walker.specs.Walk.{decided}
use Rattle.policy.specs.Dial.{swept}
use Rattle.policy.specs.Laws.{touched_all}
use Rattle.policy.specs.Tree.{followed}

-- rights r, w and u
abbrev pub rwu : Rights
rwu = record { r = true; w = true; x = false; u = true }

-- an entry with these flags and this PPN, its other fields 0
abbrev pub entry : Flags → (ppn : ℕ) → ppn < 2 ^ 44 → Entry
entry flags ppn fits = record { flags = flags; rsw = 0; ppn = ppn; top = 0; narrow = (lit< tt, fits, lit< tt) }

-- a user's load
abbrev pub load : ℕ → Access
load address = at address Load User false false

-- bits or marks that are all clear, and marks after touches of these ways
abbrev pub clear : List Bool
clear = replicate 16 false

abbrev pub marked_all : List Bool → List ℕ → List Bool
marked_all marks [] = marks
marked_all marks (way ∷ ways) = marked_all (slice_set marks way true) ways

pub record Settled : Type 0 where
  -- the edges of what is canonical
  pub low_edge : canonical 0x3F_FFFF_FFFF ≡ true
  pub past_low : canonical 0x40_0000_0000 ≡ false
  pub high_edge : canonical 0xFFFF_FFC0_0000_0000 ≡ true
  -- the leaf of frame 1 with r, w and u, and the pointer to frame 2
  pub leaf_packs : packed (entry (leaf_flags rwu) 1 (lit< tt)) ≡ 1239
  pub pointer_packs : packed (entry pointer_flags 2 (lit< tt)) ≡ 2049
  -- a leaf at level 1 takes the low 9 bits of its frame from the address; a PPN that has some of its own is misaligned
  pub superpage : decided (load 0x1008) 1 (entry (leaf_flags rwu) 512 (lit< tt)) ≡ Ok (Leaf (record { frame = 513; level = 1; leaf = entry (leaf_flags rwu) 512 (lit< tt) }))
  pub misaligned : decided (load 0x1008) 1 (entry (leaf_flags rwu) 513 (lit< tt)) ≡ Err Misaligned
  pub misaligned_is : stop_number Misaligned ≡ 36
  -- the checks of zero data in blocks 0 and 1
  pub check_0 : check_for (replicate 1024 0) 0 ≡ 2 ^ 59
  pub check_1 : check_for (replicate 1024 0) 1 ≡ 2 ^ 60
  -- Tree-PLRU, fresh, after touch 0, and after touch 8 too
  pub plru_fresh : followed clear ≡ 0
  pub plru_after_0 : followed (touched_all clear (0 ∷ [])) ≡ 8
  pub plru_after_8 : followed (touched_all clear (0 ∷ 8 ∷ [])) ≡ 4
  -- CLOCK, fresh, after touch 0, and after touches 0 to 15
  pub clock_after_0 : (swept (marked_all clear (0 ∷ [])) 0 (Some 0)).way ≡ 1
  pub clock_after_all : (swept (marked_all clear (range_with_len 0 16)) 0 (Some 15)).way ≡ 0
