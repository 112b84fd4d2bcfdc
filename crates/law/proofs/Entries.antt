-- What a table's words are to the walk and to the calls: 0, a pointer, a leaf.
use Rattle.std.proofs.Common.{◌≡◌, ℕ, ◌^◌, ◌<◌, Bool, true, false, cond, not, ◌&&◌, ◌||◌, Some, None, Ok, Err, Result, sym, refl, ap, ◌∙◌, arith, lit<}
use Rattle.std.proofs.lemmas.Bool.{lt-ltb}
use Rattle.sv39.specs.declared.access.Access.{Access}
use Rattle.sv39.specs.declared.entry.Entry.{Entry}
use Rattle.sv39.specs.declared.entry.Flags.{Flags}
use Rattle.sv39.specs.declared.entry.Rights.{Rights}
use Rattle.sv39.specs.Layout.{unpacked}
use Rattle.sv39.specs.Making.{pointer_doubleword, leaf_doubleword, pointer_flags, leaf_flags}
use Rattle.sv39.proofs.Entries.{unpacked_is}
use Rattle.tables.specs.Tables.{table_of}
use Rattle.walker.specs.declared.fault.Stop.{Stop}
use Rattle.walker.specs.declared.fault.Stop.TheVariants.{Invalid, Rights as Denied, Misaligned, Marks}
use Rattle.walker.specs.declared.walking.Step.{Step}
use Rattle.walker.specs.declared.walking.Step.TheVariants.{Pointer, Leaf}
use Rattle.walker.specs.declared.walking.Translation.{Translation}
use Rattle.sv39.specs.Rules.{permits, marked}
use Rattle.walker.specs.Walk.{decided, translated, misaligned}
use Rattle.machine.specs.Rights.{valid}

-- the entry of a frame with these flags and every other bit 0
abbrev pub plain : Flags → (f : ℕ) → f < 2 ^ 44 → Entry
plain flags f h = record { flags = flags; rsw = 0; ppn = f; top = 0; narrow = (lit< tt, h, lit< tt) }

pub unpacked_pointer : (f : ℕ) (h : f < 2 ^ 44) → unpacked (pointer_doubleword f) ≡ plain pointer_flags f h
unpacked_pointer f h = unpacked_is (pointer_doubleword f) (plain pointer_flags f h) (omega arith)

pub unpacked_leaf : (f : ℕ) (h : f < 2 ^ 44) (rights : Rights) → unpacked (leaf_doubleword f rights) ≡ plain (leaf_flags rights) f h
unpacked_leaf f h rights = unpacked_is (leaf_doubleword f rights) (plain (leaf_flags rights) f h) (omega arith)

pub zero_invalid : (q : Access) (level : ℕ) → decided q level (unpacked 0) ≡ Err Invalid
unfolding unpacked
zero_invalid q level = refl

pub zero_no_table : (limit : ℕ) → table_of limit (unpacked 0) ≡ None
unfolding unpacked
zero_no_table limit = refl

pub zero_not_valid : (unpacked 0).flags.v ≡ false
unfolding unpacked
zero_not_valid = refl

pub pointer_leads : (q : Access) (level f : ℕ) (h : f < 2 ^ 44) → decided q level (plain pointer_flags f h) ≡ Ok (Pointer f)
pointer_leads q level f h = refl

pub pointer_table : (limit f : ℕ) (h : f < 2 ^ 44) → f < limit → table_of limit (plain pointer_flags f h) ≡ Some f
pointer_table limit f h l = ap (λ (b : Bool). cond b (Some f) None) (lt-ltb f limit l)

-- a leaf is held to its tests; what passes them is the leaf
abbrev held_to : Bool → Bool → Bool → Translation → Result Step Stop
held_to d m u leaf = cond d (Err Denied) (cond m (Err Misaligned) (cond u (Err Marks) (Ok (Leaf leaf))))

passed : (d m u : Bool) (leaf t : Translation) → held_to d m u leaf ≡ Ok (Leaf t) → leaf ≡ t
passed true m u leaf t e = let z : ◌≡◌ {A = ℕ} 0 1 = cc in absurd (omega arith)
passed false true u leaf t e = let z : ◌≡◌ {A = ℕ} 0 1 = cc in absurd (omega arith)
passed false false true leaf t e = let z : ◌≡◌ {A = ℕ} 0 1 = cc in absurd (omega arith)
passed false false false leaf t e = cc

no_pointer : (d m u : Bool) (leaf : Translation) (n : ℕ) → held_to d m u leaf ≡ Ok (Pointer n) → ⊥
no_pointer true m u leaf n e = let z : ◌≡◌ {A = ℕ} 0 1 = cc in absurd (omega arith)
no_pointer false true u leaf n e = let z : ◌≡◌ {A = ℕ} 0 1 = cc in absurd (omega arith)
no_pointer false false true leaf n e = let z : ◌≡◌ {A = ℕ} 0 1 = cc in absurd (omega arith)
no_pointer false false false leaf n e = let z : ◌≡◌ {A = ℕ} 0 1 = cc in absurd (omega arith)

-- a leaf with rights that one may have comes to these tests
pub leaf_tests : (rights : Rights) (q : Access) (level f : ℕ) (h : f < 2 ^ 44) → valid rights ≡ true → decided q level (plain (leaf_flags rights) f h) ≡ held_to (not (permits (leaf_flags rights) q)) (misaligned f level) (not (marked (leaf_flags rights) q.kind)) (translated q level (plain (leaf_flags rights) f h))
leaf_tests rights q level f h ok = at rights.r rights.w rights.x rights.u ok
  where
    at : (r w x u : Bool) → (r || (x && not w)) ≡ true → decided q level (plain (leaf_flags (record { r = r; w = w; x = x; u = u })) f h) ≡ held_to (not (permits (leaf_flags (record { r = r; w = w; x = x; u = u })) q)) (misaligned f level) (not (marked (leaf_flags (record { r = r; w = w; x = x; u = u })) q.kind)) (translated q level (plain (leaf_flags (record { r = r; w = w; x = x; u = u })) f h))
    at true true x u e = refl
    at true false x u e = refl
    at false false true u e = refl
    at false true true u e = let z : ◌≡◌ {A = ℕ} 0 1 = cc in absurd (omega arith)
    at false w false u e = let z : ◌≡◌ {A = ℕ} 0 1 = cc in absurd (omega arith)

module _ (rights : Rights) (q : Access) (level f : ℕ) (h : f < 2 ^ 44) (ok : valid rights ≡ true) where
  pub leaf_decided : (t : Translation) → decided q level (plain (leaf_flags rights) f h) ≡ Ok (Leaf t) → translated q level (plain (leaf_flags rights) f h) ≡ t
  leaf_decided t e =
      passed (not (permits (leaf_flags rights) q)) (misaligned f level) (not (marked (leaf_flags rights) q.kind)) (translated q level (plain (leaf_flags rights) f h)) t (sym (leaf_tests rights q level f h ok) ∙ e)

  pub leaf_no_pointer : (n : ℕ) → decided q level (plain (leaf_flags rights) f h) ≡ Ok (Pointer n) → ⊥
  leaf_no_pointer n e =
      no_pointer (not (permits (leaf_flags rights) q)) (misaligned f level) (not (marked (leaf_flags rights) q.kind)) (translated q level (plain (leaf_flags rights) f h)) n (sym (leaf_tests rights q level f h ok) ∙ e)
