use Rattle.std.proofs.Common.{ℕ, ◌/◌, ◌^◌, refl}
use Rattle.std.proofs.lemmas.Nat.{and_mask}
use Rattle.sv39.proofs.Entries.{unpacked_by, packed_by}
use Rattle.sv39.proofs.entry.Entry.unpack.Goals as goal

pub returns : goal.returns
returns c =
    let w : ℕ = c.args.word in
    let small = c.ranges.word.fits in
    record {
      value = unpacked_by _ w small c.unpack.ensures (and_mask (w / 2 ^ 8) 2) (and_mask (w / 2 ^ 10) 44) refl;
      back = packed_by _ _ _ _ w small c.unpack.ensures (and_mask (w / 2 ^ 8) 2) (and_mask (w / 2 ^ 10) 44) refl;
    }
