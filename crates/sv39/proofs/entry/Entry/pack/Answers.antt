use Rattle.std.proofs.Common.{arith}
use Rattle.sv39.proofs.Entries.{unpacked_is}
use Rattle.sv39.proofs.entry.Entry.pack.Goals as goal

pub returns : goal.returns
returns c = record { value = omega arith; back = unpacked_is _ c.args.self (omega arith) }
