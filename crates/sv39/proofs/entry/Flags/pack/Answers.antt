use Rattle.std.proofs.Common.{arith}
use Rattle.sv39.proofs.Entries.{flag_number}
use Rattle.sv39.proofs.entry.Flags.pack.Goals as goal

pub returns : goal.returns
returns c =
    let f = c.args.self in
    let v = flag_number f.v in
    let r = flag_number f.r in
    let w = flag_number f.w in
    let x = flag_number f.x in
    let u = flag_number f.u in
    let g = flag_number f.g in
    let a = flag_number f.a in
    let d = flag_number f.d in
    record { value = omega arith; bound = omega arith }
