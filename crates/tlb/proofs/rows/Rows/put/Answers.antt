use Rattle.std.proofs.Common.{◌≡◌, ◌<◌, length, set, Some, rules}
use Rattle.tlb.specs.Harts.{rows_of, row_at}
use Rattle.tlb.proofs.Harts.{row_at_is, row_put}
use Rattle.tlb.proofs.rows.Rows.put.Goals as goal

pub returns : goal.returns
returns c =
    let rows = c.args.self.now.rows in
    let hart = c.args.hart.number in
    let h : hart < length c.args.self.now.rows = search rules in
    let e = row_at_is rows hart c.index-self-hart.result h in
    let left : c.put.new.self.ways ≡ set (row_at (rows_of c.args.self.now) hart) c.args.way (Some c.args.held) = search (rules, c.put.ensures, e) in
    row_put rows hart c.put.new.self _ left
