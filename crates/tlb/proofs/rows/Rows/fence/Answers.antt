use Rattle.std.proofs.Common.{◌≡◌, ◌<◌, length, rules}
use Rattle.tlb.specs.Harts.{rows_of, row_at}
use Rattle.tlb.specs.Rows.{fenced}
use Rattle.tlb.proofs.Harts.{row_at_is, row_put}
use Rattle.tlb.proofs.rows.Rows.fence.Goals as goal

pub returns-clause-rows : goal.returns-clause-rows
returns-clause-rows c =
    let rows = c.args.self.now.rows in
    let hart = c.args.hart.number in
    let h : hart < length c.args.self.now.rows = search rules in
    let e = row_at_is rows hart c.index-self-hart.result h in
    let left : c.fence.new.self.ways ≡ fenced c.args.scope.space c.args.scope.page (row_at (rows_of c.args.self.now) hart) = search (rules, c.fence.ensures.ways, e) in
    row_put rows hart c.fence.new.self _ left
