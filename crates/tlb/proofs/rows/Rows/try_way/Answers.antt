use Rattle.std.proofs.Common.{◌≡◌, ◌<◌, length, ◌∙◌, rules}
use Rattle.std.proofs.lemmas.List.{length-map}
use Rattle.tlb.specs.Harts.{ways_of, rows_of, row_at}
use Rattle.tlb.specs.Trying.{tried}
use Rattle.tlb.proofs.Harts.{row_at_is, row_put}
use Rattle.tlb.proofs.rows.Rows.try_way.Goals as goal

pub returns-clause-rows : goal.returns-clause-rows
returns-clause-rows c =
    let rows = c.args.self.now.rows in
    let hart = c.args.hart.number in
    let h : hart < length c.args.self.now.rows = search rules in
    let e = row_at_is rows hart c.index-self-hart.result h in
    let left : c.try_way.new.self.ways ≡ tried c.args.page.space c.args.page.page c.args.access.now (row_at (rows_of c.args.self.now) hart) = search (rules, c.try_way.ensures.ways, e) in
    row_put rows hart c.try_way.new.self _ left

pub returns-clause-each : goal.returns-clause-each
returns-clause-each c =
    let eight : length c.args.self.now.rows ≡ 8 = search rules in
    length-map c.args.self.now.rows ways_of ∙ eight
