use Rattle.std.proofs.Common.{get_or}
use Rattle.tlb.proofs.Sparse.{empty_each}
use Rattle.tlb.proofs.rows.Rows.lowest_empty.Goals as goal

pub returns-clause-within : goal.returns-clause-within
returns-clause-within c =
    let row = get_or c.args.self.now.rows c.args.hart.number c.index-self-hart.result in
    empty_each row.ways 16 row.full c.lowest_empty.result c.lowest_empty.ensures
