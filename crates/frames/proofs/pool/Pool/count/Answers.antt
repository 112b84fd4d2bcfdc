use Rattle.std.proofs.Common.{◌≤◌, ◌^◌, length, rules, tests, arith}
use Rattle.std.proofs.lemmas.Grind.{common_steps}
use Rattle.std.proofs.lemmas.Iterator.{YieldsList-from_slice}
use Rattle.std.proofs.lemmas.Iterator.Adapters.{fits_from_length, at_most_from_yields_List}
use Rattle.frames.proofs.pool.Pool.count.Goals as goal

-- a pool has 1,024 frames at most, and each adds at most 1
pub sum-requires-clause-fits : goal.sum-requires-clause-fits
sum-requires-clause-fits c =
    let bounds = c.args.self.now.bounds in
    let few : length c.iter.result.rest.now ≤ 1024 = grind (arith, common_steps) in
    fits_from_length _ _ 1024 (2 ^ 64) (at_most_from_yields_List (YieldsList-from_slice c.iter.result.rest.now cc) few) c.map.ensures.closure (omega arith) (λ x r q k. search (rules, tests))
