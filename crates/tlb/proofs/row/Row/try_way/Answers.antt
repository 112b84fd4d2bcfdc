use Rattle.std.proofs.Common.{◌<◌, sym, arith}
use Rattle.tlb.proofs.Scans.{found_within}
use Rattle.tlb.proofs.row.Row.try_way.Goals as goal
use Rattle.tlb.proofs.row.Row.try_way.Goals.{In_ok-way}

-- the way found is one of sixteen
inside : (c : In_ok-way) → c.in_ok-way.way < 16
inside c =
    let r = c.args.self.now in
    let full = r.full in
    let l = found_within c.args.page.space c.args.page.page 0 r.ways c.in_ok-way.way (sym c.in_ok-way.ensures) in
    omega arith

pub offset_bounds-self-way : goal.offset_bounds-self-way
offset_bounds-self-way c = let h = inside (goal.at.offset_bounds-self-way c).In_ok-way in omega arith

pub bounds-self-way : goal.bounds-self-way
bounds-self-way c = let h = inside (goal.at.bounds-self-way c).In_ok-way in omega arith
