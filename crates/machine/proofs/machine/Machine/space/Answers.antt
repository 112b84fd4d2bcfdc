use Rattle.std.proofs.Common.{◌<◌, sym, ◌∙◌, arith}
use Rattle.tlb.proofs.Sparse.{empty_below}
use Rattle.machine.proofs.machine.Machine.space.Given.{Over}
use Rattle.machine.proofs.machine.Machine.space.Goals as goal
use Rattle.machine.proofs.machine.Machine.space.Goals.{In_ok-number}

-- the number is one of eight
inside : (g : Over) (c : In_ok-number g) → c.in_ok-number.number < 8
inside g c =
    let core = c.args.self.now.core in
    let full = core.full in
    let l = empty_below core.roots 0 c.in_ok-number.number (sym c.lowest_empty.ensures ∙ c.in_ok-number.ensures.ok_part) in
    omega arith

pub offset_bounds-self-number : goal.offset_bounds-self-number
offset_bounds-self-number g c = let h = inside g (goal.at.offset_bounds-self-number g c).In_ok-number in omega arith

pub bounds-self-number : goal.bounds-self-number
bounds-self-number g c = let h = inside g (goal.at.bounds-self-number g c).In_ok-number in omega arith
