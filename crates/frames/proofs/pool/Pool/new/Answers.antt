use Rattle.std.proofs.Common.{ℕ, [], length, replicate, refl, ap, ◌∙◌, arith}
use Rattle.frames.specs.declared.state.FrameState.TheVariants.{Free}
use Rattle.frames.proofs.Counting.{all_free}
use Rattle.frames.proofs.Stacks.{stack_none}
use Rattle.frames.proofs.Takes.{pool}
use Rattle.frames.proofs.pool.Pool.new.Goals as goal

pub invariant_of-result : goal.invariant_of-result
invariant_of-result c = record {
  full = (refl, ap length c.empty.ensures.frames);
  bounds = (omega arith, omega arith);
  balance = omega arith;
  piled = λ i l. absurd (omega arith);
  apart = λ i j l u e. absurd (omega arith);
  unused = λ f l. all_free 1024 f;
}

pub returns : goal.returns
returns c =
    ap (pool (replicate 1024 Free) 0 c.min.result) (stack_none c.empty.result.frames c.empty.result.height c.empty.ensures.height)
    ∙ ap (λ (n : ℕ). pool (replicate 1024 Free) 0 n []) c.min.ensures
