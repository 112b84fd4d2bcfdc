-- The settled values, computed.
use Rattle.std.proofs.Common.{refl}
use Rattle.memory.specs.Block.{word_at, check_up_to}
use Rattle.policy.specs.Dial.{sweep, swept}
use Rattle.policy.specs.Tree.{followed, touched}
use Rattle.settled.specs.Settled.{Settled}

pub settled : Settled
unfolding word_at check_up_to followed touched sweep swept
settled =
    record {
      low_edge = refl;
      past_low = refl;
      high_edge = refl;
      leaf_packs = refl;
      pointer_packs = refl;
      superpage = refl;
      misaligned = refl;
      misaligned_is = refl;
      check_0 = refl;
      check_1 = refl;
      plru_fresh = refl;
      plru_after_0 = refl;
      plru_after_8 = refl;
      clock_after_0 = refl;
      clock_after_all = refl;
    }
