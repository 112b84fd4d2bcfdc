use Rattle.std.proofs.Common.{◌≡◌, ℕ, ◌/◌, ◌^◌, ◌<◌, true, List, sym, subst, arith}
use Rattle.memory.specs.Block.{put, bytes_of, start_of, byte_of, check_for, stored, sound}
use Rattle.memory.proofs.Checks.{mid, done, sound_done}
use Rattle.memory.proofs.blocks.store.Goals as goal

pub returns : goal.returns
unfolding mid done
returns c =
    let b : List ℕ = c.args.bytes.now in
    let n : ℕ = c.args.n in
    let v : ℕ = c.args.value in
    let at : c.byte_of.result ≡ start_of n = omega arith in
    let last : c.byte_of-2.result ≡ byte_of (n / 63) 63 = omega arith in
    let m : c.put_word.new.bytes ≡ put b (start_of n) (bytes_of v) = cc in
    let k : c.check_of-check.result ≡ check_for (put b (start_of n) (bytes_of v)) (n / 63) = cc in
    let after : c.put_word-2.new.bytes ≡ stored b n v = cc in
    let small : check_for (put b (start_of n) (bytes_of v)) (n / 63) < 2 ^ 64 = subst (λ (i : ℕ). i < 2 ^ 64) k c.check_of-check.type_inv in
    record {
      after = after;
      sound = λ a t. subst (λ (bs : List ℕ). sound bs a ≡ true) (sym after) (sound_done b n v c.requires small a t);
    }
