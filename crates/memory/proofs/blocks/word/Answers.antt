use Rattle.std.proofs.Common.{◌≡◌, ℕ, ◌+◌, ◌-◌, List, take, drop, ap, ◌∙◌, arith}
use Rattle.std.proofs.lemmas.Result.{MatchResult-at_ok}
use Rattle.std.specs.Int.{w64, from_le_bytes}
use Rattle.memory.proofs.Bytes.{word_of_eight}
use Rattle.memory.proofs.blocks.word.Goals as goal

pub returns : goal.returns
returns c =
    let n : c.args.at + 8 - c.args.at ≡ 8 = omega arith in
    let w = MatchResult-at_ok _ _ c.unwrap.result c.unwrap.ensures c.try_into.ensures.1 in
    let e : c.unwrap.result ≡ take 8 (drop c.args.at c.args.bytes.now) = w.same ∙ ap (λ (k : ℕ). take k (drop c.args.at c.args.bytes.now)) n in
    c.from_le_bytes.ensures ∙ ap (λ (xs : List ℕ). from_le_bytes w64 xs) e ∙ word_of_eight c.args.bytes.now c.args.at
