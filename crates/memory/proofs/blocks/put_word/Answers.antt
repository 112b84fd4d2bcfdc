use Rattle.std.proofs.Common.{◌≡◌, ℕ, ◌+◌, ◌-◌, List, ap, ◌∙◌, div-one, arith}
use borrow.Rule.Slice.PartMut.{put_mid}
use Rattle.memory.specs.Block.{bytes_of}
use Rattle.memory.proofs.Bytes.{put_from_mid}
use Rattle.memory.proofs.blocks.put_word.Goals as goal

pub returns : goal.returns
unfolding bytes_of
returns c =
    let v : ℕ = c.args.value in
    let d = div-one v in
    let e : c.copy_from_slice.new.self ≡ bytes_of v = cc in
    ap (λ (t : List ℕ). put_mid c.args.at (c.args.at + 8 - c.args.at) c.args.bytes.now t) e
    ∙ put_from_mid c.args.at c.args.bytes.now (bytes_of v) (omega arith)
