use Rattle.std.proofs.Common.{◌≡◌, ◌+◌, ap, ◌∙◌, rules}
use Rattle.std.specs.List.{fold}
use Rattle.memory.proofs.Checks.{checked, check_over}
use Rattle.memory.proofs.blocks.check_of.Goals as goal

pub returns : goal.returns
returns c =
    let f : c.fold.result ≡ fold checked (c.args.block + 1) c.as_chunks.result.0.now = search rules in
    f ∙ ap (fold checked (c.args.block + 1)) c.as_chunks.ensures.front
    ∙ check_over c.args.bytes.now c.args.block c.byte_of.result c.byte_of-2.result c.requires c.byte_of.ensures c.byte_of-2.ensures
