use Rattle.std.proofs.Common.{Err, sym, ap, ◌∙◌}
use Rattle.std.proofs.lemmas.Result.{err_from_is_err_and, IfOk-from_err}
use Rattle.memory.proofs.Refusals.{inside_from_read, past_from_read}
use Rattle.walker.specs.declared.fault.Stop.TheVariants.{EntryBeyond}
use Rattle.sv39.specs.Levels.{number_of}
use Rattle.walker.specs.Walk.{decided}
use Rattle.walker.proofs.Steps.{look_inside, look_past}
use Rattle.walker.proofs.walking.look.Goals as goal

pub returns-in_err-word : goal.returns-in_err-word
returns-in_err-word g c =
    let p = err_from_is_err_and c.from_residual.result c.from_residual.ensures.1 in
    let r = past_from_read (g.M.Memory.cells c.args.memory.now) c.args.entry c.in_err-word.field-0.0 (sym c.in_err-word.ensures) in
    record {
      value = p.1 ∙ ap Err (p.2 ∙ ap EntryBeyond r.1) ∙ sym (look_past (g.M.Memory.cells c.args.memory.now) c.args.access.now (number_of c.args.level) c.args.entry r.0);
      within = IfOk-from_err c.from_residual.result _ c.from_residual.ensures.0;
    }

pub returns : goal.returns
returns g c =
    let r = inside_from_read (g.M.Memory.cells c.args.memory.now) c.args.entry c.in_ok-word.word (sym c.in_ok-word.ensures) in
    record {
      value =
          c.decide.ensures.value ∙ ap (decided c.args.access.now (number_of c.args.level)) c.unpack.ensures.value
          ∙ sym (look_inside (g.M.Memory.cells c.args.memory.now) c.args.access.now (number_of c.args.level) c.args.entry c.in_ok-word.word r.0 r.1);
      within = c.decide.ensures.within;
    }
