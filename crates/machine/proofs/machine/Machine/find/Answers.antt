use Rattle.std.proofs.Common.{ℕ, ◌%◌, ◌<◌, Bool, cond, List, length, set, Err, Option, sym, ap, ◌∙◌, arith}
use Rattle.std.proofs.lemmas.Bool.{eq-eqb}
use Rattle.sv39.specs.Address.{page}
use Rattle.tlb.specs.declared.way.Way.{Way}
use Rattle.tlb.specs.Trying.{served, tried}
use Rattle.machine.specs.declared.refusal.Cause.TheVariants.{Misaligned}
use Rattle.machine.specs.Accesses.{filled, found_by}
use Rattle.machine.specs.State.{State, state_of, row_of}
use Rattle.machine.proofs.Filling.{filled_after_tried}
use Rattle.machine.proofs.States.{did_at}
use Rattle.machine.proofs.machine.Machine.find.Goals as goal

pub returns-in-None : goal.returns-in-None
returns-in-None g c =
    let m = c.args.self.now in
    let s = state_of g.M.Memory.cells g.P.Policy.last m in
    let q = c.args.access.now in
    let hart = c.args.hart.number in
    let space = c.args.space in
    let choice = g.P.Policy.choice m.policy hart in
    let row = tried space (page q.address) q (row_of s hart) in
    let eight = c.try_way.ensures.each in
    let low = c.args.hart.low in
    let h : hart < length s.rows = omega arith in
    let p = c.page_in-page.result in
    let at_space = c.page_in-page.ensures.space in
    let at_page = c.page_in-page.ensures.page ∙ c.page_of.ensures in
    let rows_are =
    c.try_way.ensures.rows
    ∙ ap (λ (n : ℕ). set s.rows hart (tried n p.page q (row_of s hart))) at_space
    ∙ ap (λ (n : ℕ). set s.rows hart (tried space n q (row_of s hart))) at_page in
    let told =
    c.in-None.ensures.answer
    ∙ ap (λ (n : ℕ). served n p.page q (row_of s hart)) at_space
    ∙ ap (λ (n : ℕ). served space n q (row_of s hart)) at_page in
    let after-trying =
    ap (λ (rows : List (List (Option Way))). record { cells = s.cells; frames = s.frames; roots = s.roots; debts = s.debts; harts = s.harts; rows = rows; count = s.count; last = s.last }) rows_are in
    record {
      step =
          did_at (λ (b : Bool). cond b (found_by s choice hart space q (served space (page q.address) q (row_of s hart))) (Err Misaligned, s)) (sym (eq-eqb (q.address % 8) 0 c.if-access-ne0.false))
          (did_at (found_by s choice hart space q) told
          (did_at (λ x. x) (filled_after_tried s choice hart space q row h)
          (did_at (λ (v : State). filled v choice hart space q (row_of v hart)) after-trying c.fill.ensures.step)));
      within = c.fill.ensures.within;
    }
