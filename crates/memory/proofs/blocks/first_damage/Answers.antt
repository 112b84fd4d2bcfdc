use Rattle.std.proofs.Common.{◌≡◌, ℕ, Some, None, Option, not, sym, ap, ◌∙◌, rules, tests, refl, arith}
use Rattle.std.specs.List.{find, range_with_len}
use Rattle.std.specs.Option.{option_map}
use Rattle.std.proofs.lemmas.Iterator.{YieldsList-from_range}
use Rattle.std.proofs.lemmas.Iterator.Search.{find_from_yields_List}
use Rattle.memory.specs.Block.{sound, blocks_in, verdict, look_over}
use Rattle.memory.proofs.Checks.{looked_over, lowest_found}
use Rattle.memory.proofs.blocks.first_damage.Goals as goal
use Rattle.memory.proofs.blocks.first_damage.Goals.{After-find}

found : (c : After-find) → option_map (λ (b : ℕ). b) c.find.result ≡ find (λ (b : ℕ). not (sound c.args.bytes.now b)) (range_with_len 0 (blocks_in c.args.bytes.now))
found c =
    find_from_yields_List (λ (b : ℕ). not (sound c.args.bytes.now b)) _ _ c.find.result c.find.ensures.ran
    (YieldsList-from_range 0 (blocks_in c.args.bytes.now) (blocks_in c.args.bytes.now) refl (omega arith))
    (λ x b q k. search (rules, tests))

-- what the search found is the look-over's answer
told : (c : After-find) (o : Option ℕ) → c.find.result ≡ o → verdict (option_map (λ (b : ℕ). b) o) ≡ look_over c.args.bytes.now
told c o e =
    ap verdict (ap (option_map (λ (b : ℕ). b)) (sym e) ∙ found c ∙ lowest_found c.args.bytes.now 0 (blocks_in c.args.bytes.now))
    ∙ sym (looked_over c.args.bytes.now c.if-len-eq0.false c.if-len-ne0.false)

pub returns-in-Some : goal.returns-in-Some
returns-in-Some c = told (goal.at.returns-in-Some c).After-find (Some c.in-Some.block) c.in-Some.is

pub returns-in-None : goal.returns-in-None
returns-in-None c = told (goal.at.returns-in-None c).After-find None c.in-None.is
