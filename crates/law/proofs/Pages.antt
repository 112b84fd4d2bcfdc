-- A page's address is told by its indexes.
use Rattle.std.proofs.Common.{◌≡◌, ℕ, ◌-◌, ◌/◌, ◌%◌, ◌^◌, Bool, true, cond, eqb, sym, ap, ◌∙◌, arith}
use Rattle.std.proofs.lemmas.Bool.{and_parts, eqb-true}
use Rattle.sv39.specs.Address.{canonical, index}
use Rattle.sv39.specs.Layout.{bit}
use Rattle.machine.specs.Pages.{is_page}

-- bit 38 is the top bit of the highest index
bit_by_index : (a b : ℕ) → index a 2 ≡ index b 2 → bit a 38 ≡ bit b 38
bit_by_index a b e =
    let q : a / 2 ^ 38 % 2 ≡ b / 2 ^ 38 % 2 = omega arith in
    ap (λ (n : ℕ). eqb n 1) q

pub page_by_index : (a b : ℕ) → is_page a ≡ true → is_page b ≡ true → index a 2 ≡ index b 2 → index a 1 ≡ index b 1 → index a 0 ≡ index b 0 → a ≡ b
page_by_index a b pa pb e2 e1 e0 =
    let ca = and_parts (canonical a) (eqb (a % 4096) 0) pa in
    let cb = and_parts (canonical b) (eqb (b % 4096) 0) pb in
    let ha = eqb-true (a / 2 ^ 39) (cond (bit a 38) (2 ^ 25 - 1) 0) ca.0 in
    let hb = eqb-true (b / 2 ^ 39) (cond (bit b 38) (2 ^ 25 - 1) 0) cb.0 in
    let h : a / 2 ^ 39 ≡ b / 2 ^ 39 = ha ∙ ap (λ (t : Bool). cond t (2 ^ 25 - 1) 0) (bit_by_index a b e2) ∙ sym hb in
    let la = eqb-true (a % 4096) 0 ca.1 in
    let lb = eqb-true (b % 4096) 0 cb.1 in
    omega arith
