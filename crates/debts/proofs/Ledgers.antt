-- Going through the slots of a ledger one by one.
use Rattle.std.proofs.Common.{◌≡◌, ℕ, suc, ◌+◌, ◌-◌, ◌^◌, ◌==◌, ◌<◌, ◌≤◌, Bool, true, false, cond, eqb, ltb, List, [], ◌∷◌, length, get_or, Some, None, Option, sym, refl, ap, ◌∙◌, arith}
use Rattle.std.proofs.lemmas.Iterator.Adapters.{position_from-zero}
use Rattle.std.specs.List.{position, position_from}
use Rattle.std.specs.Option.{option_map}
use Rattle.tlb.specs.Slots.{empty_slot}
use Rattle.tlb.proofs.Sparse.{empty_below}
use Rattle.debts.specs.declared.debt.Debt.{Debt}
use Rattle.debts.specs.Debts.{Debts, room, open_debt}

-- whether a debt is open and has a number
abbrev pub is_numbered : ℕ → Option Debt → Bool
is_numbered number None = false
is_numbered number (Some d) = d.number == number

-- a search from slot i on finds no lower slot
from_there : (p : Option Debt → Bool) (i : ℕ) (slots : List (Option Debt)) (n : ℕ) → position_from p i slots ≡ Some n → i ≤ n
from_there p i [] n e = let z : ◌≡◌ {A = ℕ} 0 1 = cc in absurd (omega arith)
from_there p i (o ∷ slots) n e = at (p o) (from_there p (i + 1) slots n) e
  where
    at : (b : Bool) → (position_from p (i + 1) slots ≡ Some n → i + 1 ≤ n) → cond b (Some i) (position_from p (i + 1) slots) ≡ Some n → i ≤ n
    at true later t = let z : i ≡ n = cc in omega arith
    at false later t = let l = later t in omega arith

-- the open debt of a number is the one in the slot that a search finds
open_from : (number i : ℕ) (slots : List (Option Debt)) (n : ℕ) → position_from (is_numbered number) i slots ≡ Some n → open_debt number i slots ≡ option_map (λ d. (n, d)) (get_or slots (n - i) None)
open_from number i [] n e = let z : ◌≡◌ {A = ℕ} 0 1 = cc in absurd (omega arith)
open_from number i (None ∷ slots) n e =
    let l = from_there (is_numbered number) (i + 1) slots n e in
    let k : n - i ≡ suc (n - (i + 1)) = omega arith in
    open_from number (i + 1) slots n e ∙ ap (λ (k : ℕ). option_map (λ d. (n, d)) (get_or (None ∷ slots) k None)) (sym k)
open_from number i (Some x ∷ slots) n e = at (x.number == number) (open_from number (i + 1) slots n) (from_there (is_numbered number) (i + 1) slots n) e
  where
    at : (b : Bool) → (position_from (is_numbered number) (i + 1) slots ≡ Some n → open_debt number (i + 1) slots ≡ option_map (λ d. (n, d)) (get_or slots (n - (i + 1)) None)) → (position_from (is_numbered number) (i + 1) slots ≡ Some n → i + 1 ≤ n) → cond b (Some i) (position_from (is_numbered number) (i + 1) slots) ≡ Some n → cond b (Some (i, x)) (open_debt number (i + 1) slots) ≡ option_map (λ d. (n, d)) (get_or (Some x ∷ slots) (n - i) None)
    at true rest later t =
        let z : i ≡ n = cc in
        let k : n - i ≡ 0 = omega arith in
        ap (λ (k : ℕ). Some (k, x)) z ∙ ap (λ (k : ℕ). option_map (λ d. (n, d)) (get_or (Some x ∷ slots) k None)) (sym k)
    at false rest later t =
        let l = later t in
        let k : n - i ≡ suc (n - (i + 1)) = omega arith in
        rest t ∙ ap (λ (k : ℕ). option_map (λ d. (n, d)) (get_or (Some x ∷ slots) k None)) (sym k)

none_from : (number i : ℕ) (slots : List (Option Debt)) → position_from (is_numbered number) i slots ≡ None → open_debt number i slots ≡ None
none_from number i [] e = refl
none_from number i (None ∷ slots) e = none_from number (i + 1) slots e
none_from number i (Some x ∷ slots) e = at (x.number == number) (none_from number (i + 1) slots) e
  where
    at : (b : Bool) → (position_from (is_numbered number) (i + 1) slots ≡ None → open_debt number (i + 1) slots ≡ None) → cond b (Some i) (position_from (is_numbered number) (i + 1) slots) ≡ None → cond b (Some (i, x)) (open_debt number (i + 1) slots) ≡ None
    at true rest t = let z : ◌≡◌ {A = ℕ} 0 1 = cc in absurd (omega arith)
    at false rest t = rest t

pub open_found : (number : ℕ) (slots : List (Option Debt)) (n : ℕ) → Some n ≡ position (is_numbered number) slots → open_debt number 0 slots ≡ option_map (λ d. (n, d)) (get_or slots n None)
open_found number slots n e =
    let k : n - 0 ≡ n = omega arith in
    open_from number 0 slots n (sym (e ∙ position_from-zero (is_numbered number) slots))
    ∙ ap (λ (k : ℕ). option_map (λ d. (n, d)) (get_or slots k None)) k

pub open_not_found : (number : ℕ) (slots : List (Option Debt)) → None ≡ position (is_numbered number) slots → open_debt number 0 slots ≡ None
open_not_found number slots e = none_from number 0 slots (sym (e ∙ position_from-zero (is_numbered number) slots))

-- the slot of a debt that is found is one of those looked through
pub open_below : (slots : List (Option Debt)) (i number n : ℕ) (d : Debt) → open_debt number i slots ≡ Some (n, d) → n < i + length slots
open_below [] i number n d e = let z : ◌≡◌ {A = ℕ} 0 1 = cc in absurd (omega arith)
open_below (None ∷ slots) i number n d e =
    let h : n < i + 1 + length slots = open_below slots (i + 1) number n d e in omega arith
open_below (Some x ∷ slots) i number n d e = go (λ t. open_below slots (i + 1) number n d t) (eqb x.number number) e
  where
    go : (open_debt number (i + 1) slots ≡ Some (n, d) → n < i + 1 + length slots) → (b : Bool) → cond b (Some (i, x)) (open_debt number (i + 1) slots) ≡ Some (n, d) → n < i + length (Some x ∷ slots)
    go later true t =
        let pair : ◌≡◌ {A = ℕ × Debt} (i, x) (n, d) = cc in
        let same : i ≡ n = ap (λ (p : ℕ × Debt). p.0) pair in
        omega arith
    go later false t = omega (arith, later t)

-- the slot of a new debt is one of the ledger's
pub room_below : (v : Debts) (n : ℕ) → room v ≡ Some n → n < length v.slots
room_below v n e = go (ltb v.next (2 ^ 32)) e
  where
    go : (b : Bool) → cond b (empty_slot 0 v.slots) None ≡ Some n → n < length v.slots
    go true t = let h : n < 0 + length v.slots = empty_below v.slots 0 n t in omega arith
    go false t = let z : ◌≡◌ {A = ℕ} 0 1 = cc in absurd (omega arith)
