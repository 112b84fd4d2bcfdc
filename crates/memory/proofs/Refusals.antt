-- A read and a write inside the list and past its end.
use Rattle.std.proofs.Common.{◌≡◌, ℕ, ◌<◌, ◌≤◌, ltb, List, length, get_or, Ok, Err, sym, ◌∙◌, ⊎_elim, arith}
use Rattle.std.proofs.lemmas.Bool.{cases_lt, lt-ltb, le-ltb, cond-true, cond-false}
use Rattle.memory.specs.declared.beyond.Beyond.{Beyond}
use Rattle.memory.specs.Cells.{read_of, write_of, beyond}

module _ (cells : List ℕ) (n : ℕ) where
  pub read_inside : n < length cells → read_of cells n ≡ Ok (get_or cells n 0)
  read_inside h = cond-true (ltb n (length cells)) _ _ (lt-ltb n (length cells) h)

  pub read_past : length cells ≤ n → read_of cells n ≡ Err (beyond n)
  read_past h = cond-false (ltb n (length cells)) _ _ (le-ltb n (length cells) h)

  pub write_inside : n < length cells → write_of cells n ≡ Ok tt
  write_inside h = cond-true (ltb n (length cells)) _ _ (lt-ltb n (length cells) h)

  pub write_past : length cells ≤ n → write_of cells n ≡ Err (beyond n)
  write_past h = cond-false (ltb n (length cells)) _ _ (le-ltb n (length cells) h)

  -- what an answered read tells, and a refused one
  pub inside_from_read : (word : ℕ) → read_of cells n ≡ Ok word → (n < length cells) × (get_or cells n 0 ≡ word)
  inside_from_read word e =
      ⊎_elim (λ (h : n < length cells). let r = sym (read_inside h) ∙ e in (h, cc))
      (λ (h : length cells ≤ n).
      let r = sym (read_past h) ∙ e in
      let z : ◌≡◌ {A = ℕ} 0 1 = cc in absurd (omega arith)) (cases_lt n (length cells))

  pub past_from_read : (b : Beyond) → read_of cells n ≡ Err b → (length cells ≤ n) × (b ≡ beyond n)
  past_from_read b e =
      ⊎_elim
      (λ (h : n < length cells).
      let r = sym (read_inside h) ∙ e in
      let z : ◌≡◌ {A = ℕ} 0 1 = cc in absurd (omega arith))
      (λ (h : length cells ≤ n). let r = sym (read_past h) ∙ e in (h, cc)) (cases_lt n (length cells))
