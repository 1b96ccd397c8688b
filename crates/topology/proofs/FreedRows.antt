-- Two free rows put back as they were.
use Rattle.std.proofs.Common.{◌≡◌, ℕ, ◌+◌, ◌≤◌, List, ◌∷◌, length, get_or, take, drop, set, sym, ap, ◌∙◌, arith}
use Rattle.std.proofs.lemmas.List.{length-set, take-set-le, drop-set-lt, drop_more, get_or-set_same, get_or-set_other}
use Rattle.topology.specs.declared.side.Side.{Side}
use Rattle.topology.specs.Rows.{no_side}

module _ (rows full : List Side) (n : ℕ) (fit : n + 2 ≤ length full) (same : length rows ≡ length full) (beyond : drop (n + 2) rows ≡ drop (n + 2) full) where
  abbrev x : Side
  x = get_or full n no_side

  abbrev y : Side
  y = get_or full (n + 1) no_side

  abbrev back : List Side
  back = set (set rows n x) (n + 1) y

  pub back_rows : take n back ≡ take n rows
  back_rows = take-set-le n (set rows n x) (n + 1) y (omega arith) ∙ take-set-le n rows n x (omega arith)

  pub back_long : length back ≡ length full
  back_long = length-set (set rows n x) (n + 1) y ∙ (length-set rows n x ∙ same)

  first_back : get_or back n no_side ≡ x
  first_back = get_or-set_other (set rows n x) (n + 1) n y no_side (λ e. omega (arith, e)) ∙ get_or-set_same rows n x no_side (omega (arith, same, fit))

  second_back : get_or back (n + 1) no_side ≡ y
  second_back = get_or-set_same (set rows n x) (n + 1) y no_side (omega (arith, length-set rows n x, same, fit))

  two_on : n + 1 + 1 ≡ n + 2
  two_on = omega arith

  after_back : drop (n + 1 + 1) back ≡ drop (n + 1 + 1) full
  after_back =
      drop-set-lt (n + 1 + 1) (set rows n x) (n + 1) y (omega arith)
      ∙ (drop-set-lt (n + 1 + 1) rows n x (omega arith) ∙ (ap (λ (k : ℕ). drop k rows) two_on ∙ (beyond ∙ ap (λ (k : ℕ). drop k full) (sym two_on))))

  pub back_rest : drop n back ≡ drop n full
  back_rest =
      drop_more back n no_side (omega (arith, back_long, fit))
      ∙ (ap (λ (r : Side). r ∷ drop (n + 1) back) first_back
      ∙ (ap (λ (rs : List Side). x ∷ rs)
      (drop_more back (n + 1) no_side (omega (arith, back_long, fit))
      ∙ (ap (λ (r : Side). r ∷ drop (n + 1 + 1) back) second_back
      ∙ (ap (λ (rs : List Side). y ∷ rs) after_back ∙ sym (drop_more full (n + 1) no_side (omega (arith, fit))))))
      ∙ sym (drop_more full n no_side (omega (arith, fit)))))
