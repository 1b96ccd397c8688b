-- Two sides more, as functions of the side.
use Rattle.std.proofs.Common.{◌≡◌, ℕ, suc, ◌-◌, ◌<◌, ◌≤◌, ◌⊎◌, List, [], ◌∷◌, ◌++◌, length, get_or, sym, refl, ap, ◌∙◌, inl, inr, arith}
use mathlib.Core.Path.{fun_ext}
use Rattle.std.proofs.lemmas.Bool.{cases_eq, cases_lt}
use Rattle.std.proofs.lemmas.List.{get_or_append_left, get_or-append_right, get_or_past}
use Rattle.rings.specs.Circles.{put}
use Rattle.rings.proofs.Links.{put_same, put_other}
use Rattle.topology.specs.declared.side.Side.{Side}
use Rattle.topology.specs.Rows.{no_side}

-- a field of the rows as a function of the side
abbrev pub field : (Side → ℕ) → List Side → ℕ → ℕ
field F us k = F (get_or us k no_side)

at_first : (F : Side → ℕ) (us : List Side) (a b : Side) → field F (us ++ a ∷ b ∷ []) (length us) ≡ F a
at_first F us a b =
    let e : length us - length us ≡ 0 = omega arith in
    ap F (get_or-append_right us (a ∷ b ∷ []) (length us) (length us) no_side refl (omega arith) ∙ ap (λ (j : ℕ). get_or (a ∷ b ∷ []) j no_side) e)

at_second : (F : Side → ℕ) (us : List Side) (a b : Side) → field F (us ++ a ∷ b ∷ []) (suc (length us)) ≡ F b
at_second F us a b =
    let e : suc (length us) - length us ≡ 1 = omega arith in
    ap F (get_or-append_right us (a ∷ b ∷ []) (length us) (suc (length us)) no_side refl (omega arith) ∙ ap (λ (j : ℕ). get_or (a ∷ b ∷ []) j no_side) e)

pub field_two : (F : Side → ℕ) (us : List Side) (a b : Side) → field F (us ++ a ∷ b ∷ []) ≡ put (put (field F us) (length us) (F a)) (suc (length us)) (F b)
field_two F us a b =
    fun_ext
    (λ k.
    elim (cases_eq k (suc n)) [
      | inl e ↦ ap (field F xs) e ∙ (at_second F us a b ∙ sym (ap (put (put (field F us) n (F a)) (suc n) (F b)) e ∙ put_same (put (field F us) n (F a)) (suc n) (F b)))
      | inr ns ↦
          elim (cases_eq k n) [
            | inl e ↦
                ap (field F xs) e ∙ (at_first F us a b
                ∙ sym (put_other (put (field F us) n (F a)) (suc n) (F b) k ns ∙ (ap (put (field F us) n (F a)) e ∙ put_same (field F us) n (F a))))
            | inr ne ↦
                rest k (cases_lt k n) ne ns ∙ sym (put_other (put (field F us) n (F a)) (suc n) (F b) k ns ∙ put_other (field F us) n (F a) k ne)
          ]
    ])
  where
    n : ℕ
    n = length us

    xs : List Side
    xs = us ++ a ∷ b ∷ []

    rest : (k : ℕ) → (k < length us) ⊎ (length us ≤ k) → (k ≡ length us → ⊥) → (k ≡ suc (length us) → ⊥) → field F (us ++ a ∷ b ∷ []) k ≡ field F us k
    rest k (inl l) ne ns = ap F (get_or_append_left us (a ∷ b ∷ []) no_side k l)
    rest k (inr g) ne ns =
        ap F (get_or-append_right us (a ∷ b ∷ []) (length us) k no_side refl g ∙ get_or_past (a ∷ b ∷ []) (k - length us) no_side (omega arith) ∙ sym (get_or_past us k no_side g))
