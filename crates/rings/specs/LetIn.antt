-- Members let in to a list, what a split lets in to the rings and a division to the turns, and a list without a member.
use Rattle.std.specs.Prelude.{ℕ, suc, cond, List, [], ◌∷◌, ◌++◌, ◌==◌}

-- each member of a list, followed by what comes after it
abbrev pub let_in : (ℕ → List ℕ) → List ℕ → List ℕ
let_in after [] = []
let_in after (x ∷ xs) = x ∷ (after x ++ let_in after xs)

-- n comes after s, and then suc n before o
abbrev pub split_after : (ℕ → ℕ) → ℕ → ℕ → ℕ → ℕ → List ℕ
split_after f n s o x = cond (x == s) (n ∷ []) [] ++ cond (f x == o) (suc n ∷ []) []

-- n comes before first, and suc n before second; where these are one, n comes before suc n
abbrev pub divide_after : (ℕ → ℕ) → ℕ → ℕ → ℕ → ℕ → List ℕ
divide_after f n first second x = cond (f x == first) (n ∷ []) [] ++ cond (f x == second) (suc n ∷ []) []

-- a list without a member
abbrev pub without : ℕ → List ℕ → List ℕ
without t [] = []
without t (x ∷ xs) = cond (x == t) (without t xs) (x ∷ without t xs)
