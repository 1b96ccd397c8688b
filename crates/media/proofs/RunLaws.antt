-- The laws of `run` and `overwrite`.
use Rattle.std.proofs.Common.{◌≡◌, ℕ, ◌+◌, ◌<◌, ◌≤◌, List, [], ◌++◌, length, get_or, take, drop, set, refl, arith, rules}
use borrow.Rule.Slice.PartMut.{put_mid}
use Rattle.std.proofs.lemmas.List.{length-append, length-take, length-drop, length-take-le, take_at, drop_at, drop-drop, same_lists, places, get_or-set_same}
use Rattle.std.proofs.lemmas.Bool.{cases_eq}
use Rattle.media.specs.Runs.{run, overwrite}

-- a write through `&mut s[a..e]`, as a goal has it, is an overwrite
pub put_mid_overwrite : {X : Type 0} (a k : ℕ) (xs ys zs : List X) → ys ≡ zs → k ≡ length zs → put_mid a k xs ys ≡ overwrite xs a zs
put_mid_overwrite a k xs ys zs e f = rw (e, f, drop-drop)

pub length_run : {X : Type 0} (xs : List X) (a n : ℕ) → a + n ≤ length xs → length (run xs a n) ≡ n
length_run xs a n h = simp (length-take, length-drop) (omega arith)

pub length_overwrite : {X : Type 0} (xs ws : List X) (a : ℕ) → a + length ws ≤ length xs → length (overwrite xs a ws) ≡ length xs
length_overwrite xs ws a h = simp (length-append, length-take, length-drop) (omega arith)

-- what was written is read back
pub run_overwrite : {X : Type 0} (xs ws : List X) (a : ℕ) → a ≤ length xs → run (overwrite xs a ws) a (length ws) ≡ ws
run_overwrite xs ws a h = rw (drop_at (take a xs) (ws ++ drop (a + length ws) xs) a (length-take-le a xs h)) (take_at ws (drop (a + length ws) xs) (length ws) refl)

-- a run that the write does not touch
pub run_overwrite_below : {X : Type 0} (xs ws : List X) (a b n : ℕ) → b + n ≤ a → a + length ws ≤ length xs → run (overwrite xs a ws) b n ≡ run xs b n
run_overwrite_below xs ws a b n h l = same_lists _ _ (simp (length-append, length-take, length-drop) (omega arith)) (λ k d p. grind (arith, places))

pub run_overwrite_above : {X : Type 0} (xs ws : List X) (a b n : ℕ) → a + length ws ≤ b → a + length ws ≤ length xs → run (overwrite xs a ws) b n ≡ run xs b n
run_overwrite_above xs ws a b n h l = same_lists _ _ (simp (length-append, length-take, length-drop) (omega arith)) (λ k d p. grind (arith, places))

-- a run of a run
pub run_run : {X : Type 0} (xs : List X) (a n b m : ℕ) → b + m ≤ n → run (run xs a n) b m ≡ run xs (a + b) m
run_run xs a n b m h = same_lists _ _ (simp (length-take, length-drop) (omega arith)) (λ k d p. grind (arith, places))

-- a loop that writes one element after another
pub overwrite_none : {X : Type 0} (xs : List X) (a : ℕ) → overwrite xs a [] ≡ xs
overwrite_none xs a = same_lists _ _ (simp (length-append, length-take, length-drop) (omega arith)) (λ k d p. grind (arith, places))

pub overwrite_more : {X : Type 0} (xs ws : List X) (a i : ℕ) (d : X) → a + i < length xs → i < length ws → set (overwrite xs a (take i ws)) (a + i) (get_or ws i d) ≡ overwrite xs a (take (i + 1) ws)
overwrite_more xs ws a i d h l = same_lists _ _ (search (rules, places)) (λ k d p. grind (arith, places, get_or-set_same, cases_eq k (a + i)))

-- what is written back as it stood changes nothing
pub overwrite_run : {X : Type 0} (xs : List X) (a n : ℕ) → a + n ≤ length xs → overwrite xs a (run xs a n) ≡ xs
overwrite_run xs a n h = same_lists _ _ (length_overwrite xs (run xs a n) a (omega (arith, length_run xs a n h))) (λ k d p. let l = length_run xs a n h in grind (arith, places))
