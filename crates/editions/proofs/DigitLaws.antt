use Rattle.std.proofs.Common.{◌≡◌, ℕ, zero, suc, ◌+◌, ◌*◌, ◌/◌, ◌%◌, ◌^◌, ◌<◌, ◌≤◌, List, [], ◌∷◌, ◌++◌, length, get_or, take, drop, replicate, Ok, Err, Result, sym, refl, ap, ◌∙◌, pow-suc, arith}
use borrow.Rule.Slice.PartMut.{put_mid}
use Rattle.refusal.specs.declared.Refusal.{Refusal}
use Rattle.std.proofs.lemmas.List.{length-append, length-drop, drop_all}
use Rattle.media.specs.Posts.{Written}
use Rattle.std.specs.List.{AllByRecursion}
use Rattle.std.proofs.lemmas.Nat.{div_below}
use Rattle.media.specs.Runs.{run, overwrite}
use Rattle.media.proofs.RunLaws.{run_overwrite, put_mid_overwrite}
use Rattle.editions.specs.Numbers.{little, digits, number_at, Stored}

pub length_digits : (w n : ℕ) → length (digits w n) ≡ w
length_digits zero n = refl
length_digits (suc w) n = ap suc (length_digits w (n / 256))

-- a number of w bytes is read back from its bytes
pub little_digits : (w n : ℕ) → n < 256 ^ w → little (digits w n) ≡ n
little_digits zero n h = omega arith
little_digits (suc w) n h =
    let k : n / 256 < 256 ^ w = div_below n 256 (256 ^ w) (omega arith) (rw pow-suc at h) in
    omega (arith, little_digits w (n / 256) k)

-- bytes are written again as they were
pub digits_little : (bs : List ℕ) → AllByRecursion (λ b. b < 256) bs → digits (length bs) (little bs) ≡ bs
digits_little [] h = refl
digits_little (b ∷ bs) h =
    let q : (b + 256 * little bs) / 256 ≡ little bs = omega (arith, h.0) in
    let r : (b + 256 * little bs) % 256 ≡ b = omega (arith, h.0) in
    rw (q, r) (ap (λ t. b ∷ t) (digits_little bs h.1))

-- a number that is stored at a place is read there
pub little_stored : (bs : List ℕ) (at w n : ℕ) → at + w ≤ length bs → n < 256 ^ w → little (run (overwrite bs at (digits w n)) at w) ≡ n
little_stored bs at w n h l =
    ap (λ k. little (run (overwrite bs at (digits w n)) at k)) (sym (length_digits w n))
    ∙ ap little (run_overwrite bs (digits w n) at (omega arith)) ∙ little_digits w n l

-- the lowest bytes of a number are the lowest of more of them
pub take_digits : (w m n : ℕ) → w ≤ m → take w (digits m n) ≡ digits w n
take_digits zero m n h = refl
take_digits (suc w) zero n h = absurd (omega (arith, h))
take_digits (suc w) (suc m) n h = ap (λ t. n % 256 ∷ t) (take_digits w m (n / 256) (omega (arith, h)))

-- what `to_le_bytes` writes
pub digits_8 : (n : ℕ) → (n % 256) ∷ (n / 256 % 256) ∷ (n / 65536 % 256) ∷ (n / 16777216 % 256) ∷ (n / 4294967296 % 256) ∷ (n / 1099511627776 % 256) ∷ (n / 281474976710656 % 256) ∷ (n / 72057594037927936 % 256) ∷ [] ≡ digits 8 n
digits_8 n =
    let a : n / 65536 ≡ n / 256 / 256 = omega arith in
    let b : n / 16777216 ≡ n / 256 / 256 / 256 = omega arith in
    let d : n / 4294967296 ≡ n / 256 / 256 / 256 / 256 = omega arith in
    let e : n / 1099511627776 ≡ n / 256 / 256 / 256 / 256 / 256 = omega arith in
    let f : n / 281474976710656 ≡ n / 256 / 256 / 256 / 256 / 256 / 256 = omega arith in
    let g : n / 72057594037927936 ≡ n / 256 / 256 / 256 / 256 / 256 / 256 / 256 = omega arith in
    rw (a, b, d, e, f, g)

-- what `from_le_bytes` reads
little_from : (bs : List ℕ) (k : ℕ) → little (drop k bs) ≡ get_or bs k 0 + 256 * little (drop (suc k) bs)
little_from [] zero = refl
little_from [] (suc k) = refl
little_from (b ∷ bs) zero = refl
little_from (b ∷ bs) (suc k) = little_from bs k

little_zeros : (n k : ℕ) → little (drop k (replicate n 0)) ≡ 0
little_zeros zero zero = refl
little_zeros zero (suc k) = refl
little_zeros (suc n) zero = omega (arith, little_zeros n 0)
little_zeros (suc n) (suc k) = little_zeros n k

little_before : (bs cs : List ℕ) → little cs ≡ 0 → little (bs ++ cs) ≡ little bs
little_before [] cs h = h
little_before (b ∷ bs) cs h = ap (λ n. b + 256 * n) (little_before bs cs h)

abbrev pub eight : List ℕ → ℕ
eight bs =
    get_or bs 0 0 + get_or bs 1 0 * 256 + get_or bs 2 0 * 65536 + get_or bs 3 0 * 16777216
    + get_or bs 4 0 * 4294967296 + get_or bs 5 0 * 1099511627776 + get_or bs 6 0 * 281474976710656 + get_or bs 7 0 * 72057594037927936

little_eight : (bs : List ℕ) → length bs ≡ 8 → eight bs ≡ little bs
little_eight bs h =
    let none : drop 8 bs ≡ [] = drop_all 8 bs (omega (arith, h)) in
    let zero_left : little (drop 8 bs) ≡ 0 = ap little none in
    omega (arith, zero_left, little_from bs 0, little_from bs 1, little_from bs 2, little_from bs 3, little_from bs 4, little_from bs 5, little_from bs 6, little_from bs 7)

-- bytes that zeros follow
pub eight_padded : (bs : List ℕ) (w : ℕ) → length bs ≡ w → w ≤ 8 → eight (bs ++ drop w (replicate 8 0)) ≡ little bs
eight_padded bs w e h =
    let l : length (bs ++ drop w (replicate 8 0)) ≡ 8 = simp (length-append, length-drop) (omega (arith, e, h)) in
    little_eight _ l ∙ little_before bs (drop w (replicate 8 0)) (little_zeros 8 w)

pub little_lt : (bs : List ℕ) → AllByRecursion (λ b. b < 256) bs → little bs < 256 ^ length bs
little_lt [] h = omega arith
little_lt (b ∷ bs) h = rw pow-suc (omega (arith, little_lt bs h.1, h.0))

-- a number that is written at a place where it fits
pub stored_from_written : {X : Type 0} (bs is : List ℕ) (at w n : ℕ) (r : Result X Refusal) → at + w ≤ length bs → n < 256 ^ w → Written bs at (digits w n) is r → Stored w bs at n is r
stored_from_written bs is at w n (Ok x) h l (p, e) = (h, l, e, ap (λ bs. number_at w bs at) e ∙ little_stored bs at w n h l)
stored_from_written bs is at w n (Err x) h l (p, q, e) = absurd (omega (arith, length_digits w n))

-- what `to_le_bytes` writes of four bytes
pub digits_4 : (n : ℕ) → (n % 256) ∷ (n / 256 % 256) ∷ (n / 65536 % 256) ∷ (n / 16777216 % 256) ∷ [] ≡ digits 4 n
digits_4 n =
    let a : n / 65536 ≡ n / 256 / 256 = omega arith in
    let b : n / 16777216 ≡ n / 256 / 256 / 256 = omega arith in
    rw (a, b)

-- a number that is written through `&mut bytes[at..at + w]`
pub stored_number : (bs : List ℕ) (at w n k : ℕ) (ys : List ℕ) → k ≡ w → at + w ≤ length bs → n < 256 ^ w → ys ≡ digits w n
    → (at + w ≤ length bs) × (n < 256 ^ w) × (put_mid at k bs ys ≡ overwrite bs at (digits w n)) × (number_at w (put_mid at k bs ys) at ≡ n)
stored_number bs at w n k ys q h l e =
    let d : put_mid at k bs ys ≡ overwrite bs at (digits w n) = put_mid_overwrite at k bs ys (digits w n) e (q ∙ sym (length_digits w n)) in
    (h, l, d, ap (λ is. number_at w is at) d ∙ little_stored bs at w n h l)
