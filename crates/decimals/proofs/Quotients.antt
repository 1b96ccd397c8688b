-- A quotient of two whole numbers that doubles hold is rounded once.
use Rattle.std.proofs.Common.{◌≡◌, ℕ, zero, suc, ◌+◌, ◌*◌, ◌^◌, ◌<◌, ◌≤◌, Bool, true, false, cond, eqb, ltb, ℤ, pos, negsuc, sym, refl, ap, ◌∙◌, lt_of_lt_of_le, lt_of_le_of_lt, mul_assoc, mul_comm, mul-lt-mul_of_pos_right, mul-pos, pow-suc, zero-mul, mul-one, arith, lit<, lit≤, pow_pos}
use native.Mathlib.Nat.{pow-le-pow_right}
use lib.Ieee.{Float, nan, inf, fin, Format, binary64, prec, emax, low, up, down, odd, units, round, of_int, div, neg}
use lib.Ieee.Exact.{HasValue, round_exact}
use lib.Ieee.Scale.{round_same}
use Rattle.std.proofs.lemmas.Bool.{ne_eqb}

down_pos : (e : ℤ) → 0 < down e
down_pos (pos k) = omega arith
down_pos (negsuc k) = pow_pos (suc k)

-- a whole number below 2 ^ 53 is a double
pub whole_exact : (n : ℕ) → n < 2 ^ 53 → HasValue (of_int binary64 (pos n)) false n 1
unfolding of_int
whole_exact n h = round_exact binary64 false n 1 n 1074 (omega arith) h (lt_of_lt_of_le (mul-lt-mul_of_pos_right h (pow_pos 1074)) (lit≤ tt)) (sym (mul-one (n * 2 ^ 1074)))

positive : (a b : ℕ) → a ≡ b → 0 < b → 0 < a
positive a b e h = omega (arith, e, h)

nothing : (q u : ℕ) → q ≡ 0 → 0 < q * u → ⊥
nothing q u z h = let w : q * u ≡ 0 = ap (λ k. k * u) z ∙ zero-mul u in omega (arith, w, h)

-- a / e is n, and b / d is p
crossed : (a b e d n p : ℕ) → a ≡ n * e → b ≡ p * d → a * d * p ≡ n * (b * e)
crossed a b e d n p x y =
    rw (x, y)
    (ap (λ k. k * p) (mul_assoc n e d) ∙ mul_assoc n (e * d) p ∙ ap (λ k. n * k) (mul_comm (e * d) p ∙ ap (λ k. p * k) (mul_comm e d) ∙ sym (mul_assoc p d e)))

pub quotient_once : (x y : Float) (n p : ℕ) → HasValue x false n 1 → HasValue y false p 1 → 0 < p → div binary64 x y ≡ round binary64 false n p
unfolding div
quotient_once nan y n p h k l = absurd h
quotient_once (inf s) y n p h k l = absurd h
quotient_once (fin s m e) nan n p h k l = absurd k
quotient_once (fin s m e) (inf t) n p h k l = absurd k
quotient_once (fin s m e) (fin t q d) n p h k l =
    let above : 0 < q * up d = positive (q * up d) (p * down d) (sym (mul-one (q * up d)) ∙ k.1) (mul-pos l (down_pos d)) in
    let some : eqb q 0 ≡ false = ne_eqb q 0 (λ z. nothing q (up d) z above) in
    rw (some, h.0, k.0)
    (round_same binary64 false (m * up e * down d) (q * up d * down e) n p (mul-pos above (down_pos e)) l
    (crossed (m * up e) (q * up d) (down e) (down d) n p (sym (mul-one (m * up e)) ∙ h.1) (sym (mul-one (q * up d)) ∙ k.1)))

neg_odd : (d q k l : ℕ) → neg (odd d false q k l) ≡ odd d true q k l
unfolding neg odd
neg_odd d zero k l = refl
neg_odd d (suc q) k l = refl

neg_units : (f : Format) (q k : ℕ) → neg (units f false q k) ≡ units f true q k
unfolding neg units
neg_units f q k = at (ltb (q * 2 ^ k) (2 ^ (low f + suc (emax f))))
  where
    at : (b : Bool) → neg (cond b (odd (suc (prec f)) false q k (low f)) (inf false)) ≡ cond b (odd (suc (prec f)) true q k (low f)) (inf true)
    at true = neg_odd (suc (prec f)) q k (low f)
    at false = refl

pub neg_round : (f : Format) (a b : ℕ) → neg (round f false a b) ≡ round f true a b
unfolding round
neg_round f a b = neg_units f _ _

pub ten_low : (k : ℕ) → k ≤ 15 → 10 ^ k < 2 ^ 53
ten_low k h = lt_of_le_of_lt (pow-le-pow_right {n = 10} (omega arith) h) (lit< tt)

pub ten_pos : (k : ℕ) → 0 < 10 ^ k
ten_pos zero = lit< tt
ten_pos (suc k) = rw pow-suc (omega (arith, ten_pos k))
