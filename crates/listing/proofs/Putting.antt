-- Text put piece after piece.
use Rattle.std.proofs.Common.{◌≡◌, ℕ, zero, suc, ◌+◌, ◌*◌, ◌/◌, ◌%◌, ◌^◌, ◌<◌, ◌≤◌, true, false, cond, eqb, List, [], ◌∷◌, ◌++◌, length, set, codes, decimal, Option, Some, None, IfSome, IfNone, MatchOption, sym, refl, ap, ◌∙◌, subst, pow-suc, lit<, arith}
use lib.Seq.{sets}
use Rattle.std.proofs.Math.Nat.{one-le-pow}
use Rattle.std.proofs.lemmas.List.{length-append, append_assoc, length_push, set_past}
use Rattle.std.proofs.lemmas.Fmt.{decimal_digit, decimal_step, decimal_nonempty, length-decimal-le}
use Rattle.listing.specs.Puts.{Put, PutsAt, Puts, two, four}
use Rattle.listing.specs.declared.puts.Lister.{Lister}
use Rattle.listing.specs.Texts.{counts_line, side_text}

sets_append : (xs : List ℕ) (at : ℕ) (ws vs : List ℕ) → sets (sets xs at ws) (at + length ws) vs ≡ sets xs at (ws ++ vs)
sets_append xs at [] vs = ap (λ (k : ℕ). sets xs k vs) (omega arith)
sets_append xs at (w ∷ ws) vs = ap (λ (k : ℕ). sets (sets xs at (w ∷ ws)) k vs) (omega arith) ∙ sets_append (set xs at w) (suc at) ws vs

-- a text, and then another
pub put_then : {was : List ℕ} {at : ℕ} {ws mid : List ℕ} {to : ℕ} {vs is : List ℕ} {end : ℕ} → Put was at ws mid to → Put mid to vs is end → Put was at (ws ++ vs) is end
put_then {was = was} {at = at} {ws = ws} {to = to} {vs = vs} p q =
    record {
      next = omega (arith, p.next, q.next, length-append ws vs);
      after = q.after ∙ ap (λ (xs : List ℕ). sets xs to vs) p.after ∙ ap (λ (k : ℕ). sets (sets was at ws) k vs) p.next ∙ sets_append was at ws vs;
    }

pub put_same : {was : List ℕ} {at : ℕ} {ws vs is : List ℕ} {to : ℕ} → ws ≡ vs → Put was at ws is to → Put was at vs is to
put_same {was = was} {at = at} {is = is} {to = to} e p = subst (λ (xs : List ℕ). Put was at xs is to) e p

-- ---- the same where the bytes can be counted

pub puts_at_then : {was : List ℕ} {at : ℕ} {ws mid : List ℕ} {to : ℕ} {vs is : List ℕ} {end : ℕ} → PutsAt was at ws mid to → PutsAt mid to vs is end → PutsAt was at (ws ++ vs) is end
puts_at_then {ws = ws} {vs = vs} p q h =
    let a = p (omega (arith, h, length-append ws vs)) in
    put_then a (q (omega (arith, h, a.next, length-append ws vs)))

pub puts_at_same : {was : List ℕ} {at : ℕ} {ws vs is : List ℕ} {to : ℕ} → ws ≡ vs → PutsAt was at ws is to → PutsAt was at vs is to
puts_at_same {was = was} {at = at} {is = is} {to = to} e p = subst (λ (xs : List ℕ). PutsAt was at xs is to) e p

-- ---- the same of a listing

pub puts_then : {was mid is : Lister} {ws vs : List ℕ} → Puts was mid ws → Puts mid is vs → Puts was is (ws ++ vs)
puts_then p q = record { put = puts_at_then p.put q.put; same = q.same ∙ p.same; map = q.map ∙ p.map }

pub puts_same : {was is : Lister} {ws vs : List ℕ} → ws ≡ vs → Puts was is ws → Puts was is vs
puts_same {was = was} {is = is} e p = subst (λ (xs : List ℕ). Puts was is xs) e p

-- under another name for what was left
pub puts_as : {was is other : Lister} {ws : List ℕ} → other ≡ is → Puts was is ws → Puts was other ws
puts_as {was = was} {ws = ws} e p = subst (λ (w : Lister). Puts was w ws) (sym e) p

-- of the whole text, all but what is left was put
pub record Rest (was is : Lister) (whole left : List ℕ) : Type 0 where
  pub next : was.at + length whole < 2 ^ 64 → is.at + length left ≡ was.at + length whole
  pub after : was.at + length whole < 2 ^ 64 → sets is.out.now is.at left ≡ sets was.out.now was.at whole
  pub same : is.out.ghost_name ≡ was.out.ghost_name
  pub map : is.map ≡ was.map

pub rest_more : {was mid is : Lister} {whole ws vs : List ℕ} → Rest was mid whole (ws ++ vs) → Puts mid is ws → Rest was is whole vs
rest_more {mid = mid} {is = is} {ws = ws} {vs = vs} r p =
    record {
      next = λ h. let e = r.next h in omega (arith, e, (p.put (omega (arith, h, e, length-append ws vs))).next, length-append ws vs);
      after = λ h.
          let q = p.put (omega (arith, h, r.next h, length-append ws vs)) in
          ap (λ (xs : List ℕ). sets xs is.at vs) q.after ∙ ap (λ (k : ℕ). sets (sets mid.out.now mid.at ws) k vs) q.next ∙ sets_append mid.out.now mid.at ws vs ∙ r.after h;
      same = p.same ∙ r.same;
      map = p.map ∙ r.map;
    }

pub rest_same : {was is : Lister} {whole ws vs : List ℕ} → ws ≡ vs → Rest was is whole ws → Rest was is whole vs
rest_same {was = was} {is = is} {whole = whole} e r = subst (λ (xs : List ℕ). Rest was is whole xs) e r

-- past the end
pub put_past : (was : List ℕ) (at : ℕ) (ws : List ℕ) → length was ≤ at → was ≡ sets was at ws
put_past was at [] h = refl
put_past was at (w ∷ ws) h = put_past was (suc at) ws (omega arith) ∙ ap (λ (xs : List ℕ). sets xs (suc at) ws) (sym (set_past was at w h))

-- ---- digits

pub length_digit : (n : ℕ) → n < 10 → length (decimal n) ≡ 1
length_digit n h = ap length (decimal_digit n h)

pub length_digits : (n : ℕ) → 10 ≤ n → n < 2 ^ 64 → length (decimal n) ≡ length (decimal (n / 10)) + 1
length_digits n h l = ap length (decimal_step n h l) ∙ length_push (decimal (n / 10)) (48 + n % 10)

pub two_digits : (n : ℕ) → 10 ≤ n → n < 100 → decimal n ≡ two n
two_digits n h l = decimal_step n h (omega arith) ∙ ap (λ (ds : List ℕ). ds ++ (48 + n % 10) ∷ []) (decimal_digit (n / 10) (omega arith))

pub last_two : (n : ℕ) → 100 ≤ n → n < 2 ^ 64 → decimal n ≡ decimal (n / 100) ++ two (n % 100)
last_two n h l =
    let a : n / 10 / 10 ≡ n / 100 = omega arith in
    let b : n / 10 % 10 ≡ n % 100 / 10 = omega arith in
    let c : n % 10 ≡ n % 100 % 10 = omega arith in
    decimal_step n (omega arith) l ∙ ap (λ (ds : List ℕ). ds ++ (48 + n % 10) ∷ []) (decimal_step (n / 10) (omega arith) (omega arith))
    ∙ append_assoc (decimal (n / 10 / 10)) ((48 + n / 10 % 10) ∷ []) ((48 + n % 10) ∷ [])
    ∙ ap (λ (k : ℕ). decimal k ++ (48 + n / 10 % 10) ∷ (48 + n % 10) ∷ []) a
    ∙ ap (λ (k : ℕ). decimal (n / 100) ++ (48 + k) ∷ (48 + n % 10) ∷ []) b
    ∙ ap (λ (k : ℕ). decimal (n / 100) ++ (48 + n % 100 / 10) ∷ (48 + k) ∷ []) c

pub last_four : (n : ℕ) → 10000 ≤ n → n < 2 ^ 64 → decimal n ≡ decimal (n / 10000) ++ four (n % 10000)
last_four n h l =
    let a : n / 100 / 100 ≡ n / 10000 = omega arith in
    let b : n / 100 % 100 ≡ n % 10000 / 100 = omega arith in
    let c : n % 100 ≡ n % 10000 % 100 = omega arith in
    last_two n (omega arith) l ∙ ap (λ (ds : List ℕ). ds ++ two (n % 100)) (last_two (n / 100) (omega arith) (omega arith))
    ∙ append_assoc (decimal (n / 100 / 100)) (two (n / 100 % 100)) (two (n % 100)) ∙ ap (λ (k : ℕ). decimal k ++ (two (n / 100 % 100) ++ two (n % 100))) a
    ∙ ap (λ (k : ℕ). decimal (n / 10000) ++ (two k ++ two (n % 100))) b ∙ ap (λ (k : ℕ). decimal (n / 10000) ++ (two (n % 10000 / 100) ++ two k)) c

length_least : (k n : ℕ) → 10 ^ k ≤ n → n < 2 ^ 64 → k + 1 ≤ length (decimal n)
length_least zero n h l = omega (arith, decimal_nonempty n l)
length_least (suc k) n h l =
    let t : 10 ^ k * 10 ≤ n = rw pow-suc at h in
    let p : 0 < 10 ^ k = one-le-pow k 10 (lit< tt) in
    omega (arith, length_digits n (omega arith) l, length_least k (n / 10) (omega arith) (omega arith))

-- how many digits a number has, by the greatest power of ten in it
pub length_power : (k n : ℕ) → 10 ^ k ≤ n → n < 10 * 10 ^ k → n < 2 ^ 64 → k + 1 ≡ length (decimal n)
length_power k n h u l =
    let t : n < 10 ^ suc k = rw pow-suc (omega arith) in
    omega (arith, length_least k n h l, length-decimal-le (suc k) n (omega arith) t l)

pub counted : (n r : ℕ) (N : ℕ → Type 0) (o : Option ℕ) → n < 2 ^ 64 → IfNone o (n ≡ 0) → IfSome o (λ k. 10 ^ k ≤ n) → IfSome o (λ k. n < 10 * 10 ^ k) → ((k : ℕ) → N k → r ≡ k + 1) → MatchOption o (r ≡ 1) N → r ≡ length (decimal n)
counted n r N None l z h u f m = m ∙ sym (length_digit n (omega arith))
counted n r N (Some k) l z h u f m = f k m ∙ length_power k n h u l

pub length_side : (s : ℕ) → length (side_text s) ≡ length (decimal (s / 2)) + 2
length_side s = elim (eqb (s % 2) 0) as (λ b. length (codes " " ++ (decimal (s / 2) ++ cond b (codes "+") (codes "-"))) ≡ length (decimal (s / 2)) + 2) [
  | true ↦ omega (arith, length-append (decimal (s / 2)) (codes "+"))
  | false ↦ omega (arith, length-append (decimal (s / 2)) (codes "-"))
]

pub length_counts : (a n p r : ℕ) → length (counts_line a n p r) ≡ length (decimal a) + length (decimal n) + length (decimal p) + length (decimal r) + 30
length_counts a n p r = simp length-append (omega arith)
