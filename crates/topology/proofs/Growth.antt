-- Rows added to a table, and rows changed.
use Rattle.std.proofs.Common.{◌≡◌, ℕ, ◌+◌, ◌-◌, ◌<◌, ◌≤◌, List, [], ◌∷◌, ◌++◌, map, length, get_or, take, drop, set, sym, refl, ap, ◌∙◌, subst, arith}
use borrow.Rule.Slice.PartMut.{put_mid}
use Rattle.std.proofs.lemmas.List.{length-append, length-take, length-drop, take_at, drop-drop, append_assoc, get_or_default, length-set, drop_at, drop_more, length-take-le, drop-set-lt, drop-take, take-take}
use Rattle.std.proofs.lemmas.List.Elements.{all_zip_more}
use Rattle.std.specs.List.{AllZip}
use Rattle.topology.specs.declared.table.Table.{Table}
use Rattle.topology.specs.Tables.{Holds, Grown}
use Rattle.std.proofs.lemmas.Grind.{take-set_at}

-- a range of the first rows is that of all rows
pub range_before : {X : Type 0} (xs : List X) (m k n : ℕ) → k + n ≤ m → take n (drop k (take m xs)) ≡ take n (drop k xs)
range_before xs m k n l =
    let e : m ≡ k + (m - k) = omega arith in
    ap (λ (j : ℕ). take n (drop k (take j xs))) e ∙ (ap (take n) (drop-take k (m - k) xs) ∙ take-take n (m - k) (drop k xs) (omega arith))

-- .. so it stays where others come after them
pub run_before : {X : Type 0} (xs ys : List X) (k n : ℕ) → k + n ≤ length xs → take n (drop k (xs ++ ys)) ≡ take n (drop k xs)
run_before {X = X} xs ys k n l = sym (range_before (xs ++ ys) (length xs) k n l) ∙ ap (λ (zs : List X). take n (drop k zs)) (take_at xs ys (length xs) refl)

module _ {X : Type 0} (xs ys zs : List X) (n k : ℕ) (e : ys ≡ zs) (f : k ≡ length zs) (h : n + length zs ≤ length xs) where
  told : put_mid n k xs ys ≡ (take n xs ++ zs) ++ drop (n + length zs) xs
  told = rw (e, f, drop-drop) (sym (append_assoc (take n xs) zs (drop (n + length zs) xs)))

  front : length (take n xs ++ zs) ≡ n + length zs
  front = simp (length-append, length-take) (omega arith)

  pub take_put : take (n + length zs) (put_mid n k xs ys) ≡ take n xs ++ zs
  take_put = ap (take (n + length zs)) told ∙ take_at (take n xs ++ zs) (drop (n + length zs) xs) (n + length zs) front

  pub drop_put : drop (n + length zs) (put_mid n k xs ys) ≡ drop (n + length zs) xs
  drop_put = ap (drop (n + length zs)) told ∙ drop_at (take n xs ++ zs) (drop (n + length zs) xs) (n + length zs) front

  pub length_put : length (put_mid n k xs ys) ≡ length xs
  length_put = ap length told ∙ simp (length-append, length-take, length-drop) (omega arith)

-- how many rows are in use
pub held_used : {T : Type 0} (t u : Table T) (xs : List T) → Holds t u xs → u.used ≡ length xs
held_used t u xs h = sym (length-take-le u.used u.rows.now u.fits) ∙ ap length h.rows

pub grown_used : {T : Type 0} (t u : Table T) (xs : List T) → Grown t u xs → u.used ≡ t.used + length xs
grown_used t u xs g = held_used t u (take t.used t.rows.now ++ xs) g ∙ (length-append (take t.used t.rows.now) xs ∙ ap (λ (k : ℕ). k + length xs) (length-take-le t.used t.rows.now t.fits))

-- one row more, and then another
pub grown_twice : {T : Type 0} (t u w : Table T) (a b : T) → Grown t u (a ∷ []) → Grown u w (b ∷ []) → Grown t w (a ∷ b ∷ [])
grown_twice t u w a b g h =
    let one : w.used ≡ u.used + 1 = grown_used u w (b ∷ []) h in
    record {
      rows = h.rows ∙ ap (λ xs. xs ++ b ∷ []) g.rows ∙ append_assoc (take t.used t.rows.now) (a ∷ []) (b ∷ []);
      rest = h.rest ∙ ap (λ k. drop k u.rows.now) one ∙ sym (drop-drop 1 u.used u.rows.now) ∙ ap (drop 1) g.rest ∙ drop-drop 1 u.used t.rows.now ∙ ap (λ k. drop k t.rows.now) (sym one);
      long = h.long ∙ g.long;
      lent = h.lent ∙ g.lent;
    }

-- ---- the rows in use, where as many others come in their place

module _ {X : Type 0} (xs full : List X) (n : ℕ) (e : length xs ≡ n) (fit : n ≤ length full) where
  pub front_new : take n (xs ++ drop n full) ≡ xs
  front_new = take_at xs (drop n full) n e

  pub front_rest : drop n (xs ++ drop n full) ≡ drop n full
  front_rest = drop_at xs (drop n full) n e

  pub front_long : length (xs ++ drop n full) ≡ length full
  front_long = simp (length-append, length-drop) (omega arith)

-- ---- rows changed one after the other

-- the rows before i are changed, and those from i on are as they were
pub record Changing {X : Type 0} (R : X → X → Type 0) (old rows : List X) (i : ℕ) : Type 0 where
  pub changed : AllZip R (take i old) (take i rows)
  pub ahead : drop i rows ≡ drop i old
  pub long : length rows ≡ length old

pub changing_more : {X : Type 0} (R : X → X → Type 0) (old rows : List X) (i : ℕ) (d y : X) → i < length old → Changing R old rows i → R (get_or rows i d) y → Changing R old (set rows i y) (i + 1)
changing_more R old rows i d y l c r =
    let lt : i < length rows = omega (arith, c.long) in
    let same = drop_more rows i d lt in
    let was = drop_more old i d l in
    let e : get_or rows i d ∷ drop (i + 1) rows ≡ get_or old i d ∷ drop (i + 1) old = sym same ∙ (c.ahead ∙ was) in
    let h : get_or rows i d ≡ get_or old i d = cc in
    record {
      changed =
          subst (AllZip R (take (i + 1) old)) (sym (take-set_at rows i (i + 1) y refl lt))
          (all_zip_more R old (take i rows) i (get_or rows i d) y l (h ∙ get_or_default old i d (get_or rows i d) l) c.changed r);
      ahead = drop-set-lt (i + 1) rows i y (omega arith) ∙ cc;
      long = length-set rows i y ∙ c.long;
    }

-- what a function says of each row, it says of the rows
pub changed_all : {X : Type 0} (F : X → X) (R : X → X → Type 0) → ((x y : X) → R x y → y ≡ F x) → (xs ys : List X) → AllZip R xs ys → ys ≡ map F xs
changed_all F R f [] [] z = refl
changed_all F R f [] (y ∷ ys) z = absurd z
changed_all F R f (x ∷ xs) [] z = absurd z
changed_all F R f (x ∷ xs) (y ∷ ys) z = ap (λ (v : _). v ∷ ys) (f x y z.0) ∙ ap (λ vs. F x ∷ vs) (changed_all F R f xs ys z.1)
