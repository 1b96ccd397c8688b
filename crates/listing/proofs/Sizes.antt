-- How long a listing can be.
use Rattle.std.proofs.Common.{ℕ, zero, suc, ◌*◌, ◌/◌, ◌^◌, ◌<◌, ◌≤◌, Bool, eqb, List, [], ◌∷◌, ◌++◌, length, decimal, ap, arith}
use Rattle.std.proofs.lemmas.Fmt.{length-decimal-le}
use Rattle.std.proofs.lemmas.List.{length-append, length-take-le}
use Rattle.std.proofs.lemmas.Bool.{cond_both}
use Rattle.rings.specs.Circles.{walk, ring, kept}
use Rattle.rings.proofs.Closed.{within}
use Rattle.rings.proofs.Ringed.{ringed_circles}
use Rattle.topology.specs.declared.map.Map.{Map}
use Rattle.topology.specs.Rows.{next_of, polygon_of, tells}
use Rattle.topology.specs.States.{State, state_of}
use Rattle.topology.specs.Questions.{arc_count, rings_of}
use Rattle.topology.proofs.Assembling.{lawful_of}
use Rattle.topology.proofs.Lowest.{count_kept}
use Rattle.listing.specs.Texts.{side_text, sides_text, ring_lines, head_line, listing}
use Rattle.listing.proofs.Putting.{length_side, length_counts}
use Rattle.listing.proofs.RingLines.{length_line, line_from, lines_below, lines_all}

digits : (n : ℕ) → n < 2 ^ 64 → length (decimal n) ≤ 20
digits n h = length-decimal-le 20 n (omega arith) (omega arith) h

side_short : (s : ℕ) → s < 2 ^ 64 → length (side_text s) ≤ 22
side_short s h = omega (arith, length_side s, digits (s / 2) (omega arith))

-- where f stays below n, so does a walk
walk_short : (f : ℕ → ℕ) (n fuel s p : ℕ) → n ≤ 32768 → ((x : ℕ) → x < n → f x < n) → p < n → length (sides_text (walk f fuel s p)) ≤ fuel * 22
walk_short f n zero s p small stays l = omega arith
walk_short f n (suc m) s p small stays l =
    cond_both (eqb s (f p)) [] (f p ∷ walk f m s (f p)) (λ (xs : List ℕ). length (sides_text xs) ≤ suc m * 22)
    (λ _. omega arith)
    (λ _.
    let i = stays p l in
    omega (arith, walk_short f n m s (f p) small stays i, side_short (f p) (omega arith), length-append (side_text (f p)) (sides_text (walk f m s (f p)))))

kept_short : (P : ℕ → Bool) (n : ℕ) → length (kept P n) ≤ n
kept_short P zero = omega arith
kept_short P (suc k) =
    cond_both (P k) (k ∷ []) [] (λ (xs : List ℕ). length (kept P k ++ xs) ≤ suc k)
    (λ _. omega (arith, kept_short P k, length-append (kept P k) (k ∷ [])))
    (λ _. omega (arith, kept_short P k, length-append (kept P k) []))

lines_short : (m : State) (k : ℕ) → ((s : ℕ) → s < k → length (line_from m s) ≤ 800000) → length (lines_below m k) ≤ k * 800000
lines_short m zero h = omega arith
lines_short m (suc k) h =
    cond_both (tells m.sides k) (line_from m k) [] (λ (xs : List ℕ). length (lines_below m k ++ xs) ≤ suc k * 800000)
    (λ _. omega (arith, lines_short m k (λ s l. h s (omega arith)), length-append (lines_below m k) (line_from m k), h k (omega arith)))
    (λ _. omega (arith, lines_short m k (λ s l. h s (omega arith)), length-append (lines_below m k) []))

sides_few : (m : Map) → length (state_of m).sides ≤ 32768
sides_few m = omega (arith, length-take-le m.sides.used m.sides.rows.now m.sides.fits, m.arcs_few)

line_short : (m : Map) (s : ℕ) → s < length (state_of m).sides → length (line_from (state_of m) s) ≤ 800000
line_short m s l =
    let us = (state_of m).sides in
    let n = length us in
    let L = lawful_of m in
    let c = ringed_circles (next_of us) n L.in_rings in
    let xs = walk (next_of us) n s s in
    let few = sides_few m in
    let w = walk_short (next_of us) n n s s few (within (next_of us) n (rings_of (state_of m)) c) l in
    let p = L.polygons_known s l in
    let q = L.polygons_few in
    omega (
      arith,
      w,
      length_line (state_of m) (ring (next_of us) n s),
      digits (polygon_of us s) (omega arith),
      side_short s (omega arith),
      length-append (side_text s) (sides_text xs),
    )

pub listing_short : (m : Map) → length (listing (state_of m)) < 2 ^ 64
listing_short m =
    let us = (state_of m).sides in
    let n = length us in
    let L = lawful_of m in
    let few = sides_few m in
    let rings : length (rings_of (state_of m)) ≤ n =
    omega (arith, count_kept us n L.in_rings L.low_along L.low_below L.low_names, kept_short (tells us) n) in
    let ls : length (lines_below (state_of m) n) ≤ n * 800000 = lines_short (state_of m) n (line_short m) in
    let pf = L.polygons_few in
    let nf = L.nodes_few in
    omega (
      arith,
      length-append (head_line (state_of m)) (ring_lines (state_of m) (rings_of (state_of m))),
      ap length (lines_all m),
      ls,
      length_counts (arc_count (state_of m)) m.nodes m.polygons (length (rings_of (state_of m))),
      digits (arc_count (state_of m)) (omega arith),
      digits m.nodes (omega arith),
      digits m.polygons (omega arith),
      digits (length (rings_of (state_of m))) (omega arith),
    )
