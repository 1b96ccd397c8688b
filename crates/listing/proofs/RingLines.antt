-- The lines of the rings, side by side.
use Rattle.std.proofs.Common.{◌≡◌, ℕ, zero, suc, ◌+◌, Bool, true, false, cond, List, [], ◌∷◌, ◌++◌, map, length, decimal, sym, refl, ap, ◌∙◌, add-one, arith}
use Rattle.std.proofs.lemmas.List.{length-append, append-nil, append_assoc, map-append}
use Rattle.rings.specs.Circles.{first, ring, kept}
use Rattle.rings.proofs.Ringwise.{ringwise}
use Rattle.topology.specs.declared.map.Map.{Map}
use Rattle.topology.specs.Rows.{next_of, polygon_of, low_of, tells}
use Rattle.topology.specs.States.{State, state_of}
use Rattle.topology.specs.Questions.{rings_of}
use Rattle.topology.proofs.Assembling.{lawful_of}
use Rattle.listing.specs.Texts.{sides_text, ring_line, ring_lines}

pub length_line : (m : State) (xs : List ℕ) → length (ring_line m xs) ≡ length (decimal (polygon_of m.sides (first xs))) + length (sides_text xs) + 2
length_line m xs = simp length-append (omega arith)

-- the line of the ring that s starts
abbrev pub line_from : State → ℕ → List ℕ
line_from m s = ring_line m (ring (next_of m.sides) (length m.sides) s)

-- the lines of the rings whose lowest side is below k
abbrev pub lines_below : State → ℕ → List ℕ
lines_below m zero = []
lines_below m (suc k) = lines_below m k ++ cond (tells m.sides k) (line_from m k) []

pub lines_yes : (m : State) (k : ℕ) → tells m.sides k ≡ true → lines_below m k ++ line_from m k ≡ lines_below m (k + 1)
lines_yes m k h = sym (ap (lines_below m) (add-one k) ∙ ap (λ t. lines_below m k ++ cond t (line_from m k) []) h)

pub lines_no : (m : State) (k : ℕ) → tells m.sides k ≡ false → lines_below m k ≡ lines_below m (k + 1)
lines_no m k h = sym (ap (lines_below m) (add-one k) ∙ ap (λ t. lines_below m k ++ cond t (line_from m k) []) h ∙ append-nil (lines_below m k))

lines_append : (m : State) (xs ys : List (List ℕ)) → ring_lines m (xs ++ ys) ≡ ring_lines m xs ++ ring_lines m ys
lines_append m [] ys = refl
lines_append m (x ∷ xs) ys = ap (λ (l : List ℕ). ring_line m x ++ l) (lines_append m xs ys) ∙ sym (append_assoc (ring_line m x) (ring_lines m xs) (ring_lines m ys))

line_kept : (m : State) (k : ℕ) (t : Bool) → ring_lines m (map (ring (next_of m.sides) (length m.sides)) (cond t (k ∷ []) [])) ≡ cond t (line_from m k) []
line_kept m k true = append-nil (line_from m k)
line_kept m k false = refl

lines_kept : (m : State) (k : ℕ) → ring_lines m (map (ring (next_of m.sides) (length m.sides)) (kept (tells m.sides) k)) ≡ lines_below m k
lines_kept m zero = refl
lines_kept m (suc k) =
    let f = ring (next_of m.sides) (length m.sides) in
    let P = tells m.sides in
    ap (ring_lines m) (map-append f (kept P k) (cond (P k) (k ∷ []) [])) ∙ lines_append m (map f (kept P k)) (map f (cond (P k) (k ∷ []) []))
    ∙ ap (λ (l : List ℕ). l ++ ring_lines m (map f (cond (P k) (k ∷ []) []))) (lines_kept m k) ∙ ap (λ (l : List ℕ). lines_below m k ++ l) (line_kept m k (P k))

-- the lines of all rings are those of the rings whose lowest side is one of the map's
pub lines_all : (m : Map) → ring_lines (state_of m) (rings_of (state_of m)) ≡ lines_below (state_of m) (length (state_of m).sides)
lines_all m =
    let us = (state_of m).sides in
    let L = lawful_of m in
    ap (ring_lines (state_of m)) (ringwise (next_of us) (low_of us) (length us) L.in_rings L.low_along L.low_below L.low_names)
    ∙ lines_kept (state_of m) (length us)
