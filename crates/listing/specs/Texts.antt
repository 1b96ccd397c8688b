-- The listing of a map, byte for byte.
use Rattle.std.specs.Prelude.{ℕ, ◌/◌, ◌%◌, cond, List, [], ◌∷◌, ◌++◌, length, drop, Ok, Err, codes, decimal, Result, ◌==◌, nat_le}
use Rattle.refusal.specs.declared.Refusal.{Refusal}
use Rattle.refusal.specs.declared.Refusal.TheVariants.{DoesNotFit}
use Rattle.rings.specs.Circles.{first}
use Rattle.topology.specs.Rows.{polygon_of}
use Rattle.topology.specs.States.{State}
use Rattle.topology.specs.Questions.{arc_count, rings_of}

-- a side: a space, its arc, and + along the arc or - against it
abbrev pub side_text : ℕ → List ℕ
side_text s = codes " " ++ (decimal (s / 2) ++ cond (s % 2 == 0) (codes "+") (codes "-"))

abbrev pub sides_text : List ℕ → List ℕ
sides_text [] = []
sides_text (s ∷ ss) = side_text s ++ sides_text ss

-- a ring: its polygon, a colon, its sides from the lowest on
abbrev pub ring_line : State → List ℕ → List ℕ
ring_line m ring = decimal (polygon_of m.sides (first ring)) ++ (codes ":" ++ (sides_text ring ++ codes "\n"))

abbrev pub ring_lines : State → List (List ℕ) → List ℕ
ring_lines m [] = []
ring_lines m (ring ∷ rings) = ring_line m ring ++ ring_lines m rings

-- a word and a number
abbrev pub count_text : List ℕ → ℕ → List ℕ
count_text word n = word ++ decimal n

abbrev pub counts_line : ℕ → ℕ → ℕ → ℕ → List ℕ
counts_line arcs nodes polygons rings =
    count_text (codes "arcs ") arcs
    ++ (count_text (codes " nodes ") nodes ++ (count_text (codes " polygons ") polygons ++ (count_text (codes " rings ") rings ++ codes "\n")))

abbrev pub head_line : State → List ℕ
head_line m = counts_line (arc_count m) m.nodes m.polygons (length (rings_of m))

-- the counts, and then a line for each ring, rising by lowest side
abbrev pub listing : State → List ℕ
listing m = head_line m ++ ring_lines m (rings_of m)

-- a text put at the front of a buffer answers how long it is, or is refused where there is less room
abbrev pub text_outcome : List ℕ → ℕ → Result ℕ Refusal
text_outcome text room = cond (nat_le (length text) room) (Ok (length text)) (Err DoesNotFit)

-- and leaves what was there after it; a refusal leaves all as it was
abbrev pub text_leaves : List ℕ → List ℕ → List ℕ
text_leaves text out = cond (nat_le (length text) (length out)) (text ++ drop (length text) out) out
