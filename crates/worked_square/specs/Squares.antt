-- A square that is worked out by hand: calls on a blank map, one after the other, what each answers, and how the map lists after it.
use Rattle.std.specs.Prelude.{◌≡◌, ℕ, zero, suc, false, List, [], ◌∷◌, map, take, pos, codes, Float, Ok, Err, Result}
use Rattle.std.specs.Float.{fin}
use Rattle.refusal.specs.declared.Refusal.{Refusal}
use Rattle.refusal.specs.declared.Refusal.TheVariants.{ArcNotClosedAlone, NotInsideArc, NotTwoEndsOfTwoArcs, RingsAlone}
use Rattle.topology.specs.declared.vertex.Vertex.{Vertex}
use Rattle.topology.specs.declared.hand.Hand.TheVariants.{Right}
use Rattle.topology.specs.declared.arc_side.ArcSide.TheVariants.{Unturned}
use Rattle.topology.specs.States.{State, blank}
use Rattle.listing.specs.Texts.{listing}
use Rattle.calls.specs.declared.call.Call.{Call}
use Rattle.calls.specs.declared.call.Call.TheVariants.{Island, Lift, Split, Divide, Dissolve, Join}
use Rattle.calls.specs.declared.answer.Answer.{Answer}
use Rattle.calls.specs.declared.answer.Answer.TheVariants.{Done}
use Rattle.history.specs.Runs.{World, after, reply, replayed}

-- the doubles 0 and 10
abbrev nought : Float
nought = fin false 0 (pos 0)

abbrev ten : Float
ten = fin false 5 (pos 1)

-- around the square: (0, 0) (0, 10) (10, 10) (10, 0) (0, 0)
abbrev pub square : List Vertex
square =
    record { x = nought; y = nought } ∷ record { x = nought; y = ten } ∷ record { x = ten; y = ten } ∷ record { x = ten; y = nought } ∷ record { x = nought; y = nought } ∷ []

-- across it: (0, 0) (10, 10)
abbrev pub diagonal : List Vertex
diagonal = record { x = nought; y = nought } ∷ record { x = ten; y = ten } ∷ []

-- a line of the working: a call, what it answers, and how the map lists after it
pub record Line : Type 0 where
  pub call : Call (List Vertex)
  pub answer : Result Answer Refusal
  pub text : List ℕ

-- how the map lists when it is blank, with the square as an island, with the arc split in two, and with the square divided
abbrev pub blank_text : List ℕ
blank_text = codes "arcs 0 nodes 0 polygons 1 rings 0\n"

abbrev island_text : List ℕ
island_text = codes "arcs 1 nodes 1 polygons 2 rings 2\n1: 0+\n0: 0-\n"

abbrev split_text : List ℕ
split_text = codes "arcs 2 nodes 2 polygons 2 rings 2\n1: 0+ 1+\n0: 0- 1-\n"

abbrev divided_text : List ℕ
divided_text = codes "arcs 3 nodes 2 polygons 3 rings 3\n1: 0+ 2-\n0: 0- 1-\n2: 1+ 2+\n"

-- the whole working, from a blank map on
abbrev pub lines : List Line
lines =
    record { call = Island 0 square; answer = Ok Done; text = island_text }
    ∷ record { call = Dissolve 0; answer = Err RingsAlone; text = island_text }
    ∷ record { call = Join 0; answer = Err NotTwoEndsOfTwoArcs; text = island_text }
    ∷ record { call = Split 0 0; answer = Err NotInsideArc; text = island_text }
    ∷ record { call = Split 0 4; answer = Err NotInsideArc; text = island_text }
    ∷ record { call = Split 0 2; answer = Ok Done; text = split_text }
    ∷ record { call = Lift 0; answer = Err ArcNotClosedAlone; text = split_text }
    ∷ record { call = Divide 0 2 diagonal Unturned; answer = Ok Done; text = divided_text }
    ∷ record { call = Dissolve 0; answer = Ok Done; text = split_text }
    ∷ []

abbrev pub call_of : Line → Call (List Vertex)
call_of l = l.call

-- a map lists so; and each call answers as its line says, and leaves a map that lists as the line says, where the next line starts
abbrev pub Worked : World → List ℕ → List Line → Type 0
Worked w text [] = listing w.state ≡ text
Worked w text (l ∷ ls) = (listing w.state ≡ text) × (reply w l.call ≡ l.answer) × Worked (after w l.call) l.text ls

-- a blank map, in tables of 16 sides and 64 vertices, beside no text
abbrev pub start : World
start = record { state = blank Right 16 64; text = [] }

-- the map after so many of the calls, or all of them when there are not so many
abbrev pub square_after : ℕ → State
square_after k = (replayed start (take k (map call_of lines))).state

-- the text of the k-th line, or of the last when there are not so many; before the first line another text
abbrev pub text_from : List ℕ → List Line → ℕ → List ℕ
text_from text ls zero = text
text_from text [] (suc k) = text
text_from text (l ∷ ls) (suc k) = text_from l.text ls k

-- how it lists then
abbrev pub text_after : ℕ → List ℕ
text_after k = text_from blank_text lines k
