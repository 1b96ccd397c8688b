-- The text of an answer, byte for byte.
use Rattle.std.specs.Prelude.{◌≡◌, ℕ, List, ◌++◌, take, Ok, Err, Some, codes, decimal, Result}
use Rattle.refusal.specs.declared.Refusal.{Refusal}
use Rattle.refusal.specs.Numbers.{refusal_text}
use Rattle.topology.specs.declared.vertex.Vertex.{Vertex}
use Rattle.listing.specs.Texts.{counts_line}
use Rattle.words.specs.Words.{Decimal}
use Rattle.calls.specs.declared.answer.Answer.{Answer}
use Rattle.calls.specs.declared.answer.Answer.TheVariants.{Done, Listed, Counts, Ring, Side, Arc, Vertex as VertexIs}

abbrev pub refused_text : Refusal → List ℕ
refused_text e = refusal_text e ++ codes "\n"

abbrev pub ring_text : ℕ → ℕ → List ℕ
ring_text polygon side = codes "polygon " ++ (decimal polygon ++ (codes " side " ++ (decimal side ++ codes "\n")))

abbrev pub side_text : ℕ → ℕ → ℕ → List ℕ
side_text polygon next node = codes "polygon " ++ (decimal polygon ++ (codes " next " ++ (decimal next ++ (codes " node " ++ (decimal node ++ codes "\n")))))

abbrev pub arc_text : ℕ → List ℕ
arc_text vertices = codes "vertices " ++ (decimal vertices ++ codes "\n")

-- two decimal numbers that are read as the coordinates of the vertex
pub record VertexText (v : Vertex) (bs : List ℕ) : Type 0 where
  pub x : List ℕ
  pub y : List ℕ
  pub text : bs ≡ x ++ (codes " " ++ (y ++ codes "\n"))
  pub x_reads : Decimal x (Some v.x)
  pub y_reads : Decimal y (Some v.y)

-- the text of an answer; a listing stands at the front of what the call left
abbrev pub AnswerText : Result Answer Refusal → List ℕ → List ℕ → Type 0
AnswerText (Err e) left bs = bs ≡ refused_text e
AnswerText (Ok Done) left bs = bs ≡ codes "ok\n"
AnswerText (Ok (Listed n)) left bs = bs ≡ take n left
AnswerText (Ok (Counts arcs nodes polygons rings)) left bs = bs ≡ counts_line arcs nodes polygons rings
AnswerText (Ok (Ring polygon side)) left bs = bs ≡ ring_text polygon side
AnswerText (Ok (Side polygon next node)) left bs = bs ≡ side_text polygon next node
AnswerText (Ok (Arc vertices)) left bs = bs ≡ arc_text vertices
AnswerText (Ok (VertexIs v)) left bs = VertexText v bs
