-- What a line of a journal comes to.
use Rattle.std.specs.Prelude.{◌≡◌, ℕ, List, length, replicate, Ok, Err, Some, None, Option, Result, vec_items, Vec, IsUtf8}
use Rattle.std.specs.declared.alloc.Global.{Global}
use Rattle.topology.specs.declared.map.Map.{Map}
use Rattle.topology.specs.declared.vertex.Vertex.{Vertex}
use Rattle.topology.specs.States.{State, state_of}
use Rattle.listing.specs.Texts.{listing}
use Rattle.refusal.specs.declared.Refusal.{Refusal}
use Rattle.calls.specs.declared.answer.Answer.{Answer}
use Rattle.calls.specs.declared.call.Call.{Call}
use Rattle.calls.specs.declared.call.Call.TheVariants.{List as Listing}
use Rattle.calls.specs.Outcomes.{Played}
use Rattle.line_words.specs.LineWords.{words_of}
use Rattle.call_lines.specs.declared.expected.Expected.{Expected}
use Rattle.call_lines.specs.declared.fault.LineFault.TheVariants.{NoMemory, NoCall}
use Rattle.call_lines.specs.Spoken.{spoken, Same}
use Rattle.answer_lines.specs.AnswerTexts.{AnswerText}
use Rattle.journal.specs.declared.fault.PlayFault.{PlayFault}
use Rattle.journal.specs.declared.fault.PlayFault.TheVariants.{NotUtf8, NotRead, NoText}

-- how much text a call wants: the listing's length, or none
abbrev pub room : {R : Type 0} → Call R → State → ℕ
room Listing m = length (listing m)
room _ m = 0

-- a call was played beside that much text, and bs is the text of its answer
pub record Done (c : Call (List Vertex)) (was is : Map) (bs : List ℕ) : Type 0 where
  pub answer : Result Answer Refusal
  pub left : List ℕ
  pub played : Played c was is (replicate (room c (state_of was)) 0) left answer
  pub text : AnswerText answer left bs

-- the call that words say was played, and bs is the text of its answer
pub record Answers (said : Call (List (List ℕ))) (was is : Map) (bs : List ℕ) : Type 0 where
  pub call : Call (List Vertex)
  pub same : Same said call
  pub done : Done call was is bs

-- What a line comes to, by what its words say: it is passed over, or its call is played and answered, or it is no call. Only a call changes the map. A line that found no memory is not played; where an answer got no text, nothing is told of it.
abbrev pub Stepped : Result (Option (Call (List (List ℕ)))) Expected → Map → Map → Result (Option (Vec ℕ Global)) PlayFault → Type 0
Stepped said was is (Ok None) = (said ≡ Ok None) × (is ≡ was)
Stepped said was is (Ok (Some line)) = (call : Call (List (List ℕ))) × (said ≡ Ok (Some call)) × Answers call was is (vec_items line)
Stepped said was is (Err (NotRead (NoCall x))) = (said ≡ Err x) × (is ≡ was)
Stepped said was is (Err (NotRead NoMemory)) = is ≡ was
Stepped said was is (Err (NoText e)) = Unit {0}
Stepped said was is (Err NotUtf8) = ⊥

-- .. of a line that may be no text
abbrev pub SteppedBytes : List ℕ → Map → Map → Result (Option (Vec ℕ Global)) PlayFault → Type 0
SteppedBytes line was is (Err NotUtf8) = ¬ (IsUtf8 line) × (is ≡ was)
SteppedBytes line was is r = IsUtf8 line × Stepped (spoken (words_of line)) was is r
