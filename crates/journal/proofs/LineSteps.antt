-- A call is played beside the text that it wants.
use Rattle.std.proofs.Common.{◌≡◌, ℕ, List, ◌++◌, length, take, replicate, vec_items, Result, Vec, refl, ap, ◌∙◌, subst, arith}
use Rattle.std.specs.declared.alloc.Global.{Global}
use Rattle.std.proofs.lemmas.List.{take_all, take-append-le}
use Rattle.refusal.specs.declared.Refusal.{Refusal}
use Rattle.topology.specs.declared.map.Map.{Map}
use Rattle.topology.specs.declared.vertex.Vertex.{Vertex}
use Rattle.topology.specs.States.{State, state_of}
use Rattle.calls.specs.declared.answer.Answer.{Answer}
use Rattle.calls.specs.declared.call.Call.{Call}
use Rattle.calls.specs.declared.call.Call.TheVariants.{List as Listing}
use Rattle.calls.specs.Outcomes.{with_run, Played}
use Rattle.answer_lines.specs.AnswerTexts.{AnswerText}
use Rattle.journal.specs.Steps.{room, Done}

room_of : {R S : Type 0} (f : R → S) (c : Call R) (m : State) → room c m ≡ room (with_run f c) m
room_of f Listing m = refl
room_of f _ m = refl

pub done : (call : Call (Vec Vertex Global)) (was is : Map) (before left : List ℕ) (a : Result Answer Refusal) (bs : List ℕ) → before ≡ replicate (room call (state_of was)) 0
    → Played (with_run vec_items call) was is before left a → AnswerText a left bs → Done (with_run vec_items call) was is bs
done call was is before left a bs z p t =
    record { answer = a; left = left; played = subst (λ b. Played (with_run vec_items call) was is b left a) (z ∙ ap (λ k. replicate k 0) (room_of vec_items call (state_of was))) p; text = t }

-- a text that was written over the whole of a buffer is what the buffer holds
pub whole : (n : ℕ) (text rest : List ℕ) → length text ≡ n → take n (text ++ rest) ≡ text
whole n text rest e = take-append-le n text rest (omega arith) ∙ take_all n text (omega arith)
