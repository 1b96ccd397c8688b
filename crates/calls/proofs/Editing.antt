-- An edit, as a call that was played.
use Rattle.std.proofs.Common.{◌≡◌, ℕ, List, Ok, Err, Result, sym, subst}
use Rattle.refusal.specs.declared.Refusal.{Refusal}
use Rattle.topology.specs.declared.map.Map.{Map}
use Rattle.topology.specs.declared.vertex.Vertex.{Vertex}
use Rattle.topology.specs.States.{State, state_of}
use Rattle.topology.specs.Edited.{Edited}
use Rattle.calls.specs.declared.call.Call.{Call}
use Rattle.calls.specs.declared.answer.Answer.{Answer}
use Rattle.calls.specs.declared.answer.Answer.TheVariants.{Done}
use Rattle.calls.specs.Outcomes.{edit, told, outcome, Keeps, Played}

pub edit_played : {c : Call (List Vertex)} {f : State → Result State Refusal} {was is : Map} {text : List ℕ} {r : Result (Unit {0}) Refusal} {a : Result Answer Refusal} → Edited f was is r → a ≡ told (λ _. Done) r
    → outcome c (state_of was) text ≡ edit (state_of was) text (f (state_of was)) → Played c was is text text a
edit_played {was = was} {is = is} {r = Ok x} e t o = record { agrees = cc; keeps = subst (Keeps was is) (sym t) e.keeps; sides_lent = e.sides_lent; vertices_lent = e.vertices_lent }
edit_played {was = was} {is = is} {r = Err x} e t o = record { agrees = cc; keeps = subst (Keeps was is) (sym t) e.keeps; sides_lent = e.sides_lent; vertices_lent = e.vertices_lent }
