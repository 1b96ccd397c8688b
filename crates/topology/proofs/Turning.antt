-- What a node's turn meets, from the law of a map.
use Rattle.std.proofs.Common.{◌≡◌, ℕ, Bool, true, false, cond, ltb, length, Ok, Err, OnOk, Result, refl, arith}
use Rattle.std.proofs.lemmas.Bool.{ltb-true}
use Rattle.refusal.specs.declared.Refusal.{Refusal}
use Rattle.refusal.specs.declared.Refusal.TheVariants.{NoSuchElement}
use Rattle.rings.proofs.Words.{turn_meets}
use Rattle.topology.specs.declared.map.Map.{Map}
use Rattle.topology.specs.Rows.{next_of, node_of}
use Rattle.topology.specs.States.{state_of}
use Rattle.topology.specs.Questions.{about_side, TurnMeets}
use Rattle.topology.proofs.Assembling.{lawful_of}

-- an answer that is no refusal was asked of a thing that is there, and is that thing
pub there : {X : Type 0} (b : Bool) (r x : X) → ◌≡◌ {A = Result X Refusal} (Ok r) (cond b (Ok x) (Err NoSuchElement)) → (b ≡ true) × (x ≡ r)
there true r x h = (refl, cc)
there false r x h = absurd (let z : ◌≡◌ {A = ℕ} 0 1 = cc in omega arith)

pub turns_meet : (m : Map) (s : ℕ) (r : Result ℕ Refusal) → r ≡ about_side node_of (state_of m) s → OnOk r (TurnMeets (state_of m) s)
turns_meet m s (Ok v) h =
    λ t l e.
    let us = (state_of m).sides in
    let L = lawful_of m in
    turn_meets (next_of us) (node_of us) (length us) m.nodes L.in_turns L.rings_close L.one_turn s t
    (ltb-true s (length us) (there (ltb s (length us)) v (node_of us s) h).0) l e
turns_meet m s (Err e) h = tt
