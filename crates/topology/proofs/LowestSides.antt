-- The lowest side of a ring, from the law of a map.
use Rattle.std.proofs.Common.{◌≡◌, ℕ, ltb, length, Ok, Err, Result, IfOk, subst}
use Rattle.std.proofs.lemmas.Bool.{ltb-true}
use Rattle.rings.proofs.Ringwise.{lowest}
use Rattle.refusal.specs.declared.Refusal.{Refusal}
use Rattle.topology.specs.declared.map.Map.{Map}
use Rattle.topology.specs.Rows.{next_of, low_of}
use Rattle.topology.specs.States.{state_of}
use Rattle.topology.specs.Questions.{about_side, LowestOfRing}
use Rattle.topology.proofs.Assembling.{lawful_of}
use Rattle.topology.proofs.Turning.{there}

pub lowest_told : (m : Map) (s : ℕ) (r : Result ℕ Refusal) → r ≡ about_side low_of (state_of m) s → IfOk r (λ low. LowestOfRing (state_of m) s low)
lowest_told m s (Ok v) h =
    let us = (state_of m).sides in
    let L = lawful_of m in
    let (b, e) = there (ltb s (length us)) v (low_of us s) h in
    subst (λ (low : ℕ). LowestOfRing (state_of m) s low) e
    (lowest (next_of us) (low_of us) (length us) L.in_rings L.low_along L.low_below L.low_names s (ltb-true s (length us) b))
lowest_told m s (Err e) h = tt
