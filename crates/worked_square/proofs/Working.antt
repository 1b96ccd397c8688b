-- The worked square, computed.
use Rattle.std.proofs.Common.{◌≡◌, ℕ, zero, suc, false, List, [], ◌∷◌, map, take, min, pos, Ok, Result, refl, sym, ap, ◌∙◌}
use Rattle.std.proofs.lemmas.List.{take-map, take_min}
use lib.Ieee.{fin, binary64, of_bits, eq}
use Rattle.std.specs.Float.{float_is_finite}
use Rattle.std.specs.Fmt.{digits}
use Rattle.topology.specs.declared.vertex.Vertex.{Vertex}
use Rattle.refusal.specs.declared.Refusal.{Refusal}
use Rattle.topology.specs.States.{State}
use Rattle.topology.specs.Islands.{island_outcome}
use Rattle.listing.specs.Texts.{listing}
use Rattle.calls.specs.declared.call.Call.{Call}
use Rattle.history.specs.Runs.{World, after, replayed}
use Rattle.worked_square.specs.Squares.{square, Line, call_of, lines, blank_text, start, Worked, square_after, text_from, text_after}

pub nought_is : of_bits binary64 0 ≡ fin false 0 (pos 0)
unfolding of_bits
nought_is = refl

pub ten_is : of_bits binary64 4621819117588971520 ≡ fin false 5 (pos 1)
unfolding of_bits
ten_is = refl

-- the whole working, each part by computing both sides
pub worked : Worked start blank_text lines
unfolding digits float_is_finite eq
worked = (refl, refl, (refl, refl, (refl, refl, (refl, refl, (refl, refl, (refl, refl, (refl, refl, (refl, refl, (refl, refl, refl)))))))))

pub island_taken : ◌≡◌ {A = Result State Refusal} (island_outcome (square_after 0) 0 square) (Ok (square_after 1))
unfolding float_is_finite eq
island_taken = refl

-- ---- a map that was worked so far

-- where the first k calls of a working were played, the map lists as the last of their lines says
pub listed : (w : World) (text : List ℕ) (ls : List Line) → Worked w text ls → (k : ℕ) → listing (replayed w (take k (map call_of ls))).state ≡ text_from text ls k
listed w text [] e zero = e
listed w text [] e (suc k) = e
listed w text (l ∷ ls) (h, a, e) zero = h
listed w text (l ∷ ls) (h, a, e) (suc k) = listed (after w l.call) l.text ls e k

pub all_listed : (k : ℕ) → listing (square_after k) ≡ text_after k
all_listed = listed start blank_text lines worked

-- the listing of a map on which so many of the calls were played, or all of them when there are not so many
pub played : {X : Type 0} (f : X → Call (List Vertex)) (cs : List X) (m : State) (w : World) (n k : ℕ) →
    m ≡ start.state → map f cs ≡ map call_of lines → n ≡ min k 9 → w ≡ replayed (record { state = m; text = [] }) (map f (take n cs)) → listing w.state ≡ text_after k
played f cs m w n k s c l e =
    let h : map f (take n cs) ≡ take k (map call_of lines) =
    sym (take-map f n cs) ∙ ap (take n) c ∙ ap (λ (j : ℕ). take j (map call_of lines)) l ∙ take_min k (map call_of lines) in
    ap (λ (v : World). listing v.state) (e ∙ ap (λ (v : State). replayed (record { state = v; text = [] }) (map f (take n cs))) s ∙ ap (replayed start) h) ∙ all_listed k
