-- Which words of a command line start which blank map.
use Rattle.std.specs.Prelude.{ℕ, cond, List, [], ◌∷◌, Some, None, Ok, Err, codes, Option, Result, ok_or, unwrap_or}
use Rattle.std.specs.Str.{bytes_eq}
use Rattle.topology.specs.declared.hand.Hand.{Hand}
use Rattle.topology.specs.declared.hand.Hand.TheVariants.{Right, Left}
use Rattle.words.specs.Words.{whole_of}
use Rattle.journal_settings.specs.declared.settings.Given.{Given}
use Rattle.journal_settings.specs.declared.settings.Settings.{Settings}
use Rattle.journal_settings.specs.declared.fault.Fault.{Fault}
use Rattle.journal_settings.specs.declared.fault.Fault.TheVariants.{Usage, WrongHand, WrongSides, WrongVertices}

abbrev pub hand_of : List ℕ → Option Hand
hand_of w = cond (bytes_eq w (codes "right")) (Some Right) (cond (bytes_eq w (codes "left")) (Some Left) None)

-- an option's value: none before, and one now; else a fault
abbrev pub once : {A : Type 0} → Fault → Option A → Option A → Result A Fault
once wrong (Some before) value = Err Usage
once wrong None value = ok_or value wrong

abbrev pub then : {A B : Type 0} → Result A Fault → (A → Result B Fault) → Result B Fault
then (Ok a) f = f a
then (Err e) f = Err e

-- one option with its value
abbrev pub option : Given → List ℕ → List ℕ → Result Given Fault
option g name value =
    cond (bytes_eq name (codes "--hand")) (then (once WrongHand g.hand (hand_of value)) (λ h. Ok (record g { hand = Some h })))
    (cond (bytes_eq name (codes "--sides")) (then (once WrongSides g.sides (whole_of value)) (λ n. Ok (record g { sides = Some n })))
    (cond (bytes_eq name (codes "--vertices")) (then (once WrongVertices g.vertices (whole_of value)) (λ n. Ok (record g { vertices = Some n })))
    (Err Usage)))

-- the options in their order, each with the word after it; the first fault counts
abbrev pub options : Given → List (List ℕ) → Result Given Fault
options g [] = Ok g
options g (name ∷ []) = then (option g name []) (λ h. Ok h)
options g (name ∷ value ∷ ws) = then (option g name value) (λ h. options h ws)

abbrev pub nothing : Given
nothing = record { hand = None; sides = None; vertices = None }

-- hand right, and tables of the largest map, unless told otherwise
abbrev pub settings_of : Given → Settings
settings_of g = record { hand = unwrap_or g.hand Right; sides = unwrap_or g.sides 32768; vertices = unwrap_or g.vertices 1048576 }

abbrev pub settings : List (List ℕ) → Result Settings Fault
settings ws = then (options nothing ws) (λ g. Ok (settings_of g))
