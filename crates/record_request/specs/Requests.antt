-- Which words ask for which records of a file, and which fault comes for which words.
use Rattle.std.specs.Prelude.{◌≡◌, ℕ, zero, suc, Bool, true, false, cond, not, ◌&&◌, List, [], ◌∷◌, is_some, Some, None, Ok, Err, codes, Option, Result, ◌==◌, ok_or, unwrap_or}
use Rattle.std.specs.Float.Parse.{is_float_text}
use Rattle.std.specs.Str.{bytes_eq}
use Rattle.boxes.specs.declared.edges.Edges.{Edges}
use Rattle.line_words.specs.LineWords.{word}
use Rattle.words.specs.Words.{whole_of, character_of, Decimal}
use Rattle.record_request.specs.declared.Fault.{Fault}
use Rattle.record_request.specs.declared.Fault.TheVariants.{Usage, Letter, Arcs, Window, NoBoxes}
use Rattle.record_request.specs.declared.Options.{Options}
use Rattle.record_request.specs.declared.Request.{Request}

-- the words of a window's bounds
pub record Corners : Type 0 where
  pub minx : List ℕ
  pub maxx : List ℕ
  pub miny : List ℕ
  pub maxy : List ℕ

-- what options give, by their words
pub record Given : Type 0 where
  pub arcs : Option ℕ
  pub window : Option Corners

-- `--window` takes four decimal numbers
abbrev pub corners : List (List ℕ) → Option Corners
corners ws =
    cond (is_float_text (word ws 0) && (is_float_text (word ws 1) && (is_float_text (word ws 2) && is_float_text (word ws 3))))
    (Some (record { minx = word ws 0; maxx = word ws 1; miny = word ws 2; maxy = word ws 3 })) None

-- `--arcs` takes a whole number
abbrev pub arcs_option : List (List ℕ) → Result ℕ Fault
arcs_option ws = ok_or (whole_of (word ws 0)) Arcs

-- an option's value, and the options after it
abbrev pub joined : {A : Type 0} → (A → Given → Given) → Result A Fault → Result Given Fault → Result Given Fault
joined put (Err f) r = Err f
joined put (Ok a) (Ok g) = Ok (put a g)
joined put (Ok a) (Err f) = Err f

abbrev pub with_arcs : ℕ → Given → Given
with_arcs n g = record { arcs = Some n; window = g.window }

abbrev pub with_window : Corners → Given → Given
with_window c g = record { arcs = g.arcs; window = Some c }

-- a word is the named option, which was not given before
abbrev pub is_new : List ℕ → List ℕ → Bool → Bool
is_new x name given = bytes_eq x name && not given

-- What the options give, each of them at most once: a and w tell whether `--arcs` and `--window` stood before, and k words still belong to the option before.
-- The first fault in the order of the words counts.
abbrev pub options : ℕ → Bool → Bool → List (List ℕ) → Result Given Fault
options k a w [] = Ok (record { arcs = None; window = None })
options zero a w (x ∷ ws) =
    cond (is_new x (codes "--arcs") a) (joined with_arcs (arcs_option ws) (options 1 true w ws))
    (cond (is_new x (codes "--window") w) (joined with_window (ok_or (corners ws) Window) (options 4 a true ws))
    (Err Usage))
options (suc k) a w (x ∷ ws) = options k a w ws

-- what a request asks for, by its words
pub record Asked : Type 0 where
  pub letter : ℕ
  pub arcs : ℕ
  pub window : Option Corners

-- nodes (N) have no boxes
abbrev pub request : ℕ → Result Given Fault → Result Asked Fault
request c (Err f) = Err f
request c (Ok g) = cond (c == 78 && is_some g.window) (Err NoBoxes) (Ok (record { letter = c; arcs = unwrap_or g.arcs 0; window = g.window }))

abbrev pub lettered : Option ℕ → List (List ℕ) → Result Asked Fault
lettered None ws = Err Letter
lettered (Some c) ws = request c (options 0 false false ws)

-- a letter, a file, and options
abbrev pub asked : List (List ℕ) → Result Asked Fault
asked [] = Err Usage
asked (letter ∷ []) = Err Usage
asked (letter ∷ file ∷ ws) = lettered (character_of letter) ws

-- the bounds are what the words say
pub record Drawn (c : Corners) (e : Edges) : Type 0 where
  pub minx : Decimal c.minx (Some e.minx)
  pub maxx : Decimal c.maxx (Some e.maxx)
  pub miny : Decimal c.miny (Some e.miny)
  pub maxy : Decimal c.maxy (Some e.maxy)

abbrev pub Bounded : Option Corners → Option Edges → Type 0
Bounded None None = Unit {0}
Bounded None (Some e) = ⊥
Bounded (Some c) None = ⊥
Bounded (Some c) (Some e) = Drawn c e

abbrev pub WindowGiven : Option Corners → Result Edges Fault → Type 0
WindowGiven None (Ok e) = ⊥
WindowGiven None (Err f) = f ≡ Window
WindowGiven (Some c) (Err f) = ⊥
WindowGiven (Some c) (Ok e) = Drawn c e

abbrev pub Gives : Result Given Fault → Result Options Fault → Type 0
Gives (Err f) (Ok o) = ⊥
Gives (Err f) (Err d) = d ≡ f
Gives (Ok g) (Err f) = ⊥
Gives (Ok g) (Ok o) = (o.arcs ≡ g.arcs) × Bounded g.window o.window

-- the answer to a request
abbrev pub Answers : Result Asked Fault → Result Request Fault → Type 0
Answers (Err f) (Ok q) = ⊥
Answers (Err f) (Err d) = d ≡ f
Answers (Ok a) (Err f) = ⊥
Answers (Ok a) (Ok q) = (q.letter ≡ a.letter) × (q.arcs ≡ a.arcs) × Bounded a.window q.window
