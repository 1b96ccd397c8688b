-- What a call that hands out a part of a file answers.
use Rattle.std.specs.Prelude.{◌≡◌, ℕ, List, length, Ok, Err, Result}
use Rattle.refusal.specs.declared.Refusal.{Refusal}
use Rattle.media.specs.Runs.{run}
use Rattle.tables.specs.declared.part.Part.{Part}

-- The call agrees with its outcome, and the part holds the bytes that stand there.
abbrev pub Handed : List ℕ → Result (ℕ × ℕ) Refusal → Result Part Refusal → Type 0
Handed bs o (Ok p) = (o ≡ Ok (p.place, length p.bytes.now)) × (p.bytes.now ≡ run bs p.place (length p.bytes.now))
Handed bs o (Err e) = o ≡ Err e

-- the place and the length of a part that was handed out, or the refusal
abbrev pub extent_of : Result Part Refusal → Result (ℕ × ℕ) Refusal
extent_of (Ok p) = Ok (p.place, length p.bytes.now)
extent_of (Err e) = Err e
