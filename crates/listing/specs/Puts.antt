-- Text put into a buffer.
use Rattle.std.specs.Prelude.{◌≡◌, ℕ, ◌+◌, ◌/◌, ◌%◌, ◌^◌, ◌<◌, List, [], ◌∷◌, ◌++◌, length, cond, ◌==◌, Option, Some, None}
use Rattle.std.proofs.lemmas.List.Edits.{sets}
use Rattle.rings.specs.Circles.{ring}
use Rattle.topology.specs.Rows.{next_of}
use Rattle.topology.specs.States.{state_of}
use Rattle.listing.specs.declared.puts.Lister.{Lister}

-- the text was put at a place, as far as the buffer reaches, and the next goes to the place after it
pub record Put (was : List ℕ) (at : ℕ) (text is : List ℕ) (to : ℕ) : Type 0 where
  pub next : to ≡ at + length text
  pub after : is ≡ sets was at text

-- the same, where the bytes of the text can be counted
abbrev pub PutsAt : List ℕ → ℕ → List ℕ → List ℕ → ℕ → Type 0
PutsAt was at text is to = at + length text < 2 ^ 64 → Put was at text is to

-- the text was put into the buffer of a listing, where its bytes can be counted; the listing still has that buffer and its map
pub record Puts (was is : Lister) (text : List ℕ) : Type 0 where
  pub put : PutsAt was.out.now was.at text is.out.now is.at
  pub same : is.out.ghost_name ≡ was.out.ghost_name
  pub map : is.map ≡ was.map

-- the ring that a side starts
abbrev pub ring_at : Lister → ℕ → List ℕ
ring_at l s = ring (next_of (state_of l.map.now).sides) (length (state_of l.map.now).sides) s

-- what comes after p on the walk to s
abbrev pub step : (ℕ → ℕ) → ℕ → ℕ → Option ℕ
step f s p = cond (s == f p) None (Some (f p))

-- the two digits of a number below 100, and the four of one below 10,000
abbrev pub two : ℕ → List ℕ
two n = (48 + n / 10) ∷ (48 + n % 10) ∷ []

abbrev pub four : ℕ → List ℕ
four n = two (n / 100) ++ two (n % 100)
