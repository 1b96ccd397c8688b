-- Boxes: as they are stored, as values, and when two meet.
use Rattle.std.specs.Prelude.{◌≡◌, ℕ, ◌+◌, ◌<◌, ◌≤◌, Bool, true, false, ◌&&◌, ◌⊎◌, List, length, Ok, Err, Result, from_bits, Float}
use Rattle.std.specs.Float.Ieee.{le}
use Rattle.std.specs.Float.{float_is_finite, binary64}
use Rattle.refusal.specs.declared.Refusal.{Refusal}
use Rattle.refusal.specs.declared.Refusal.TheVariants.{PastEnd, UnfitBox}
use Rattle.boxes.specs.declared.edges.Edges.{Edges}
use Rattle.boxes.specs.declared.bounds.Bounds.{Bounds}
use Rattle.boxes.specs.Doubles.{double_at}
pub use Rattle.boxes.specs.Fairs.{fair_edges}

-- the four doubles that stand at a place: minX, maxX, minY, maxY
abbrev pub edges_at : List ℕ → ℕ → Edges
edges_at bs at = record { minx = double_at bs at; maxx = double_at bs (at + 8); miny = double_at bs (at + 16); maxy = double_at bs (at + 24) }

-- a point that stands at a place, as a box
abbrev pub point_at : List ℕ → ℕ → Edges
point_at bs at = record { minx = double_at bs at; maxx = double_at bs at; miny = double_at bs (at + 8); maxy = double_at bs (at + 8) }

-- four bounds by their bits
abbrev pub edges_of_bits : ℕ → ℕ → ℕ → ℕ → Edges
edges_of_bits a b c d = record { minx = from_bits binary64 a; maxx = from_bits binary64 b; miny = from_bits binary64 c; maxy = from_bits binary64 d }

abbrev pub edges_of : Bounds → Edges
edges_of b = b.edges

-- A box is made of four bounds: refused exactly when they are not finite and in order.
abbrev pub Made : Edges → Result Bounds Refusal → Type 0
Made e (Ok b) = (fair_edges e ≡ true) × (edges_of b ≡ e)
Made e (Err r) = (fair_edges e ≡ false) × (r ≡ UnfitBox)

-- A box whose bounds e stand in n bytes at a place is read: 1 when they pass the end, then 10 when they are not finite and in order.
abbrev pub BoxRead : List ℕ → ℕ → ℕ → Edges → Result Bounds Refusal → Type 0
BoxRead bs at n e (Ok b) = (at + n ≤ length bs) × (fair_edges e ≡ true) × (edges_of b ≡ e)
BoxRead bs at n e (Err r) = ((r ≡ PastEnd) × (length bs < at + n)) ⊎ ((r ≡ UnfitBox) × (at + n ≤ length bs) × (fair_edges e ≡ false))

-- the test by which two boxes are found to meet
abbrev pub meets : Edges → Edges → Bool
meets a b = le a.minx b.maxx && le b.minx a.maxx && le a.miny b.maxy && le b.miny a.maxy

-- a place lies in a box, its edges counted
abbrev pub Inside : Edges → Float → Float → Type 0
Inside a x y = (le a.minx x ≡ true) × (le x a.maxx ≡ true) × (le a.miny y ≡ true) × (le y a.maxy ≡ true)

-- two boxes share a place
abbrev pub Share : Edges → Edges → Type 0
Share a b = (x : Float) × (y : Float) × (float_is_finite x ≡ true) × (float_is_finite y ≡ true) × Inside a x y × Inside b x y
