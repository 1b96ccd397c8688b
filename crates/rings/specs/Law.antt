-- The law of a map: its rings and the turns about its nodes.
use Rattle.std.specs.Prelude.{◌≡◌, ℕ, ◌+◌, ◌-◌, ◌*◌, ◌%◌, ◌<◌, ◌≤◌, ◌&&◌, ◌==◌, nat_lt}
use Rattle.rings.specs.Circles.{one_if, occ, occs, names, rings}

-- the other side of the arc
abbrev pub opp : ℕ → ℕ
opp s = (s + 1) - 2 * (s % 2)

-- the side after s in the turn about the node where s begins
abbrev pub turn : (ℕ → ℕ) → ℕ → ℕ
turn next s = next (opp s)

-- each number below n stands once in the rings of f, and no other: f has circles there
abbrev pub Ringed : (ℕ → ℕ) → ℕ → Type 0
Ringed f n = (k : ℕ) → occs k (rings f n) ≡ one_if (nat_lt k n)

-- the parts of the law, over the next side, the node where a side begins and its polygon
abbrev pub Closes : (ℕ → ℕ) → (ℕ → ℕ) → ℕ → Type 0
Closes next node n = (s : ℕ) → s < n → node (turn next s) ≡ node s

-- one label along each circle
abbrev pub Along : (ℕ → ℕ) → (ℕ → ℕ) → ℕ → Type 0
Along next pol n = (s : ℕ) → s < n → pol (next s) ≡ pol s

-- each node has one turn, and what is no node has none
abbrev pub Noded : (ℕ → ℕ) → (ℕ → ℕ) → ℕ → ℕ → Type 0
Noded next node n nodes = (v : ℕ) → occ v (names node (rings (turn next) n)) ≡ one_if (nat_lt v nodes)

-- low tells the lowest member of each circle: one number along the circle, at most each member, and named by that one circle
abbrev pub LowAlong : (ℕ → ℕ) → (ℕ → ℕ) → ℕ → Type 0
LowAlong next low n = Along next low n

abbrev pub LowBelow : (ℕ → ℕ) → ℕ → Type 0
LowBelow low n = (s : ℕ) → s < n → low s ≤ s

abbrev pub LowNames : (ℕ → ℕ) → (ℕ → ℕ) → ℕ → Type 0
LowNames next low n = (v : ℕ) → occ v (names low (rings next n)) ≡ one_if (nat_lt v n && low v == v)
