-- Two rings that become one.
use Rattle.std.specs.Prelude.{ℕ, ◌+◌, Bool, cond, ◌||◌, ◌==◌}
use Rattle.topology.specs.declared.side.Side.{Side}
use Rattle.topology.specs.declared.merging.Merging.{Merging}

-- the ring that led to a side of the arc leads on past it
abbrev pub led_on : Merging → ℕ → ℕ
led_on c x = cond (x == c.side) c.past_unturned (cond (x == c.side + 1) c.past_turned x)

-- a ring is one of the two
abbrev pub merges : Merging → ℕ → Bool
merges c low = low == c.low_unturned || low == c.low_turned

-- a row of another arc, once the two rings are one
abbrev pub merged : Merging → Side → Side
merged c s = record {
  node = s.node;
  row = s.row;
  polygon = cond (merges c s.low) c.polygon s.polygon;
  next = led_on c s.next;
  low = cond (merges c s.low) c.low s.low;
}
