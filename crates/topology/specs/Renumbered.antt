-- The numbers of sides, nodes and polygons once the highest of each kind has filled a gap.
use Rattle.std.specs.Prelude.{ℕ, ◌+◌, cond, ◌==◌, min}
use Rattle.rings.specs.Edits.{fill}
use Rattle.topology.specs.declared.side.Side.{Side}
use Rattle.topology.specs.declared.renumbering.Renumbering.{Renumbering}

-- the side that has number s once the last arc has filled the gap
abbrev pub side_filled : Renumbering → ℕ → ℕ
side_filled c s = fill c.side c.last_side (fill (c.side + 1) (c.last_side + 1) s)

-- the rings of the polygon that goes stand under another, and the last polygon fills the gap
abbrev pub polygon_filled : Renumbering → ℕ → ℕ
polygon_filled c p = fill c.polygon c.last_polygon (fill c.into c.polygon p)

-- the rings of the last arc have a lower side now, where the arc's new number is lower
abbrev pub low_filled : Renumbering → ℕ → ℕ
low_filled c l =
    cond (l == c.low_unturned) (min c.low_unturned c.side)
    (cond (l == c.low_turned) (min c.low_turned (c.side + 1)) l)

abbrev pub renumbered : Renumbering → Side → Side
renumbered c s = record {
  node = fill c.node c.last_node s.node;
  row = s.row;
  polygon = polygon_filled c s.polygon;
  next = side_filled c s.next;
  low = low_filled c s.low;
}

-- the same one number after the other: a row whose next side and lowest side have their new numbers, one whose node has, and one whose
-- polygon has
abbrev pub sides_renumbered : Renumbering → Side → Side
sides_renumbered c s = record { node = s.node; row = s.row; polygon = s.polygon; next = side_filled c s.next; low = low_filled c s.low }

abbrev pub node_renumbered : Renumbering → Side → Side
node_renumbered c s = record { node = fill c.node c.last_node s.node; row = s.row; polygon = s.polygon; next = s.next; low = s.low }

abbrev pub polygon_renumbered : Renumbering → Side → Side
polygon_renumbered c s = record { node = s.node; row = s.row; polygon = polygon_filled c s.polygon; next = s.next; low = s.low }
