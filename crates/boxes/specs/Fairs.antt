-- Four bounds that make a box: finite and in order.
use Rattle.std.specs.Prelude.{Bool, ◌&&◌}
use Rattle.std.specs.Float.Ieee.{le}
use Rattle.std.specs.Float.{float_is_finite}
use Rattle.boxes.specs.declared.edges.Edges.{Edges}

abbrev pub fair_edges : Edges → Bool
fair_edges e = float_is_finite e.minx && float_is_finite e.maxx && float_is_finite e.miny && float_is_finite e.maxy && le e.minx e.maxx && le e.miny e.maxy
