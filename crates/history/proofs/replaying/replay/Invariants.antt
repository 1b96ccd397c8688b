use Rattle.std.proofs.Common.{◌≡◌, map, take}
use Rattle.calls.specs.Outcomes.{with_run}
use Rattle.history.specs.Runs.{world, PlayedEach}
use Rattle.history.proofs.Turns.{Goes}
use Rattle.history.proofs.Frees.{Frees}
use Rattle.history.proofs.replaying.replay.Given as goal

abbrev pub invariant-loop-i : goal.invariant-loop-i
invariant-loop-i g l = record {
  goes : Goes (world l.initial.map l.initial.text) (world l.map l.text) (map (with_run g.R.AsSlice.items) l.calls) l.i l.told l.initial.told;
  frees : Frees (world l.initial.map l.initial.text) (world l.map l.text) (map (with_run g.R.AsSlice.items) l.calls) l.i l.initial.map l.map;
  each : PlayedEach (take l.i (map (with_run g.R.AsSlice.items) l.calls)) l.initial.map l.map l.initial.text l.text (take l.i l.told);
  sides_lent : l.map.sides.rows.ghost_name ≡ l.initial.map.sides.rows.ghost_name;
  vertices_lent : l.map.vertices.rows.ghost_name ≡ l.initial.map.vertices.rows.ghost_name;
}
