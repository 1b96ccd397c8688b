-- What a map answers about its sides, for a caller in another language.
use Rattle.std.specs.Prelude.{ℕ, ◌+◌, ◌-◌, ◌/◌, cond, List, map, length, Ok, Err, Result, nat_lt}
use Rattle.std.specs.List.{enumerate_from}
use Rattle.std.specs.Result.{result_unwrap_or}
use Rattle.refusal.specs.declared.Refusal.{Refusal}
use Rattle.refusal.specs.declared.Refusal.TheVariants.{NoSuchElement}
use Rattle.topology.specs.Rows.{next_of, node_of, polygon_of, row_of, low_of}
use Rattle.topology.specs.States.{State}
use Rattle.bench_export.specs.declared.told.SideTold.{SideTold}

-- about side s
abbrev pub told_of : State → ℕ → SideTold
told_of m s = record {
  node = node_of m.sides s;
  polygon = polygon_of m.sides s;
  next = next_of m.sides s;
  lowest = low_of m.sides s;
  vertices = row_of m.sides (s / 2 + s / 2 + 1) - row_of m.sides (s / 2 + s / 2) + 1;
}

abbrev pub told_about : State → ℕ → Result SideTold Refusal
told_about m s = cond (nat_lt s (length m.sides)) (Ok (told_of m s)) (Err NoSuchElement)

-- a row past the last side stays
abbrev pub told_at : State → ℕ × SideTold → SideTold
told_at m p = result_unwrap_or (told_about m p.0) p.1

abbrev pub told_after : State → List SideTold → List SideTold
told_after m told = map (told_at m) (enumerate_from 0 told)
