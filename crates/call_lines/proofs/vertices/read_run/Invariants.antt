use Rattle.std.proofs.Common.{◌≡◌, ℕ, ◌<◌, true, length, get_or, take, vec_items}
use Rattle.std.specs.List.{list_all}
use Rattle.topology.specs.Rows.{no_vertex}
use Rattle.line_words.specs.LineWords.{texts, word}
use Rattle.call_lines.specs.Spoken.{coordinates, is_vertex, Written}
use Rattle.call_lines.proofs.vertices.read_run.Given as goal

abbrev pub invariant-loop-word : goal.invariant-loop-word
invariant-loop-word l = record {
  fit : list_all is_vertex (take l.word-index (texts l.words)) ≡ true;
  long : length (vec_items l.vertices) ≡ l.word-index;
  each : (k : ℕ) → k < l.word-index → Written (coordinates (word (texts l.words) k)) (get_or (vec_items l.vertices) k no_vertex);
}
