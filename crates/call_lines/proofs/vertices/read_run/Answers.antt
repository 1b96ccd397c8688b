use Rattle.std.proofs.Common.{◌≡◌, ◌<◌, length, vec_items, string_bytes, arith, rules, below_more, [], ◌∷◌, ◌++◌, ap, ◌∙◌}
use lib.ListN.{get_or-append}
use Rattle.std.proofs.lemmas.Grind.{common_steps}
use Rattle.std.proofs.lemmas.List.{length-map, get_or_push}
use Rattle.std.proofs.lemmas.List.Folds.{list_all_at}
use Rattle.line_words.specs.LineWords.{texts}
use Rattle.call_lines.specs.Spoken.{is_vertex}
use Rattle.call_lines.proofs.VertexWords.{word_is}
use Rattle.call_lines.proofs.vertices.read_run.Goals as goal

pub returns-in_default : goal.returns-in_default
returns-in_default c =
    let w = word_is c.args.words.now c.loop-word.word-index c.word-item.result c.as_str.result.now (omega arith) c.word-item.is c.as_str.ensures.value in
    list_all_at is_vertex (texts c.args.words.now) c.loop-word.word-index [] (omega (arith, length-map c.args.words.now string_bytes)) (ap is_vertex w ∙ c.in_default.ensures)

pub loop-word-preserved : goal.loop-word-preserved
loop-word-preserved c =
    let w = word_is c.args.words.now c.loop-word.word-index c.word-item.result c.as_str.result.now (omega arith) c.word-item.is c.as_str.ensures.value in
    let l : c.loop-word.word-index < length (texts c.args.words.now) = omega (arith, length-map c.args.words.now string_bytes) in
    let e : vec_items c.push.new.self ≡ vec_items c.loop-word.vertices ++ c.in-Some.vertex ∷ [] = search rules in
    record {
      fit = grind (arith, common_steps, w);
      long = search rules;
      each = rw e (below_more _ _
          (λ k p. let m : k < length (vec_items c.loop-word.vertices) = omega arith in rw get_or-append (c.loop-word.invariant.each k p))
          (rw (w, get_or_push _ _ _ _ c.loop-word.invariant.long) c.in-Some.ensures.1));
    }
