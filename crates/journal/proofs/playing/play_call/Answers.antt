use Rattle.std.proofs.Common.{◌≡◌, vec_items, ap, ◌∙◌, subst, arith, rules, replicate}
use Rattle.std.proofs.lemmas.Result.{IfOk-weaker}
use Rattle.answer_lines.specs.AnswerTexts.{AnswerText}
use Rattle.journal.proofs.LineSteps.{done, whole}
use Rattle.journal.proofs.playing.play_call.Goals as goal

pub returns : goal.returns
returns c =
    let left : c.as_slice.result.now ≡ c.play_one-answer.new.text = c.as_slice.ensures.value ∙ whole _ c.play_one-answer.new.text _ (omega (arith, c.play_one-answer.auto.text, c.as_mut_slice.ensures.len)) in
    let zeros : c.as_mut_slice.result.now ≡ replicate c.room.result 0 = c.as_mut_slice.ensures.value ∙ search rules in
    IfOk-weaker c.answer_text.result _ _
    (λ bs h. done c.args.call c.args.map.now c.play_one-answer.new.map c.as_mut_slice.result.now c.play_one-answer.new.text c.play_one-answer.result (vec_items bs) (zeros ∙ ap (λ n. replicate n 0) c.room.ensures) c.play_one-answer.ensures (subst (λ l. AnswerText c.play_one-answer.result l (vec_items bs)) left h))
    c.answer_text.ensures
