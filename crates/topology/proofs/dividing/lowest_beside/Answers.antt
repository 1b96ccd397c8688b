use Rattle.std.proofs.Common.{not, eqb, length, min, fold, ap, ◌∙◌, rules, tests}
use Rattle.std.specs.Iterator.Adapters.{successors_next, successors_callee}
use Rattle.std.proofs.lemmas.Iterator.Consumers.{YieldsList-at, fold_from_yields_List}
use Rattle.std.proofs.lemmas.Iterator.Search.{YieldsList-from_take_while}
use Rattle.rings.specs.Circles.{walk, rings}
use Rattle.rings.proofs.Closed.{within}
use Rattle.rings.proofs.Ringed.{ringed_circles}
use Rattle.topology.specs.Rows.{next_of}
use Rattle.topology.proofs.Rounds.{YieldsList-following, walk_round, lowest_folds}
use Rattle.topology.proofs.dividing.lowest_beside.Goals as goal

pub returns : goal.returns
returns c =
    let us = c.args.sides.now in
    let n = length us in
    let f = next_of us in
    let s = c.args.start in
    let stays = within f n (rings f n) (ringed_circles f n c.requires.ringed) in
    fold_from_yields_List _ min c.args.from c.fold.result c.fold.ensures.ran
    (YieldsList-from_take_while _ (λ y. not (eqb s y))
    (YieldsList-at c.take_while.ensures.source (YieldsList-following _ f n stays _ (λ x r q k. search (rules, tests)) n (f s) _ (stays s c.requires.here) c.take.ensures.count
    (ap successors_callee c.take.ensures.source ∙ c.successors.ensures.closure) (ap successors_next c.take.ensures.source ∙ c.successors.ensures.item)))
    c.take_while.ensures.closure c.take_while.ensures.done (λ x b q k. search (rules, tests)))
    (λ a x b q k. search (rules, tests))
    ∙ (ap (fold min c.args.from) (walk_round f n s s) ∙ lowest_folds c.args.from (walk f n s s))
