use Rattle.std.proofs.Common.{◌≡◌, ℕ, ◌<◌, not, eqb, length, Some, sym, ap, ◌∙◌, subst, rules, tests}
use Rattle.std.specs.Iterator.Adapters.{successors_next, successors_callee}
use Rattle.std.proofs.lemmas.Iterator.Consumers.{YieldsList-at, fold_from_yields_List}
use Rattle.std.proofs.lemmas.Iterator.Search.{YieldsList-from_take_while}
use Rattle.rings.specs.Circles.{walk, rings}
use Rattle.rings.specs.Law.{opp, turn}
use Rattle.rings.proofs.Split.{opp_low}
use Rattle.rings.proofs.Closed.{within}
use Rattle.rings.proofs.Ringed.{ringed_circles}
use Rattle.topology.specs.Rows.{next_of}
use Rattle.topology.proofs.Rounds.{YieldsList-following, walk_round, last_from, last_leads, last_within, goes_round}
use Rattle.topology.proofs.walks.before.Goals as goal
use Rattle.topology.proofs.walks.before.Goals.{After-opposite-2}

last_met : (c : After-opposite-2) → c.fold-last.result ≡ last_from c.args.side (walk (turn (next_of c.args.sides.now)) (length c.args.sides.now) c.args.side c.args.side)
last_met c =
    let us = c.args.sides.now in
    let n = length us in
    let f = turn (next_of us) in
    let s = c.args.side in
    let stays = within f n (rings f n) (ringed_circles f n c.requires.turned) in
    fold_from_yields_List _ (λ a x. x) s c.fold-last.result c.fold-last.ensures.ran
    (YieldsList-from_take_while _ (λ y. not (eqb s y))
    (YieldsList-at c.take_while.ensures.source (YieldsList-following _ f n stays _ (λ x r q k. let l : x < n → opp x < n = opp_low n x c.requires.even in search (rules, tests, l)) n (f s) _ (stays s c.requires.here) c.take.ensures.count
    (ap successors_callee c.take.ensures.source ∙ c.successors.ensures.closure) (ap successors_next c.take.ensures.source
    ∙ (c.successors.ensures.item ∙ ap (λ (k : ℕ). Some (next_of us k)) c.opposite.ensures.value))))
    c.take_while.ensures.closure c.take_while.ensures.done (λ x b q k. search (rules, tests)))
    (λ a x b q k. search (rules, tests))
    ∙ ap (last_from s) (walk_round f n s s)

pub returns-clause-low : goal.returns-clause-low
returns-clause-low c =
    let us = c.args.sides.now in
    let n = length us in
    let f = turn (next_of us) in
    let s = c.args.side in
    let stays = within f n (rings f n) (ringed_circles f n c.requires.turned) in
    let l = last_within f n stays s s (walk f n s s) (goes_round f n s c.requires.turned c.requires.here) c.requires.here in
    subst (λ (k : ℕ). k < n) (ap opp (sym (last_met c)) ∙ sym c.opposite-2.ensures.value) (opp_low n (last_from s (walk f n s s)) c.requires.even l)

pub returns-clause-leads : goal.returns-clause-leads
returns-clause-leads c =
    let us = c.args.sides.now in
    let n = length us in
    let f = turn (next_of us) in
    let s = c.args.side in
    ap (next_of us) (c.opposite-2.ensures.value ∙ ap opp (last_met c)) ∙ last_leads f s s (walk f n s s) (goes_round f n s c.requires.turned c.requires.here)
