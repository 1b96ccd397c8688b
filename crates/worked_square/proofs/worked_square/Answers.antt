use Rattle.std.proofs.Common.{ℕ, List, length, ap, ◌∙◌}
use Rattle.listing.specs.Texts.{text_outcome, text_leaves}
use Rattle.history.specs.Runs.{world}
use Rattle.worked_square.proofs.Working.{worked, island_taken, all_listed, played}
use Rattle.worked_square.proofs.worked_square.Goals as goal

pub returns-in_err-replay-clause-worked : goal.returns-in_err-replay-clause-worked
returns-in_err-replay-clause-worked c = worked

pub returns-in_err-replay-clause-island : goal.returns-in_err-replay-clause-island
returns-in_err-replay-clause-island c = island_taken

pub returns : goal.returns
returns c =
    let out = c.args.out.now in
    let e = played _ c.calls-calls.result _ (world c.replay.new.map c.replay.new.text) _ c.args.steps c.start-map.ensures.state c.calls-calls.ensures c.min.ensures c.in_ok-replay.ensures.replayed.runs.1 in
    record {
      answer = c.list.ensures.answer ∙ ap (λ (t : List ℕ). text_outcome t (length out)) e;
      leaves = c.list.ensures.leaves ∙ ap (λ (t : List ℕ). text_leaves t out) e;
      worked = worked;
      island = island_taken;
      listed = all_listed;
    }
