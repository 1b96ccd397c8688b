use Rattle.std.proofs.Common.{ap, ◌∙◌}
use Rattle.topology.specs.States.{state_of}
use Rattle.listing.specs.Texts.{listing, text_leaves}
use Rattle.bench_export.proofs.Nesting.{leaves_again}
use Rattle.bench_export.proofs.nests.list_again.Goals as goal

pub loop-i-preserved : goal.loop-i-preserved
loop-i-preserved c =
    let text = listing (state_of c.args.map.now) in
    ap (text_leaves text) c.list.ensures.leaves ∙ leaves_again text c.loop-i.out ∙ c.loop-i.invariant
