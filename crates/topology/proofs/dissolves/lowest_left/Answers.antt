use Rattle.std.proofs.Common.{ℕ, min, ap, ◌∙◌}
use Rattle.topology.proofs.MergesBeside.{left_is}
use Rattle.topology.proofs.dissolves.lowest_left.Goals as goal

pub returns : goal.returns
returns c =
    c.min.ensures
    ∙ (ap (λ (k : ℕ). min k c.lowest_other-2.result) c.lowest_other.ensures
    ∙ (ap (min _) c.lowest_other-2.ensures ∙ left_is c.args.sides.now c.requires.ringed c.requires.along c.requires.named c.requires.below c.args.arc c.requires.here c.requires.apart))
