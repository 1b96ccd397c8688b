use Rattle.std.proofs.Common.{ℕ, ◌/◌, not, ◌&&◌, ◌||◌, eqb, ◌∙◌, rules, tests}
use Rattle.std.proofs.lemmas.Iterator.Search.{any_from_yields_List}
use Rattle.topology.specs.declared.side.Side.{Side}
use Rattle.topology.proofs.Enumerated.{numbered, other_listed}
use Rattle.topology.proofs.lifts.has_other_under.Goals as goal

pub returns : goal.returns
returns c =
    let us = c.args.sides.now in
    any_from_yields_List (λ (x : ℕ × Side). not (eqb (x.0 / 2) c.args.arc) && (eqb x.1.polygon c.args.p || eqb x.1.polygon c.args.q)) _ _ c.any.result c.any.ensures.ran
    (numbered us c.iter.ensures.rest c.enumerate.ensures.source c.enumerate.ensures.count) (λ x r q k. search (rules, tests))
    ∙ other_listed us c.args.arc c.args.p c.args.q
