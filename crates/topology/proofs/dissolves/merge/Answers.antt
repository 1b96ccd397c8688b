use Rattle.std.proofs.Common.{ℕ, ◌+◌, List, map, length, ap, sym, ◌∙◌, subst}
use Rattle.std.specs.List.{range_with_len}
use Rattle.rings.specs.Law.{Ringed}
use Rattle.topology.specs.declared.side.Side.{Side}
use Rattle.topology.specs.Rows.{next_of}
use Rattle.topology.specs.Divisions.{told_at}
use Rattle.topology.proofs.MergesBeside.{next₁, long₁, beside}
use Rattle.topology.proofs.dissolves.merge.Goals as goal

pub tell_ring-requires-2-clause-ringed : goal.tell_ring-requires-2-clause-ringed
tell_ring-requires-2-clause-ringed c =
    let us = c.args.rows.now in
    let q = c.requires in
    let p = c.before-p.ensures in
    let r = c.before-q.ensures in
    let e = c.tell_ring.ensures in
    let n = ap next_of e ∙ next₁ us q.ringed q.along q.named c.args.arc c.before-p.result c.before-q.result c.args.rings q.here q.those p.low r.low p.leads r.leads in
    let l = ap length e ∙ long₁ us q.ringed q.along q.named c.args.arc c.before-p.result c.before-q.result c.args.rings q.here q.those p.low r.low p.leads r.leads in
    subst (λ (g : ℕ → ℕ). Ringed g (length c.tell_ring.new.sides)) (sym n) (subst (λ (k : ℕ). Ringed (next_of us) k) (sym l) q.ringed)

pub returns : goal.returns
returns c =
    let us = c.args.rows.now in
    let q = c.requires in
    beside us q.ringed q.along q.named c.args.arc c.before-p.result c.before-q.result c.args.rings q.here q.those c.before-p.ensures.low c.before-q.ensures.low c.before-p.ensures.leads c.before-q.ensures.leads _
    (c.tell_ring-2.ensures ∙ ap (λ (xs : List Side). map (told_at xs (c.args.arc + c.args.arc + 1) c.args.rings.polygon c.args.rings.low) (range_with_len 0 (length xs))) c.tell_ring.ensures)
