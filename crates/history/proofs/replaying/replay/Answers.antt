use Rattle.std.proofs.Common.{◌≡◌, ℕ, ◌+◌, ◌<◌, List, [], ◌∷◌, ◌++◌, length, map, get_or, take, set, Result, sym, refl, ap, ◌∙◌, subst, arith}
use Rattle.refusal.specs.declared.Refusal.{Refusal}
use Rattle.topology.specs.declared.vertex.Vertex.{Vertex}
use Rattle.calls.specs.declared.call.Call.{Call}
use Rattle.calls.specs.declared.answer.Answer.{Answer}
use Rattle.std.proofs.lemmas.List.{length-map, get_or-map, take_more, take_more_set, take_all}
use Rattle.topology.proofs.Assembling.{lawful_of}
use Rattle.calls.specs.Outcomes.{with_run, Outcome}
use Rattle.history.specs.Runs.{World, world, after, PlayedEach}
use Rattle.history.specs.Law.{Lasts}
use Rattle.history.proofs.Turns.{turn, end}
use Rattle.history.proofs.Frees.{frees_turn}
use Rattle.history.proofs.Each.{one_more}
use Rattle.history.proofs.Histories.{history_law}
use Rattle.history.proofs.replaying.replay.Goals as goal

pub returns-then-told-calls-clause-law : goal.returns-then-told-calls-clause-law
returns-then-told-calls-clause-law g c = history_law

pub loop-i-preserved : goal.loop-i-preserved
loop-i-preserved g c =
    let v = c.loop-i.invariant in
    let p = c.play.ensures in
    let f = with_run g.R.AsSlice.items in
    let cs = map f c.args.calls.now in
    let call = f c.index-calls-i.result in
    let left : c.loop-i.i < length cs = omega (arith, length-map c.args.calls.now f) in
    let here : call ≡ get_or cs c.loop-i.i call = ap f c.index-calls-i.is ∙ sym (get_or-map f c.args.calls.now c.loop-i.i _ _ (omega arith)) in
    let went : world c.play.new.map c.play.new.text ≡ after (world c.loop-i.map c.loop-i.text) call = ap (λ (o : Outcome). record { state = o.state; text = o.text }) p.agrees in
    record {
      goes = turn _ _ _ cs c.loop-i.i call c.loop-i.told c.args.told.now _ left (omega arith) here went (ap (λ (o : Outcome). o.answer) p.agrees) v.goes;
      each =
          let more = take_more cs c.loop-i.i call left in
          let here' : get_or cs c.loop-i.i call ≡ call = sym here in
          subst (λ (ds : List (Call (List Vertex))). PlayedEach ds c.args.map.now c.play.new.map c.args.text.now c.play.new.text (take (c.loop-i.i + 1) (set c.loop-i.told c.loop-i.i c.play.result)))
          (sym (more ∙ ap (λ (d : Call (List Vertex)). take c.loop-i.i cs ++ d ∷ []) here'))
          (subst (λ (rs : List (Result Answer Refusal)). PlayedEach (take c.loop-i.i cs ++ call ∷ []) c.args.map.now c.play.new.map c.args.text.now c.play.new.text rs)
          (sym (take_more_set c.loop-i.told c.loop-i.i c.play.result (omega arith)))
          (one_more (take c.loop-i.i cs) (take c.loop-i.i c.loop-i.told) call c.play.result c.args.map.now c.loop-i.map c.play.new.map c.args.text.now c.loop-i.text c.play.new.text v.each p));
      frees = frees_turn _ _ _ cs c.loop-i.i call c.args.map.now c.loop-i.map c.play.new.map c.play.result left here went refl p.keeps v.frees;
      sides_lent = p.sides_lent ∙ v.sides_lent;
      vertices_lent = p.vertices_lent ∙ v.vertices_lent;
    }

pub returns : goal.returns
returns g c =
    let v = c.loop-i.invariant in
    let cs = map (with_run g.R.AsSlice.items) c.args.calls.now in
    let w = world c.args.map.now c.args.text.now in
    let few = length-map c.args.calls.now (with_run g.R.AsSlice.items) in
    let e = end w _ cs c.loop-i.i c.loop-i.told c.args.told.now (omega (arith, few)) v.goes in
    record {
      replayed = record { runs = (omega (arith, few), e.0, e.1, v.frees.free); sides_lent = v.sides_lent; vertices_lent = v.vertices_lent };
      each =
          let i : c.loop-i.i ≡ length c.args.calls.now = omega arith in
          subst (λ (k : ℕ). PlayedEach cs c.args.map.now c.loop-i.map c.args.text.now c.loop-i.text (take k c.loop-i.told)) i
          (subst (λ (ds : List (Call (List Vertex))). PlayedEach ds c.args.map.now c.loop-i.map c.args.text.now c.loop-i.text (take c.loop-i.i c.loop-i.told)) (take_all c.loop-i.i cs (omega (arith, few))) v.each);
      lasts = subst (λ (u : World). Lasts cs w.state w.text u.state) (sym e.0) (history_law w cs (lawful_of c.args.map.now)).1;
      law = history_law;
    }
