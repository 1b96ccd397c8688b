use Rattle.std.proofs.Common.{◌≡◌, ◌+◌, ◌/◌, true, ◌&&◌, ltb, length, true≢false, sym, ap, ◌∙◌, arith}
use Rattle.std.proofs.lemmas.Bool.{ltb-true, lt-ltb}
use Rattle.topology.specs.States.{state_of}
use Rattle.topology.proofs.Asked.{taken, refused}
use Rattle.topology.proofs.map.Map.dissolve.Goals as goal

pub returns-in_err-share_ring-clause-edited : goal.returns-in_err-share_ring-clause-edited
returns-in_err-share_ring-clause-edited c =
    let n = length (state_of c.args.self.now).sides in
    let a = c.args.arc in
    let h = ltb-true a (n / 2) (taken (ltb a (n / 2)) _ _ _ (sym c.check_arc.ensures ∙ c.in_ok-check_arc.was)).0 in
    let r = refused (ltb (a + a) n && ltb (a + a + 1) n) _ _ _ (sym c.share_ring.ensures ∙ c.in_err-share_ring.was) in
    let s : ltb (a + a) n ≡ true = lt-ltb (a + a) n (omega arith) in
    let o : ltb (a + a + 1) n ≡ true = lt-ltb (a + a + 1) n (omega arith) in
    absurd (true≢false (sym (ap (λ x. x && ltb (a + a + 1) n) s ∙ o) ∙ r.0))
