-- Two kinds are equal by == exactly where they are one: what == of kinds promises.
use Rattle.std.proofs.Common.{◌≡◌, rules}
use Rattle.kinds.specs.declared.kind.Kind.{Kind}
use Rattle.kinds.specs.contracts.kind.KindPartialEq.TheImpl as derived
use Rattle.kinds.specs.Letters.{same_kind}

pub eq_same_kind : (a b : Kind) → derived.ghosts.eq a b ≡ same_kind a b
eq_same_kind a b = search rules
