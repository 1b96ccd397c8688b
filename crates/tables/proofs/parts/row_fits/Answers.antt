use Rattle.std.proofs.Common.{◌+◌, ◌-◌, add-mul, one-mul, arith}
use Rattle.std.proofs.Math.Nat.{le-div_iff_mul-le}
use Rattle.std.proofs.lemmas.Bool.{ltb-true, lt-ltb}
use Rattle.tables.proofs.parts.row_fits.Goals as goal

pub returns-then-at-len : goal.returns-then-at-len
returns-then-at-len c =
    let fits = le-div_iff_mul-le {k = c.args.size} {x = c.args.k + 1} {y = c.args.len - c.args.at} c.requires in
    let e = add-mul c.args.k 1 c.args.size in
    let o = one-mul c.args.size in (
      (λ h. omega (arith, fits.0 (omega (arith, ltb-true _ _ h)), e, o)),
      (λ h. lt-ltb _ _ (omega (arith, fits.1 (omega (arith, e, o, h))))),
    )
