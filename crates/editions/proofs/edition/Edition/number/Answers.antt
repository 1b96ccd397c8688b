use Rattle.std.proofs.Common.{◌≡◌, ◌++◌, drop, replicate, ap, ◌∙◌, arith}
use Rattle.std.proofs.lemmas.List.{length-take-le}
use Rattle.media.specs.Runs.{run}
use Rattle.editions.specs.Numbers.{little}
use Rattle.editions.proofs.DigitLaws.{eight, eight_padded}
use Rattle.editions.proofs.edition.Edition.number.Goals as goal

pub returns : goal.returns
returns g c =
    let w = ap (λ s. s.number) (c.BYTES-width.ensures ∙ g.met.Self.Edition.sized) in
    let n = g.met.Self.Edition.narrow in
    let l = c.copy_from_slice.ensures.len ∙ length-take-le c.BYTES-width.result.number _ (omega (arith, w, n)) in
    let padded : eight (c.copy_from_slice.new.self ++ drop c.BYTES-width.result.number (replicate 8 0)) ≡ little (run c.args.bytes.now c.args.at g.Self.Edition.width) =
    eight_padded c.copy_from_slice.new.self c.BYTES-width.result.number l (omega (arith, w, n))
    ∙ ap little (c.copy_from_slice.ensures.after ∙ c.in_ok-bytes_at.ensures.1 ∙ ap (run c.args.bytes.now c.args.at) w) in (
      omega (arith, w, c.in_ok-bytes_at.ensures.0),
      grind arith,
    )
