use Rattle.std.proofs.Common.{ap, ◌∙◌, subst, take, arith}
use Rattle.media.specs.Posts.{Written}
use Rattle.editions.specs.Numbers.{digits}
use Rattle.editions.proofs.DigitLaws.{digits_8, take_digits, stored_from_written}
use Rattle.editions.proofs.edition.Edition.store.Goals as goal

pub returns : goal.returns
returns g c =
    let k = c.BYTES-width.result.number in
    let w = ap (λ s. s.number) (c.BYTES-width.ensures ∙ g.met.Self.Edition.sized) in
    let d = ap (take k) (c.to_le_bytes-raw.ensures ∙ digits_8 c.args.n) ∙ take_digits k 8 c.args.n (omega (arith, w, g.met.Self.Edition.narrow)) ∙ ap (λ k. digits k c.args.n) w in
    stored_from_written c.args.bytes.now c.put_bytes.new.bytes c.args.at g.Self.Edition.width c.args.n c.put_bytes.result
    (omega (arith, w, c.in_ok-end_of.ensures.0, c.in_ok-end_of.ensures.1))
    (omega (arith, g.met.Self.Edition.whole, c.LARGEST_NUMBER.ensures, c.if-n-LARGEST_NUMBER.false))
    (subst (λ ws. Written c.args.bytes.now c.args.at ws c.put_bytes.new.bytes c.put_bytes.result) d c.put_bytes.ensures)
