use Rattle.std.proofs.Common.{◌∙◌, subst, arith, rules}
use lib.Ieee.{binary64, to_bits}
use Rattle.media.specs.Posts.{Written}
use Rattle.editions.proofs.DigitLaws.{digits_8}
use Rattle.boxes.proofs.StoredBack.{stored_double}
use Rattle.boxes.proofs.doubles.store_double.Goals as goal

pub returns : goal.returns
returns c =
    stored_double c.args.bytes.now c.put_bytes.new.bytes c.args.at c.args.x c.put_bytes.result (search rules) (search rules) (omega (arith, c.in_ok-end_of.ensures.0, c.in_ok-end_of.ensures.1))
    (subst (λ ws. Written c.args.bytes.now c.args.at ws c.put_bytes.new.bytes c.put_bytes.result) (c.to_le_bytes.ensures ∙ digits_8 (to_bits binary64 c.args.x)) c.put_bytes.ensures)
