use lib.Ieee.{binary64}
use lib.Ieee.Bits.{nan_bits_is}
use Rattle.boxes.proofs.Finite.{no_nan}
use Rattle.boxes.proofs.doubles.finite_double.Goals as goal

pub float_from_bits-result : goal.float_from_bits-result
float_from_bits-result c = rw (nan_bits_is binary64 c.args.bits) (no_nan _ c.requires)
