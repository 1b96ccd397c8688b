use Rattle.std.proofs.Common.{◌≡◌, ◌^◌, ◌<◌, drop}
use Rattle.decimals.specs.Plain.{digits_after}
use Rattle.decimals.proofs.digits_after.Given as goal

abbrev pub invariant-loop-c : goal.invariant-loop-c
invariant-loop-c l = (digits_after l.n l.digits ≡ digits_after l.m (drop l.c-index l.c-items)) × (l.m < 2 ^ 53)
