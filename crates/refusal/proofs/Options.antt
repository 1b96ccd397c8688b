-- The value of an option to which a refusal was given.
use Rattle.std.proofs.Common.{◌≡◌, Some, None, Option, refl}
use Rattle.std.specs.Option.{ok_or}
use Rattle.std.specs.Result.{result_ok}

pub ok_of_ok_or : {T E : Type 0} (o : Option T) (e : E) → result_ok (ok_or o e) ≡ o
ok_of_ok_or None e = refl
ok_of_ok_or (Some x) e = refl
