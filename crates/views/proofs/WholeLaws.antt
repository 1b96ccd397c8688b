-- Where the records end within a file, each of them is a part of it.
use Rattle.std.proofs.Common.{◌≡◌, ℕ, ◌+◌, ◌*◌, ◌<◌, ◌≤◌, List, length, add-mul, one-mul, arith}
use Rattle.std.proofs.lemmas.Nat.{mul-le}
use Rattle.std.proofs.lemmas.Bool.{lt-ltb, le-leb}
use Rattle.kinds.specs.declared.kind.Kind.{Kind}
use Rattle.kinds.specs.Sizes.{record_size}
use Rattle.layout.specs.Versions.{width}
use Rattle.records.specs.declared.shape.Shape.{Shape}
use Rattle.views.specs.Shapes.{records_end}
use Rattle.views.specs.Viewed.{Whole}

one_more : (k n z : ℕ) → k < n → k * z + z ≤ n * z
one_more k n z h =
    let a : (k + 1) * z ≡ k * z + 1 * z = add-mul k 1 z in
    omega (arith, mul-le (k + 1) z n z (omega arith) (omega arith), a, one-mul z)

pub whole_from_end : (kind : Kind) (bs : List ℕ) (s : Shape) → records_end kind s ≤ length bs → Whole kind bs s
whole_from_end kind bs s h k l =
    let z = record_size kind (width s.version) in
    rw (lt-ltb k s.count l, le-leb (s.first + k * z + z) (length bs) (omega (arith, one_more k s.count z l)))
