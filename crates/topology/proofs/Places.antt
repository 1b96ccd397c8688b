-- To share a place: each finite vertex does with itself, and two do either way round, and from one to the next.
use Rattle.std.proofs.Common.{◌≡◌, true, inl, inr}
use lib.Ieee.{Float, nan, inf, fin, is_nan, eq}
use lib.Ieee.Bits.{is_true}
use Rattle.std.specs.Float.{float_is_finite, NotNan}
use Rattle.std.proofs.lemmas.Bool.{and_parts, and_from, false≢true}
use Rattle.std.proofs.lemmas.Float.{T_from_true, le_refl, lt-or-eq, lt_irrefl, eq_flip, eq_trans}
use Rattle.topology.specs.declared.vertex.Vertex.{Vertex}
use Rattle.topology.specs.Rows.{good, same_place}

finite_number : (x : Float) → float_is_finite x ≡ true → NotNan x
unfolding is_nan float_is_finite
finite_number nan h = absurd (false≢true h)
finite_number (inf s) h = tt
finite_number (fin s m e) h = tt

eq_self : (x : Float) → float_is_finite x ≡ true → eq x x ≡ true
eq_self x h = is_true (eq x x) (elim (lt-or-eq x x (le_refl x (finite_number x h))) [ inl l ↦ absurd (lt_irrefl x l) | inr e ↦ e ])

eq_sym : (x y : Float) → eq x y ≡ true → eq y x ≡ true
eq_sym x y h = is_true (eq y x) (eq_flip x y (T_from_true (eq x y) h))

eq_chain : (x y z : Float) → eq x y ≡ true → eq y z ≡ true → eq x z ≡ true
eq_chain x y z h k = is_true (eq x z) (eq_trans x y z (T_from_true (eq x y) h) (T_from_true (eq y z) k))

pub place_self : (v : Vertex) → good v ≡ true → same_place v v ≡ true
place_self v h =
    let (p, q) = and_parts (float_is_finite v.x) (float_is_finite v.y) h in
    and_from (eq v.x v.x) (eq v.y v.y) (eq_self v.x p) (eq_self v.y q)

pub place_sym : (u v : Vertex) → same_place u v ≡ true → same_place v u ≡ true
place_sym u v h =
    let (p, q) = and_parts (eq u.x v.x) (eq u.y v.y) h in
    and_from (eq v.x u.x) (eq v.y u.y) (eq_sym u.x v.x p) (eq_sym u.y v.y q)

pub place_chain : (u v w : Vertex) → same_place u v ≡ true → same_place v w ≡ true → same_place u w ≡ true
place_chain u v w h k =
    let (a, b) = and_parts (eq u.x v.x) (eq u.y v.y) h in
    let (c, d) = and_parts (eq v.x w.x) (eq v.y w.y) k in
    and_from (eq u.x w.x) (eq u.y w.y) (eq_chain u.x v.x w.x a c) (eq_chain u.y v.y w.y b d)
