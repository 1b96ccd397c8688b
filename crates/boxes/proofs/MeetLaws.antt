-- Two boxes pass the test exactly if they have a place in common.
use Rattle.std.proofs.Common.{◌≡◌, Bool, true, false, T, refl}
use lib.Ieee.{Float, le}
use Rattle.std.proofs.lemmas.Bool.{and_parts}
use Rattle.std.proofs.lemmas.Float as float
use Rattle.std.specs.Float.{float_is_finite}
use Rattle.boxes.specs.declared.edges.Edges.{Edges}
use Rattle.boxes.specs.Boxes.{fair_edges, meets, Share}

-- the order of floats, as a test tells it
from_T : (b : Bool) → T b → b ≡ true
from_T true h = refl
from_T false h = absurd h

le_same : (x y : Float) → le x y ≡ true → (le x x ≡ true) × (le y y ≡ true)
le_same x y h =
    let t = float.T_from_true _ h in
    (from_T _ (float.le_refl x (float.le_left x y t)), from_T _ (float.le_refl y (float.le_right x y t)))

pub le_trans : (x y z : Float) → le x y ≡ true → le y z ≡ true → le x z ≡ true
le_trans x y z h k = from_T _ (float.le_trans x y z (float.T_from_true _ h) (float.T_from_true _ k))

le_turned : (x y : Float) → le x x ≡ true → le y y ≡ true → le x y ≡ false → le y x ≡ true
le_turned x y h k n =
    from_T _ (float.le_of_lt y x (float.lt_of_not-le x y (float.le_left x x (float.T_from_true _ h)) (float.le_left y y (float.T_from_true _ k)) (float.T_from_false _ n)))

pub fair_parts : (e : Edges) → fair_edges e ≡ true → (float_is_finite e.minx ≡ true) × (float_is_finite e.maxx ≡ true) × (float_is_finite e.miny ≡ true) × (float_is_finite e.maxy ≡ true) × (le e.minx e.maxx ≡ true) × (le e.miny e.maxy ≡ true)
fair_parts e h =
    let z = and_parts _ _ h in let y = and_parts _ _ z.0 in let x = and_parts _ _ y.0 in let w = and_parts _ _ x.0 in let v = and_parts _ _ w.0 in
    (v.0, v.1, w.1, x.1, y.1, z.1)

-- on one axis: the greater of the two lower ends lies in both
pub axis : (l r m s : Float) → float_is_finite l ≡ true → float_is_finite m ≡ true → le l r ≡ true → le m s ≡ true → le l s ≡ true → le m r ≡ true
    → (x : Float) × (float_is_finite x ≡ true) × (le l x ≡ true) × (le x r ≡ true) × (le m x ≡ true) × (le x s ≡ true)
axis l r m s p q h k a b = go (le l m) refl
  where
    go : (t : Bool) → le l m ≡ t → (x : Float) × (float_is_finite x ≡ true) × (le l x ≡ true) × (le x r ≡ true) × (le m x ≡ true) × (le x s ≡ true)
    go true e = (m, q, e, b, (le_same m s k).0, k)
    go false e = (l, p, (le_same l r h).0, h, le_turned l m (le_same l r h).0 (le_same m s k).0 e, a)

pub share_from_meets : (a b : Edges) → fair_edges a ≡ true → fair_edges b ≡ true → meets a b ≡ true → Share a b
share_from_meets a b p q h =
    let z = and_parts _ _ h in let y = and_parts _ _ z.0 in let x = and_parts _ _ y.0 in
    let f = fair_parts a p in
    let g = fair_parts b q in
    let u = axis a.minx a.maxx b.minx b.maxx f.0 g.0 f.4 g.4 x.0 x.1 in
    let v = axis a.miny a.maxy b.miny b.maxy f.2 g.2 f.5 g.5 y.1 z.1 in
    (u.0, v.0, u.1, v.1, (u.2, u.3, v.2, v.3), (u.4, u.5, v.4, v.5))

pub meets_from_share : (a b : Edges) → Share a b → meets a b ≡ true
meets_from_share a b (x, y, k, l, i, j) =
    let c1 = le_trans a.minx x b.maxx i.0 j.1 in
    let c2 = le_trans b.minx x a.maxx j.0 i.1 in
    let c3 = le_trans a.miny y b.maxy i.2 j.3 in
    let c4 = le_trans b.miny y a.maxy j.2 i.3 in
    rw (c1, c2, c3, c4)
