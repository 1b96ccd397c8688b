-- The letters of the kinds.
use Rattle.std.specs.Prelude.{ℕ, Bool, true, false, cond, ◌&&◌, List, Some, None, Option, ◌==◌, codes}
use Rattle.kinds.specs.declared.kind.Kind.{Kind}
use Rattle.kinds.specs.declared.kind.Kind.TheVariants.{Points, Arcs, Nodes, Polygons}

-- three bytes are those
abbrev pub three : ℕ → ℕ → ℕ → ℕ → ℕ → ℕ → Bool
three a b c x y z = a == x && b == y && c == z

-- PNT, ARC, NOD, POL
abbrev pub kind_of : ℕ → ℕ → ℕ → Option Kind
kind_of a b c =
    cond (three a b c 80 78 84) (Some Points)
    (cond (three a b c 65 82 67) (Some Arcs)
    (cond (three a b c 78 79 68) (Some Nodes)
    (cond (three a b c 80 79 76) (Some Polygons) None)))

abbrev pub kind_text : Kind → List ℕ
kind_text Points = codes "PNT"
kind_text Arcs = codes "ARC"
kind_text Nodes = codes "NOD"
kind_text Polygons = codes "POL"

-- the letters by which a view is asked for: T, A, N, P
abbrev pub kind_by_letter : ℕ → Option Kind
kind_by_letter c =
    cond (c == 84) (Some Points)
    (cond (c == 65) (Some Arcs)
    (cond (c == 78) (Some Nodes)
    (cond (c == 80) (Some Polygons) None)))

-- the two are one kind
abbrev pub same_kind : Kind → Kind → Bool
same_kind Points Points = true
same_kind Arcs Arcs = true
same_kind Nodes Nodes = true
same_kind Polygons Polygons = true
same_kind _ _ = false
