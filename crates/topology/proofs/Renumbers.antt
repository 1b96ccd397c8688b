-- Rows renumbered one number after the other.
use Rattle.std.proofs.Common.{◌≡◌, ℕ, ◌+◌, ◌≤◌, List, [], ◌∷◌, map, sym, refl, ap, ◌∙◌, arith}
use Rattle.std.proofs.lemmas.Bool.Decides.{nat_tests}
use Rattle.rings.specs.Edits.{fill}
use Rattle.topology.specs.declared.side.Side.{Side}
use Rattle.topology.specs.declared.renumbering.Renumbering.{Renumbering}
use Rattle.topology.specs.Renumbered.{side_filled, low_filled, renumbered, sides_renumbered, node_renumbered, polygon_renumbered}

-- rows of which none changes
pub none_changed : {X : Type 0} (F : X → X) → ((x : X) → F x ≡ x) → (xs : List X) → xs ≡ map F xs
none_changed F h [] = refl
none_changed F h (x ∷ xs) = ap (λ (y : _). y ∷ xs) (sym (h x)) ∙ ap (λ ys. F x ∷ ys) (none_changed F h xs)

pub in_turn : (c : Renumbering) (xs : List Side) → map (polygon_renumbered c) (map (node_renumbered c) (map (sides_renumbered c) xs)) ≡ map (renumbered c) xs
in_turn c [] = refl
in_turn c (x ∷ xs) = ap (λ (ys : List Side). renumbered c x ∷ ys) (in_turn c xs)

fill_same : (n m x : ℕ) → n ≡ m → fill n m x ≡ x
fill_same n m x e = grind (arith, nat_tests)

side_same : (c : Renumbering) (x : ℕ) → c.side ≡ c.last_side → side_filled c x ≡ x
side_same c x e = fill_same c.side c.last_side (fill (c.side + 1) (c.last_side + 1) x) e ∙ fill_same (c.side + 1) (c.last_side + 1) x (omega arith)

low_same : (c : Renumbering) (x : ℕ) → c.low_unturned ≤ c.side → c.low_turned ≤ c.side + 1 → low_filled c x ≡ x
low_same c x l m = grind (arith, nat_tests)

pub sides_stay : (c : Renumbering) → c.side ≡ c.last_side → c.low_unturned ≤ c.side → c.low_turned ≤ c.side + 1 → (r : Side) → sides_renumbered c r ≡ r
sides_stay c e l m r =
    ap (λ (x : ℕ). record { node = r.node; row = r.row; polygon = r.polygon; next = x; low = low_filled c r.low }) (side_same c r.next e)
    ∙ ap (λ (x : ℕ). record { node = r.node; row = r.row; polygon = r.polygon; next = r.next; low = x }) (low_same c r.low l m)

pub nodes_stay : (c : Renumbering) → c.node ≡ c.last_node → (r : Side) → node_renumbered c r ≡ r
nodes_stay c e r = ap (λ (x : ℕ). record { node = x; row = r.row; polygon = r.polygon; next = r.next; low = r.low }) (fill_same c.node c.last_node r.node e)

pub polygons_stay : (c : Renumbering) → c.polygon ≡ c.into → c.polygon ≡ c.last_polygon → (r : Side) → polygon_renumbered c r ≡ r
polygons_stay c e i r =
    ap (λ (x : ℕ). record { node = r.node; row = r.row; polygon = x; next = r.next; low = r.low })
    (fill_same c.polygon c.last_polygon (fill c.into c.polygon r.polygon) i ∙ fill_same c.into c.polygon r.polygon (sym e))
