-- What the edits make of the next sides, the nodes and the polygons.
use Rattle.std.specs.Prelude.{ℕ, suc, ◌+◌, ◌*◌, ◌/◌, ◌%◌, cond, ◌==◌}
use Rattle.rings.specs.Circles.{put, meets}

-- n after s, and suc n before o, which came after p
abbrev pub split_next : (ℕ → ℕ) → ℕ → ℕ → ℕ → ℕ → ℕ → ℕ
split_next f n s o p = put (put (put (put f (suc n) o) p (suc n)) n (put (put f (suc n) o) p (suc n) s)) s n

-- the new node is where n and o begin, and suc n begins where o began
abbrev pub split_node : (ℕ → ℕ) → ℕ → ℕ → ℕ → ℕ → ℕ
split_node node n o new = put (put (put node (suc n) (node o)) n new) o new

abbrev pub split_polygon : (ℕ → ℕ) → ℕ → ℕ → ℕ → ℕ → ℕ
split_polygon pol n s o = put (put pol (suc n) (pol o)) n (pol s)

-- n after p, suc n after q, and then what came after q follows n and what came after p follows suc n
abbrev pub divide_next : (ℕ → ℕ) → ℕ → ℕ → ℕ → ℕ → ℕ
divide_next f n p q = put (put (put (put f q (suc n)) (suc n) (put f q (suc n) p)) n (f q)) p n

-- n begins where what came after p begins, and suc n where what came after q does
abbrev pub divide_node : (ℕ → ℕ) → (ℕ → ℕ) → ℕ → ℕ → ℕ → ℕ → ℕ
divide_node f node n p q = put (put node (suc n) (node (f q))) n (node (f p))

-- the sides in the new ring of suc n get the polygon new, the others keep theirs, and n has that of p
abbrev pub divide_polygon : (ℕ → ℕ) → (ℕ → ℕ) → ℕ → ℕ → ℕ → ℕ → ℕ → ℕ
divide_polygon f pol n p q new x =
    cond (meets (divide_next f n p q) (suc (suc n)) (suc n) x) new (put (put pol (suc n) (pol p)) n (pol p) x)

-- without n and suc n: p, which came before n, leads to what came after suc n, and q, which came before suc n, to
-- what came after n; where one of the two was alone, the other is just left out
abbrev pub dissolve_next : (ℕ → ℕ) → ℕ → ℕ → ℕ → ℕ → ℕ
dissolve_next f n p q =
    put (put f p (cond (f (suc n) == suc n) (f n) (f (suc n)))) q (cond (f n == n) (f (suc n)) (f n))

-- n and suc n, each a ring alone, at the node new
abbrev pub island_next : (ℕ → ℕ) → ℕ → ℕ → ℕ
island_next f n = put (put f n n) (suc n) (suc n)

abbrev pub island_node : (ℕ → ℕ) → ℕ → ℕ → ℕ → ℕ
island_node node n new = put (put node n new) (suc n) new

abbrev pub island_polygon : (ℕ → ℕ) → ℕ → ℕ → ℕ → ℕ → ℕ
island_polygon pol n low high = put (put pol n low) (suc n) high

-- a number, after a and z have exchanged theirs
abbrev pub swapped : ℕ → ℕ → ℕ → ℕ
swapped a z b = cond (b == a) z (cond (b == z) a b)

-- the number of a side, after arcs a and z have exchanged theirs
abbrev pub exchanged : ℕ → ℕ → ℕ → ℕ
exchanged a z s = 2 * swapped a z (s / 2) + s % 2

-- where one of its kind goes, the highest number fills the gap
abbrev pub fill : ℕ → ℕ → ℕ → ℕ
fill gap highest k = cond (k == highest) gap k

-- side t leaves its ring for one of its own: what led to it leads past it
abbrev pub leave : (ℕ → ℕ) → ℕ → ℕ → ℕ
leave f t k = cond (k == t) t (cond (f k == t) (f t) (f k))
