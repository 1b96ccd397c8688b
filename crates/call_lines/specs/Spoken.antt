-- Which words of a line make which call.
use Rattle.std.specs.Prelude.{◌≡◌, ℕ, ◌<◌, Bool, true, false, cond, ◌&&◌, List, [], ◌∷◌, length, drop, Ok, Err, Some, None, vec_items, codes, Option, Result, Vec, ◌==◌, nat_lt, option_map, slice_index_or}
use Rattle.std.specs.Float.Parse.{is_float_text}
use Rattle.std.specs.declared.alloc.Global.{Global}
use Rattle.std.specs.List.{list_all, position_or_len, before_first, after_first}
use Rattle.std.specs.Str.{bytes_eq}
use Rattle.topology.specs.declared.arc_side.ArcSide.{ArcSide}
use Rattle.topology.specs.declared.arc_side.ArcSide.TheVariants.{Unturned, Turned}
use Rattle.topology.specs.declared.vertex.Vertex.{Vertex}
use Rattle.topology.specs.Rows.{no_vertex}
use Rattle.line_words.specs.LineWords.{word}
use Rattle.words.specs.Words.{whole_of, Decimal}
use Rattle.calls.specs.declared.call.Call.{Call}
use Rattle.calls.specs.declared.call.Call.TheVariants.{Island, Lift, Split, Divide, Dissolve, Join, List as Listing, Counts, Ring, Side, Arc, Vertex as VertexOf}
use Rattle.calls.specs.Outcomes.{with_run}
use Rattle.call_lines.specs.declared.expected.Expected.{Expected}
use Rattle.call_lines.specs.declared.expected.Expected.TheVariants.{AnyCall, IslandCall, LiftCall, SplitCall, DivideCall, DissolveCall, JoinCall, ListCall, CountsCall, RingCall, SideCall, ArcCall, VertexCall}
use Rattle.call_lines.specs.declared.fault.LineFault.{LineFault}
use Rattle.call_lines.specs.declared.fault.LineFault.TheVariants.{NoMemory, NoCall}

-- which call a line with this first word has to be
abbrev pub verb_of : List ℕ → Expected
verb_of w =
    cond (bytes_eq w (codes "island")) IslandCall
    (cond (bytes_eq w (codes "lift")) LiftCall
    (cond (bytes_eq w (codes "split")) SplitCall
    (cond (bytes_eq w (codes "divide")) DivideCall
    (cond (bytes_eq w (codes "dissolve")) DissolveCall
    (cond (bytes_eq w (codes "join")) JoinCall
    (cond (bytes_eq w (codes "list")) ListCall
    (cond (bytes_eq w (codes "counts")) CountsCall
    (cond (bytes_eq w (codes "ring")) RingCall
    (cond (bytes_eq w (codes "side")) SideCall
    (cond (bytes_eq w (codes "arc")) ArcCall
    (cond (bytes_eq w (codes "vertex")) VertexCall
    AnyCall)))))))))))

-- what stands before and after the first comma, where there is one
abbrev pub coordinates : List ℕ → Option (List ℕ × List ℕ)
coordinates w = cond (nat_lt (position_or_len (λ b. b == 44) w) (length w)) (Some (before_first (λ b. b == 44) w, after_first (λ b. b == 44) w)) None

-- a vertex is written X,Y: two decimal numbers
abbrev pub two_decimals : Option (List ℕ × List ℕ) → Bool
two_decimals None = false
two_decimals (Some (x, y)) = is_float_text x && is_float_text y

abbrev pub is_vertex : List ℕ → Bool
is_vertex w = two_decimals (coordinates w)

-- no word after the first, or one or two that are whole numbers
abbrev pub none : List (List ℕ) → Option (Unit {0})
none ws = cond (length ws == 1) (Some tt) None

abbrev pub one : List (List ℕ) → Option ℕ
one ws = cond (length ws == 2) (whole_of (word ws 1)) None

abbrev pub paired : Option ℕ → Option ℕ → Option (ℕ × ℕ)
paired None n = None
paired (Some m) None = None
paired (Some m) (Some n) = Some (m, n)

abbrev pub two : List (List ℕ) → Option (ℕ × ℕ)
two ws = cond (length ws == 3) (paired (whole_of (word ws 1)) (whole_of (word ws 2))) None

-- + names the unturned new side of a division, - the turned one
abbrev pub named_side : List ℕ → Option ArcSide
named_side w = cond (bytes_eq w (codes "+")) (Some Unturned) (cond (bytes_eq w (codes "-")) (Some Turned) None)

abbrev pub sides_named : Option (ℕ × ℕ) → Option ArcSide → Option (ℕ × ℕ × ArcSide)
sides_named None named = None
sides_named (Some p) None = None
sides_named (Some p) (Some named) = Some (p.0, p.1, named)

-- two sides, and the named new side
abbrev pub division_sides : List (List ℕ) → Option (ℕ × ℕ × ArcSide)
division_sides ws = sides_named (paired (whole_of (word ws 1)) (whole_of (word ws 2))) (named_side (word ws 3))

-- what stands before a run, and then any number of vertices
abbrev pub and_run : {A : Type 0} → Option A → List (List ℕ) → Option (A × List (List ℕ))
and_run None ws = None
and_run (Some a) ws = cond (list_all is_vertex ws) (Some (a, ws)) None

-- the call without a run that words make, the first of them known
abbrev pub runless_call : {R : Type 0} → Expected → List (List ℕ) → Option (Call R)
runless_call LiftCall ws = option_map (λ a. Lift a) (one ws)
runless_call SplitCall ws = option_map (λ a. Split a.0 a.1) (two ws)
runless_call DissolveCall ws = option_map (λ a. Dissolve a) (one ws)
runless_call JoinCall ws = option_map (λ v. Join v) (one ws)
runless_call ListCall ws = option_map (λ _. Listing) (none ws)
runless_call CountsCall ws = option_map (λ _. Counts) (none ws)
runless_call RingCall ws = option_map (λ k. Ring k) (one ws)
runless_call SideCall ws = option_map (λ s. Side s) (one ws)
runless_call ArcCall ws = option_map (λ a. Arc a) (one ws)
runless_call VertexCall ws = option_map (λ a. VertexOf a.0 a.1) (two ws)
runless_call _ ws = None

-- the call that words make, the first of them known; the vertices of its run still as words
abbrev pub call_of : Expected → List (List ℕ) → Option (Call (List (List ℕ)))
call_of IslandCall ws = option_map (λ a. Island a.0 a.1) (and_run (whole_of (word ws 1)) (drop 2 ws))
call_of DivideCall ws = option_map (λ a. Divide a.0.0 a.0.1 a.1 a.0.2) (and_run (division_sides ws) (drop 4 ws))
call_of verb ws = runless_call verb ws

-- a line is passed over where its first word begins with #, and where it has none
abbrev pub passes : List ℕ → Bool
passes [] = true
passes (b ∷ w) = b == 35

-- a call, or what the line has to be
abbrev pub called : {C : Type 0} → Expected → Option C → Result (Option C) Expected
called x None = Err x
called x (Some c) = Ok (Some c)

-- what the words of a line say: a call, or none where it is passed over, or what it has to be
abbrev pub spoken : List (List ℕ) → Result (Option (Call (List (List ℕ)))) Expected
spoken ws = cond (passes (word ws 0)) (Ok None) (called (verb_of (word ws 0)) (call_of (verb_of (word ws 0)) ws))

-- a vertex is what its word writes
abbrev pub Written : Option (List ℕ × List ℕ) → Vertex → Type 0
Written None v = ⊥
Written (Some (x, y)) v = Decimal x (Some v.x) × Decimal y (Some v.y)

-- a run has the vertices that the words write, one for each word
pub record Run (ws : List (List ℕ)) (vs : List Vertex) : Type 0 where
  pub long : length vs ≡ length ws
  pub each : (k : ℕ) → k < length ws → Written (coordinates (word ws k)) (slice_index_or vs k no_vertex)

-- the vertices that words write, and none where a word writes no vertex
abbrev pub RunOf : List (List ℕ) → Option (Vec Vertex Global) → Type 0
RunOf ws None = list_all is_vertex ws ≡ false
RunOf ws (Some vs) = (list_all is_vertex ws ≡ true) × Run ws (vec_items vs)

abbrev pub run_of : {X : Type 0} → Call (List X) → List X
run_of (Island p run) = run
run_of (Divide s t run named) = run
run_of _ = []

-- the same call, its run written out
pub record Same (said : Call (List (List ℕ))) (c : Call (List Vertex)) : Type 0 where
  pub call : c ≡ with_run (λ _. run_of c) said
  pub run : Run (run_of said) (run_of c)

-- a call that is said, its run written out
abbrev pub SaysCall : Option (Call (List (List ℕ))) → Option (Call (Vec Vertex Global)) → Type 0
SaysCall said None = said ≡ None
SaysCall said (Some c) = (call : Call (List (List ℕ))) × (said ≡ Some call) × Same call (with_run vec_items c)

-- What is read of a line that says this. Where memory ran out, nothing is told of it.
abbrev pub Says : Result (Option (Call (List (List ℕ)))) Expected → Result (Option (Call (Vec Vertex Global))) LineFault → Type 0
Says said (Err NoMemory) = Unit {0}
Says said (Err (NoCall x)) = said ≡ Err x
Says said (Ok None) = said ≡ Ok None
Says said (Ok (Some c)) = (call : Call (List (List ℕ))) × (said ≡ Ok (Some call)) × Same call (with_run vec_items c)
