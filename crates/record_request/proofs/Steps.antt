-- How the options go on after the first.
use Rattle.std.proofs.Common.{◌≡◌, ℕ, zero, suc, ◌+◌, ◌<◌, Bool, true, false, List, [], ◌∷◌, length, drop, is_some, Some, None, Ok, Err, string_bytes, codes, ok_or, Option, Result, String, sym, refl, ap, ◌∙◌, subst, arith, length-drop}
use Rattle.std.specs.Option.{option_or}
use Rattle.std.proofs.lemmas.List.{length-map}
use Rattle.std.proofs.lemmas.Bool.{false≢true}
use Rattle.boxes.specs.declared.edges.Edges.{Edges}
use Rattle.line_words.specs.LineWords.{texts}
use Rattle.record_request.specs.declared.Fault.{Fault}
use Rattle.record_request.specs.declared.Fault.TheVariants.{Usage, Window}
use Rattle.record_request.specs.declared.Options.{Options}
use Rattle.record_request.specs.Requests.{Corners, Given, corners, arcs_option, joined, with_arcs, with_window, is_new, options, Drawn, Bounded, WindowGiven}

-- a window that was given before, or else the later one
abbrev pub BoundedAfter : Option Edges → Option Corners → Option Edges → Type 0
BoundedAfter (Some e) c w = w ≡ Some e
BoundedAfter None c w = Bounded c w

-- p has the options o, and those that were given after them
abbrev pub Adds : Options → Result Given Fault → Result Options Fault → Type 0
Adds o (Err f) (Ok p) = ⊥
Adds o (Err f) (Err d) = d ≡ f
Adds o (Ok g) (Err f) = ⊥
Adds o (Ok g) (Ok p) = (p.arcs ≡ option_or o.arcs g.arcs) × BoundedAfter o.window g.window p.window

-- the words of an option are passed over
skip : (k : ℕ) (a w : Bool) (ws : List (List ℕ)) → options k a w ws ≡ options 0 a w (drop k ws)
skip zero a w [] = refl
skip zero a w (x ∷ ws) = refl
skip (suc k) a w [] = refl
skip (suc k) a w (x ∷ ws) = skip k a w ws

-- the three ways of the first word: a new `--window`
pub window_step : (a w : Bool) (x : List ℕ) (ws : List (List ℕ)) → is_new x (codes "--arcs") a ≡ false → is_new x (codes "--window") w ≡ true → options 0 a w (x ∷ ws) ≡ joined with_window (ok_or (corners ws) Window) (options 0 a true (drop 4 ws))
window_step a w x ws n e = rw (n, e) (ap (joined with_window (ok_or (corners ws) Window)) (skip 4 a true ws))

-- .. which is that word itself, where none was given before
window_first : (a : Bool) (ws : List (List ℕ)) → options 0 a false (codes "--window" ∷ ws) ≡ joined with_window (ok_or (corners ws) Window) (options 0 a true (drop 4 ws))
window_first a ws = window_step a false (codes "--window") ws refl refl

-- .. a new `--arcs`
pub arcs_step : (a w : Bool) (x : List ℕ) (ws : List (List ℕ)) → is_new x (codes "--arcs") a ≡ true → options 0 a w (x ∷ ws) ≡ joined with_arcs (arcs_option ws) (options 0 true w (drop 1 ws))
arcs_step a w x ws e = rw e (ap (joined with_arcs (arcs_option ws)) (skip 1 true w ws))

-- .. and neither
pub usage_step : (a w : Bool) (x : List ℕ) (ws : List (List ℕ)) → is_new x (codes "--arcs") a ≡ false → is_new x (codes "--window") w ≡ false → options 0 a w (x ∷ ws) ≡ Err Usage
usage_step a w x ws n m = rw (n, m) refl

-- the window that was read, and the options after it
adds_window : (a : Option ℕ) (w : Option Edges) (e : Edges) (c : Corners) (m : Result Given Fault) (r : Result Options Fault) → is_some w ≡ false → Drawn c e → Adds (record { arcs = a; window = Some e }) m r
    → Adds (record { arcs = a; window = w }) (joined with_window (Ok c) m) r
adds_window a (Some f) e c m r n d h = absurd (false≢true (sym n))
adds_window a None e c (Err f) (Ok p) n d h = h
adds_window a None e c (Err f) (Err q) n d h = h
adds_window a None e c (Ok g) (Err q) n d h = h
adds_window a None e c (Ok g) (Ok p) n d h = (h.0, subst (λ v. Bounded (Some c) v) (sym h.1) d)

module _ {Z : Type 0} (o : Options) (ws : List (String Z)) (x : String Z) (rest : List (String Z)) (split : ws ≡ x ∷ rest) (text : List ℕ) (said : text ≡ string_bytes x) (named : text ≡ codes "--window") (new : is_some o.window ≡ false) where
  stepped : options 0 (is_some o.arcs) (is_some o.window) (texts ws) ≡ joined with_window (ok_or (corners (texts rest)) Window) (options 0 (is_some o.arcs) true (drop 4 (texts rest)))
  stepped = ap (λ (l : List (String Z)). options 0 (is_some o.arcs) (is_some o.window) (texts l)) split ∙ ap (λ n. options 0 (is_some o.arcs) (is_some o.window) (n ∷ texts rest)) (sym said ∙ named) ∙ ap (λ w. options 0 (is_some o.arcs) w (codes "--window" ∷ texts rest)) new ∙ window_first (is_some o.arcs) (texts rest)

  pub window_joined : (e : Edges) (later : List (String Z)) (r : Result Options Fault) → WindowGiven (corners (texts rest)) (Ok e) → texts later ≡ drop 4 (texts rest)
      → Adds (record { arcs = o.arcs; window = Some e }) (options 0 (is_some o.arcs) true (texts later)) r → Adds o (options 0 (is_some o.arcs) (is_some o.window) (texts ws)) r
  window_joined e later r h l k = rw stepped (at (corners (texts rest)) h)
    where
      at : (c : Option Corners) → WindowGiven c (Ok e) → Adds o (joined with_window (ok_or c Window) (options 0 (is_some o.arcs) true (drop 4 (texts rest)))) r
      at None i = absurd i
      at (Some c) i = adds_window o.arcs o.window e c (options 0 (is_some o.arcs) true (drop 4 (texts rest))) r new i (subst (λ l. Adds (record { arcs = o.arcs; window = Some e }) (options 0 (is_some o.arcs) true l) r) l k)

  pub window_fault : (f : Fault) → WindowGiven (corners (texts rest)) (Err f) → Adds o (options 0 (is_some o.arcs) (is_some o.window) (texts ws)) (Err f)
  window_fault f h = rw stepped (at (corners (texts rest)) h)
    where
      at : (c : Option Corners) → WindowGiven c (Err f) → Adds o (joined with_window (ok_or c Window) (options 0 (is_some o.arcs) true (drop 4 (texts rest)))) (Err f)
      at None i = i
      at (Some c) i = absurd i

-- fewer words are left
pub fewer : {Z : Type 0} (n : ℕ) (ws values later : List (String Z)) → texts later ≡ drop n (texts values) → length values + 1 ≡ length ws → length later < length ws
fewer n ws values later d l = omega (arith, length-map later string_bytes, length-map values string_bytes, ap length d, length-drop n (texts values))
