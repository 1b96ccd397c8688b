-- A walk along a ring: each side is told its polygon and lowest side.
use Rattle.std.proofs.Common.{◌≡◌, ℕ, suc, ◌+◌, ◌-◌, ◌<◌, ◌≤◌, Bool, cond, List, map, length, get_or, set, sym, refl, ap, ◌∙◌, subst, inl, inr, arith}
use Rattle.std.specs.List.{range_with_len}
use Rattle.std.proofs.lemmas.Bool.{cases_eq, cond_both}
use Rattle.std.proofs.lemmas.List.{length-set, get_or-set_same, get_or-set_other}
use Rattle.std.proofs.lemmas.List.FromFn.{fill_by_all}
use Rattle.rings.specs.Circles.{walk, ahead, rings}
use Rattle.rings.specs.Law.{Ringed}
use Rattle.rings.proofs.Walks.{ahead_here, ahead_back, ahead_more, walk_more, ring_short}
use Rattle.rings.proofs.Closed.{within}
use Rattle.rings.proofs.Ringed.{ringed_circles}
use Rattle.topology.specs.declared.side.Side.{Side}
use Rattle.topology.specs.Rows.{no_side, next_of}
use Rattle.topology.specs.Divisions.{told_side, told_at}

-- ---- what a ring is told

-- at a side after i steps: the links are as they were, and what is ahead is still to tell
pub record Telling (old rows : List Side) (s here polygon low i : ℕ) : Type 0 where
  pub inside : here < length old
  pub steps : length (walk (next_of old) (length old) s s) ≡ i + length (walk (next_of old) (length old - i) s here)
  pub size : length rows ≡ length old
  pub links : (k : ℕ) → k < length old → next_of rows k ≡ next_of old k
  pub rest : (k : ℕ) → k < length old →
      cond (ahead (next_of old) (length old - i) s here k) (told_side polygon low (get_or rows k no_side)) (get_or rows k no_side)
      ≡ told_at old s polygon low k

module _ (rows : List Side) (f : ℕ → ℕ) (s p polygon low : ℕ) (l : p < length rows) where
  abbrev after : List Side
  after = set rows p (told_side polygon low (get_or rows p no_side))

  abbrev tell : Side → Side
  tell = told_side polygon low

  at_here : get_or after p no_side ≡ tell (get_or rows p no_side)
  at_here = get_or-set_same rows p (tell (get_or rows p no_side)) no_side l

  tell_more : (fuel m k : ℕ) → fuel ≡ suc m → (f p ≡ s → ⊥) →
      cond (ahead f m s (f p) k) (tell (get_or after k no_side)) (get_or after k no_side) ≡ cond (ahead f fuel s p k) (tell (get_or rows k no_side)) (get_or rows k no_side)
  tell_more fuel m k e ne =
      elim (cases_eq k p) [
        | inl i ↦
            ap (λ (r : Side). cond (ahead f m s (f p) k) (tell r) r) (ap (λ (j : ℕ). get_or after j no_side) i ∙ at_here)
            ∙ (cond_both (ahead f m s (f p) k) _ _ (λ (r : Side). r ≡ tell (get_or rows p no_side)) (λ _. refl) (λ _. refl)
            ∙ (ap (λ (j : ℕ). tell (get_or rows j no_side)) (sym i) ∙ sym (ap (λ (b : Bool). cond b (tell (get_or rows k no_side)) (get_or rows k no_side)) (ahead_here f fuel s p k (sym i)))))
        | inr n ↦
            ap (λ (r : Side). cond (ahead f m s (f p) k) (tell r) r) (get_or-set_other rows p k (tell (get_or rows p no_side)) no_side n)
            ∙ ap (λ (b : Bool). cond b (tell (get_or rows k no_side)) (get_or rows k no_side)) (sym (ahead_more f fuel m s p k e (λ j. n (sym j)) ne))
      ]

  tell_last : (fuel k : ℕ) → 0 < fuel → f p ≡ s → get_or after k no_side ≡ cond (ahead f fuel s p k) (tell (get_or rows k no_side)) (get_or rows k no_side)
  tell_last fuel k h e =
      elim (cases_eq k p) [
        | inl i ↦
            ap (λ (j : ℕ). get_or after j no_side) i
            ∙ (at_here ∙ (ap (λ (j : ℕ). tell (get_or rows j no_side)) (sym i) ∙ sym (ap (λ (b : Bool). cond b (tell (get_or rows k no_side)) (get_or rows k no_side)) (ahead_here f fuel s p k (sym i)))))
        | inr n ↦
            get_or-set_other rows p k (tell (get_or rows p no_side)) no_side n
            ∙ ap (λ (b : Bool). cond b (tell (get_or rows k no_side)) (get_or rows k no_side)) (sym (ahead_back f fuel s p k h (λ j. n (sym j)) e))
      ]

module _ (old rows : List Side) (s p polygon low i : ℕ) (li : i < length old) (c : Telling old rows s p polygon low i) where
  abbrev g : ℕ → ℕ
  g = next_of old

  abbrev n : ℕ
  n = length old

  abbrev now' : List Side
  now' = set rows p (told_side polygon low (get_or rows p no_side))

  wide : p < length rows
  wide = omega (arith, c.inside, c.size)

  here_next : (get_or rows p no_side).next ≡ g p
  here_next = c.links p c.inside

  size' : length now' ≡ n
  size' = length-set rows p (told_side polygon low (get_or rows p no_side)) ∙ c.size

  links' : (k : ℕ) → k < n → (get_or now' k no_side).next ≡ g k
  links' k lk =
      elim (cases_eq k p) [
        | inl e ↦
            ap (λ (j : ℕ). (get_or now' j no_side).next) e
            ∙ (ap (λ (r : Side). r.next) (get_or-set_same rows p (told_side polygon low (get_or rows p no_side)) no_side wide) ∙ (here_next ∙ ap g (sym e)))
        | inr ne ↦ ap (λ (r : Side). r.next) (get_or-set_other rows p k (told_side polygon low (get_or rows p no_side)) no_side ne) ∙ c.links k lk
      ]

  pub telling_more : Ringed g n → ((get_or rows p no_side).next ≡ s → ⊥) → Telling old now' s (get_or rows p no_side).next polygon low (i + 1)
  telling_more r ne =
      let nb : g p ≡ s → ⊥ = λ e. ne (here_next ∙ e) in
      let st : n - i ≡ suc (n - (i + 1)) = omega arith in
      subst (λ (y : ℕ). Telling old now' s y polygon low (i + 1)) (sym here_next)
      (record {
        inside = within g n (rings g n) (ringed_circles g n r) p c.inside;
        steps = omega (arith, c.steps, walk_more g (n - i) (n - (i + 1)) s p st nb);
        size = size';
        links = links';
        rest = λ k lk. tell_more rows g s p polygon low wide (n - i) (n - (i + 1)) k st nb ∙ c.rest k lk;
      })

  pub telling_done : (get_or rows p no_side).next ≡ s → now' ≡ map (told_at old s polygon low) (range_with_len 0 n)
  telling_done e =
      fill_by_all (told_at old s polygon low) now' n no_side size' (λ k lk. tell_last rows g s p polygon low wide (n - i) k (omega arith) (sym here_next ∙ e) ∙ c.rest k lk)

pub telling_ends : (old rows : List Side) (s p polygon low i : ℕ) → Ringed (next_of old) (length old) → s < length old → length old ≤ i → Telling old rows s p polygon low i → ⊥
telling_ends old rows s p polygon low i r l e c = omega (arith, c.steps, ring_short (next_of old) (length old) s r l)
