-- When an arc is closed at a node of its own, and when another ring stands under the polygons of its sides.
use Rattle.std.proofs.Common.{◌≡◌, ℕ, zero, suc, ◌+◌, ◌/◌, ◌%◌, ◌<◌, Bool, true, false, not, ◌&&◌, ◌||◌, eqb, ◌⊎◌, List, length, sym, refl, ap, ◌∙◌, inl, inr, arith}
use Rattle.std.proofs.lemmas.Bool.{cases_eq, cases_Bool, eq-eqb, ne_eqb, eqb-true, and_parts, and_from, and_left, and_right, or_cases, or_left, or_right, not_from_true, not_from_false, both_ways}
use Rattle.rings.specs.Law.{turn}
use Rattle.rings.specs.Circles.{rings}
use Rattle.rings.proofs.Ringed.{ringed_circles}
use Rattle.rings.proofs.Closed.{within}
use Rattle.rings.proofs.OwnNode.{alone_closed, alone_own, own_turned, own_unturned}
use Rattle.topology.specs.declared.side.Side.{Side}
use Rattle.topology.specs.declared.vertex.Vertex.{Vertex}
use Rattle.topology.specs.Rows.{next_of, node_of, polygon_of}
use Rattle.topology.specs.Lawfuls.{Lawful}
use Rattle.topology.specs.Lifts.{no_other_begins, closed_alone, other_under}
use Rattle.topology.specs.Dissolves.{both_alone}

pub no_other_at : (us : List Side) (a k : ℕ) → no_other_begins us a k ≡ true → (s : ℕ) → s < k → node_of us s ≡ node_of us (a + a) → s / 2 ≡ a
no_other_at us a zero h s l e = absurd (omega arith)
no_other_at us a (suc k) h s l e =
    let (x, y) = and_parts (no_other_begins us a k) (eqb (k / 2) a || not (eqb (node_of us k) (node_of us (a + a)))) h in
    elim (cases_eq s k) [
      | inl i ↦
          ap (λ (j : ℕ). j / 2) i ∙
          elim (or_cases (eqb (k / 2) a) (not (eqb (node_of us k) (node_of us (a + a)))) y) [
            | inl t ↦ eqb-true (k / 2) a t
            | inr n ↦ absurd (both_ways (not (eqb (node_of us k) (node_of us (a + a)))) (not_from_true (eqb (node_of us k) (node_of us (a + a))) (eq-eqb (node_of us k) (node_of us (a + a)) (ap (node_of us) (sym i) ∙ e))) n)
          ]
      | inr ne ↦ no_other_at us a k x s (omega arith) e
    ]

pub no_other_from : (us : List Side) (a k : ℕ) → ((s : ℕ) → s < k → node_of us s ≡ node_of us (a + a) → s / 2 ≡ a) → no_other_begins us a k ≡ true
no_other_from us a zero h = refl
no_other_from us a (suc k) h =
    and_from (no_other_begins us a k) (eqb (k / 2) a || not (eqb (node_of us k) (node_of us (a + a)))) (no_other_from us a k (λ s l. h s (omega arith)))
    (elim (cases_eq (node_of us k) (node_of us (a + a))) [
      | inl e ↦ or_left (eqb (k / 2) a) (not (eqb (node_of us k) (node_of us (a + a)))) (eq-eqb (k / 2) a (h k (omega arith) e))
      | inr ne ↦
          or_right (eqb (k / 2) a) (not (eqb (node_of us k) (node_of us (a + a)))) (not_from_false (eqb (node_of us k) (node_of us (a + a))) (ne_eqb (node_of us k) (node_of us (a + a)) ne))
    ])

-- a side of another arc under p or q
pub record Other (us : List Side) (a p q k : ℕ) : Type 0 where
  pub side : ℕ
  pub below : side < k
  pub other : side / 2 ≡ a → ⊥
  pub under : (polygon_of us side ≡ p) ⊎ (polygon_of us side ≡ q)

pub other_at : (us : List Side) (a p q k : ℕ) → other_under us a p q k ≡ true → Other us a p q k
other_at us a p q zero h = absurd (both_ways false refl h)
other_at us a p q (suc k) h =
    elim (or_cases (other_under us a p q k) (not (eqb (k / 2) a) && (eqb (polygon_of us k) p || eqb (polygon_of us k) q)) h) [
      | inl t ↦
          let r : Other us a p q k = other_at us a p q k t in
          let l = r.below in
          record { side = r.side; below = omega arith; other = r.other; under = r.under }
      | inr t ↦
          let (x, y) = and_parts (not (eqb (k / 2) a)) (eqb (polygon_of us k) p || eqb (polygon_of us k) q) t in
          record {
            side = k;
            below = omega arith;
            other = λ e. both_ways (not (eqb (k / 2) a)) (not_from_true (eqb (k / 2) a) (eq-eqb (k / 2) a e)) x;
            under =
                elim (or_cases (eqb (polygon_of us k) p) (eqb (polygon_of us k) q) y) [
                  | inl u ↦ inl (eqb-true (polygon_of us k) p u)
                  | inr u ↦ inr (eqb-true (polygon_of us k) q u)
                ];
          }
    ]

-- whether side k is such a side
abbrev pub other_test : List Side → ℕ → ℕ → ℕ → ℕ → Bool
other_test us a p q k = not (eqb (k / 2) a) && (eqb (polygon_of us k) p || eqb (polygon_of us k) q)

pub other_found : (us : List Side) (a p q k n : ℕ) → k < n → other_test us a p q k ≡ true → other_under us a p q n ≡ true
other_found us a p q k zero l h = absurd (omega arith)
other_found us a p q k (suc n) l h =
    elim (cases_eq k n) [
      | inl e ↦ or_right (other_under us a p q n) (other_test us a p q n) (ap (other_test us a p q) (sym e) ∙ h)
      | inr ne ↦ or_left (other_under us a p q n) (other_test us a p q n) (other_found us a p q k n (omega arith) h)
    ]

of_arc : (k a : ℕ) → k / 2 ≡ a → (k ≡ a + a) ⊎ (k ≡ a + a + 1)
of_arc k a e = elim (cases_eq (k % 2) 0) [ inl x ↦ inl (omega arith) | inr y ↦ inr (omega arith) ]

arc_of : (k a : ℕ) → (k ≡ a + a) ⊎ (k ≡ a + a + 1) → k / 2 ≡ a
arc_of k a (inl e) = omega arith
arc_of k a (inr e) = omega arith

module _ (us : List Side) (vs : List Vertex) (n nodes polygons a : ℕ) (so-long : length us ≡ n) (L : Lawful us vs n nodes polygons) (l : a + a + 1 < n) where
  -- by the law, the arc is closed at a node of its own exactly if each of its sides is its own next
  pub alone_rings : closed_alone us a ≡ true → (next_of us (a + a) ≡ a + a) × (next_of us (a + a + 1) ≡ a + a + 1)
  alone_rings h =
      let (x, y) = and_parts (eqb (node_of us (a + a)) (node_of us (a + a + 1))) (no_other_begins us a (length us)) h in
      let c = eqb-true (node_of us (a + a)) (node_of us (a + a + 1)) x in
      let own : (k : ℕ) → k < n → node_of us k ≡ node_of us (a + a) → (k ≡ a + a) ⊎ (k ≡ a + a + 1) = λ k lk e. of_arc k a (no_other_at us a (length us) y k (omega arith) e) in
      let inside = within (turn (next_of us)) n (rings (turn (next_of us)) n) (ringed_circles (turn (next_of us)) n L.in_turns) in (
        own_unturned (next_of us) (node_of us) n nodes a l L.in_turns L.rings_close L.one_turn c own inside,
        own_turned (next_of us) (node_of us) n nodes a l L.in_turns L.rings_close L.one_turn c own inside,
      )

  pub rings_alone : next_of us (a + a) ≡ a + a → next_of us (a + a + 1) ≡ a + a + 1 → closed_alone us a ≡ true
  rings_alone e0 e1 =
      and_from (eqb (node_of us (a + a)) (node_of us (a + a + 1))) (no_other_begins us a (length us))
      (eq-eqb (node_of us (a + a)) (node_of us (a + a + 1)) (alone_closed (next_of us) (node_of us) n nodes a l L.in_turns L.rings_close L.one_turn e0 e1))
      (no_other_from us a (length us) (λ s ls e. arc_of s a (alone_own (next_of us) (node_of us) n nodes a l L.in_turns L.rings_close L.one_turn e0 e1 s (omega arith) e)))

  pub alone_told : closed_alone us a ≡ both_alone us a
  alone_told =
      elim (cases_Bool (closed_alone us a)) [
        | inl t ↦
            let (x, y) = alone_rings t in
            t ∙ sym (and_from (eqb (next_of us (a + a)) (a + a)) (eqb (next_of us (a + a + 1)) (a + a + 1)) (eq-eqb (next_of us (a + a)) (a + a) x) (eq-eqb (next_of us (a + a + 1)) (a + a + 1) y))
        | inr f ↦
            f ∙
            elim (cases_eq (next_of us (a + a)) (a + a)) [
              | inl x ↦
                  elim (cases_eq (next_of us (a + a + 1)) (a + a + 1)) [
                    | inl y ↦ absurd (both_ways (closed_alone us a) f (rings_alone x y))
                    | inr ny ↦ sym (and_right (eqb (next_of us (a + a)) (a + a)) (eqb (next_of us (a + a + 1)) (a + a + 1)) (ne_eqb (next_of us (a + a + 1)) (a + a + 1) ny))
                  ]
              | inr nx ↦ sym (and_left (eqb (next_of us (a + a)) (a + a)) (eqb (next_of us (a + a + 1)) (a + a + 1)) (ne_eqb (next_of us (a + a)) (a + a) nx))
            ]
      ]
