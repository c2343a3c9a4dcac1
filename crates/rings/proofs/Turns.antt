-- The laws of a code that makes the rings a border at a time: one for where it starts, for each turn, and for each way out. Assumes nothing.
use Prim.Native.Nat.{ℕ, zero, suc, ◌+◌, ◌-◌, ◌<◌, ◌≤◌}
use native.Mathlib.Omega.{arith}
use mathlib.Core.Path.{◌≡◌, refl, sym, ap, subst, ◌∙◌}
use mathlib.Core.Bool.{false}
use mathlib.Core.List.{List, [], ◌∷◌, ◌++◌, append_assoc, append-nil}
use lib.ListN.{length, length-append}
use lib.Dec.{eqb}
use borrow.Author.Tests.{eq-eqb}
use Rattle.wire.specs.Words.{joined}
use Rattle.rings.specs.Rings.{Web, first, onward, ring, next_ring, rings, ends_from, all_rings, edge_list, end_list}
use Rattle.rings.specs.Heads.{InOrder, AtHead}
use Rattle.rings.specs.Walk.{Balanced, left, Off}
use Rattle.rings.specs.Turns.{rest, Going, Between}
use Rattle.rings.proofs.Unused.{left_more}
use Rattle.rings.proofs.Walk.{State, state_first, good_more, off_more, off_on, onward_in, onward_free, walk, rings_done, rings_more, within}
use Rattle.rings.proofs.Heads.{first_head, onward_head, order_more, order_none}
use Rattle.rings.proofs.Complete.{even_none, good_none}

-- one more at the end
length_more : (l : List ℕ) (h : ℕ) → length (l ++ (h ∷ [])) ≡ length l + 1
length_more l h = omega (arith, length-append l (h ∷ []))

module _ (w : Web) where
  pub ring_turn : (v d : ℕ) (l : List ℕ) (h : ℕ) → ring w v (suc d) l h ≡ h ∷ rest w v d (l ++ (h ∷ [])) (w.to h)
  unfolding ring rest
  ring_turn v d l h = refl

  -- one border is taken
  taken_on : (v d h : ℕ) (l whole : List ℕ) → State w v h l → AtHead w l h → InOrder w l → left w l ≤ suc d → left w l + length l ≤ w.halves
      → l ++ ring w v (suc d) l h ≡ whole → Going w v (w.to h) (l ++ (h ∷ [])) whole
  taken_on v d h l whole s a o few room goal =
      let m = left_more w l h s.inside s.free in
      record {
        fuel = d;
        few = omega arith;
        room = omega (arith, length_more l h);
        off = off_more w v l h s.inside s.free s.off;
        good = good_more w l h s.free s.good;
        order = order_more w l h a o;
        goal =
            append_assoc l (h ∷ []) (rest w v d (l ++ (h ∷ [])) (w.to h)) ∙ ap (λ (r : List ℕ). l ++ r) (sym (ring_turn v d l h)) ∙ goal;
      }

  -- ---- a turn of the inner loop: the ring is not yet back, and goes on with the head of the vertex that it has come to

  pub record Turn (v c : ℕ) (l whole : List ℕ) : Type 0 where
    pub inside : onward w l c < w.halves
    pub starts : w.from (onward w l c) ≡ c
    pub head : AtHead w l (onward w l c)
    pub more : Going w v (w.to (onward w l c)) (l ++ (onward w l c ∷ [])) whole
    pub fewer : left w l ≡ left w (l ++ (onward w l c ∷ [])) + 1

  module _ (v c : ℕ) (l whole : List ℕ) (g : Going w v c l whole) where
    pub going_more : eqb c v ≡ false → Turn v c l whole
    unfolding rest
    going_more y =
        let h = onward w l c in
        let b = onward_in w l c (off_on w v c l y g.off) in
        let f = onward_free w l c b in
        let a = onward_head w l c b in
        let s : State w v h l = record { inside = b; free = f.0; off = subst (λ (x : ℕ). Off w v x l) (sym f.1) g.off; good = g.good } in
        let m = left_more w l h b f.0 in
        let e : g.fuel ≡ suc (g.fuel - 1) = omega (arith, g.few) in
        let goal : l ++ ring w v g.fuel l h ≡ whole = rw y at g.goal in
        record {
          inside = b;
          starts = f.1;
          head = a;
          more = taken_on v (g.fuel - 1) h l whole s a g.order (omega (arith, g.few)) g.room (rw e at goal);
          fewer = m;
        }

    -- the way out of the inner loop
    pub going_done : c ≡ v → l ≡ whole
    unfolding rest
    going_done e = sym (append-nil l) ∙ (rw (eq-eqb c v e) at g.goal)

  -- ---- the outer loop

  pub between_none : Balanced w → Between w [] []
  unfolding edge_list end_list all_rings
  between_none b = record {
    fuel = w.halves;
    few = within w [];
    room = omega (arith, within w []);
    even = even_none w b;
    good = good_none w b;
    order = order_none w;
    edges = refl;
    ends = refl;
    thin = omega arith;
  }

  rings_none : (d : ℕ) (l : List ℕ) → w.halves ≤ first w l → rings w d l ≡ []
  unfolding rings
  rings_none zero l n = refl
  rings_none (suc d) l n = rings_done w d l n

  module _ (l es : List ℕ) (b : Between w l es) where
    -- no border is left
    pub between_done : w.halves ≤ first w l → (l ≡ edge_list w) × (es ≡ end_list w)
    unfolding joined ends_from
    between_done n =
        let e = rings_none b.fuel l n in
        (sym (append-nil l) ∙ (rw e at b.edges), sym (append-nil es) ∙ (rw e at b.ends))

    -- the lowest border that is left starts a ring ..
    pub between_start : first w l < w.halves → Going w (w.from (first w l)) (w.to (first w l)) (l ++ (first w l ∷ [])) (l ++ next_ring w l)
    unfolding next_ring
    between_start lt =
        let h = first w l in
        let v = w.from h in
        let s = state_first w l b.even b.good lt in
        let e : suc (w.halves - 1) ≡ w.halves = omega arith in
        taken_on v (w.halves - 1) h l (l ++ ring w v w.halves l h) s (first_head w l lt) b.order (omega (arith, b.room)) b.room
        (ap (λ (d : ℕ). l ++ ring w v d l h) e)

    -- .. and after it the next may start
    pub between_more : first w l < w.halves → InOrder w (l ++ next_ring w l)
        → Between w (l ++ next_ring w l) (es ++ (length (l ++ next_ring w l) ∷ []))
    unfolding next_ring joined ends_from
    between_more lt o =
        let h = first w l in
        let v = w.from h in
        let r = next_ring w l in
        let d = b.fuel - 1 in
        let s = state_first w l b.even b.good lt in
        let k = walk w v w.halves l h s (within w l) in
        let long = length-append l r in
        let e : b.fuel ≡ suc d = omega (arith, b.few, k.fewer, k.some) in
        let go : rings w b.fuel l ≡ r ∷ rings w d (l ++ r) = ap (λ (n : ℕ). rings w n l) e ∙ rings_more w d l lt in
        record {
          fuel = d;
          few = omega (arith, b.few, k.fewer, k.some);
          room = omega (arith, b.room, k.fewer);
          even = k.even;
          good = k.good;
          order = o;
          edges = append_assoc l r (joined (rings w d (l ++ r))) ∙ sym (ap (λ (rs : List (List ℕ)). l ++ joined rs) go) ∙ b.edges;
          ends =
              append_assoc es (length (l ++ r) ∷ []) (ends_from (length (l ++ r)) (rings w d (l ++ r))) ∙
              ap (λ (n : ℕ). es ++ (n ∷ ends_from n (rings w d (l ++ r)))) long ∙ sym (ap (λ (rs : List (List ℕ)). es ++ ends_from (length l) rs) go) ∙ b.ends;
          thin = omega (arith, b.thin, k.some, length-append es (length (l ++ r) ∷ []));
        }
