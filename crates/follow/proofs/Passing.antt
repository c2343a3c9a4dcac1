-- One half-edge more in the outer loop: it is passed by, or it starts a ring. Assumes nothing.
use Prim.Native.Nat.{ℕ, suc, ◌+◌, ◌-◌, ◌%◌, ◌<◌, ◌≤◌}
use native.Mathlib.Omega.{arith}
use native.Mathlib.Decide.{dec_lt, ℕ_discrete}
use mathlib.Core.Path.{◌≡◌, refl, sym, ap, ap₂, subst, ◌∙◌}
use mathlib.Core.Logic.{inl}
use mathlib.Core.Bool.{Bool, true, false}
use mathlib.Core.List.{List, [], ◌∷◌, ◌++◌}
use lib.ListN.{length, length-append}
use lib.Dec.{leb}
use Rattle.verdict.specs.Lists.{times}
use Rattle.verdict.specs.Memory.{work_size}
use Rattle.verdict.proofs.Bools.{test, decided}
use Rattle.verdict.proofs.Lowest.{lowest_all}
use Rattle.verdict.proofs.Lists.{bit_same, times_append}
use Rattle.wire.specs.Bytes.{u16_at, put_u16}
use Rattle.wire.proofs.Short.{u16_here, u16_other}
use Rattle.rings.specs.Rings.{Web, unused, first, ring, next_ring, edge_list, end_list}
use Rattle.rings.specs.Heads.{InOrder}
use Rattle.rings.specs.Walk.{Balanced}
use Rattle.rings.specs.Turns.{rest}
use Rattle.rings.proofs.Heads.{unused_is, unused_read, stays_used}
use Rattle.rings.proofs.Turns.{ring_turn, between_none, between_more, between_done}
use Rattle.corners.specs.Memory.{loose}
use Rattle.follow.specs.Memory.{most_halves, head_place, edge_place, head_in, mark, edges_in, ends_in, SameMates}
use Rattle.follow.specs.Steps.{Small, Held, Unmarked, Rung, Passed}
use Rattle.follow.proofs.Numbers.{edge_other, length_edges, edges_same, ends_same, ends_plain, ends_mark, mates_put, mate_same}
use Rattle.follow.proofs.Ring.{first_is}

-- ---- the last edge marked

module _ (k : List ℕ) (n : ℕ) (within : n ≤ most_halves) (long : work_size ≤ length k) (u : Unmarked k n) where
  abbrev at : ℕ
  at = n - 1

  abbrev z : List ℕ
  z = put_u16 k (edge_place at) (mark + u16_at k (edge_place at))

  end_here : at + 1 ≡ n
  end_here = omega (arith, u.some)

  put : u16_at z (edge_place at) ≡ mark + u16_at k (edge_place at)
  put = u16_here k (edge_place at) (mark + u16_at k (edge_place at)) (omega (arith, u.some)) (omega (arith, u.plain))

  other : (j : ℕ) → (j ≡ at → ⊥) → u16_at z (edge_place j) ≡ u16_at k (edge_place j)
  other j ne = edge_other k at (mark + u16_at k (edge_place at)) j ne

  marked_edges : edges_in z n ≡ edges_in k n
  marked_edges =
      edges_same k z n
      (λ j b.
      decided (ℕ_discrete j at)
      (λ (e : j ≡ at). subst (λ (x : ℕ). u16_at z (edge_place x) % mark ≡ u16_at k (edge_place x) % mark) (sym e) (omega (arith, put)))
      (λ (e : j ≡ at → ⊥). ap (λ (x : ℕ). x % mark) (other j e)))

  marked_ends : ends_in z n ≡ ends_in k n ++ (n ∷ [])
  marked_ends =
      subst (λ (x : ℕ). ends_in z x ≡ ends_in k x ++ (x ∷ [])) end_here
      (ends_mark z at (omega (arith, put)) ∙
      ap (λ (l : List ℕ). l ++ ((at + 1) ∷ [])) (ends_same k z at (λ j b. other j (λ (e : j ≡ at). omega arith)) ∙ sym (ends_plain k at u.plain)))

  marked_mates : SameMates z k
  marked_mates = mates_put k (edge_place at) (mark + u16_at k (edge_place at)) (omega (arith, u.some))

module _ (w : Web) where
  -- ---- whether a half-edge is an unused border

  pub free_border : (m : List ℕ) (i j c a x : ℕ) → Small w → Passed w m i j c → c < w.halves → w.border c ≡ true → a ≡ w.from c → x ≡ head_in m a
      → leb x c ≡ unused w (edges_in m i) c
  free_border m i j c a x small p lt is e f =
      ap (λ (g : ℕ). leb g c) (f ∙ ap (head_in m) e ∙ p.held.heads (w.from c) (small.start c lt)) ∙ sym (unused_read w (edges_in m i) c p.between.order lt is)

  pub free_not : (l : List ℕ) (c : ℕ) → w.border c ≡ false → false ≡ unused w l c
  unfolding unused
  free_not l c e = rw e

  -- ---- the first border that is left

  stands_first : (h : ℕ) (r : List ℕ) → 0 < times h (h ∷ r)
  unfolding times
  stands_first h r = omega (arith, bit_same h)

  -- the first border of a ring is used by it
  ring_uses : (l : List ℕ) → first w l < w.halves → unused w (l ++ next_ring w l) (first w l) ≡ false
  unfolding next_ring
  ring_uses l lt =
      let h = first w l in
      let v = w.from h in
      let d = w.halves - 1 in
      let e : w.halves ≡ suc d = omega arith in
      let go : ring w v w.halves l h ≡ h ∷ rest w v d (l ++ (h ∷ [])) (w.to h) = ap (λ (n : ℕ). ring w v n l h) e ∙ ring_turn w v d l h in
      test (unused w (l ++ ring w v w.halves l h) h)
      (λ y. absurd (omega (arith, (unused_is w (l ++ ring w v w.halves l h) h y).1, times_append h l (ring w v w.halves l h), ap (times h) go, stands_first h (rest w v d (l ++ (h ∷ [])) (w.to h)))))
      (λ y. y)

  one_more : (p : ℕ → Bool) (c : ℕ) → ((h : ℕ) → h < c → p h ≡ false) → p c ≡ false → (h : ℕ) → h < c + 1 → p h ≡ false
  one_more p c f e h lt = decided (dec_lt h c) (f h) (λ q. let z : h ≡ c = omega arith in ap p z ∙ e)

  -- ---- passed by

  pub passed_skip : (m : List ℕ) (i j c : ℕ) → Passed w m i j c → unused w (edges_in m i) c ≡ false → Passed w m i j (c + 1)
  passed_skip m i j c p e =
      record { between = p.between; count = p.count; held = p.held; used = one_more (unused w (edges_in m i)) c p.used e }

  -- ---- a ring, and its end marked

  module _ (m k : List ℕ) (i j c n : ℕ) (small : Small w) (long : work_size ≤ length k) (p : Passed w m i j c) (lt : c < w.halves) (e : unused w (edges_in m i) c ≡ true) (r : Rung w m k i n) where
    abbrev l : List ℕ
    l = edges_in m i

    abbrev q : List ℕ
    q = put_u16 k (edge_place (n - 1)) (mark + u16_at k (edge_place (n - 1)))

    here : c ≡ first w l
    here = first_is w small m i j c p lt e

    inside : first w l < w.halves
    inside = subst (λ (x : ℕ). x < w.halves) here lt

    edges : edges_in q n ≡ edges_in k n
    edges = marked_edges k n r.within long r.last

    list : edges_in q n ≡ l ++ next_ring w l
    list = edges ∙ r.list

    ends : ends_in q n ≡ ends_in m i ++ (length (l ++ next_ring w l) ∷ [])
    ends =
        marked_ends k n r.within long r.last ∙
        ap₂ (λ (s : List ℕ) (x : ℕ). s ++ (x ∷ [])) r.ends (sym (length_edges k n) ∙ ap length r.list)

    passed : Passed w q n (j + 1) (c + 1)
    passed = record {
      between = rw (list, ends) (between_more w l (ends_in m i) p.between inside (subst (InOrder w) r.list r.order));
      count = omega (arith, p.count, ap length ends, length-append (ends_in m i) (length (l ++ next_ring w l) ∷ []));
      held = subst (Held w q) (sym edges) (record {
        heads = λ v b. u16_other k (edge_place (n - 1)) (mark + u16_at k (edge_place (n - 1))) (head_place v) (inl (omega arith)) ∙ r.held.heads v b;
        chains = λ h b y. ap (λ (x : ℕ). x - loose) (mate_same k q h (marked_mates k n r.within long r.last)) ∙ r.held.chains h b y;
      });
      used =
          subst (λ (s : List ℕ). (h : ℕ) → h < c + 1 → unused w s h ≡ false) (sym list)
          (one_more (unused w (l ++ next_ring w l)) c (λ h b. stays_used w l (next_ring w l) h (p.used h b))
          (subst (λ (x : ℕ). unused w (l ++ next_ring w l) x ≡ false) (sym here) (ring_uses l inside)));
    }

    -- as the code makes it
    pub passed_ring : (z : List ℕ) → z ≡ put_u16 k (edge_place (n - 1)) (mark + u16_at k (edge_place (n - 1))) → Passed w z n (j + 1) (c + 1) × SameMates z m
    passed_ring z ez =
        subst (λ (s : List ℕ). Passed w s n (j + 1) (c + 1) × SameMates s m) (sym ez) (passed, marked_mates k n r.within long r.last ∙ r.same)

  -- ---- all passed

  pub passed_all : (m : List ℕ) (i j c : ℕ) → Passed w m i j c → w.halves ≤ c → (edges_in m i ≡ edge_list w) × (ends_in m i ≡ end_list w)
  unfolding first
  passed_all m i j c p le =
      let none = lowest_all (unused w (edges_in m i)) w.halves (λ h b. p.used h (omega arith)) in
      between_done w (edges_in m i) (ends_in m i) p.between (omega arith)

  -- as many edges as half-edges at most, and no more ends than edges
  pub passed_few : (m : List ℕ) (i j c : ℕ) → Small w → Passed w m i j c → (i ≤ most_halves) × (j ≤ most_halves)
  passed_few m i j c small p =
      let few : i ≤ most_halves = omega (arith, p.between.room, length_edges m i, small.few) in
      (few, omega (arith, p.count, p.between.thin, length_edges m i))

  -- ---- none passed yet

  pub passed_none : (m : List ℕ) → Balanced w → Held w m [] → Passed w m 0 0 0
  unfolding edges_in ends_in
  passed_none m b held = record { between = between_none w b; count = refl; held = held; used = λ h lt. absurd (omega arith) }
