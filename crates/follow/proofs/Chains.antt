-- Borders chained by start vertex, from the highest down: each goes before those after it. Assumes nothing.
use Prim.Native.Nat.{ℕ, ◌+◌, ◌-◌, ◌<◌, ◌≤◌}
use native.Mathlib.Omega.{arith}
use native.Mathlib.Decide.{ℕ_discrete}
use mathlib.Core.Path.{◌≡◌, refl, sym, ap, subst, ◌∙◌}
use mathlib.Core.Logic.{inl, inr}
use mathlib.Core.Bool.{Bool, true, false, ◌&&◌}
use mathlib.Core.List.{List, []}
use lib.ListN.{length}
use lib.Dec.{eqb, leb}
use borrow.Author.Tests.{eq-eqb, eqb-true, le-leb, leb-true}
use Rattle.verdict.specs.Lists.{times}
use Rattle.verdict.specs.Memory.{work_size}
use Rattle.verdict.proofs.Bools.{clash, test, decided, same_test, and_true, true_and, and_yes}
use Rattle.verdict.proofs.Lowest.{lowest_is, lowest_only, lowest_same_lem, lowest_all}
use Rattle.wire.specs.Bytes.{u16_at, put_u16}
use Rattle.wire.proofs.Short.{length_put_u16, u16_here, u16_other}
use Rattle.rings.specs.Rings.{Web, unused, unused_at, onward}
use Rattle.rings.specs.Heads.{beside, next}
use Rattle.rings.proofs.Heads.{beside_is, is_beside}
use Rattle.corners.specs.Memory.{mate_place, loose}
use Rattle.follow.specs.Memory.{most_vertices, most_halves, head_place, head_in, link_in}
use Rattle.follow.specs.Steps.{Small, from_on, Chained, Held}
use Rattle.follow.proofs.Numbers.{head_other, mate_other}

module _ (w : Web) where
  test_on : ℕ → ℕ → ℕ → Bool
  test_on s v g = leb s g && (w.border g && eqb (w.from g) v)

  on_is : (s v g : ℕ) → test_on s v g ≡ true → (s ≤ g) × (w.border g ≡ true) × (w.from g ≡ v)
  unfolding test_on
  on_is s v g e =
      let q = and_true (leb s g) (w.border g && eqb (w.from g) v) e in
      let r = and_true (w.border g) (eqb (w.from g) v) q.1 in
      (leb-true s g q.0, r.0, eqb-true (w.from g) v r.1)

  is_on : (s v g : ℕ) → s ≤ g → w.border g ≡ true → w.from g ≡ v → test_on s v g ≡ true
  unfolding test_on
  is_on s v g le b e =
      true_and (leb s g) (w.border g && eqb (w.from g) v) (le-leb s g le) (true_and (w.border g) (eqb (w.from g) v) b (eq-eqb (w.from g) v e))

  -- ---- the lowest border from s on

  from_within : (s v : ℕ) → from_on w s v ≤ w.halves
  unfolding from_on
  from_within s v = (lowest_is (λ g. leb s g && (w.border g && eqb (w.from g) v)) w.halves).within

  from_end : (v : ℕ) → from_on w w.halves v ≡ w.halves
  unfolding from_on test_on
  from_end v =
      lowest_all (test_on w.halves v) w.halves
      (λ k b. test (test_on w.halves v k) (λ y. absurd (omega (arith, (on_is w.halves v k y).0))) (λ y. y))

  from_here : (s : ℕ) → s < w.halves → w.border s ≡ true → from_on w s (w.from s) ≡ s
  unfolding from_on test_on
  from_here s lt b =
      lowest_only (test_on s (w.from s)) w.halves s (record {
        within = omega arith;
        holds = λ q. is_on s (w.from s) s (omega arith) b refl;
        before = λ j q. test (test_on s (w.from s) j) (λ y. absurd (omega (arith, (on_is s (w.from s) j y).0))) (λ y. y);
      })

  from_skip : (s v : ℕ) → (w.border s ≡ true → w.from s ≡ v → ⊥) → from_on w s v ≡ from_on w (s + 1) v
  unfolding from_on test_on
  from_skip s v never =
      lowest_same_lem w.halves (test_on s v) (test_on (s + 1) v)
      (λ g b.
      same_test (test_on s v g) (test_on (s + 1) v g)
      (λ y.
      let q = on_is s v g y in
      let other : s ≡ g → ⊥ = λ e. never (ap w.border e ∙ q.1) (ap w.from e ∙ q.2) in
      is_on (s + 1) v g (omega (arith, q.0)) q.1 q.2)
      (λ y. let q = on_is (s + 1) v g y in is_on s v g (omega (arith, q.0)) q.1 q.2))

  next_from : (h : ℕ) → next w h ≡ from_on w (h + 1) (w.from h)
  unfolding next from_on test_on
  next_from h =
      lowest_same_lem w.halves (beside w h) (test_on (h + 1) (w.from h))
      (λ g b.
      same_test (beside w h g) (test_on (h + 1) (w.from h) g)
      (λ y. let q = beside_is w h g y in is_on (h + 1) (w.from h) g (omega (arith, q.2)) q.0 q.1)
      (λ y. let q = on_is (h + 1) (w.from h) g y in is_beside w h g q.1 q.2 (omega (arith, q.0))))

  from_all : (v : ℕ) → from_on w 0 v ≡ onward w [] v
  unfolding from_on onward unused_at unused times
  from_all v =
      lowest_same_lem w.halves (λ g. leb 0 g && (w.border g && eqb (w.from g) v)) (unused_at w [] v)
      (λ g b. rw (le-leb 0 g (omega arith), and_yes (w.border g)))

  -- ---- the memory

  pub chained_none : (m : List ℕ) → ((v : ℕ) → v < most_vertices → head_in m v ≡ w.halves) → Chained w m w.halves
  chained_none m h = record { heads = λ v b. h v b ∙ sym (from_end v); links = λ g a b y. absurd (omega arith) }

  pub chained_skip : (m : List ℕ) (h : ℕ) → w.border h ≡ false → Chained w m (h + 1) → Chained w m h
  chained_skip m h never c = record {
    heads = λ v b. c.heads v b ∙ sym (from_skip h v (λ y e. clash y never));
    links = λ g a b y. c.links g (later g a y) b y;
  }
    where
      later : (g : ℕ) → h ≤ g → w.border g ≡ true → h + 1 ≤ g
      later g a y = decided (ℕ_discrete g h) (λ (e : g ≡ h). clash (sym (ap w.border e) ∙ y) never) (λ (e : g ≡ h → ⊥). omega arith)

  pub chained_held : (m : List ℕ) → Chained w m 0 → Held w m []
  chained_held m c = record { heads = λ v b. c.heads v b ∙ from_all v; chains = λ h b y. c.links h (omega arith) b y }

  module _ (m : List ℕ) (h : ℕ) (small : Small w) (long : work_size ≤ length m) (lt : h < w.halves) (is : w.border h ≡ true) (c : Chained w m (h + 1)) where
    -- the vertex where the border starts, and the memory between the two stores and after them
    abbrev a : ℕ
    a = w.from h

    abbrev k₁ : List ℕ
    k₁ = put_u16 m (mate_place h) (loose + head_in m a)

    abbrev k : List ℕ
    k = put_u16 k₁ (head_place a) h

    low : a < most_vertices
    low = small.start h lt

    -- the head so far is few enough for the mark of a border
    pub head_low : head_in m a ≤ most_halves
    head_low = omega (arith, c.heads a low, from_within (h + 1) a, small.few)

    head : (v : ℕ) → v < most_vertices → Dec (v ≡ a) → head_in k v ≡ from_on w h v
    head v b (yes e) =
        ap (head_in k) e ∙ u16_here k₁ (head_place a) h (simp length_put_u16 (omega (arith, low))) (omega (arith, small.few)) ∙ sym (from_here h lt is) ∙
        ap (from_on w h) (sym e)
    head v b (no e) =
        head_other k₁ a h v e ∙ u16_other m (mate_place h) (loose + head_in m a) (head_place v) (inl (omega arith)) ∙ c.heads v b ∙ sym (from_skip h v (λ y q. e (sym q)))

    link : (g : ℕ) → h ≤ g → g < w.halves → w.border g ≡ true → Dec (g ≡ h) → link_in k g ≡ next w g
    link g p b y (yes e) =
        let put : u16_at k (mate_place h) ≡ loose + head_in m a =
        u16_other k₁ (head_place a) h (mate_place h) (inr (omega (arith, low))) ∙
        u16_here m (mate_place h) (loose + head_in m a) (omega (arith, small.few)) (omega (arith, head_low)) in
        let back : link_in k h ≡ head_in m a = omega (arith, put) in
        subst (λ (x : ℕ). link_in k x ≡ next w x) (sym e) (back ∙ c.heads a low ∙ sym (next_from h))
    link g p b y (no e) =
        ap (λ (x : ℕ). x - loose) (u16_other k₁ (head_place a) h (mate_place g) (inr (omega (arith, low))) ∙ mate_other m h (loose + head_in m a) g e) ∙
        c.links g (omega arith) b y

    chained : Chained w k h
    chained = record { heads = λ v b. head v b (ℕ_discrete v a); links = λ g p b y. link g p b y (ℕ_discrete g h) }

    -- as the code makes it
    pub chained_as : (v x : ℕ) (k₁ k₂ : List ℕ) → v ≡ w.from h → x ≡ head_in m v → k₁ ≡ put_u16 m (mate_place h) (loose + x) → k₂ ≡ put_u16 k₁ (head_place v) h → Chained w k₂ h
    chained_as v x k₁ k₂ ev ex e₁ e₂ = let e : k ≡ k₂ = cc in subst (λ (l : List ℕ). Chained w l h) e chained

-- one empty head more
pub fill_step : (m k : List ℕ) (v n : ℕ) → head_place v + 2 ≤ length m → n < 65536 → k ≡ put_u16 m (head_place v) n → ((x : ℕ) → x < v → head_in m x ≡ n)
    → (x : ℕ) → x < v + 1 → head_in k x ≡ n
fill_step m k v n long small e f x lt =
    ap (λ (l : List ℕ). head_in l x) e ∙
    decided (ℕ_discrete x v) (λ (q : x ≡ v). ap (head_in (put_u16 m (head_place v) n)) q ∙ u16_here m (head_place v) n long small)
    (λ (q : x ≡ v → ⊥). head_other m v n x q ∙ f x (omega arith))
