-- One border taken: two numbers put into the memory, and what it holds then. Assumes nothing.
use Prim.Native.Nat.{ℕ, ◌+◌, ◌-◌, ◌%◌, ◌<◌, ◌≤◌}
use native.Mathlib.Omega.{arith}
use mathlib.Core.Path.{◌≡◌, sym, ap, ap₂, subst, ◌∙◌}
use mathlib.Core.Logic.{inl, inr}
use mathlib.Core.Bool.{true}
use mathlib.Core.List.{List, [], ◌∷◌, ◌++◌}
use lib.Dec.{eqb}
use lib.ListN.{length}
use borrow.Author.Tests.{eqb-true, eqb-false}
use Rattle.verdict.specs.Memory.{work_size}
use Rattle.verdict.proofs.Bools.{test}
use Rattle.verdict.proofs.Lowest.{lowest_is}
use Rattle.wire.specs.Bytes.{u16_at, put_u16}
use Rattle.wire.proofs.Short.{length_put_u16, u16_here, u16_other}
use Rattle.rings.specs.Rings.{Web}
use Rattle.rings.specs.Heads.{beside, next, taken}
use Rattle.rings.proofs.Heads.{free, unused_is, heads_more}
use Rattle.corners.specs.Memory.{loose}
use Rattle.follow.specs.Memory.{most_vertices, head_place, edge_place, head_in, link_in, mark, edges_in, SameMates}
use Rattle.follow.specs.Steps.{Small, Held, Due, Stepped}
use Rattle.follow.proofs.Numbers.{head_other, edge_other, edges_same, edges_more, ends_same, ends_plain, mates_put, mate_same}

next_within : (w : Web) (h : ℕ) → next w h ≤ w.halves
unfolding next
next_within w h = (lowest_is (beside w h) w.halves).within

-- what is due is a border
pub due_border : (w : Web) (m : List ℕ) (i h : ℕ) → Due w m i h → w.border h ≡ true
due_border w m i h due = (unused_is w (edges_in m i) h (free w (edges_in m i) h due.head)).0

module _ (w : Web) (m : List ℕ) (i h : ℕ) (small : Small w) (long : work_size ≤ length m) (due : Due w m i h) where
  abbrev k₁ : List ℕ
  k₁ = put_u16 m (edge_place i) h

  abbrev k : List ℕ
  k = put_u16 k₁ (head_place (w.from h)) (link_in m h)

  low : w.from h < most_vertices
  low = small.start h due.head.inside

  link_low : link_in m h < 65536
  link_low = omega (arith, due.held.chains h due.head.inside (due_border w m i h due), next_within w h, small.few)

  same : SameMates k m
  same =
      mates_put k₁ (head_place (w.from h)) (link_in m h) (omega (arith, low)) ∙ mates_put m (edge_place i) h (omega (arith, due.room))

  -- the edges: what was there, and the new one
  old_edge : (j : ℕ) → j < i → u16_at k (edge_place j) ≡ u16_at m (edge_place j)
  old_edge j b =
      u16_other k₁ (head_place (w.from h)) (link_in m h) (edge_place j) (inr (omega (arith, low))) ∙ edge_other m i h j (λ (e : j ≡ i). omega arith)

  new_edge : u16_at k (edge_place i) ≡ h
  new_edge =
      u16_other k₁ (head_place (w.from h)) (link_in m h) (edge_place i) (inr (omega (arith, low))) ∙
      u16_here m (edge_place i) h (omega (arith, due.room)) (omega (arith, due.head.inside, small.few))

  before : edges_in k i ≡ edges_in m i
  before = edges_same m k i (λ j b. ap (λ (x : ℕ). x % mark) (old_edge j b))

  plain : u16_at k (edge_place i) < mark
  plain = omega (arith, new_edge, due.head.inside, small.few)

  list : edges_in k (i + 1) ≡ edges_in m i ++ (h ∷ [])
  list =
      let e : u16_at k (edge_place i) % mark ≡ h = omega (arith, new_edge, plain) in
      edges_more k i ∙ ap₂ (λ (l : List ℕ) (x : ℕ). l ++ (x ∷ [])) before e

  held : Held w k (edges_in m i ++ (h ∷ []))
  unfolding taken
  held =
      let more = heads_more w (edges_in m i) h due.head most_vertices (head_in m) (link_in m) due.order due.held in
      record {
        heads = λ v b. at_vertex v b ∙ more.heads v b;
        chains = λ j b y. ap (λ (x : ℕ). x - loose) (mate_same m k j same) ∙ more.chains j b y;
      }
    where
      at_vertex : (v : ℕ) → v < most_vertices → head_in k v ≡ taken (head_in m) (link_in m) (w.from h) h v
      at_vertex v b =
          test (eqb v (w.from h))
          (λ y.
          let e = eqb-true v (w.from h) y in
          rw y (ap (head_in k) e ∙ u16_here k₁ (head_place (w.from h)) (link_in m h) (simp length_put_u16 (omega (arith, low))) link_low))
          (λ y.
          rw y
          (head_other k₁ (w.from h) (link_in m h) v (eqb-false v (w.from h) y) ∙ u16_other m (edge_place i) h (head_place v) (inl (omega arith))))

  stepped : Stepped w m k i h
  stepped =
      let e : i + 1 - 1 ≡ i = omega arith in
      record {
        before = before;
        list = list;
        ends = ends_plain k i plain ∙ ends_same m k i old_edge;
        last = record { some = omega arith; plain = rw e plain };
        held = subst (Held w k) (sym list) held;
        same = same;
      }

  -- as the code makes it
  pub stepped_as : (a x : ℕ) (k₁ k₂ : List ℕ) → a ≡ w.from h → x ≡ link_in m h → k₁ ≡ put_u16 m (edge_place i) h → k₂ ≡ put_u16 k₁ (head_place a) x → Stepped w m k₂ i h
  stepped_as a x k₁ k₂ ea ex e₁ e₂ = let e : k ≡ k₂ = cc in subst (λ (l : List ℕ). Stepped w m l i h) e stepped
