-- Laws of mended corners: equal coordinates are an equivalence, the lowest equal vertex is one and is its own, and what the map of vertices in
-- the work memory tells of a half-edge. Assumes nothing.
use Prim.Native.Nat.{ℕ, ◌+◌, ◌*◌, ◌/◌, ◌%◌, ◌<◌, ◌≤◌}
use native.Mathlib.Omega.{arith}
use native.Mathlib.Decide.{dec_lt}
use mathlib.Core.Path.{◌≡◌, refl, sym, ap, ◌∙◌}
use mathlib.Core.Bool.{true}
use mathlib.Core.List.{List}
use lib.ListN.{get_or, drop}
use lib.Dec.{leb}
use borrow.Author.Tests.{le-leb, lt-leb}
use lib.Seq.{drop-drop}
use lib.Ieee.{binary32, of_bits}
use lib.Ieee.Bits.{of_bits-fits}
use Rattle.verdict.specs.Lowest.{lowest}
use Rattle.verdict.specs.Memory.{past, SamePast}
use Rattle.verdict.proofs.Bools.{clash, test, decided, same_test}
use Rattle.verdict.proofs.Lowest.{lowest_is, lowest_same_lem, all_true, true_all}
use Rattle.verdict.proofs.Lists.{map_at_lem}
use Rattle.wire.specs.Bytes.{u16_at}
use Rattle.wire.proofs.Short.{u16_drop}
use Rattle.grid.specs.Grid.{finite}
use Rattle.grid.proofs.Equal.{eq_self, eq_sym, eq_trans}
use Rattle.tables.specs.Parts.{Parts, table_of, word_of, vertex_word, corner}
use Rattle.tables.specs.Fixed.{Sized}
use Rattle.mesh.specs.Mesh.{Finite, Cornered}
use Rattle.mesh.proofs.Plain.{finite_test}
use Rattle.pairs.specs.Halves.{halves, from, to, border}
use Rattle.pairs.proofs.Paired.{partner_in}
use Rattle.corners.specs.Corners.{level, same_point, lowest_same, relinked, mended_corners, recornered}
use Rattle.corners.specs.Memory.{map_at, top, SameTop, mate_place, loose, Mated}

module _ (p : Parts) (f : Finite p) where
  finite_at : (v e : ℕ) → v < p.vertices → e < 3 → finite (of_bits binary32 (vertex_word p v e)) ≡ true
  finite_at v e l m = finite_test (vertex_word p v e) (f.vertex v e l m)

  -- ---- equal coordinates

  pub same_self : (v : ℕ) → v < p.vertices → same_point p v v ≡ true
  unfolding same_point level
  same_self v l = true_all (level p v v) 3 (λ e m. eq_self (of_bits binary32 (vertex_word p v e)) (finite_at v e l m))

  pub same_sym : (u v : ℕ) → u < p.vertices → v < p.vertices → same_point p u v ≡ true → same_point p v u ≡ true
  unfolding same_point level
  same_sym u v k l q =
      true_all (level p v u) 3 (λ e m. eq_sym (vertex_word p u e) (vertex_word p v e) (finite_at u e k m) (finite_at v e l m) (all_true (level p u v) 3 q e m))

  pub same_trans : (u v w : ℕ) → u < p.vertices → v < p.vertices → w < p.vertices → same_point p u v ≡ true → same_point p v w ≡ true → same_point p u w ≡ true
  unfolding same_point level
  same_trans u v w k l m q r =
      true_all (level p u w) 3
      (λ e n. eq_trans (vertex_word p u e) (vertex_word p v e) (finite_at u e k n) (finite_at v e l n) (all_true (level p u v) 3 q e n)
      (of_bits binary32 (vertex_word p w e)) (all_true (level p v w) 3 r e n) (of_bits-fits binary32 (vertex_word p w e)) (finite_at w e m n))

  -- ---- the lowest vertex with the same coordinates

  pub lowest_le : (v : ℕ) → v < p.vertices → lowest_same p v ≤ v
  unfolding lowest_same
  lowest_le v l =
      decided (dec_lt v (lowest p.vertices (same_point p v)))
      (λ m. clash (same_self v l) ((lowest_is (same_point p v) p.vertices).before v m)) (λ m. omega arith)

  pub lowest_vertex : (v : ℕ) → v < p.vertices → lowest_same p v < p.vertices
  lowest_vertex v l = omega (arith, lowest_le v l)

  -- it has the coordinates of the vertex
  pub lowest_same_point : (v : ℕ) → v < p.vertices → same_point p v (lowest_same p v) ≡ true
  unfolding lowest_same
  lowest_same_point v l = (lowest_is (same_point p v) p.vertices).holds (unfold lowest_same in lowest_vertex v l)

  -- vertices with the same coordinates have one lowest
  pub lowest_one : (u v : ℕ) → u < p.vertices → v < p.vertices → same_point p u v ≡ true → lowest_same p u ≡ lowest_same p v
  unfolding lowest_same
  lowest_one u v k l q =
      lowest_same_lem p.vertices (same_point p u) (same_point p v) (λ w m. same_test _ _ (λ y. same_trans v u w l k m (same_sym u v k l q) y) (λ y. same_trans u v w k l m q y))

  -- the lowest is its own lowest
  pub lowest_own : (v : ℕ) → v < p.vertices → lowest_same p (lowest_same p v) ≡ lowest_same p v
  lowest_own v l = sym (lowest_one v (lowest_same p v) l (lowest_vertex v l) (lowest_same_point v l))

-- ---- corners and half-edges of the floor with the changed corners

-- there are as many half-edges as before
pub as_many : (p : Parts) → halves (recornered p) ≡ halves p
unfolding recornered relinked
as_many p = refl

module _ (p : Parts) (s : Sized p) where
  -- every word of the corners, by its number
  pub mended_word : (j : ℕ) → j < 3 * p.faces → get_or (mended_corners p) j 0 ≡ lowest_same p (get_or (table_of p 1) j 0)
  unfolding mended_corners
  mended_word j l = map_at_lem (lowest_same p) 0 0 (table_of p 1) j (omega (arith, s.sized 1 (omega arith)))

  pub mended_corner : (f e : ℕ) → f < p.faces → e < 3 → corner (recornered p) f e ≡ lowest_same p (corner p f e)
  unfolding recornered relinked word_of
  mended_corner f e l m = mended_word (f * 3 + e) (omega arith)

  pub mended_from : (h : ℕ) → h < halves p → from (recornered p) h ≡ lowest_same p (from p h)
  unfolding from
  mended_from h l = mended_corner (h / 3) (h % 3) (omega (arith, s.adjacency)) (omega arith)

  pub mended_to : (h : ℕ) → h < halves p → to (recornered p) h ≡ lowest_same p (to p h)
  unfolding to
  mended_to h l = mended_corner (h / 3) ((h % 3 + 1) % 3) (omega (arith, s.adjacency)) (omega arith)

  -- half-edges start and end at vertices
  pub from_vertex : Cornered p → (h : ℕ) → h < halves p → from p h < p.vertices
  unfolding from
  from_vertex c h l = c.under (h / 3) (h % 3) (omega (arith, s.adjacency)) (omega arith)

  pub to_vertex : Cornered p → (h : ℕ) → h < halves p → to p h < p.vertices
  unfolding to
  to_vertex c h l = c.under (h / 3) ((h % 3 + 1) % 3) (omega (arith, s.adjacency)) (omega arith)

-- ---- the map in the work memory

pub top_at : (w : List ℕ) (k : ℕ) → u16_at w (map_at + k) ≡ u16_at (top w) k
unfolding top
top_at w k = u16_drop map_at w k

-- what lies past the map lies past the work memory
pub top_past : (v w : List ℕ) → SameTop v w → SamePast v w
unfolding top past
top_past v w e = sym (drop-drop 8192 map_at v) ∙ ap (drop 8192) e ∙ drop-drop 8192 map_at w

-- a half-edge's number in the memory tells whether it is a border
pub border_told : (q : Parts) (w : List ℕ) → q.adjacency ≤ 4096 → Mated q w → (h : ℕ) → h < halves q → leb loose (u16_at w (mate_place h)) ≡ border q h
border_told q w few m h l =
    test (border q h) (λ y. le-leb loose (u16_at w (mate_place h)) (m.borders h l y) ∙ sym y)
    (λ y. lt-leb loose (u16_at w (mate_place h)) (omega (arith, m.partners h l y, few, partner_in q h l y)) ∙ sym y)
