-- Vertices by the words of their coordinates: equal coordinates have one word each, stand in one chain, and have one lowest vertex. Assumes nothing.
use Prim.Native.Nat.{ℕ, ◌<◌}
use native.Mathlib.Omega.{arith}
use native.Mathlib.Decide.{dec_lt}
use mathlib.Core.Path.{◌≡◌, sym, ap, subst, ◌∙◌}
use mathlib.Core.Bool.{true, false}
use mathlib.Core.List.{List}
use Rattle.std.specs.Prelude.{Option, Some, None}
use lib.Dec.{eqb}
use borrow.Author.Tests.{eq-eqb, eqb-true}
use Rattle.verdict.proofs.Bools.{clash, test, decided}
use Rattle.verdict.proofs.Lowest.{all_true, all_none, all_more, all_fails}
use Rattle.wire.specs.Bytes.{u16_at, Bytes}
use Rattle.wire.specs.Words.{Words}
use Rattle.grid.proofs.Equal.{eq_plain}
use Rattle.chains.specs.Chains.{one_more, last_place, before_place, Chained, Found}
use Rattle.chains.proofs.Walk.{Walk, at_some, walk_start, walk_step}
use Rattle.tables.specs.Header.{RightHeader}
use Rattle.tables.specs.Parts.{Parts, parts_of, table_of, word_of, vertex_word}
use Rattle.tables.proofs.Reading.{whole_of}
use Rattle.mesh.specs.Mesh.{Finite}
use Rattle.mesh.proofs.Plain.{finite_test}
use Rattle.corners.specs.Corners.{level, same_point, lowest_same}
use Rattle.corners.proofs.Corners.{lowest_le, lowest_same_point, lowest_one}
use Rattle.mates.specs.Keys.{point_word, point_chains, point_key}

-- the coordinates of a file's vertices are words
pub vertex_words : (b : List ℕ) → RightHeader b → Bytes b → Words (table_of (parts_of b) 0)
vertex_words b r y = (whole_of b r y).tables_words 0 (omega arith)

-- the walk along the chain of vertex v, to a vertex under it with its coordinates
abbrev pub Look : Parts → ℕ → ℕ → Type 0
Look p v g = Walk (point_key p) (same_point p v) (point_key p v) v g

module _ (p : Parts) (f : Finite p) (w : Words (table_of p 0)) where
  word_small : (v e : ℕ) → vertex_word p v e < 4294967296
  unfolding word_of
  word_small v e = w.word _

  module _ (v u : ℕ) (l : v < p.vertices) (m : u < p.vertices) where
    level_words : (e : ℕ) → e < 3 → eqb (point_word p v e) (point_word p u e) ≡ level p v u e
    unfolding level
    level_words e b =
        sym (eq_plain (vertex_word p v e) (vertex_word p u e) (word_small v e) (word_small u e)
        (finite_test (vertex_word p v e) (f.vertex v e l b)) (finite_test (vertex_word p u e) (f.vertex u e m b)))

    -- equal coordinates are equal words
    same_words : same_point p v u ≡ true → (e : ℕ) → e < 3 → point_word p v e ≡ point_word p u e
    unfolding same_point
    same_words q e b = eqb-true _ _ (level_words e b ∙ all_true (level p v u) 3 q e b)

    pub same_key : same_point p v u ≡ true → point_key p u ≡ point_key p v
    unfolding point_key
    same_key q = rw (same_words q 0 (omega arith), same_words q 1 (omega arith), same_words q 2 (omega arith))

    -- two words differ; or two are equal, and the third tells
    pub words_differ : (e : ℕ) → e < 3 → (point_word p v e ≡ point_word p u e → ⊥) → false ≡ same_point p v u
    words_differ e b ne = sym (test (same_point p v u) (λ y. absurd (ne (same_words y e b))) (λ y. y))

    pub third_tells : point_word p v 0 ≡ point_word p u 0 → point_word p v 1 ≡ point_word p u 1 → eqb (point_word p v 2) (point_word p u 2) ≡ same_point p v u
    unfolding same_point
    third_tells x y =
        let t = level p v u in
        let a : t 0 ≡ true = sym (level_words 0 (omega arith)) ∙ eq-eqb _ _ x in
        let b : t 1 ≡ true = sym (level_words 1 (omega arith)) ∙ eq-eqb _ _ y in
        level_words 2 (omega arith) ∙ test (t 2) (λ z. z ∙ all_none t ∙ all_more t 0 a ∙ all_more t 1 b ∙ all_more t 2 z) (λ z. z ∙ all_fails t 2 z)

  module _ (v : ℕ) (l : v < p.vertices) (m : List ℕ) (c : Chained point_chains (point_key p) m v) where
    same_chain : (k : ℕ) → k < v → same_point p v k ≡ true → point_key p k ≡ point_key p v
    same_chain k b q = same_key v k l (omega arith) q

    pub look_start : (k g : ℕ) → (k ≡ point_key p v) × (k < point_chains) → g ≡ u16_at m (last_place k) → Look p v g
    look_start k g e q =
        let z = e.0 in
        walk_start point_chains (point_key p) (same_point p v) (point_key p v) v m c same_chain g (omega (arith, e.1)) (rw z at q)

    pub look_step : (o : Option ℕ) (h r : ℕ) → o ≡ Some h → Look p v (one_more o) → r ≡ u16_at m (before_place point_chains h) → same_point p v h ≡ false
        → Look p v r × (r < one_more o)
    look_step o h r z i q ne = walk_step point_chains (point_key p) (same_point p v) (point_key p v) v m c same_chain o h r z i q ne

-- ---- the lowest equal vertex, by what was found under the vertex

module _ (p : Parts) (f : Finite p) (v : ℕ) (o : Option ℕ) (l : v < p.vertices) (i : Found (same_point p v) v (one_more o)) where
  pub lowest_found : (u : ℕ) → o ≡ Some u → (u < v) × (lowest_same p u ≡ lowest_same p v)
  lowest_found u z =
      let s = at_some o u z in
      let same = subst (λ (j : ℕ). same_point p v j ≡ true) s.1 (i.holds s.0) in
      (omega (arith, i.within, s), sym (lowest_one p f v u l (omega (arith, i.within, s)) same))

  pub lowest_itself : o ≡ None → v ≡ lowest_same p v
  lowest_itself z =
      let m : one_more o ≡ 0 = ap one_more z in
      decided (dec_lt (lowest_same p v) v) (λ n. clash (lowest_same_point p f v l) (i.none (omega (arith, m)) (lowest_same p v) n))
      (λ n. omega (arith, lowest_le p f v l))
