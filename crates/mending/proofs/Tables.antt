-- The tables that are written afresh: how long they are and what stands in them, by the work memory. Assumes nothing.
use Prim.Native.Nat.{ℕ, zero, suc, ◌+◌, ◌*◌, ◌/◌, ◌%◌, ◌<◌, ◌≤◌}
use native.Mathlib.Omega.{arith}
use native.Mathlib.Decide.{ℕ_discrete}
use mathlib.Core.Path.{◌≡◌, refl, sym, ap, subst, ◌∙◌}
use mathlib.Core.Bool.{true, cond}
use mathlib.Core.List.{List, [], ◌∷◌, ◌++◌}
use lib.ListN.{length, get_or, take, length-append, length-map, get_or-append}
use lib.Seq.{get_or-append_seam}
use lib.Dec.{leb}
use Rattle.verdict.specs.Lists.{bit}
use Rattle.verdict.proofs.Bools.{decided, test}
use Rattle.wire.specs.Bytes.{u16_at, put, put_u32}
use Rattle.wire.specs.Words.{bytes_of}
use Rattle.tables.specs.Parts.{Parts, parts_of, table_of, word_of}
use Rattle.tables.specs.Fixed.{Sized}
use Rattle.mesh.specs.Mesh.{Cornered}
use Rattle.pairs.specs.Halves.{halves, border, pairing}
use Rattle.corners.specs.Corners.{lowest_same, mended_corners, recornered}
use Rattle.corners.proofs.Corners.{mended_word}
use Rattle.rings.specs.Rings.{edge_list, end_list}
use Rattle.rings.proofs.Complete.{each_once}
use Rattle.rings.proofs.Places.{stands}
use Rattle.rings.proofs.Afresh.{balanced}
use Rattle.follow.specs.Memory.{edge_place, mark, edges_in, ends_in}
use Rattle.follow.specs.Ready.{web_in}
use Rattle.follow.proofs.Numbers.{length_edges, ends_plain, ends_mark}
use Rattle.kept.specs.Kept.{kept}
use Rattle.seams.specs.Mended.{adjacency_of, entries_for}
use Rattle.seams.specs.Changes.{new_corner}
use Rattle.seams.proofs.Lists.{ones_length, ones_at, twos_length, twos_first, twos_second}
use Rattle.mending.specs.Worked.{Worked}
use Rattle.mending.proofs.Puts.{word_more, one_put}

-- ---- corners

-- a corner is a vertex
pub corner_low : (p : Parts) → Cornered p → (j : ℕ) → j < 3 * p.faces → get_or (table_of p 1) j 0 < p.vertices
unfolding word_of
corner_low p c j l =
    let e : j / 3 * 3 + j % 3 ≡ j = omega arith in
    subst (λ (i : ℕ). get_or (table_of p 1) i 0 < p.vertices) e (c.under (j / 3) (j % 3) (omega arith) (omega arith))

module _ (p : Parts) (s : Sized p) where
  pub corners_long : length (mended_corners p) ≡ 3 * p.faces
  unfolding mended_corners
  corners_long = omega (arith, length-map (table_of p 1) (lowest_same p), s.sized 1 (omega arith))

  pub corner_more : (o : List ℕ) (at j w : ℕ) {out new : List ℕ} → j < 3 * p.faces → w ≡ new_corner p j
      → out ≡ put o at (bytes_of (take j (mended_corners p))) → new ≡ put_u32 out (at + 4 * j) w → new ≡ put o at (bytes_of (take (j + 1) (mended_corners p)))
  corner_more o at j w l e = one_put o (mended_corners p) at j w (omega (arith, corners_long)) (e ∙ sym (mended_word p s j l))

-- ---- adjacency entries

module _ (q : Parts) where
  pub adjacency_long : length (adjacency_of q) ≡ halves q
  unfolding adjacency_of
  adjacency_long = ones_length (pairing q) (halves q)

  pub adjacency_more : (o : List ℕ) (at h w : ℕ) {out new : List ℕ} → h < halves q → w ≡ pairing q h
      → out ≡ put o at (bytes_of (take h (adjacency_of q))) → new ≡ put_u32 out (at + 4 * h) w → new ≡ put o at (bytes_of (take (h + 1) (adjacency_of q)))
  adjacency_more o at h w l e =
      one_put o (adjacency_of q) at h w (omega (arith, adjacency_long)) (e ∙ sym (unfold adjacency_of in ones_at (pairing q) (halves q) h l))

-- ---- edge entries

module _ (p : Parts) (edges : List ℕ) where
  pub entries_long : length (entries_for p edges) ≡ length edges * 2
  unfolding entries_for
  entries_long = twos_length (kept p) edges

  pub entry_more : (o : List ℕ) (at i h t : ℕ) {out mid new : List ℕ} → i < length edges → h ≡ get_or edges i 0 → t ≡ kept p h
      → out ≡ put o at (bytes_of (take (i * 2) (entries_for p edges)))
      → mid ≡ put_u32 out (at + 8 * i) h → new ≡ put_u32 mid (at + 8 * i + 4) t → new ≡ put o at (bytes_of (take ((i + 1) * 2) (entries_for p edges)))
  entry_more o at i h t {out} {mid} {new} l e k is one two =
      let first : h ≡ get_or (entries_for p edges) (i * 2) 0 = e ∙ sym (subst (λ (j : ℕ). get_or (entries_for p edges) j 0 ≡ get_or edges i 0) zero_more (unfold entries_for in twos_first (kept p) edges i l)) in
      let second : t ≡ get_or (entries_for p edges) (i * 2 + 1) 0 = k ∙ ap (kept p) e ∙ sym (unfold entries_for in twos_second (kept p) edges i l) in
      let a : at + 8 * i ≡ at + 4 * (i * 2) = omega arith in
      let b : at + 8 * i + 4 ≡ at + 4 * (i * 2 + 1) = omega arith in
      let n : i * 2 + 1 + 1 ≡ (i + 1) * 2 = omega arith in
      subst (λ (j : ℕ). new ≡ put o at (bytes_of (take j (entries_for p edges)))) n
      (one_put o (entries_for p edges) at (i * 2 + 1) t (omega (arith, entries_long)) second
      (one_put o (entries_for p edges) at (i * 2) h (omega (arith, entries_long)) first is (one ∙ ap (λ (j : ℕ). put_u32 out j h) a))
      (two ∙ ap (λ (j : ℕ). put_u32 mid j t) b))
    where
      zero_more : i * 2 + 0 ≡ i * 2
      zero_more = omega arith

-- ---- the edges and the ends in the work memory

edge_in : (m : List ℕ) (n i : ℕ) → i < n → get_or (edges_in m n) i 0 ≡ u16_at m (edge_place i) % mark
unfolding edges_in
edge_in m zero i l = absurd (omega arith)
edge_in m (suc n) i l =
    decided (ℕ_discrete i n)
    (λ e. let z : i ≡ length (edges_in m n) = e ∙ sym (length_edges m n) in
    ap (λ (j : ℕ). get_or (edges_in m n ++ (u16_at m (edge_place n) % mark ∷ [])) j 0) z ∙ get_or-append_seam (edges_in m n) (u16_at m (edge_place n) % mark) [] 0 ∙ ap (λ (j : ℕ). u16_at m (edge_place j) % mark) (sym e))
    (λ ne. get_or-append (edges_in m n) (u16_at m (edge_place n) % mark ∷ []) 0 i (omega (arith, length_edges m n)) ∙ edge_in m n i (omega arith))

ends_within : (m : List ℕ) (i n : ℕ) → i ≤ n → length (ends_in m i) ≤ length (ends_in m n)
unfolding ends_in
ends_within m i zero l = let e : i ≡ 0 = omega arith in rw e (omega arith)
ends_within m i (suc n) l =
    decided (ℕ_discrete i (suc n)) (λ e. rw e (omega arith))
    (λ ne. omega (arith, length-append (ends_in m n) (cond (leb mark (u16_at m (edge_place n))) (suc n ∷ []) []), ends_within m i n (omega arith)))

-- the ends of the first i edges are put from `at` on: k of them
pub record Ended (w o : List ℕ) (at : ℕ) (out : List ℕ) (k i : ℕ) : Type 0 where
  pub bytes : out ≡ put o at (bytes_of (ends_in w i))
  pub count : k ≡ length (ends_in w i)
  pub few : k ≤ i

-- none, one more or not
module _ (w o : List ℕ) (at : ℕ) where
  pub end_start : Ended w o at o 0 0
  unfolding ends_in put bytes_of
  end_start = record { bytes = refl; count = refl; few = omega arith }

  pub end_put : (i : ℕ) {out new : List ℕ} {k n : ℕ} → Ended w o at out k i → mark ≤ u16_at w (edge_place i) → new ≡ put_u32 out (at + 4 * k) (i + 1) → n ≡ k + 1 → Ended w o at new n (i + 1)
  end_put i a m e c = record {
    bytes = rw (ends_mark w i m) (word_more o (ends_in w i) at (i + 1) a.bytes (omega (arith, a.count)) e);
    count = rw (ends_mark w i m) (omega (arith, length-append (ends_in w i) ((i + 1) ∷ []), a.count));
    few = omega (arith, a.few);
  }

  pub end_left : (i : ℕ) {out new : List ℕ} {k n : ℕ} → Ended w o at out k i → u16_at w (edge_place i) < mark → new ≡ out → n ≡ k → Ended w o at new n (i + 1)
  end_left i a m e c = record {
    bytes = rw (ends_plain w i m) (e ∙ a.bytes);
    count = rw (ends_plain w i m) (c ∙ a.count);
    few = omega (arith, a.few);
  }

module _ (b w : List ℕ) (e : ℕ) (k : Worked b w e) where
  pub edge_count : length (edge_list (web_in b)) ≡ e
  edge_count = sym (ap length k.edges) ∙ length_edges w e

  pub edge_at : (i : ℕ) → i < e → u16_at w (edge_place i) % mark ≡ get_or (edge_list (web_in b)) i 0
  edge_at i l = sym (edge_in w e i l) ∙ ap (λ (x : List ℕ). get_or x i 0) k.edges

  -- each of them is a border
  pub edge_border : (i h : ℕ) → i < e → h ≡ u16_at w (edge_place i) % mark → border (recornered (parts_of b)) h ≡ true
  edge_border i h l is =
      test (border (recornered (parts_of b)) h) (λ y. y)
      (λ y. absurd (omega (arith, ap bit y, each_once (web_in b) (balanced (recornered (parts_of b)) k.apart) h, stands (edge_list (web_in b)) i h (omega (arith, edge_count)) (sym (is ∙ edge_at i l)))))

  -- a marked edge has an end of its own
  pub end_room : (i : ℕ) → i < e → mark ≤ u16_at w (edge_place i) → length (ends_in w i) < length (end_list (web_in b))
  end_room i l m =
      omega (arith, ap length (ends_mark w i m), length-append (ends_in w i) ((i + 1) ∷ []), ends_within w (i + 1) e (omega arith), ap length k.ends)
