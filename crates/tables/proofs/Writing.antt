-- What one written word does to a file: it is one word of the parts set, and rules 1 to 6 answer as before. Assumes nothing.
use mathlib.Core.Path.{◌≡◌, sym, ap, ◌∙◌}
use mathlib.Core.Logic.{◌⊎◌, inl, inr, ◌≢◌}
use mathlib.Core.List.{List, [], map}
use Prim.Native.Nat.{ℕ, ◌+◌, ◌*◌, ◌≤◌, ◌<◌}
use native.Mathlib.Omega.{arith}
use native.Mathlib.Decide.{ℕ_discrete}
use lib.ListN.{length, get_or, set, length-set}
use lib.Seq.{ext_get_or, get_or-set_same, get_or-set_other}
use Rattle.verdict.proofs.Lists.{map_at_lem, map_same}
use Rattle.wire.specs.Bytes.{u32_at, put_u32}
use Rattle.wire.proofs.Numbers.{length_put_u32, byte_other, u32_other}
use Rattle.wire.proofs.Runs.{words_other, words_here}
use Rattle.tables.specs.Tables.{table_at, table}
use Rattle.tables.specs.Header.{floor_tables, header_verdict, RightHeader}
use Rattle.tables.specs.Parts.{Parts, table_words, parts_of, table_of, with_word, with_float, word_place, words_in}
use Rattle.tables.proofs.Floor.{floor_in_header}
use Rattle.tables.proofs.Right.{header_met, SameFields, verdict_same}
use Rattle.tables.proofs.Reading.{table_is, table_inside, words_apart}

-- a write past the header, or to one of the header's floats, leaves rules 1 to 6 as they are
pub past_fields : (b : List ℕ) (at w : ℕ) → 136 ≤ at → SameFields (put_u32 b at w) b
past_fields b at w h = record {
  size = length_put_u32 b at w;
  first = λ i l. byte_other b at w i (inl (omega arith));
  later = λ i l m. byte_other b at w i (inl (omega arith));
}

pub among_floats : (b : List ℕ) (at w : ℕ) → 12 ≤ at → at + 4 ≤ 72 → SameFields (put_u32 b at w) b
among_floats b at w h k = record {
  size = length_put_u32 b at w;
  first = λ i l. byte_other b at w i (inl (omega arith));
  later = λ i l m. byte_other b at w i (inr (omega arith));
}

-- THE FRAME LAW: word i of table k is written
module _ (b : List ℕ) (r : RightHeader b) (k : ℕ) (lk : k < 9) (i : ℕ) (li : i < words_in b k) (w : ℕ) (lw : w < 4294967296) where
  pub place_inside : (136 ≤ word_place b k i) × (word_place b k i + 4 ≤ length b)
  unfolding word_place
  place_inside = let h = table_inside b r k lk (omega arith) in omega arith

  same : SameFields (put_u32 b (word_place b k i) w) b
  same = past_fields b (word_place b k i) w place_inside.0

  -- the verdict is as it was, so the header is right as before
  pub put_verdict : header_verdict (put_u32 b (word_place b k i) w) ≡ header_verdict b
  put_verdict = verdict_same _ b same

  pub put_right : RightHeader (put_u32 b (word_place b k i) w)
  put_right = rw put_verdict r

  field : (f : ℕ) → f ≤ 132 → u32_at (put_u32 b (word_place b k i) w) f ≡ u32_at b f
  field f l = u32_other b (word_place b k i) w f (inl (omega (arith, place_inside)))

  -- the written table, and another
  here : table_words (put_u32 b (word_place b k i) w) (table_at floor_tables k) ≡ set (table_words b (table_at floor_tables k)) i w
  unfolding table_words word_place
  here =
      let q = floor_in_header k lk in
      rw (field (table_at floor_tables k).offset q.offset_in, field (table_at floor_tables k).count q.count_in)
      (words_here b (u32_at b (table_at floor_tables k).offset) (words_in b k) i w li (table_inside b r k lk (omega arith)).1 lw)

  elsewhere : (j : ℕ) → j < 9 → j ≢ k → (x : ℕ) → x < words_in b j
      → (u32_at b (table_at floor_tables j).offset + 4 * x + 4 ≤ word_place b k i) ⊎ (word_place b k i + 4 ≤ u32_at b (table_at floor_tables j).offset + 4 * x)
  unfolding word_place
  elsewhere j lj ne x lx = words_apart b r j k lj lk ne x i lx li

  other : (j : ℕ) → j < 9 → j ≢ k → table_words (put_u32 b (word_place b k i) w) (table_at floor_tables j) ≡ table_words b (table_at floor_tables j)
  unfolding table_words
  other j lj ne =
      let q = floor_in_header j lj in
      rw (field (table_at floor_tables j).offset q.offset_in, field (table_at floor_tables j).count q.count_in)
      (words_other b (word_place b k i) w (u32_at b (table_at floor_tables j).offset) (words_in b j) (elsewhere j lj ne))

  tables_put : map (table_words (put_u32 b (word_place b k i) w)) floor_tables ≡ set (map (table_words b) floor_tables) k (set (table_of (parts_of b) k) i w)
  tables_put =
      ext_get_or [] (map (table_words (put_u32 b (word_place b k i) w)) floor_tables) (set (map (table_words b) floor_tables) k (set (table_of (parts_of b) k) i w))
      (sym (length-set (map (table_words b) floor_tables) k (set (table_of (parts_of b) k) i w))) (λ j l. by j l (ℕ_discrete j k))
    where
      by : (j : ℕ) → j < 9 → Dec (j ≡ k) → get_or (map (table_words (put_u32 b (word_place b k i) w)) floor_tables) j [] ≡ get_or (set (map (table_words b) floor_tables) k (set (table_of (parts_of b) k) i w)) j []
      by j l (yes e) =
          rw e (map_at_lem (table_words (put_u32 b (word_place b k i) w)) (table 0 0 0) [] floor_tables k lk ∙ here ∙ ap (λ (t : List ℕ). set t i w) (sym (table_is b k lk))
          ∙ sym (get_or-set_same (map (table_words b) floor_tables) k (set (table_of (parts_of b) k) i w) [] lk))
      by j l (no e) =
          map_at_lem (table_words (put_u32 b (word_place b k i) w)) (table 0 0 0) [] floor_tables j l ∙ other j l e ∙ sym (map_at_lem (table_words b) (table 0 0 0) [] floor_tables j l)
          ∙ sym (get_or-set_other (map (table_words b) floor_tables) k j (set (table_of (parts_of b) k) i w) [] e)

  pub put_parts : parts_of (put_u32 b (word_place b k i) w) ≡ with_word (parts_of b) k i w
  unfolding parts_of with_word
  put_parts = λ x. record {
    floats = words_other b (word_place b k i) w 12 15 (λ j l. inl (omega (arith, place_inside))) x;
    vertices = field 72 (omega arith) x;
    faces = field 80 (omega arith) x;
    nodes = field 100 (omega arith) x;
    root = field 108 (omega arith) x;
    adjacency = field 112 (omega arith) x;
    edges = field 120 (omega arith) x;
    perimeters = field 128 (omega arith) x;
    tables = tables_put x;
  }

-- its sibling: one of the header's floats is written
module _ (b : List ℕ) (r : RightHeader b) (i : ℕ) (li : i < 15) (w : ℕ) (lw : w < 4294967296) where
  pub float_verdict : header_verdict (put_u32 b (12 + 4 * i) w) ≡ header_verdict b
  float_verdict = verdict_same _ b (among_floats b (12 + 4 * i) w (omega arith) (omega arith))

  kept : (f : ℕ) → 72 ≤ f → u32_at (put_u32 b (12 + 4 * i) w) f ≡ u32_at b f
  kept f l = u32_other b (12 + 4 * i) w f (inr (omega arith))

  table_kept : (j : ℕ) → j < 9 → table_words (put_u32 b (12 + 4 * i) w) (table_at floor_tables j) ≡ table_words b (table_at floor_tables j)
  unfolding table_words
  table_kept j lj =
      let q = floor_in_header j lj in
      rw (kept (table_at floor_tables j).offset q.offset_from, kept (table_at floor_tables j).count q.count_from)
      (words_other b (12 + 4 * i) w (u32_at b (table_at floor_tables j).offset) (words_in b j) (λ x l. inr (omega (arith, table_inside b r j lj (omega arith)))))

  pub float_parts : parts_of (put_u32 b (12 + 4 * i) w) ≡ with_float (parts_of b) i w
  unfolding parts_of with_float
  float_parts = λ x. record {
    floats = words_here b 12 15 i w li (omega (arith, header_met b r)) lw x;
    vertices = kept 72 (omega arith) x;
    faces = kept 80 (omega arith) x;
    nodes = kept 100 (omega arith) x;
    root = kept 108 (omega arith) x;
    adjacency = kept 112 (omega arith) x;
    edges = kept 120 (omega arith) x;
    perimeters = kept 128 (omega arith) x;
    tables = map_same (table_words (put_u32 b (12 + 4 * i) w)) (table_words b) (table 0 0 0) floor_tables table_kept x;
  }

-- ---- reading after one word was set

module _ (p : Parts) (k j w : ℕ) (nine_tables : length p.tables ≡ 9) (lk : k < 9) where
  pub set_here : j < length (table_of p k) → get_or (table_of (with_word p k j w) k) j 0 ≡ w
  unfolding with_word
  set_here l = rw (get_or-set_same p.tables k (set (table_of p k) j w) [] (omega (arith, nine_tables))) (get_or-set_same (table_of p k) j w 0 l)

  pub set_elsewhere : (x : ℕ) → x ≢ j → get_or (table_of (with_word p k j w) k) x 0 ≡ get_or (table_of p k) x 0
  unfolding with_word
  set_elsewhere x ne = rw (get_or-set_same p.tables k (set (table_of p k) j w) [] (omega (arith, nine_tables))) (get_or-set_other (table_of p k) j x w 0 ne)

  pub set_other_table : (l : ℕ) → l ≢ k → table_of (with_word p k j w) l ≡ table_of p l
  unfolding with_word
  set_other_table l ne = get_or-set_other p.tables k l (set (table_of p k) j w) [] ne
