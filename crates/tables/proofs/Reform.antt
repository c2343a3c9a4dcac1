-- The fixed form of whole parts: rules 1 to 6 accept it, its parts are those parts, and its own fixed form is itself. Assumes nothing.
use mathlib.Core.Path.{◌≡◌, refl, sym, ap, ◌∙◌}
use mathlib.Core.Bool.{false}
use mathlib.Core.List.{List, [], ◌∷◌, ◌++◌, map, append_assoc}
use Prim.Native.Nat.{ℕ, suc, ◌+◌, ◌*◌, ◌≤◌, ◌<◌}
use native.Mathlib.Omega.{arith}
use lib.ListN.{length, get_or, take, drop, length-append}
use lib.Seq.{ext_get_or, take_all}
use Rattle.verdict.specs.Lowest.{lowest, any_under}
use Rattle.verdict.specs.Verdict.{accepted}
use Rattle.verdict.proofs.Lowest.{under_none}
use Rattle.verdict.proofs.Lists.{map_at_lem}
use Rattle.wire.specs.Bytes.{u32_at, u32_bytes, Bytes}
use Rattle.wire.specs.Words.{words_at, bytes_of, joined, Words}
use Rattle.wire.proofs.Runs.{word_at, bytes_append, length_bytes, spelled_words, words_nil, words_cons, joined_at, joined_more, joined_within, joined_mono}
use Rattle.tables.specs.Tables.{table_at, table, width, span_of, outside_at, shares, shares_earlier}
use Rattle.tables.specs.Header.{magic, floor_tables, starts_wrong, differs, header_verdict, RightHeader}
use Rattle.tables.specs.Parts.{Parts, table_words, parts_of, table_of, count_of}
use Rattle.tables.specs.Fixed.{start_of, fields_of, form_of, Sized, Whole}
use Rattle.tables.proofs.Spans.{inside_is, after_is}
use Rattle.tables.proofs.Floor.{nine, in_words}
use Rattle.tables.proofs.Right.{met_header}
use Rattle.tables.proofs.Reading.{whole_of}

module _ (p : Parts) (h : Sized p) where
  -- the running position
  pub start_more : (k : ℕ) → k < 9 → start_of p (k + 1) ≡ start_of p k + 4 * (count_of p k * width (table_at floor_tables k))
  unfolding start_of
  start_more k l = omega (arith, joined_more p.tables k (omega (arith, h.nine_tables)), h.sized k l)

  pub start_within : (k : ℕ) → start_of p k ≤ 136 + 4 * length (joined p.tables)
  unfolding start_of
  start_within k = omega (arith, joined_within p.tables k)

  pub start_least : (k : ℕ) → 136 ≤ start_of p k
  unfolding start_of
  start_least k = omega arith

  pub whole_length : start_of p 9 ≡ 136 + 4 * length (joined p.tables)
  unfolding start_of
  whole_length = rw (take_all 9 p.tables (omega (arith, h.nine_tables)))

  pub start_first : start_of p 0 ≡ 136
  unfolding start_of joined
  start_first = refl

  -- a form is at most 737,372 bytes long
  pub form_most : 136 + 4 * length (joined p.tables) ≤ 737372
  form_most =
      omega (
        arith,
        whole_length,
        start_first,
        start_more 0 (omega arith),
        start_more 1 (omega arith),
        start_more 2 (omega arith),
        start_more 3 (omega arith),
        start_more 4 (omega arith),
        start_more 5 (omega arith),
        start_more 6 (omega arith),
        start_more 7 (omega arith),
        start_more 8 (omega arith),
      )

  pub length_form : length (form_of p) ≡ 136 + 4 * length (joined p.tables)
  unfolding form_of
  length_form =
      omega (
        arith,
        length_bytes (1 ∷ (p.floats ++ (fields_of p ++ joined p.tables))),
        length-append p.floats (fields_of p ++ joined p.tables),
        length-append (fields_of p) (joined p.tables),
        h.fifteen,
      )

  pub start_mono : (j k : ℕ) → j ≤ k → start_of p j ≤ start_of p k
  unfolding start_of
  start_mono j k l = omega (arith, joined_mono p.tables j k l)

  pub before_length : (k : ℕ) → 8 + 4 * length (1 ∷ (p.floats ++ (fields_of p ++ joined (take k p.tables)))) ≡ start_of p k
  unfolding start_of
  before_length k =
      omega (arith, length-append p.floats (fields_of p ++ joined (take k p.tables)), length-append (fields_of p) (joined (take k p.tables)), h.fifteen)

module _ (p : Parts) (h : Whole p) where
  -- a run of the form's words
  run : (x y z : List ℕ) (at n : ℕ) → Words y → 8 + 4 * length x ≡ at → length y ≡ n → words_at (magic ++ bytes_of (x ++ (y ++ z))) at n ≡ y
  run x y z at n s e f =
      rw (bytes_append x (y ++ z), bytes_append y z, ← append_assoc magic (bytes_of x) (bytes_of y ++ bytes_of z))
      (spelled_words (magic ++ bytes_of x) y (bytes_of z) at n s (length-append magic (bytes_of x) ∙ omega (arith, length_bytes x)) f)

  pub form_floats : words_at (form_of p) 12 15 ≡ p.floats
  unfolding form_of
  form_floats = run (1 ∷ []) p.floats (fields_of p ++ joined p.tables) 12 15 h.floats_words refl h.fit.fifteen

  start_small : (k : ℕ) → start_of p k < 4294967296
  start_small k = omega (arith, start_within p h.fit k, form_most p h.fit)

  fields_small : Words (fields_of p)
  fields_small = words_cons (omega (arith, h.fit.vertices)) (words_cons (start_small 0) (words_cons (omega (arith, h.fit.faces)) (words_cons (start_small 1) (words_cons (start_small 2) (words_cons (start_small 3) (words_cons (start_small 4) (words_cons (omega (arith, h.fit.nodes)) (words_cons (start_small 5) (words_cons h.root_word (words_cons (omega (arith, h.fit.adjacency, h.fit.faces)) (words_cons (start_small 6) (words_cons (omega (arith, h.fit.edges)) (words_cons (start_small 7) (words_cons (omega (arith, h.fit.perimeters)) (words_cons (start_small 8) words_nil)))))))))))))))

  form_fields : words_at (form_of p) 72 16 ≡ fields_of p
  unfolding form_of
  form_fields = run (1 ∷ p.floats) (fields_of p) (joined p.tables) 72 16 fields_small (omega (arith, h.fit.fifteen)) refl

  field_at : (j : ℕ) → j < 16 → u32_at (form_of p) (72 + 4 * j) ≡ get_or (fields_of p) j 0
  field_at j l = sym (word_at (form_of p) 72 16 j l) ∙ ap (λ (w : List ℕ). get_or w j 0) form_fields

  pub form_offset : (k : ℕ) → k < 9 → u32_at (form_of p) (table_at floor_tables k).offset ≡ start_of p k
  form_offset =
      nine (λ k. u32_at (form_of p) (table_at floor_tables k).offset ≡ start_of p k)
      (field_at 1 (omega arith)) (field_at 3 (omega arith)) (field_at 4 (omega arith)) (field_at 5 (omega arith)) (field_at 6 (omega arith))
      (field_at 8 (omega arith)) (field_at 11 (omega arith)) (field_at 13 (omega arith)) (field_at 15 (omega arith))

  pub form_count : (k : ℕ) → k < 9 → u32_at (form_of p) (table_at floor_tables k).count ≡ count_of p k
  form_count =
      nine (λ k. u32_at (form_of p) (table_at floor_tables k).count ≡ count_of p k)
      (field_at 0 (omega arith)) (field_at 2 (omega arith)) (field_at 2 (omega arith)) (field_at 2 (omega arith)) (field_at 2 (omega arith))
      (field_at 7 (omega arith)) (field_at 10 (omega arith)) (field_at 12 (omega arith)) (field_at 14 (omega arith))

  form_split : (k : ℕ) → k < 9
      → form_of p ≡ magic ++ bytes_of ((1 ∷ (p.floats ++ (fields_of p ++ joined (take k p.tables)))) ++ (table_of p k ++ joined (drop (suc k) p.tables)))
  unfolding form_of
  form_split k l =
      ap (λ (w : List ℕ). magic ++ bytes_of (1 ∷ w))
      (ap (λ (w : List ℕ). p.floats ++ (fields_of p ++ w)) (joined_at p.tables k (omega (arith, h.fit.nine_tables))) ∙ simp append_assoc)

  pub form_table : (k : ℕ) → k < 9 → table_words (form_of p) (table_at floor_tables k) ≡ table_of p k
  unfolding table_words
  form_table k l =
      rw (form_offset k l, form_count k l, form_split k l)
      (run (1 ∷ (p.floats ++ (fields_of p ++ joined (take k p.tables)))) (table_of p k) (joined (drop (suc k) p.tables)) _ _ (h.tables_words k l) (before_length p h.fit k) (h.fit.sized k l))

  form_tables : map (table_words (form_of p)) floor_tables ≡ p.tables
  form_tables =
      ext_get_or [] _ _ (sym h.fit.nine_tables) (λ k l. map_at_lem (table_words (form_of p)) (table 0 0 0) [] floor_tables k l ∙ form_table k l)

  -- the form reads back
  pub reads_back : parts_of (form_of p) ≡ p
  unfolding parts_of
  reads_back = λ i. record {
    floats = form_floats i;
    vertices = field_at 0 (omega arith) i;
    faces = field_at 2 (omega arith) i;
    nodes = field_at 7 (omega arith) i;
    root = field_at 9 (omega arith) i;
    adjacency = field_at 10 (omega arith) i;
    edges = field_at 12 (omega arith) i;
    perimeters = field_at 14 (omega arith) i;
    tables = form_tables i;
  }

  stop_is : (k : ℕ) → k < 9 → (span_of (form_of p) (table_at floor_tables k)).stop ≡ start_of p (k + 1)
  unfolding span_of
  stop_is k l = rw (form_offset k l, form_count k l) (omega (arith, in_words (count_of p k) k l, start_more p h.fit k l))

  start_is : (k : ℕ) → k < 9 → (span_of (form_of p) (table_at floor_tables k)).start ≡ start_of p k
  unfolding span_of
  start_is k l = form_offset k l

  form_word : starts_wrong magic (form_of p) ≡ false
  unfolding starts_wrong any_under lowest differs form_of
  form_word = refl

  form_world : u32_at (form_of p) 8 ≡ 1
  unfolding u32_at form_of bytes_of u32_bytes
  form_world = refl

  form_inside : (k : ℕ) → k < 9 → outside_at 136 floor_tables (form_of p) k ≡ false
  unfolding outside_at
  form_inside k l =
      inside_is 136 (length (form_of p)) (span_of (form_of p) (table_at floor_tables k)) (omega (arith, start_is k l, start_least p h.fit k))
      (omega (arith, stop_is k l, start_within p h.fit (k + 1), length_form p h.fit))

  form_apart : (k : ℕ) → k < 9 → shares_earlier floor_tables (form_of p) k ≡ false
  unfolding shares_earlier
  form_apart k l =
      under_none (λ j. shares (span_of (form_of p) (table_at floor_tables k)) (span_of (form_of p) (table_at floor_tables j))) k
      (λ j m. after_is (span_of (form_of p) (table_at floor_tables k)) (span_of (form_of p) (table_at floor_tables j))
      (omega (arith, start_is k l, stop_is j (omega arith), start_mono p h.fit (j + 1) k (omega arith))))

  -- rules 1 to 6 accept the form
  pub form_right : header_verdict (form_of p) ≡ accepted
  form_right =
      met_header (form_of p) (record {
        long = omega (arith, length_form p h.fit);
        short = omega (arith, length_form p h.fit, form_most p h.fit);
        word = form_word;
        world = form_world;
        counts = record {
          vertices = rw (field_at 0 (omega arith)) h.fit.vertices;
          faces = rw (field_at 2 (omega arith)) h.fit.faces;
          nodes = rw (field_at 7 (omega arith)) h.fit.nodes;
          adjacency = rw (field_at 10 (omega arith), field_at 2 (omega arith)) h.fit.adjacency;
          edges = rw (field_at 12 (omega arith)) h.fit.edges;
          perimeters = rw (field_at 14 (omega arith)) h.fit.perimeters;
        };
        inside = form_inside;
        apart = form_apart;
      })

-- the fixed form of a floor: accepted, with the same parts, and its own fixed form
module _ (b : List ℕ) (r : RightHeader b) (y : Bytes b) where
  pub form_accepted : header_verdict (form_of (parts_of b)) ≡ accepted
  form_accepted = form_right (parts_of b) (whole_of b r y)

  pub form_parts : parts_of (form_of (parts_of b)) ≡ parts_of b
  form_parts = reads_back (parts_of b) (whole_of b r y)

  pub form_again : form_of (parts_of (form_of (parts_of b))) ≡ form_of (parts_of b)
  form_again = ap form_of form_parts
