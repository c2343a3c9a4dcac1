-- The planted floor in fixed form is accepted: its parts have the right sizes and words, and every rule is met. Assumes nothing.
use Prim.Native.Nat.{ℕ, zero, suc, ◌+◌, ◌*◌, ◌-◌, ◌/◌, ◌<◌, ◌≤◌}
use native.Mathlib.Omega.{arith}
use native.Mathlib.Decide.{dec_lt}
use mathlib.Core.Path.{◌≡◌, refl, sym, ap, subst}
use mathlib.Core.List.{List, [], ◌∷◌, ◌++◌}
use lib.Dec.{leb}
use lib.ListN.{length}
use lib.Ieee.{binary32}
use lib.Ieee.Bits.{to_bits-lt}
use borrow.Author.Tests.{leb-true, leb-false}
use Rattle.verdict.specs.Memory.{work_size}
use Rattle.verdict.specs.Verdict.{accepted}
use Rattle.verdict.specs.declared.Answer.{Answer}
use Rattle.verdict.proofs.Bools.{test, decided}
use Rattle.wire.specs.Words.{Words}
use Rattle.wire.proofs.Runs.{words_nil, words_cons}
use Rattle.tables.specs.Tables.{table_at, width}
use Rattle.tables.specs.Header.{floor_tables}
use Rattle.tables.specs.Parts.{Parts, table_of, count_of}
use Rattle.tables.specs.Fixed.{form_of, Sized, Whole}
use Rattle.tables.proofs.Floor.{nine}
use Rattle.tables.proofs.Right.{header_sound}
use Rattle.tables.proofs.Reform.{reads_back, form_right}
use Rattle.boxes.specs.declared.Box.{Box}
use Rattle.mesh.specs.Mesh.{Meshed}
use Rattle.nodes.specs.Plain.{SoundNodes}
use Rattle.tree.specs.Plain.{FloorTree, BoxesHold}
use Rattle.border.specs.Plain.{SoundBorders}
use Rattle.floor.specs.Sound.{Sound}
use Rattle.floor.specs.Reader.{reader_verdict}
use Rattle.floor.proofs.Meaning.{sound_accepted}
use Rattle.planting.specs.Boxes.{face_box, range_box}
use Rattle.planting.specs.Planting.{node_words, leaf_words, inner_words, range_words, tree_words, planted}
use Rattle.planting.specs.Sides.{Sides, Good}
use Rattle.planting.proofs.Ranges.{most, most_12, none_most, words_one, words_two, half_some, rest_some, half_most, rest_most}
use Rattle.grown.proofs.Numbered.{plane_small}
use Rattle.planting.proofs.Tight.{face_good, range_good}
use Rattle.planting.proofs.Writing.{some_words, no_words, tree_length}
use Rattle.grown.proofs.Grown.{nodes_planted, tree_planted}
use Rattle.grown.proofs.Held.{finite_planted, boxes_planted}
use Rattle.grown.proofs.Kept.{mesh_kept, borders_kept}

-- ---- words of 32 bits

words_tail : (w : ℕ) (ws : List ℕ) → Words (w ∷ ws) → Words ws
words_tail w ws h = record { word = λ i. h.word (suc i) }

words_append : (a b : List ℕ) → Words a → Words b → Words (a ++ b)
words_append [] b h k = k
words_append (x ∷ a) b h k = words_cons (h.word 0) (words_append a b (words_tail x a h) k)

node_words_lem : (b : Box) (f pl l r : ℕ) → Sides Good b → f < 4294967296 → pl < 4294967296 → l < 4294967296 → r < 4294967296 → Words (node_words b f pl l r)
unfolding node_words
node_words_lem b f pl l r s hf hp hl hr =
    words_cons (to_bits-lt binary32 _ s.least_x.fits) (words_cons (to_bits-lt binary32 _ s.least_y.fits) (words_cons (to_bits-lt binary32 _ s.least_z.fits)
    (words_cons (to_bits-lt binary32 _ s.greatest_x.fits) (words_cons (to_bits-lt binary32 _ s.greatest_y.fits) (words_cons (to_bits-lt binary32 _ s.greatest_z.fits)
    (words_cons hf (words_cons (omega arith) (words_cons hp (words_cons hl (words_cons hr words_nil))))))))))

module _ (p : Parts) (whole : Whole p) (mesh : Meshed p) where
  few : p.faces ≤ 4096
  few = whole.fit.faces

  leaf_words_lem : (from : ℕ) → from < p.faces → Words (leaf_words (face_box p from) from)
  unfolding leaf_words
  leaf_words_lem from l = node_words_lem _ _ _ _ _ (face_good p mesh.finite.vertex mesh.cornered.under from l) (omega (arith, few)) (omega arith) (omega arith) (omega arith)

  inner_words_lem : (d from n at : ℕ) → 1 ≤ n → n ≤ most (suc d) → from + n ≤ p.faces → at + (2 * n - 1) ≤ 8191 → Words (inner_words (range_box p (suc d) from n) at (n / 2))
  unfolding inner_words
  inner_words_lem d from n at l m k j =
      node_words_lem _ _ _ _ _ (range_good p mesh.finite.vertex mesh.cornered.under (suc d) from n l m k) (omega arith) (omega (arith, plane_small (range_box p (suc d) from n))) (omega arith) (omega arith)

  range_words_lem : (d from n at : ℕ) → 1 ≤ n → n ≤ most d → from + n ≤ p.faces → at + (2 * n - 1) ≤ 8191 → Words (range_words p d from n at)
  range_words_lem zero from n at l m k j = subst Words (sym (words_one p 0 from n at (none_most n m))) (leaf_words_lem from (omega arith))
  range_words_lem (suc d) from n at l m k j =
      let left = range_words_lem d from (n / 2) (at + 1) in
      let right = range_words_lem d (from + n / 2) (n - n / 2) (at + 2 * (n / 2)) in
      test (leb n 1)
      (λ y. subst Words (sym (words_one p (suc d) from n at (leb-true n 1 y))) (leaf_words_lem from (omega arith)))
      (λ y.
      let two = leb-false n 1 y in
      subst Words (sym (words_two p d from n at two))
      (words_append _ _ (inner_words_lem d from n at l m k j)
      (words_append _ _ (left (half_some n two) (half_most d n m) (omega arith) (omega (arith, half_some n two)))
      (right (rest_some n two) (rest_most d n m) (omega arith) (omega (arith, half_some n two))))))

  tree_words_lem : Words (tree_words p)
  tree_words_lem = decided (dec_lt 0 p.faces)
      (λ l. subst Words (sym (some_words p few l)) (range_words_lem 12 0 p.faces 0 l (omega (arith, most_12, few)) (omega arith) (omega (arith, few))))
      (λ l. none (omega arith))
    where
      none : p.faces ≡ 0 → Words (tree_words p)
      none e = subst Words (sym (no_words p few e)) words_nil

  -- ---- sizes

  sized_planted : Sized (planted p)
  unfolding planted
  sized_planted =
      let s = whole.fit.sized in
      record {
        fifteen = whole.fit.fifteen;
        nine_tables = refl;
        sized = nine (λ (k : ℕ). length (table_of (planted p) k) ≡ count_of (planted p) k * width (table_at floor_tables k))
            (s 0 (omega arith)) (s 1 (omega arith)) (s 2 (omega arith)) (s 3 (omega arith)) (s 4 (omega arith)) (tree_length p few) (s 6 (omega arith)) (s 7 (omega arith)) (s 8 (omega arith));
        vertices = whole.fit.vertices;
        faces = few;
        nodes = omega (arith, few);
        adjacency = whole.fit.adjacency;
        edges = whole.fit.edges;
        perimeters = whole.fit.perimeters;
      }

  pub whole_planted : Whole (planted p)
  unfolding planted
  whole_planted =
      let w = whole.tables_words in
      record {
        fit = sized_planted;
        root_word = omega arith;
        floats_words = whole.floats_words;
        tables_words = nine (λ (k : ℕ). Words (table_of (planted p) k))
            (w 0 (omega arith)) (w 1 (omega arith)) (w 2 (omega arith)) (w 3 (omega arith)) (w 4 (omega arith)) tree_words_lem (w 6 (omega arith)) (w 7 (omega arith)) (w 8 (omega arith));
      }

  -- ---- every rule

  mesh_planted : Meshed (planted p)
  mesh_planted = mesh_kept p (finite_planted p few mesh.finite.vertex mesh.cornered.under) mesh

  pub sound_planted : SoundBorders p → Sound (form_of (planted p))
  sound_planted borders =
      let same = reads_back (planted p) whole_planted in
      record {
        header = header_sound (form_of (planted p)) (ap (λ (a : Answer). a.number) (form_right (planted p) whole_planted));
        mesh = subst Meshed (sym same) mesh_planted;
        nodes = subst SoundNodes (sym same) (nodes_planted p few);
        tree = subst FloorTree (sym same) (tree_planted p few);
        boxes = subst BoxesHold (sym same) (boxes_planted p few mesh.finite.vertex mesh.cornered.under);
        borders = subst SoundBorders (sym same) (borders_kept p borders);
      }

  -- "written in fixed form, the result is accepted"
  pub planted_accepted : SoundBorders p → (room : ℕ) → work_size ≤ room → reader_verdict (form_of (planted p)) room ≡ accepted
  planted_accepted borders room l = sound_accepted (form_of (planted p)) room l (sound_planted borders)
