-- The mended floor is whole and sound, so its fixed form is accepted, with the counts that it tells. Assumes nothing.
use Prim.Native.Nat.{ℕ, ◌+◌, ◌*◌, ◌/◌, ◌%◌, ◌<◌, ◌≤◌}
use native.Mathlib.Omega.{arith}
use native.Mathlib.Decide.{dec_lt}
use mathlib.Core.Path.{◌≡◌, refl, sym, ap, subst, ◌∙◌}
use mathlib.Core.Logic.{◌⊎◌, inl, inr, ⊎_elim}
use mathlib.Core.Bool.{true}
use mathlib.Core.List.{List}
use lib.ListN.{length, get_or, length-map, get_or-eq_default}
use lib.Ieee.{eq}
use Rattle.verdict.specs.Verdict.{accepted}
use Rattle.verdict.specs.Memory.{work_size}
use Rattle.verdict.specs.Lists.{bit}
use Rattle.verdict.specs.declared.Answer.{Answer}
use Rattle.verdict.proofs.Bools.{decided, test}
use Rattle.verdict.proofs.Lowest.{all_true}
use Rattle.wire.specs.Bytes.{Bytes}
use Rattle.wire.specs.Words.{Words}
use Rattle.tables.specs.Parts.{none32, Parts, parts_of, table_of, word_of, corner, adjacent_to, edge_of, transition, loop_end}
use Rattle.tables.specs.Fixed.{Sized, Whole, form_of}
use Rattle.tables.proofs.Right.{header_sound}
use Rattle.tables.proofs.Reading.{whole_of}
use Rattle.tables.proofs.Reform.{reads_back, form_right}
use Rattle.mesh.specs.Mesh.{Cornered, Meshed}
use Rattle.nodes.specs.Plain.{SoundNodes}
use Rattle.tree.specs.Boxes.{vertex_float}
use Rattle.tree.specs.Plain.{FloorTree, BoxesHold}
use Rattle.pairs.specs.Halves.{halves, from, to, runs, partner, border, pairing}
use Rattle.pairs.specs.Plain.{Apart}
use Rattle.pairs.proofs.Halves.{adjacent_word, border_in}
use Rattle.pairs.proofs.Paired.{pairing_some, pairing_no}
use Rattle.border.specs.Plain.{Linked, SoundBorders}
use Rattle.floor.specs.Reader.{reader_verdict, answer_of, reader_answer}
use Rattle.floor.specs.Sound.{Sound}
use Rattle.floor.proofs.Meaning.{Early, sound_accepted}
use Rattle.corners.specs.Corners.{level, same_point, lowest_same, relinked, mended_corners, recornered}
use Rattle.corners.proofs.Corners.{same_sym, lowest_vertex, lowest_same_point, mended_corner, mended_word}
use Rattle.rings.specs.Rings.{edge_list, end_list}
use Rattle.rings.specs.Afresh.{web_of, Afresh}
use Rattle.rings.proofs.Complete.{each_once}
use Rattle.rings.proofs.Places.{stands}
use Rattle.rings.proofs.Afresh.{balanced, sound_afresh, looped_afresh}
use Rattle.rings.proofs.Lengths.{edge_few, end_few}
use Rattle.kept.specs.Kept.{kept}
use Rattle.kept.proofs.Entries.{Tells, nothing, shut, leads, many, tells}
use Rattle.seams.specs.Mended.{adjacency_of, entries_for, mended}
use Rattle.seams.specs.Mend.{mended_form}
use Rattle.seams.proofs.Lists.{ones_length, ones_at, ones_words, twos_length, twos_first, twos_second}
use Rattle.seams.proofs.Relinked.{Fits, whole_re, finite_re, painted_re, nodes_re, tree_re, boxes_re}

-- the half-edges of the floor with the changed corners are those of the mended one
module _ (p : Parts) where
  abbrev pub q : Parts
  q = recornered p

  abbrev pub m : Parts
  m = mended p

  pub web_same : web_of m ≡ web_of q
  unfolding mended recornered relinked word_of from to runs partner border
  web_same = refl

  pub pairing_same : (h : ℕ) → pairing m h ≡ pairing q h
  unfolding mended recornered relinked word_of from to runs partner pairing
  pairing_same h = refl

-- a corner of the floor with the changed corners has the coordinates that it had, either way
module _ (p : Parts) (s : Sized p) (mesh : Meshed p) where
  pub place_kept : (f e d : ℕ) → f < p.faces → e < 3 → d < 3 → let u = corner p f e in let v = corner (recornered p) f e in
      (eq (vertex_float p u d) (vertex_float p v d) ≡ true) × (eq (vertex_float p v d) (vertex_float p u d) ≡ true)
  place_kept f e d l k n =
      let u = corner p f e in
      let lu = mesh.cornered.under f e l k in
      let lv = lowest_vertex p mesh.finite u lu in
      let one = lowest_same_point p mesh.finite u lu in
      let two = same_sym p mesh.finite u (lowest_same p u) lu lv one in
      rw (mended_corner p s f e l k) (unfold same_point level in (all_true (level p u (lowest_same p u)) 3 (unfold same_point in one) d n, all_true (level p (lowest_same p u) u) 3 (unfold same_point in two) d n))

module _ (p : Parts) (w : Whole p) (mesh : Meshed p) (c : Cornered (recornered p)) (a : Apart (recornered p)) where
  abbrev s : Sized p
  s = w.fit

  abbrev pub L : List ℕ
  L = edge_list (web_of (q p))

  abbrev pub D : List ℕ
  D = end_list (web_of (q p))

  pub few : halves (q p) ≤ 12288
  unfolding recornered relinked
  few = omega (arith, s.adjacency, s.faces)

  -- ---- the sizes of the new tables

  pub fits : Fits p (mended_corners p) (adjacency_of (q p)) (length L) (entries_for p L) (length D) D
  unfolding mended_corners adjacency_of entries_for
  fits =
      let one = edge_few (web_of (q p)) (balanced (q p) a) in
      let two = end_few (web_of (q p)) (balanced (q p) a) in
      record {
        corners = length-map (table_of p 1) (lowest_same p) ∙ s.sized 1 (omega arith);
        adjacent = ones_length (pairing (q p)) (halves (q p)) ∙ (unfold recornered relinked in omega arith);
        entries = twos_length (kept p) L;
        ends = omega arith;
        edges = omega (arith, few);
        perimeters = omega (arith, few);
      }

  -- ---- what stands in them

  pub edge_count : (m p).edges ≡ length L
  unfolding mended relinked
  edge_count = refl

  pub edge_at : (i : ℕ) → i < length L → edge_of (m p) i ≡ get_or L i 0
  unfolding mended relinked word_of entries_for
  edge_at i l = twos_first (kept p) L i l

  pub transition_at : (i : ℕ) → i < length L → transition (m p) i ≡ kept p (get_or L i 0)
  unfolding mended relinked word_of entries_for
  transition_at i l = twos_second (kept p) L i l

  pub end_at : (j : ℕ) → loop_end (m p) j ≡ get_or D j 0
  unfolding mended relinked word_of
  end_at j = let e : j * 1 + 0 ≡ j = omega arith in ap (λ (k : ℕ). get_or D k 0) e

  pub adjacent_at : (h : ℕ) → h < halves (q p) → adjacent_to (m p) h ≡ pairing (q p) h
  adjacent_at h l = sym (adjacent_word (m p) h) ∙ (unfold mended relinked adjacency_of in ones_at (pairing (q p)) (halves (q p)) h l)

  -- ---- 15 to 19

  pub afresh : Afresh (m p)
  afresh = record {
    adjacent = λ h l. adjacent_at h (unfold mended recornered relinked in l) ∙ sym (pairing_same p h);
    edges = unfold mended relinked in rw (web_same p) refl;
    edge = λ i l. rw (web_same p) (edge_at i (unfold mended relinked in l));
    perimeters = unfold mended relinked in rw (web_same p) refl;
    loop = λ j l. rw (web_same p) (end_at j);
  }

  pub apart_mended : Apart (m p)
  apart_mended = record {
    same = λ g h k l e f. a.same g h (unfold mended recornered relinked in k) (unfold mended recornered relinked in l) (unfold mended recornered relinked word_of from in e) (unfold mended recornered relinked word_of to in f);
  }

  -- a transition that is kept is one that 18 allows
  pub kept_allowed : (h : ℕ) → (kept p h ≤ 63) ⊎ (kept p h ≡ none32)
  kept_allowed h = by (tells p h p.edges)
    where
      by : Tells p h p.edges → (kept p h ≤ 63) ⊎ (kept p h ≡ none32)
      by (nothing e k) = inr k
      by (shut e k) = inr k
      by (leads e k) = inl k
      by (many e k) = inr k

  linked : Linked (m p)
  linked = record { each = λ i l. rw (transition_at i (unfold mended relinked in l)) (kept_allowed (get_or L i 0)) }

  pub borders : SoundBorders (m p)
  borders = sound_afresh (m p) apart_mended afresh linked

  -- ---- 7 to 14

  cornered_mended : Cornered (m p)
  unfolding mended recornered relinked word_of
  cornered_mended = record { under = c.under; three = c.three }

  meshed : Meshed (m p)
  meshed = record {
    finite = unfold mended in finite_re p _ _ _ _ _ _ mesh.finite;
    cornered = cornered_mended;
    painted = unfold mended in painted_re p _ _ _ _ _ _ mesh.painted;
  }

  -- ---- whole

  corner_words : Words (mended_corners p)
  corner_words = record {
    word = λ i. decided (dec_lt i (3 * p.faces))
        (λ l. omega (arith, mended_word p s i l, lowest_vertex p mesh.finite (get_or (table_of p 1) i 0) (old i l), s.vertices))
        (λ l. omega (arith, get_or-eq_default (mended_corners p) 0 {n = i} (omega (arith, fits.corners))));
  }
    where
      old : (i : ℕ) → i < 3 * p.faces → get_or (table_of p 1) i 0 < p.vertices
      old i l =
          let e : i / 3 * 3 + i % 3 ≡ i = omega arith in
          subst (λ (j : ℕ). get_or (table_of p 1) j 0 < p.vertices) e (unfold word_of in mesh.cornered.under (i / 3) (i % 3) (omega arith) (omega arith))

  pairing_word : (h : ℕ) → pairing (q p) h < 4294967296
  pairing_word h =
      decided (dec_lt (partner (q p) h) (halves (q p))) (λ l. omega (arith, pairing_some (q p) h l, few)) (λ l. omega (arith, pairing_no (q p) h (omega arith)))

  -- every edge is a border
  pub edge_border : (i : ℕ) → i < length L → border (q p) (get_or L i 0) ≡ true
  edge_border i l =
      test (border (q p) (get_or L i 0)) (λ y. y)
      (λ y. absurd (omega (arith, ap bit y, each_once (web_of (q p)) (balanced (q p) a) (get_or L i 0), stands L i (get_or L i 0) l refl)))

  kept_word : (h : ℕ) → kept p h < 4294967296
  kept_word h = ⊎_elim (λ l. omega arith) (λ l. omega arith) (kept_allowed h)

  entry_words : Words (entries_for p L)
  unfolding entries_for
  entry_words = record { word = λ i. decided (dec_lt i (length L * 2)) (inside i) (λ l. omega (arith, get_or-eq_default (entries_for p L) 0 {n = i} (omega (arith, fits.entries)))) }
    where
      inside : (i : ℕ) → i < length L * 2 → get_or (entries_for p L) i 0 < 4294967296
      inside i l =
          let e : i / 2 * 2 + i % 2 ≡ i = omega arith in
          let h = get_or L (i / 2) 0 in
          decided (dec_lt (i % 2) 1)
          (λ z.
          let f : i / 2 * 2 + 0 ≡ i = omega arith in
          subst (λ (j : ℕ). get_or (entries_for p L) j 0 < 4294967296) f (omega (arith, twos_first (kept p) L (i / 2) (omega arith), border_in (q p) h (edge_border (i / 2) (omega arith)), few)))
          (λ z.
          let f : i / 2 * 2 + 1 ≡ i = omega arith in
          subst (λ (j : ℕ). get_or (entries_for p L) j 0 < 4294967296) f (omega (arith, twos_second (kept p) L (i / 2) (omega arith), kept_word h)))

  end_words : Words D
  end_words = record {
    word = λ j. decided (dec_lt j (length D))
        (λ l. omega (arith, end_at j, (looped_afresh (m p) apart_mended afresh).within j (unfold mended relinked in l), edge_count, fits.edges))
        (λ l. omega (arith, get_or-eq_default D 0 {n = j} (omega arith)));
  }

  pub whole : Whole (m p)
  unfolding mended
  whole = whole_re p (mended_corners p) (adjacency_of (q p)) (length L) (entries_for p L) (length D) D w fits corner_words (unfold adjacency_of in ones_words (pairing (q p)) (halves (q p)) (λ h l. pairing_word h)) entry_words end_words

-- ---- the form

module _ (b : List ℕ) (y : Bytes b) (e : Early b) (c : Cornered (recornered (parts_of b))) (a : Apart (recornered (parts_of b))) where
  pub whole_file : Whole (parts_of b)
  whole_file = whole_of b e.header y

  pub whole_mended : Whole (mended (parts_of b))
  whole_mended = whole (parts_of b) whole_file e.mesh c a

  -- the form's parts are the mended parts
  pub form_parts : parts_of (mended_form b) ≡ mended (parts_of b)
  unfolding mended_form
  form_parts = reads_back (mended (parts_of b)) whole_mended

  boxes_mended : BoxesHold (mended (parts_of b))
  boxes_mended =
      unfold mended in boxes_re (parts_of b) _ _ _ _ _ _ (λ f i d l k n. unfold mended recornered relinked word_of in place_kept (parts_of b) e.sized e.mesh f i d l k n) e.boxes

  pub form_sound : Sound (mended_form b)
  form_sound =
      let p = parts_of b in
      record {
        header = unfold mended_form in header_sound (form_of (mended p)) (ap (λ (r : Answer). r.number) (form_right (mended p) whole_mended));
        mesh = subst Meshed (sym form_parts) (meshed p whole_file e.mesh c a);
        nodes = subst SoundNodes (sym form_parts) (unfold mended in nodes_re p _ _ _ _ _ _ e.nodes);
        tree = subst FloorTree (sym form_parts) (unfold mended in tree_re p _ _ _ _ _ _ e.tree);
        boxes = subst BoxesHold (sym form_parts) boxes_mended;
        borders = subst SoundBorders (sym form_parts) (borders p whole_file e.mesh c a);
      }

  -- the reader accepts it, and answers with the counts of the mended floor
  pub form_accepted : (room : ℕ) → work_size ≤ room → reader_verdict (mended_form b) room ≡ accepted
  form_accepted room l = sound_accepted (mended_form b) room l form_sound

  pub form_answer : (room : ℕ) → work_size ≤ room → reader_answer (mended_form b) room ≡ answer_of accepted (mended (parts_of b))
  unfolding reader_answer
  form_answer room l = rw (form_accepted room l, form_parts)
