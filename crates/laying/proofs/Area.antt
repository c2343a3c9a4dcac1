-- Where the words of an area floor lie, and what a record laid on leaves as it was: its fields are lawful. Assumes nothing.
use mathlib.Core.Path.{◌≡◌, sym, ◌∙◌}
use mathlib.Core.Logic.{◌⊎◌, inl, inr, ⊎_elim}
use Prim.Native.Nat.{ℕ, ◌+◌, ◌*◌, ◌≤◌, ◌<◌}
use mathlib.Core.List.{List}
use native.Mathlib.Omega.{arith}
use native.Mathlib.Decide.{dec_lt, ℕ_discrete}
use lib.ListN.{length}
use borrow.Author.Tests.{eq-eqb, ne_eqb}
use Rattle.verdict.proofs.Bools.{decided}
use Rattle.wire.specs.Bytes.{put_u32}
use Rattle.tables.specs.Header.{header_verdict, RightHeader}
use Rattle.tables.specs.Parts.{parts_of, word_index, word_place, words_in}
use Rattle.tables.proofs.Right.{header_met, SameFields, field_same, verdict_same}
use Rattle.tables.proofs.Reading.{words_apart}
use Rattle.tables.proofs.Writing.{past_fields, among_floats, place_inside}
use Rattle.record.specs.declared.Rec.{Rec}
use Rattle.laying.specs.Kind.{lay}
use Rattle.laying.specs.Fields.{Field, ShareNoByte, LawfulFields}
use Rattle.laying.specs.Area.{area_count, area_field, area_floor}

-- a tag that has places is 1, 2 or 3
pub by_tag : {C : Type 0} (fl : List ℕ) (tag place : ℕ) → place < area_count fl tag
    → (tag ≡ 1 → place < (parts_of fl).faces → C) → (tag ≡ 2 → place < (parts_of fl).edges → C) → (tag ≡ 3 → place < 12 → C) → C
unfolding area_count
by_tag fl tag place inside p l n =
    decided (ℕ_discrete tag 1) (λ e. p e (rw (eq-eqb tag 1 e) at inside))
    (λ a. decided (ℕ_discrete tag 2) (λ e. l e (rw (ne_eqb tag 1 a, eq-eqb tag 2 e) at inside))
    (λ b. decided (ℕ_discrete tag 3) (λ e. n e (rw (ne_eqb tag 1 a, ne_eqb tag 2 b, eq-eqb tag 3 e) at inside))
    (λ d. absurd (let z : place < 0 = rw (ne_eqb tag 1 a, ne_eqb tag 2 b, ne_eqb tag 3 d) at inside in omega arith))))

pub faces_of : (fl : List ℕ) (tag : ℕ) → tag ≡ 1 → area_count fl tag ≡ (parts_of fl).faces
unfolding area_count
faces_of fl tag e = rw e

pub edges_of : (fl : List ℕ) (tag : ℕ) → tag ≡ 2 → area_count fl tag ≡ (parts_of fl).edges
unfolding area_count
edges_of fl tag e = rw e

-- ---- where the four bytes lie

-- as the tables' own function of an entry and a word finds it
pub paint_place : (fl : List ℕ) (tag face : ℕ) → tag ≡ 1 → word_place fl 2 (word_index 2 face 0) ≡ area_field fl tag face
unfolding area_field
paint_place fl tag face e = let z : word_index 2 face 0 ≡ face = omega arith in rw (e, z)

pub link_place : (fl : List ℕ) (tag entry : ℕ) → tag ≡ 2 → word_place fl 7 (word_index 7 entry 1) ≡ area_field fl tag entry
unfolding area_field
link_place fl tag entry e = let z : word_index 7 entry 1 ≡ 2 * entry + 1 = omega arith in rw (e, z)

pub nudge_place : (fl : List ℕ) (tag place : ℕ) → (tag ≡ 1 → ⊥) → (tag ≡ 2 → ⊥) → 12 + 4 * place ≡ area_field fl tag place
unfolding area_field
nudge_place fl tag place a b = rw (ne_eqb tag 1 a, ne_eqb tag 2 b)

pub paint_in : (fl : List ℕ) (face : ℕ) → face < (parts_of fl).faces → face < words_in fl 2
unfolding parts_of
paint_in fl face l = omega arith

pub link_in : (fl : List ℕ) (entry : ℕ) → entry < (parts_of fl).edges → 2 * entry + 1 < words_in fl 7
unfolding parts_of
link_in fl entry l = omega arith

module _ (fl : List ℕ) (right : RightHeader fl) (tag place : ℕ) (inside : place < area_count fl tag) where
  -- past the header, or among its floats; in the floor
  pub field_where : ((136 ≤ area_field fl tag place) × (area_field fl tag place + 4 ≤ length fl)) ⊎ ((12 ≤ area_field fl tag place) × (area_field fl tag place + 4 ≤ 72))
  unfolding area_field
  field_where =
      by_tag fl tag place inside
      (λ e l. rw e (inl (place_inside fl right 2 (omega arith) place (paint_in fl place l) 0 (omega arith))))
      (λ e l. rw e (inl (place_inside fl right 7 (omega arith) (2 * place + 1) (link_in fl place l) 0 (omega arith))))
      (λ e l. rw e (inr (omega arith)))

  pub field_inside : area_field fl tag place + 4 ≤ length fl
  field_inside = ⊎_elim (λ h. h.1) (λ h. omega (arith, (header_met fl right).long)) field_where

  -- a word written there leaves the header's numbers
  pub field_apart : (w : ℕ) → SameFields (put_u32 fl (area_field fl tag place) w) fl
  field_apart w =
      ⊎_elim (λ h. past_fields fl (area_field fl tag place) w h.0)
      (λ h. among_floats fl (area_field fl tag place) w h.0 h.1) field_where

  -- a nudge's place
  pub nudge_inside : (tag ≡ 1 → ⊥) → (tag ≡ 2 → ⊥) → place < 12
  nudge_inside a b = by_tag fl tag place inside (λ e l. absurd (a e)) (λ e l. absurd (b e)) (λ e l. l)

  pub tag_small : tag < 256
  tag_small = by_tag fl tag place inside (λ e l. omega arith) (λ e l. omega arith) (λ e l. omega arith)

  pub place_small : place < 4294967296
  unfolding parts_of
  place_small =
      let n = (header_met fl right).counts in
      by_tag fl tag place inside (λ e l. omega arith) (λ e l. omega arith) (λ e l. omega arith)

-- numbers of the header, the same in two floors, say the same of every tag and place
module _ (d fl : List ℕ) (s : SameFields d fl) where
  count_same : (tag : ℕ) → area_count d tag ≡ area_count fl tag
  unfolding area_count parts_of
  count_same tag = rw (field_same d fl s 80 (omega arith) (omega arith), field_same d fl s 120 (omega arith) (omega arith))

  place_same : (tag place : ℕ) → area_field d tag place ≡ area_field fl tag place
  unfolding area_field word_place
  place_same tag place = rw (field_same d fl s 88 (omega arith) (omega arith), field_same d fl s 124 (omega arith) (omega arith))

-- ---- a record with a place, laid on

module _ (fl : List ℕ) (r : Rec) (right : RightHeader fl) (inside : r.place < area_count fl r.tag) where
  pub lay_fields : SameFields (lay area_floor fl r) fl
  unfolding lay
  lay_fields = field_apart fl right r.tag r.place inside r.new

  pub lay_verdict : header_verdict (lay area_floor fl r) ≡ header_verdict fl
  lay_verdict = verdict_same (lay area_floor fl r) fl lay_fields

  pub lay_right : RightHeader (lay area_floor fl r)
  lay_right = rw lay_verdict right

  pub lay_counts : (tag : ℕ) → area_count (lay area_floor fl r) tag ≡ area_count fl tag
  lay_counts = count_same (lay area_floor fl r) fl lay_fields

  pub lay_places : (tag place : ℕ) → area_field (lay area_floor fl r) tag place ≡ area_field fl tag place
  lay_places = place_same (lay area_floor fl r) fl lay_fields

-- ---- TWO FIELDS share no byte

module _ (fl : List ℕ) (right : RightHeader fl) where
  -- two words of one table
  one_table : (k x y : ℕ) → (x ≡ y → ⊥) → ShareNoByte (word_place fl k x) (word_place fl k y)
  unfolding word_place
  one_table k x y n = decided (dec_lt x y) (λ l. inl (omega arith)) (λ l. inr (omega arith))

  -- a word of a table lies past the header's floats
  past_floats : (k x y : ℕ) → k < 9 → x < words_in fl k → y < 12 → 12 + 4 * y + 4 ≤ word_place fl k x
  past_floats k x y lk lx ly = omega (arith, place_inside fl right k lk x lx 0 (omega arith))

  fields_apart : (t p u q : ℕ) → p < area_count fl t → q < area_count fl u → (t ≡ u → p ≡ q → ⊥) → ShareNoByte (area_field fl t p) (area_field fl u q)
  unfolding area_field
  fields_apart t p u q ip iq n =
      by_tag fl t p ip
      (λ e i. by_tag fl u q iq
      (λ f j. rw (e, f) (one_table 2 p q (λ z. n (e ∙ sym f) z)))
      (λ f j. rw (e, f) (words_apart fl right 2 7 (omega arith) (omega arith) (λ z. omega arith) p (2 * q + 1) (paint_in fl p i) (link_in fl q j)))
      (λ f j. rw (e, f) (inr (past_floats 2 p q (omega arith) (paint_in fl p i) j))))
      (λ e i. by_tag fl u q iq
      (λ f j. rw (e, f) (words_apart fl right 7 2 (omega arith) (omega arith) (λ z. omega arith) (2 * p + 1) q (link_in fl p i) (paint_in fl q j)))
      (λ f j. rw (e, f) (one_table 7 (2 * p + 1) (2 * q + 1) (λ z. n (e ∙ sym f) (omega arith))))
      (λ f j. rw (e, f) (inr (past_floats 7 (2 * p + 1) q (omega arith) (link_in fl p i) j))))
      (λ e i. by_tag fl u q iq
      (λ f j. rw (e, f) (inl (past_floats 2 q p (omega arith) (paint_in fl q j) i)))
      (λ f j. rw (e, f) (inl (past_floats 7 (2 * q + 1) p (omega arith) (link_in fl q j) i)))
      (λ f j. rw (e, f) (decided (dec_lt p q) (λ l. inl (omega arith)) (λ l. let d : p ≡ q → ⊥ = n (e ∙ sym f) in inr (omega arith)))))

-- ---- THE KIND'S FIELDS are lawful
pub area_fields : LawfulFields area_floor
area_fields = record {
  tags = λ fl x right i. tag_small fl right x.tag x.place i;
  places = λ fl x right i. place_small fl right x.tag x.place i;
  within = λ fl x right i. field_inside fl right x.tag x.place i;
  apart = λ fl x y right i j n. fields_apart fl right x.tag x.place y.tag y.place i j (λ e f. n (same_field x y e f));
  right = lay_right;
  counts = lay_counts;
  fields = λ fl r right i x. lay_places fl r right i x.tag x.place;
}
  where
    same_field : (x y : Field) → x.tag ≡ y.tag → x.place ≡ y.place → x ≡ y
    same_field x y e f = rw (e, f)
