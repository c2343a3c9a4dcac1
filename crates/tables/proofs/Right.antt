-- When a header is right: rules 1 to 6 as plain facts, both ways; the first broken of them in order; and the few bytes that they
-- depend on. Assumes nothing.
use mathlib.Core.Path.{◌≡◌, refl}
use mathlib.Core.Logic.{◌≢◌}
use mathlib.Core.Bool.{true, false, not}
use mathlib.Core.List.{List}
use Prim.Native.Nat.{ℕ, ◌+◌, ◌≤◌, ◌<◌}
use native.Mathlib.Omega.{arith}
use lib.Dec.{ltb, eqb}
use lib.ListN.{length, get_or}
use borrow.Author.Tests.{le-ltb, eq-eqb, ltb-false, eqb-true, not-false}
use Rattle.verdict.specs.Verdict.{rule, accepted, refused, ◌then◌, in_order, FirstBroken}
use Rattle.verdict.specs.declared.Answer.{Answer}
use Rattle.verdict.proofs.Bools.{test, or_false, not_of_true}
use Rattle.verdict.proofs.Lowest.{none_under, under_none, any_same}
use Rattle.verdict.proofs.Verdict.{passed, unbroken, met, each_met, each_passes, each_same, then_next, then_stop, then_assoc, then_both, then_last, Proper, each_proper, first_broken, first_only}
use Rattle.wire.specs.Bytes.{u32_at}
use Rattle.wire.proofs.Numbers.{u32_same}
use Rattle.tables.specs.Tables.{table_at, entry_at, span_of, In, outside_at, shares, shares_earlier, rule5, rule6}
use Rattle.tables.specs.Header.{magic, floor_tables, wrong_length, starts_wrong, differs, limit, rule1, rule2, rule3, rule4, field_rules, header_rules, header_verdict, RightHeader}
use Rattle.tables.specs.Plain.{Counts, SoundHeader}
use Rattle.tables.proofs.Spans.{inside_of, inside_from, meet_of, entry_inside, tables_apart}
use Rattle.tables.proofs.Floor.{floor_in_header}

-- ---- the rules as facts

-- all that rules 1 to 6 ask, as code goes by it
pub record Met (b : List ℕ) : Type 0 where
  pub long : 136 ≤ length b
  pub short : length b ≤ 1048576
  pub word : starts_wrong magic b ≡ false
  pub world : u32_at b 8 ≡ 1
  pub counts : Counts b
  pub inside : (k : ℕ) → k < 9 → outside_at 136 floor_tables b k ≡ false
  pub apart : (k : ℕ) → k < 9 → shares_earlier floor_tables b k ≡ false

pub length_met : (n : ℕ) → wrong_length n ≡ false → (136 ≤ n) × (n ≤ 1048576)
unfolding wrong_length
length_met n e = let o = or_false _ _ e in (ltb-false _ _ o.0, ltb-false _ _ o.1)

met_length : (n : ℕ) → 136 ≤ n → n ≤ 1048576 → wrong_length n ≡ false
unfolding wrong_length
met_length n h l = rw (le-ltb n 136 h, le-ltb 1048576 n l)

limit_met : (b : List ℕ) (field most : ℕ) → (limit b field most).number ≡ 0 → u32_at b field ≤ most
unfolding limit
limit_met b field most z = ltb-false most (u32_at b field) (unbroken 3 (ltb most (u32_at b field)) field z)

met_limit : (b : List ℕ) (field most : ℕ) → u32_at b field ≤ most → limit b field most ≡ accepted
unfolding limit
met_limit b field most h = rw (le-ltb most (u32_at b field) h) (met 4 field)

counts_met : (b : List ℕ) → (rule4 b).number ≡ 0 → Counts b
unfolding rule4
counts_met b z =
    let p6 = passed _ _ z in
    let p5 = passed _ _ p6.0 in
    let p4 = passed _ _ p5.0 in
    let p3 = passed _ _ p4.0 in
    let p2 = passed _ _ p3.0 in
    record {
      vertices = limit_met b _ _ p2.0;
      faces = limit_met b _ _ p2.1;
      nodes = limit_met b _ _ p3.1;
      adjacency = limit_met b _ _ p4.1;
      edges = limit_met b _ _ p5.1;
      perimeters = limit_met b _ _ p6.1;
    }

met_counts : (b : List ℕ) → Counts b → rule4 b ≡ accepted
unfolding rule4
met_counts b n =
    then_both
    (then_both
    (then_both
    (then_both (then_both (met_limit b 72 4096 n.vertices) (met_limit b 80 4096 n.faces)) (met_limit b 100 8191 n.nodes))
    (met_limit b 112 (u32_at b 80) n.adjacency))
    (met_limit b 120 12288 n.edges))
    (met_limit b 128 12288 n.perimeters)

pub header_met : (b : List ℕ) → RightHeader b → Met b
unfolding header_verdict header_rules field_rules in_order rule1 rule2 rule3 rule5 rule6
header_met b z =
    let p1 = passed _ _ z in
    let p2 = passed _ _ p1.1 in
    let p3 = passed _ _ p2.1 in
    let p4 = passed _ _ p3.1 in
    let p5 = passed _ _ p4.1 in
    let p6 = passed _ _ p5.1 in
    let n = length_met (length b) (unbroken 0 (wrong_length (length b)) 0 p1.0) in
    record {
      long = n.0;
      short = n.1;
      word = unbroken 1 (starts_wrong magic b) 0 p2.0;
      world = eqb-true (u32_at b 8) 1 (not-false (eqb (u32_at b 8) 1) (unbroken 2 (not (eqb (u32_at b 8) 1)) 8 p3.0));
      counts = counts_met b p4.0;
      inside = each_met 4 9 (outside_at 136 floor_tables b) _ p5.0;
      apart = each_met 5 9 (shares_earlier floor_tables b) _ p6.0;
    }

pub met_header : (b : List ℕ) → Met b → header_verdict b ≡ accepted
unfolding header_verdict header_rules field_rules in_order rule1 rule2 rule3 rule5 rule6
met_header b f =
    then_both (rw (met_length (length b) f.long f.short) (met 1 0))
    (then_both (rw f.word (met 2 0))
    (then_both (rw (eq-eqb (u32_at b 8) 1 f.world) (met 3 8))
    (then_both (met_counts b f.counts)
    (then_both (each_passes 5 9 (outside_at 136 floor_tables b) (λ k. (table_at floor_tables k).offset) f.inside)
    (then_both (each_passes 6 9 (shares_earlier floor_tables b) (λ k. (table_at floor_tables k).offset) f.apart) refl)))))

-- a file of a wrong length, and one that is long enough
pub wrong_long : (b : List ℕ) → wrong_length (length b) ≡ true → header_verdict b ≡ refused 1 0
unfolding header_verdict header_rules in_order rule1 rule
wrong_long b e = rw e (then_stop (refused 1 0) (λ z. omega arith) (in_order (field_rules b)))

pub right_long : (b : List ℕ) → wrong_length (length b) ≡ false → header_verdict b ≡ in_order (field_rules b)
unfolding header_verdict header_rules in_order rule1 rule
right_long b e = rw e (then_next accepted (in_order (field_rules b)) refl)

-- rules 2 to 6, joined one after another
last_proper : (b : List ℕ) → Proper (rule6 9 floor_tables b)
unfolding rule6
last_proper b = each_proper 5 9 (shares_earlier floor_tables b) (λ k. (table_at floor_tables k).offset)

pub fields_joined : (b : List ℕ) → in_order (field_rules b) ≡ (rule2 b then rule3 b then rule4 b then rule5 136 9 floor_tables b then rule6 9 floor_tables b)
unfolding field_rules in_order
fields_joined b = simp (then_assoc, then_last (rule6 9 floor_tables b) (last_proper b))

-- the rules 5 and 6 of a right header, by their names
pub rule5_met : (b : List ℕ) → RightHeader b → (rule5 136 9 floor_tables b).number ≡ 0
unfolding header_verdict header_rules field_rules in_order
rule5_met b z = (passed _ _ (passed _ _ (passed _ _ (passed _ _ (passed _ _ z).1).1).1).1).0

pub rule6_met : (b : List ℕ) → RightHeader b → (rule6 9 floor_tables b).number ≡ 0
unfolding header_verdict header_rules field_rules in_order
rule6_met b z = (passed _ _ (passed _ _ (passed _ _ (passed _ _ (passed _ _ (passed _ _ z).1).1).1).1).1).0

-- every entry of every table lies in the file
pub floor_entry : (b : List ℕ) → RightHeader b → (k : ℕ) → k < 9 → (i : ℕ) → i < u32_at b (table_at floor_tables k).count
    → (136 ≤ entry_at b (table_at floor_tables k) i) × (entry_at b (table_at floor_tables k) i + (table_at floor_tables k).size ≤ length b)
floor_entry b z k l i m = entry_inside 9 floor_tables b 136 (rule5_met b z) k l i m (floor_in_header k l).size_some

-- ---- the rules as plain statements, both ways

same_word : (b : List ℕ) → starts_wrong magic b ≡ false → (i : ℕ) → i < 8 → get_or b i 0 ≡ get_or magic i 0
unfolding starts_wrong differs
same_word b e i l = eqb-true _ _ (not-false (eqb (get_or b i 0) (get_or magic i 0)) (none_under (differs magic b) 8 e i l))

word_same : (b : List ℕ) → ((i : ℕ) → i < 8 → get_or b i 0 ≡ get_or magic i 0) → starts_wrong magic b ≡ false
unfolding starts_wrong differs
word_same b h = under_none (differs magic b) 8 (λ i l. not_of_true (eqb (get_or b i 0) (get_or magic i 0)) (eq-eqb _ _ (h i l)))

module _ (b : List ℕ) where
  all_inside : (k : ℕ) → outside_at 136 floor_tables b k ≡ false → (i : ℕ) → In (span_of b (table_at floor_tables k)) i → (136 ≤ i) × (i < length b)
  unfolding outside_at
  all_inside k e i p = let h = inside_of 136 (length b) (span_of b (table_at floor_tables k)) e (omega (arith, p.from, p.to)) in omega (arith, p.from, p.to)

  inside_all : (k : ℕ) → ((i : ℕ) → In (span_of b (table_at floor_tables k)) i → (136 ≤ i) × (i < length b)) → outside_at 136 floor_tables b k ≡ false
  unfolding outside_at
  inside_all k h = inside_from (length b) (span_of b (table_at floor_tables k)) h

  apart_all : ((j k : ℕ) → j < 9 → k < 9 → j ≢ k → (i : ℕ) → In (span_of b (table_at floor_tables j)) i → In (span_of b (table_at floor_tables k)) i → ⊥)
      → (k : ℕ) → k < 9 → shares_earlier floor_tables b k ≡ false
  unfolding shares_earlier
  apart_all h k l =
      under_none (λ j. shares (span_of b (table_at floor_tables k)) (span_of b (table_at floor_tables j))) k
      (λ j m. test (shares (span_of b (table_at floor_tables k)) (span_of b (table_at floor_tables j)))
      (λ e. let both = meet_of (span_of b (table_at floor_tables k)) (span_of b (table_at floor_tables j)) e in
      absurd (h j k (omega arith) l (λ (q : j ≡ k). omega arith) _ both.1 both.0))
      (λ e. e))

pub header_sound : (b : List ℕ) → RightHeader b → SoundHeader b
header_sound b z =
    let m = header_met b z in
    record {
      long = m.long;
      short = m.short;
      word = same_word b m.word;
      world = m.world;
      counts = m.counts;
      inside = λ k l. all_inside b k (m.inside k l);
      apart = tables_apart 9 floor_tables b (rule6_met b z);
    }

pub sound_header : (b : List ℕ) → SoundHeader b → header_verdict b ≡ accepted
sound_header b s =
    met_header b (record {
      long = s.long;
      short = s.short;
      word = word_same b s.word;
      world = s.world;
      counts = s.counts;
      inside = λ k l. inside_all b k (s.inside k l);
      apart = apart_all b s.apart;
    })

-- ---- the verdict is the first broken rule in order

pub header_first : (b : List ℕ) → FirstBroken (header_rules b) (header_verdict b)
unfolding header_verdict
header_first b = first_broken (header_rules b)

-- two answers that rules 1 to 6 admit are equal
pub header_only : (b : List ℕ) (a : Answer) → FirstBroken (header_rules b) a → a ≡ header_verdict b
header_only b a f = first_only (header_rules b) a (header_verdict b) f (header_first b)

-- ---- the verdict depends on the length, the first 12 bytes, and those from 72 to 136

pub record SameFields (d b : List ℕ) : Type 0 where
  pub size : length d ≡ length b
  pub first : (i : ℕ) → i < 12 → get_or d i 0 ≡ get_or b i 0
  pub later : (i : ℕ) → 72 ≤ i → i < 136 → get_or d i 0 ≡ get_or b i 0

module _ (d b : List ℕ) (s : SameFields d b) where
  pub field_same : (f : ℕ) → 72 ≤ f → f ≤ 132 → u32_at d f ≡ u32_at b f
  field_same f l m = u32_same d b f f (λ i q. s.later (f + i) (omega arith) (omega arith))

  span_same : (k : ℕ) → k < 9 → span_of d (table_at floor_tables k) ≡ span_of b (table_at floor_tables k)
  unfolding span_of
  span_same k l =
      let q = floor_in_header k l in
      rw (field_same (table_at floor_tables k).offset q.offset_from q.offset_in, field_same (table_at floor_tables k).count q.count_from q.count_in)

  outside_same : (k : ℕ) → k < 9 → outside_at 136 floor_tables d k ≡ outside_at 136 floor_tables b k
  unfolding outside_at
  outside_same k l = rw (span_same k l, s.size)

  sharing_same : (k : ℕ) → k < 9 → shares_earlier floor_tables d k ≡ shares_earlier floor_tables b k
  unfolding shares_earlier
  sharing_same k l =
      any_same k (λ j. shares (span_of d (table_at floor_tables k)) (span_of d (table_at floor_tables j))) (λ j. shares (span_of b (table_at floor_tables k)) (span_of b (table_at floor_tables j)))
      (λ j m. rw (span_same k l, span_same j (omega arith)))

  starts_same : starts_wrong magic d ≡ starts_wrong magic b
  unfolding starts_wrong differs
  starts_same = any_same 8 _ _ (λ k l. rw (s.first k (omega arith)))

  pub verdict_same : header_verdict d ≡ header_verdict b
  unfolding header_verdict header_rules field_rules in_order rule1 rule2 rule3 rule4 limit rule5 rule6
  verdict_same =
      rw (
        s.size,
        starts_same,
        u32_same d b 8 8 (λ i q. s.first (8 + i) (omega arith)),
        field_same 72 (omega arith) (omega arith),
        field_same 80 (omega arith) (omega arith),
        field_same 100 (omega arith) (omega arith),
        field_same 112 (omega arith) (omega arith),
        field_same 120 (omega arith) (omega arith),
        field_same 128 (omega arith) (omega arith),
        each_same 5 9 (outside_at 136 floor_tables d) (outside_at 136 floor_tables b) (λ k. (table_at floor_tables k).offset) outside_same,
        each_same 6 9 (shares_earlier floor_tables d) (shares_earlier floor_tables b) (λ k. (table_at floor_tables k).offset) sharing_same,
      )
