-- What rules 7 to 10 say, as plain statements, both ways. Assumes nothing.
use mathlib.Core.Path.{◌≡◌, refl, sym, ◌∙◌}
use mathlib.Core.Bool.{true, false}
use Prim.Native.Nat.{ℕ, zero, suc, ◌+◌, ◌*◌, ◌/◌, ◌%◌, ◌≤◌, ◌<◌}
use native.Mathlib.Omega.{arith}
use native.Mathlib.Decide.{dec_lt}
use lib.Dec.{leb, eqb, ltb}
use lib.ListN.{get_or}
use lib.Ieee.{Float, nan, inf, fin, binary32, of_bits}
use borrow.Author.Tests.{leb-false, eqb-false, lt-leb, ne_eqb, ltb-false, ltb-true, lt-ltb, le-ltb, not-false}
use Rattle.verdict.specs.Lists.{times, tally}
use Rattle.verdict.specs.Verdict.{accepted}
use Rattle.verdict.proofs.Bools.{clash, test, same_test, decided, or_false, false_or, not_of_true}
use Rattle.verdict.proofs.Lowest.{none_under, under_none}
use Rattle.verdict.proofs.Lists.{tally_same}
use Rattle.verdict.proofs.Verdict.{passed, then_both, each_met, each_passes}
use Rattle.grid.specs.Grid.{finite}
use Rattle.tables.specs.Parts.{Parts, count_of, word_of, corner, material}
use Rattle.mesh.specs.Floats.{rule7_head, wild, wild_head, wild_in, rule7_in, rule7}
use Rattle.mesh.specs.Faces.{wrong_corner, wrong_corners, walkables, walkable, strange, misplaced, rule8, rule9, rule10}
use Rattle.mesh.specs.Mesh.{rules7to10, IsFinite, Walkable, Finite, Cornered, Painted, Meshed}
use Rattle.mesh.proofs.Wild.{split_in, entry_of, entry_in}
use Rattle.mesh.proofs.Walkable.{misplaced_under, misplaced_past}

-- ---- 7

-- the test is the statement
pub test_finite : (w : ℕ) → finite (of_bits binary32 w) ≡ true → IsFinite w
unfolding finite
test_finite w e = by (of_bits binary32 w) refl e
  where
    by : (x : Float) → of_bits binary32 w ≡ x → finite x ≡ true → IsFinite w
    by nan q t = clash refl (sym t)
    by (inf s) q t = clash refl (sym t)
    by (fin s m e) q t = record { sign = s; digits = m; exponent = e; value = q }

pub finite_test : (w : ℕ) → IsFinite w → finite (of_bits binary32 w) ≡ true
unfolding finite
finite_test w f = rw f.value refl

is_finite : (w : ℕ) → wild w ≡ false → IsFinite w
unfolding wild
is_finite w e = test_finite w (not-false (finite (of_bits binary32 w)) e)

finite_is : (w : ℕ) → IsFinite w → wild w ≡ false
unfolding wild
finite_is w f = not_of_true (finite (of_bits binary32 w)) (finite_test w f)

module _ (place : ℕ → ℕ → ℕ) (p : Parts) (k per : ℕ) where
  -- a table whose floats are all finite
  table_finite : (rule7_in place p k per).number ≡ 0 → (i e : ℕ) → i < count_of p k → e < per → IsFinite (word_of p k i e)
  unfolding rule7_in wild_in
  table_finite z i e l m =
      let q = entry_of i e per m in
      is_finite (word_of p k i e) (rw (q.0, q.1) at (each_met 6 (count_of p k * per) (wild_in p k per) _ z (i * per + e) (entry_in i e (count_of p k) per l m)))

  finite_table : 0 < per → ((i e : ℕ) → i < count_of p k → e < per → IsFinite (word_of p k i e)) → rule7_in place p k per ≡ accepted
  unfolding rule7_in wild_in
  finite_table pos f =
      each_passes 7 (count_of p k * per) (wild_in p k per) _
      (λ j l. let q = split_in j (count_of p k) per per pos (omega arith) l in finite_is (word_of p k (j / per) (j % per)) (f (j / per) (j % per) q.0 q.1))

module _ (place : ℕ → ℕ → ℕ) (p : Parts) where
  all_finite : (rule7 place p).number ≡ 0 → Finite p
  unfolding rule7 rule7_head wild_head
  all_finite z =
      let p4 = passed _ _ z in
      let p3 = passed _ _ p4.0 in
      let p2 = passed _ _ p3.0 in
      let p1 = passed _ _ p2.0 in
      record {
        head = λ i l. is_finite (get_or p.floats i 0) (each_met 6 15 (wild_head p) (λ j. 12 + 4 * j) p1.0 i l);
        vertex = table_finite place p 0 3 p1.1;
        normal = table_finite place p 3 3 p2.1;
        distance = λ f l. table_finite place p 4 1 p3.1 f 0 l (omega arith);
        box = table_finite place p 5 6 p4.1;
      }

  pub finite_all : Finite p → rule7 place p ≡ accepted
  unfolding rule7 rule7_head wild_head
  finite_all f =
      then_both
      (then_both
      (then_both
      (then_both (each_passes 7 15 (wild_head p) (λ j. 12 + 4 * j) (λ i l. finite_is (get_or p.floats i 0) (f.head i l)))
      (finite_table place p 0 3 (omega arith) f.vertex))
      (finite_table place p 3 3 (omega arith) f.normal))
      (finite_table place p 4 1 (omega arith) (λ i e l m. only_first i e l m)))
      (finite_table place p 5 6 (omega arith) f.box)
    where
      only_first : (i e : ℕ) → i < p.faces → e < 1 → IsFinite (word_of p 4 i e)
      only_first i zero l m = f.distance i l
      only_first i (suc e) l m = absurd (omega arith)

-- ---- 8

three_below : (P : ℕ → Type 0) → P 0 → P 1 → P 2 → (e : ℕ) → e < 3 → P e
three_below P a b c zero l = a
three_below P a b c (suc zero) l = b
three_below P a b c (suc (suc zero)) l = c
three_below P a b c (suc (suc (suc e))) l = absurd (omega arith)

module _ (p : Parts) (f : ℕ) where
  corner_right : (e : ℕ) → wrong_corner p f e ≡ false → (corner p f e < p.vertices) × (corner p f e ≡ corner p f ((e + 1) % 3) → ⊥)
  unfolding wrong_corner
  corner_right e h =
      let o = or_false (leb p.vertices (corner p f e)) (eqb (corner p f e) (corner p f ((e + 1) % 3))) h in
      (leb-false _ _ o.0, eqb-false _ _ o.1)

  right_corner : (e : ℕ) → corner p f e < p.vertices → (corner p f e ≡ corner p f ((e + 1) % 3) → ⊥) → wrong_corner p f e ≡ false
  unfolding wrong_corner
  right_corner e l n = false_or _ _ (lt-leb p.vertices (corner p f e) l) (ne_eqb _ _ n)

pub all_cornered : (p : Parts) → (rule8 p).number ≡ 0 → Cornered p
unfolding rule8 wrong_corners
all_cornered p z = record { under = λ f e l m. (right f l e m).0; three = λ f l. ((right f l 0 (omega arith)).1, (right f l 1 (omega arith)).1, (right f l 2 (omega arith)).1) }
  where
    right : (f : ℕ) → f < p.faces → (e : ℕ) → e < 3 → (corner p f e < p.vertices) × (corner p f e ≡ corner p f ((e + 1) % 3) → ⊥)
    right f l e m = corner_right p f e (none_under (wrong_corner p f) 3 (each_met 7 p.faces (wrong_corners p) (λ j. j) z f l) e m)

pub cornered_all : (p : Parts) → Cornered p → rule8 p ≡ accepted
unfolding rule8 wrong_corners
cornered_all p c =
    each_passes 8 p.faces (wrong_corners p) (λ j. j)
    (λ f l. under_none (wrong_corner p f) 3 (λ e m. right_corner p f e (c.under f e l m) (apart f l e m)))
  where
    apart : (f : ℕ) → f < p.faces → (e : ℕ) → e < 3 → corner p f e ≡ corner p f ((e + 1) % 3) → ⊥
    apart f l = let t = c.three f l in three_below (λ e. corner p f e ≡ corner p f ((e + 1) % 3) → ⊥) t.0 t.1 t.2

-- ---- 9 and 10

pub test_walkable : (m : ℕ) → walkable m ≡ true → Walkable m
unfolding walkable
test_walkable m e = ltb-true 0 (times m walkables) e

pub walkable_test : (m : ℕ) → Walkable m → walkable m ≡ true
unfolding walkable
walkable_test m l = lt-ltb 0 (times m walkables) l

module _ (p : Parts) where
  known_of : (rule9 p).number ≡ 0 → (f : ℕ) → f < p.faces → material p f ≤ 22
  unfolding rule9 strange
  known_of z f l = ltb-false 22 (material p f) (each_met 8 p.faces (strange p) (λ j. j) z f l)

  of_known : ((f : ℕ) → f < p.faces → material p f ≤ 22) → rule9 p ≡ accepted
  unfolding rule9 strange
  of_known h = each_passes 9 p.faces (strange p) (λ j. j) (λ f l. le-ltb 22 (material p f) (h f l))

  placed : (rule10 p).number ≡ 0 → (f : ℕ) → f < p.faces → misplaced p f ≡ false
  unfolding rule10
  placed z = each_met 9 p.faces (misplaced p) (λ j. j) z

  all_painted : p.adjacency ≤ p.faces → (rule9 p).number ≡ 0 → (rule10 p).number ≡ 0 → Painted p
  all_painted few z y = record { known = known_of z; under = under; over = over }
    where
      under : (f : ℕ) → f < p.faces → Walkable (material p f) → f < p.adjacency
      under f l w =
          decided (dec_lt f p.adjacency) (λ m. m) (λ m. clash (walkable_test (material p f) w) (misplaced_past p f (omega arith) ∙ placed y f l))

      over : (f : ℕ) → f < p.adjacency → Walkable (material p f)
      over f l = test_walkable (material p f) (not-false (walkable (material p f)) (misplaced_under p f l ∙ placed y f (omega arith)))

  pub painted_all : Painted p → (rule9 p ≡ accepted) × (rule10 p ≡ accepted)
  unfolding rule10
  painted_all q = (of_known q.known, each_passes 10 p.faces (misplaced p) (λ j. j) right)
    where
      right : (f : ℕ) → f < p.faces → misplaced p f ≡ false
      right f l =
          decided (dec_lt f p.adjacency) (λ m. sym (misplaced_under p f m) ∙ not_of_true _ (walkable_test (material p f) (q.over f m)))
          (λ m. sym (misplaced_past p f (omega arith)) ∙ test (walkable (material p f)) (λ w. absurd (m (q.under f l (test_walkable (material p f) w)))) (λ w. w))

-- so A is the number of walkable faces
tally_under : (n a : ℕ) → a ≤ n → tally n (λ f. ltb f a) ≡ a
unfolding tally
tally_under zero a l = omega arith
tally_under (suc n) a l =
    decided (dec_lt n a)
    (λ m. let q : a ≡ suc n = omega arith in rw (lt-ltb n a m) (omega (arith, all_under n a (omega arith))))
    (λ m. rw (le-ltb n a (omega arith)) (omega (arith, tally_under n a (omega arith))))
  where
    all_under : (n a : ℕ) → n ≤ a → tally n (λ f. ltb f a) ≡ n
    all_under zero a l = refl
    all_under (suc n) a l = rw (lt-ltb n a (omega arith)) (omega (arith, all_under n a (omega arith)))

pub walkable_faces_lem : (p : Parts) → p.adjacency ≤ p.faces → Painted p → tally p.faces (λ f. walkable (material p f)) ≡ p.adjacency
walkable_faces_lem p few q = tally_same p.faces _ (λ f. ltb f p.adjacency) same ∙ tally_under p.faces p.adjacency few
  where
    same : (f : ℕ) → f < p.faces → walkable (material p f) ≡ ltb f p.adjacency
    same f l =
        same_test _ _ (λ w. lt-ltb f p.adjacency (q.under f l (test_walkable (material p f) w)))
        (λ m. walkable_test (material p f) (q.over f (ltb-true f p.adjacency m)))

-- ---- the four

pub mesh_met : (place : ℕ → ℕ → ℕ) (p : Parts) → p.adjacency ≤ p.faces → (rules7to10 place p).number ≡ 0 → Meshed p
unfolding rules7to10
mesh_met place p few z =
    let p10 = passed _ _ z in
    let p9 = passed _ _ p10.0 in
    let p8 = passed _ _ p9.0 in
    record { finite = all_finite place p p8.0; cornered = all_cornered p p8.1; painted = all_painted p few p9.1 p10.1 }

pub met_mesh : (place : ℕ → ℕ → ℕ) (p : Parts) → Meshed p → rules7to10 place p ≡ accepted
unfolding rules7to10
met_mesh place p m =
    let q = painted_all p m.painted in
    then_both (then_both (then_both (finite_all place p m.finite) (cornered_all p m.cornered)) q.0) q.1
