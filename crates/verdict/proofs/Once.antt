-- Marking a list on clear memory, and then finding every number under N marked, is: each of them stands in the list exactly once.
-- Assumes nothing.
use Prim.Native.Nat.{ℕ, ◌+◌, ◌<◌, ◌≤◌}
use native.Mathlib.Omega.{arith}
use native.Mathlib.Decide.{dec_lt}
use mathlib.Core.Path.{◌≡◌, refl, sym, ap, subst, ◌∙◌}
use mathlib.Core.Bool.{Bool, true, false, not, ◌&&◌}
use mathlib.Core.List.{List, [], ◌∷◌}
use lib.ListN.{length, get_or, set, length-set}
use lib.Seq.{get_or-set_same, get_or-set_other}
use lib.Dec.{eqb}
use borrow.Author.Tests.{eq-eqb, eqb-true, eqb-false}
use Rattle.verdict.specs.Lowest.{all_under}
use Rattle.verdict.specs.Lists.{bit, times, once}
use Rattle.verdict.specs.Memory.{is_marked, fresh, marked}
use Rattle.verdict.proofs.Bools.{clash, test, decided, same_test, and_true, true_and}
use Rattle.verdict.proofs.Lowest.{all_true, true_all}
use Rattle.verdict.proofs.Lists.{bit_same, NoneFrom, none_head, none_tail, none_more}
use Rattle.verdict.proofs.Marks.{is_marked_lem, not_marked, fresh_hit, fresh_new}

-- 1 where k is not marked, 0 where it is
unfoldable pub room : List ℕ → ℕ → ℕ
room w k = bit (not (is_marked w k))

room_set : (w : List ℕ) (x : ℕ) → x < length w → is_marked w x ≡ false → (k : ℕ) → room (set w x 1) k + bit (eqb x k) ≡ room w k
unfolding room
room_set w x lt z k =
    test (eqb x k)
    (λ e.
    let q = eqb-true x k e in
    let one : get_or (set w x 1) k 0 ≡ 1 = subst (λ (j : ℕ). get_or (set w x 1) j 0 ≡ 1) q (get_or-set_same w x 1 0 lt) in
    let none : is_marked w k ≡ false = subst (λ (j : ℕ). is_marked w j ≡ false) q z in
    rw (e, none, is_marked_lem (set w x 1) k (λ (y : get_or (set w x 1) k 0 ≡ 0). omega arith)))
    (λ e. rw e (ap (λ (b : Bool). bit (not b) + 0) (same e) ∙ plain (bit (not (is_marked w k)))))
  where
    plain : (n : ℕ) → n + 0 ≡ n
    plain n = omega arith

    same : eqb x k ≡ false → is_marked (set w x 1) k ≡ is_marked w k
    same e =
        let other : get_or (set w x 1) k 0 ≡ get_or w k 0 = get_or-set_other w x k 1 0 (λ (q : k ≡ x). eqb-false x k e (sym q)) in
        same_test (is_marked (set w x 1) k) (is_marked w k)
        (λ t. is_marked_lem w k (λ (y : get_or w k 0 ≡ 0). clash t (not_marked (set w x 1) k (other ∙ y))))
        (λ t. is_marked_lem (set w x 1) k (λ (y : get_or (set w x 1) k 0 ≡ 0). clash t (not_marked w k (sym other ∙ y))))

-- a number in a list that was marked had room, and marking goes on
fresh_room : (x : ℕ) (l w : List ℕ) → fresh (x ∷ l) w ≡ true → is_marked w x ≡ false
fresh_room x l w f = test (is_marked w x) (λ e. clash f (fresh_hit x l w e)) (λ e. e)

empty : (x : ℕ) (l w : List ℕ) → bit (eqb x x) + times x l ≤ room w x → is_marked w x ≡ false
unfolding room
empty x l w h = test (is_marked w x) (λ e. absurd (omega (arith, ap (λ (b : Bool). bit (not b)) e, bit_same x))) (λ e. e)

-- what marking leaves
pub rooms : (l w : List ℕ) → NoneFrom (length w) l → fresh l w ≡ true → (k : ℕ) → room (marked l w) k + times k l ≡ room w k
unfolding marked times
rooms [] w h f k = omega arith
rooms (x ∷ l) w h f k =
    let z = fresh_room x l w f in
    let here = room_set w x (omega (arith, none_head (length w) x l h)) z k in
    let ih = rooms l (set w x 1) (rw (length-set w x 1) (none_tail (length w) x l h)) (sym (fresh_new x l w z) ∙ f) k in
    rw z (omega arith)

-- marking does not stop where each number of the list has room
pub fits : (l w : List ℕ) → NoneFrom (length w) l → ((k : ℕ) → times k l ≤ room w k) → fresh l w ≡ true
unfolding fresh times
fits [] w h f = refl
fits (x ∷ l) w h f =
    let z = empty x l w (f x) in
    let lt : x < length w = omega (arith, none_head (length w) x l h) in
    rw z (fits l (set w x 1) (rw (length-set w x 1) (none_tail (length w) x l h)) (λ k. omega (arith, room_set w x lt z k, f k)))

module _ (N : ℕ) (l w : List ℕ) (h : NoneFrom N l) (long : N ≤ length w) (clear : (k : ℕ) → k < N → get_or w k 0 ≡ 0) where
  inside : NoneFrom (length w) l
  inside = none_more N (length w) l long h

  cleared : (k : ℕ) → k < N → room w k ≡ 1
  unfolding room
  cleared k lt = ap (λ (b : Bool). bit (not b)) (not_marked w k (clear k lt))

  no_room : (v : List ℕ) (k : ℕ) → is_marked v k ≡ true → room v k ≡ 0
  unfolding room
  no_room v k e = ap (λ (b : Bool). bit (not b)) e

  is_full : (v : List ℕ) (k : ℕ) → room v k ≡ 0 → is_marked v k ≡ true
  unfolding room
  is_full v k e = test (is_marked v k) (λ q. q) (λ q. absurd (omega (arith, ap (λ (b : Bool). bit (not b)) q)))

  pub once_law : (fresh l w && all_under N (is_marked (marked l w))) ≡ once N l
  unfolding once NoneFrom
  once_law =
      same_test _ _
      (λ e.
      let g = and_true (fresh l w) (all_under N (is_marked (marked l w))) e in
      true_all (λ k. eqb (times k l) 1) N (λ k lt. eq-eqb (times k l) 1
      (omega (arith, rooms l w inside g.0 k, no_room (marked l w) k (all_true (is_marked (marked l w)) N g.1 k lt), cleared k lt))))
      (λ e.
      let one : (k : ℕ) → k < N → times k l ≡ 1 = λ k lt. eqb-true (times k l) 1 (all_true (λ j. eqb (times j l) 1) N e k lt) in
      let f = fits l w inside (λ k. decided (dec_lt k N) (λ lt. omega (arith, one k lt, cleared k lt)) (λ ge. omega (arith, h k (omega arith)))) in
      true_and (fresh l w) (all_under N (is_marked (marked l w))) f
      (true_all (is_marked (marked l w)) N (λ k lt. is_full (marked l w) k (omega (arith, rooms l w inside f k, one k lt, cleared k lt)))))
