-- Laws of rule 7: where a float stands in its table and in the file, how a search goes on from entry to entry, and that the number
-- does not depend on the place. Assumes nothing.
use mathlib.Core.Path.{◌≡◌, refl, sym, ap, ◌∙◌}
use mathlib.Core.Bool.{Bool, false}
use mathlib.Core.List.{List}
use Prim.Native.Nat.{ℕ, suc, ◌+◌, ◌-◌, ◌*◌, ◌/◌, ◌%◌, ◌≤◌, ◌<◌}
use native.Mathlib.Nat.{div-lt_iff_lt-mul, mod-lt, lt_of_lt_of_le, mul-add-div_right, mul-add-mod_self_right, div-eq_of_lt, mod-eq_of_lt, mul-le-mul_right, suc-mul, add-zero}
use native.Mathlib.Numerals.{add-one}
use native.Mathlib.Omega.{arith}
use native.Mathlib.Decide.{dec_lt}
use lib.ListN.{length}
use Rattle.verdict.specs.Lowest.{lowest}
use Rattle.verdict.proofs.Bools.{decided}
use Rattle.verdict.proofs.Lowest.{lowest_is, lowest_only, lowest_all}
use Rattle.verdict.proofs.Verdict.{then_number, each_number}
use Rattle.tables.specs.Tables.{table_at, width, entry_at}
use Rattle.tables.specs.Header.{floor_tables, RightHeader}
use Rattle.tables.specs.Parts.{Parts, parts_of, count_of}
use Rattle.tables.proofs.Floor.{floor_in_header}
use Rattle.tables.proofs.Right.{floor_entry}
use Rattle.tables.proofs.Reading.{count_is, word_of_lem, place_is}
use Rattle.mesh.specs.Floats.{wild_from, wild_in, rule7_in, rule7}

-- thing j of n entries of `per` things
pub split_in : (j n per v : ℕ) → 0 < per → per ≤ v → j < n * per → (j / per < n) × (j % per < v)
split_in j n per v h l m = ((div-lt_iff_lt-mul h).1 m, lt_of_lt_of_le (mod-lt j h) l)

-- and back: thing e of entry i is thing i * per + e
pub entry_of : (i e per : ℕ) → e < per → ((i * per + e) / per ≡ i) × ((i * per + e) % per ≡ e)
entry_of i e per l =
    let pos : 0 < per = omega arith in
    (mul-add-div_right pos i e ∙ ap (λ (x : ℕ). i + x) (div-eq_of_lt l) ∙ add-zero i, mul-add-mod_self_right i per e ∙ mod-eq_of_lt l)

pub entry_in : (i e n per : ℕ) → i < n → e < per → i * per + e < n * per
entry_in i e n per l m = let h : suc i * per ≤ n * per = mul-le-mul_right per l in omega (arith, suc-mul i per)

-- ---- a search that goes on by blocks: p is asked of all, and q of the n things from j on

module _ (p q : ℕ → Bool) (j n : ℕ) (none : lowest j p ≡ j) (same : (e : ℕ) → e < n → p (j + e) ≡ q e) where
  below : (x : ℕ) → x < j + lowest n q → p x ≡ false
  below x l =
      decided (dec_lt x j) (λ m. (lowest_is p j).before x (omega arith))
      (λ m. let e : j + (x - j) ≡ x = omega arith in rw (← e) (same (x - j) (omega (arith, (lowest_is q n).within)) ∙ (lowest_is q n).before (x - j) (omega arith)))

  -- a block with none takes the search on by all its things
  block_none : lowest n q ≡ n → lowest (j + n) p ≡ j + n
  block_none h = lowest_all p (j + n) (λ x l. below x (omega arith))

  -- a hit in a block is the lowest of all
  block_hit : (m : ℕ) → j + lowest n q < m → lowest n q < n → lowest m p ≡ j + lowest n q
  block_hit m l h = lowest_only p m (j + lowest n q) (record { within = omega arith; holds = λ _. same (lowest n q) h ∙ (lowest_is q n).holds h; before = below })

-- ---- the floats of entry i of table k, where the file has them

module _ (b : List ℕ) (k : ℕ) (lk : k < 9) (per : ℕ) (lp : per ≤ width (table_at floor_tables k)) (i : ℕ) (li : i < count_of (parts_of b) k) where
  float_at : (e : ℕ) → e < per → wild_in (parts_of b) k per (i * per + e) ≡ wild_from b (entry_at b (table_at floor_tables k) i) e
  unfolding wild_in wild_from
  float_at e l =
      let q = entry_of i e per l in
      let m : e < width (table_at floor_tables k) = omega arith in
      rw (q.0, q.1, word_of_lem b k lk i li e m, place_is b k lk i li e m)

  pub floats_inside : RightHeader b → entry_at b (table_at floor_tables k) i + 4 * per ≤ length b
  floats_inside r = let h = (floor_entry b r k lk i (rw (count_is b k lk) at li)).1 in omega (arith, (floor_in_header k lk).size_words)

  -- what the search from its place on tells, where none of the entries before it has a wild float
  module _ (none : lowest (i * per) (wild_in (parts_of b) k per) ≡ i * per) {at e : ℕ} (place : at ≡ entry_at b (table_at floor_tables k) i) (found : e ≡ lowest per (wild_from b at)) where
    same : (d : ℕ) → d < per → wild_in (parts_of b) k per (i * per + d) ≡ wild_from b at d
    same d l = rw place (float_at d l)

    pub entry_none : per ≤ e → lowest ((i + 1) * per) (wild_in (parts_of b) k per) ≡ (i + 1) * per
    entry_none l = rw (add-one i, suc-mul i per) (block_none _ (wild_from b at) (i * per) per none same (omega (arith, (lowest_is (wild_from b at) per).within)))

    pub entry_hit : e < per → i * per + e ≡ lowest (count_of (parts_of b) k * per) (wild_in (parts_of b) k per)
    entry_hit l = let m = entry_in i e (count_of (parts_of b) k) per li l in rw found (sym (block_hit _ (wild_from b at) (i * per) per none same _ (omega arith) (omega arith)))

-- ---- the number does not depend on the place

in_number : (f g : ℕ → ℕ → ℕ) (p : Parts) (k per : ℕ) → (rule7_in f p k per).number ≡ (rule7_in g p k per).number
unfolding rule7_in
in_number f g p k per = each_number 7 _ _ _ _

pub rule7_number : (f g : ℕ → ℕ → ℕ) (p : Parts) → (rule7 f p).number ≡ (rule7 g p).number
unfolding rule7
rule7_number f g p =
    then_number _ _ _ _ (then_number _ _ _ _ (then_number _ _ _ _ (then_number _ _ _ _ refl (in_number f g p 0 3)) (in_number f g p 3 3)) (in_number f g p 4 1)) (in_number f g p 5 6)
