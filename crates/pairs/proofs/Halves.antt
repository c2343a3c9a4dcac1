-- Laws of half-edges, partners and borders: what rules 15 and 16 tell the code. Assumes nothing.
use mathlib.Core.Path.{◌≡◌, ap}
use mathlib.Core.Bool.{true, false, not}
use mathlib.Core.List.{List}
use Prim.Native.Nat.{ℕ, ◌+◌, ◌*◌, ◌/◌, ◌%◌, ◌<◌, ◌≤◌}
use native.Mathlib.Omega.{arith}
use lib.Dec.{eqb, ltb}
use lib.ListN.{get_or}
use borrow.Author.Tests.{lt-ltb, le-ltb, eq-eqb, ne_eqb, ltb-true, eqb-true, not-false}
use Rattle.verdict.proofs.Bools.{test, and_true}
use Rattle.verdict.proofs.Verdict.{passed, each_met}
use Rattle.tables.specs.Tables.{table_at, width}
use Rattle.tables.specs.Header.{floor_tables, RightHeader}
use Rattle.tables.specs.Parts.{none32, Parts, parts_of, table_of, count_of, word_of, adjacent_to}
use Rattle.tables.proofs.Reading.{sized_of}
use Rattle.pairs.specs.Halves.{halves, from, to, repeats, partner, border, pairing, wrong_adjacent, rule15, rule16, rules15to16, RightPairs}

-- how many faces of a right header are walkable at most
pub few_walkable : (b : List ℕ) → RightHeader b → (parts_of b).adjacency ≤ 4096
few_walkable b r = let s = sized_of b r in omega (arith, s.adjacency, s.faces)

-- half-edge h starts at word h of the corners, and its adjacency entry is word h of theirs
pub from_word : (p : Parts) (h : ℕ) → get_or (table_of p 1) h 0 ≡ from p h
unfolding from word_of
from_word p h = let e : h ≡ h / 3 * 3 + h % 3 = omega arith in ap (λ (j : ℕ). get_or (table_of p 1) j 0) e

pub adjacent_word : (p : Parts) (h : ℕ) → get_or (table_of p 6) h 0 ≡ adjacent_to p h
unfolding word_of
adjacent_word p h = let e : h ≡ h / 3 * 3 + h % 3 = omega arith in ap (λ (j : ℕ). get_or (table_of p 6) j 0) e

pub corner_among : (b : List ℕ) → RightHeader b → (h : ℕ) → h < halves (parts_of b) → h < count_of (parts_of b) 1 * width (table_at floor_tables 1)
corner_among b r h l = omega (arith, (sized_of b r).adjacency)

-- the next half-edge of the face starts where this one ends
pub next_starts : (p : Parts) (h g : ℕ) → g / 3 ≡ h / 3 → g % 3 ≡ (h % 3 + 1) % 3 → from p g ≡ to p h
unfolding from to
next_starts p h g e f = rw (e, f)

module _ (p : Parts) where
  pub border_in : (h : ℕ) → border p h ≡ true → h < halves p
  unfolding border
  border_in h e = ltb-true h (halves p) (and_true (ltb h (halves p)) (not (ltb (partner p h) (halves p))) e).0

  pub border_out : (h : ℕ) → halves p ≤ h → false ≡ border p h
  unfolding border
  border_out h l = rw (le-ltb h (halves p) l)

  -- ---- what 15 and 16 tell

  pub own_run : RightPairs p → (h : ℕ) → h < halves p → repeats p h ≡ false
  unfolding rules15to16 rule15
  own_run z h l = each_met 14 (halves p) (repeats p) _ (passed _ _ z).0 h l

  pub pairing_right : RightPairs p → (h : ℕ) → h < halves p → adjacent_to p h ≡ pairing p h
  unfolding rules15to16 rule16 wrong_adjacent
  pairing_right z h l =
      eqb-true _ _ (not-false (eqb (adjacent_to p h) (pairing p h)) (each_met 15 (halves p) (wrong_adjacent p) _ (passed _ _ z).1 h l))

  -- where they are unbroken, the adjacency entry is -1 exactly at borders
  pub border_read : p.adjacency ≤ 4096 → RightPairs p → (h : ℕ) → h < halves p → eqb (adjacent_to p h) none32 ≡ border p h
  unfolding border pairing
  border_read few z h l =
      let e = pairing_right z h l in
      test (ltb (partner p h) (halves p))
      (λ y.
      let q : adjacent_to p h ≡ partner p h = rw y at e in
      rw (lt-ltb h (halves p) l, y) (ne_eqb (adjacent_to p h) none32 (λ (x : adjacent_to p h ≡ none32). omega (arith, ltb-true (partner p h) (halves p) y))))
      (λ y. rw (lt-ltb h (halves p) l, y) (eq-eqb (adjacent_to p h) none32 (rw y at e)))
