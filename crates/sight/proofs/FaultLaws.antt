-- What is wrong with a line, case by case, and what a line without fault says. Assumes nothing.
use mathlib.Core.Path.{◌≡◌, refl}
use mathlib.Core.Bool.{true, false}
use mathlib.Core.List.{[], ◌∷◌}
use Prim.Native.Nat.{ℕ, ◌≤◌, ◌<◌}
use native.Mathlib.Omega.{arith}
use lib.ListN.{length}
use borrow.Author.Tests.{eq-eqb, ne_eqb, lt-ltb, le-ltb}
use Rattle.names.specs.Name.{is_name}
use Rattle.number.specs.Count.{is_count}
use Rattle.text.specs.Reading.{Line, nth}
use Rattle.sight.specs.declared.Looking.{Looking}
use Rattle.sight.specs.Rows.{sees}
use Rattle.sight.specs.Grammar.{room_fault, seen_fault, observer_fault, line_fault}

-- ---- the room

module _ (n row room : ℕ) where
  pub room_37 : sees row room ≡ true → 37 ≡ room_fault n row room
  unfolding room_fault
  room_37 e = rw e

  module _ (e : sees row room ≡ false) where
    pub room_39 : room ≡ n → 39 ≡ room_fault n row room
    unfolding room_fault
    room_39 h = rw (e, eq-eqb room n h)

    pub room_right : (room ≡ n → ⊥) → 0 ≡ room_fault n row room
    unfolding room_fault
    room_right h = rw (e, ne_eqb room n h)

-- ---- a line of a list

module _ (n row room : ℕ) (l : Line) where
  pub seen_33 : (length l ≡ 1 → ⊥) → 33 ≡ seen_fault n row room l
  unfolding seen_fault
  seen_33 h = rw (ne_eqb (length l) 1 h)

  module _ (one : length l ≡ 1) where
    pub seen_34 : is_name (nth l 0) ≡ false → 34 ≡ seen_fault n row room l
    unfolding seen_fault
    seen_34 e = rw (eq-eqb (length l) 1 one, e)

    pub seen_room : is_name (nth l 0) ≡ true → room_fault n row room ≡ seen_fault n row room l
    unfolding seen_fault
    seen_room e = rw (eq-eqb (length l) 1 one, e)

-- ---- an observer's line

module _ (n told room : ℕ) (l : Line) where
  pub observer_33 : (length l ≡ 2 → ⊥) → 33 ≡ observer_fault n told room l
  unfolding observer_fault
  observer_33 h = rw (ne_eqb (length l) 2 h)

  module _ (two : length l ≡ 2) where
    pub observer_34 : is_name (nth l 0) ≡ false → 34 ≡ observer_fault n told room l
    unfolding observer_fault
    observer_34 e = rw (eq-eqb (length l) 2 two, e)

    module _ (e : is_name (nth l 0) ≡ true) where
      pub observer_36 : is_count (nth l 1) ≡ false → 36 ≡ observer_fault n told room l
      unfolding observer_fault
      observer_36 k = rw (eq-eqb (length l) 2 two, e, k)

      pub observer_room : is_count (nth l 1) ≡ true → room_fault n told room ≡ observer_fault n told room l
      unfolding observer_fault
      observer_room k = rw (eq-eqb (length l) 2 two, e, k)

-- ---- a line

module _ (n : ℕ) (c : Looking) (row room : ℕ) (l : Line) where
  pub line_blank : length l ≡ 0 → 0 ≡ line_fault n c row room l
  unfolding line_fault
  line_blank = go l
    where
      go : (m : Line) → length m ≡ 0 → 0 ≡ line_fault n c row room m
      go [] e = refl
      go (w ∷ ws) e = absurd (omega arith)

  pub line_seen : (length l ≡ 0 → ⊥) → 0 < c.left → seen_fault n row room l ≡ line_fault n c row room l
  unfolding line_fault
  line_seen = go l
    where
      go : (m : Line) → (length m ≡ 0 → ⊥) → 0 < c.left → seen_fault n row room m ≡ line_fault n c row room m
      go [] e h = absurd (e refl)
      go (w ∷ ws) e h = rw (lt-ltb 0 c.left h)

  pub line_observer : (length l ≡ 0 → ⊥) → c.left ≤ 0 → observer_fault n c.told room l ≡ line_fault n c row room l
  unfolding line_fault
  line_observer = go l
    where
      go : (m : Line) → (length m ≡ 0 → ⊥) → c.left ≤ 0 → observer_fault n c.told room m ≡ line_fault n c row room m
      go [] e h = absurd (e refl)
      go (w ∷ ws) e h = rw (le-ltb 0 c.left h)
