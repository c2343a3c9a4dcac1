-- What the two calls answer, case by case. Assumes nothing.
use mathlib.Core.Path.{◌≡◌, refl, sym, ◌∙◌}
use mathlib.Core.Bool.{true, false}
use mathlib.Core.List.{List, []}
use Prim.Native.Nat.{ℕ, ◌≤◌, ◌<◌}
use native.Mathlib.Omega.{arith}
use lib.ListN.{length, get_or}
use borrow.Author.Tests.{lt-ltb, le-ltb}
use Rattle.text.specs.Scan.{words, line_at}
use Rattle.text.specs.Reading.{nth}
use Rattle.rooms.specs.Rooms.{room_names}
use Rattle.layout.specs.Starts.{kept_name, Told, layout_read}
use Rattle.layout.proofs.HeldLaws.{room_name_lem}
use Rattle.rooms.proofs.RoomLaws.{rooms_are, names_are, rooms_kept}
use Rattle.caption.specs.Caption.{has_room, room_name, caption_of, caption_number}

-- ---- the rooms of a layout, by what the reader answered

module _ (s : List ℕ) (r : Told) (a : r ≡ layout_read s) where
  pub has_it : (i : ℕ) → i < r.rooms → has_room s i ≡ true
  unfolding has_room
  has_it i h = lt-ltb i (length (room_names s)) (omega (arith, rooms_are s r a))

  pub has_none : (i : ℕ) → r.rooms ≤ i → has_room s i ≡ false
  unfolding has_room
  has_none i h = le-ltb i (length (room_names s)) (omega (arith, rooms_are s r a))

  pub its_name : (i : ℕ) (l u : List ℕ) → i < r.rooms → l ≡ line_at s (get_or r.starts i 0) → u ≡ nth (words l) 0 → u ≡ room_name s i
  unfolding room_name
  its_name i l u h el eu =
      eu ∙ rw (el, ← (names_are s r a)) (sym (room_name_lem s r.starts r.rooms i (rooms_kept s r a).inside h))

  -- the name at a kept start is the room's
  pub kept_name_lem : (k : ℕ) → k < r.rooms → kept_name s r.starts k ≡ room_name s k
  unfolding kept_name
  kept_name_lem k h = rw (lt-ltb k (length r.starts) (omega (arith, (rooms_kept s r a).inside))) (its_name k _ _ h refl refl)

-- ---- the visitor's text, then the house text

pub caption_first : (v h : List ℕ) (i : ℕ) (u : List ℕ) → has_room v i ≡ true → u ≡ room_name v i → (u ≡ caption_of v h i) × (0 ≡ caption_number v h i)
unfolding caption_of caption_number
caption_first v h i u p e = (rw p e, rw p)

pub caption_second : (v h : List ℕ) (i : ℕ) (u : List ℕ) → has_room v i ≡ false → has_room h i ≡ true → u ≡ room_name h i → (u ≡ caption_of v h i) × (0 ≡ caption_number v h i)
unfolding caption_of caption_number
caption_second v h i u p q e = (rw (p, q) e, rw (p, q))

pub caption_none : (v h : List ℕ) (i : ℕ) → has_room v i ≡ false → has_room h i ≡ false → ([] ≡ caption_of v h i) × (41 ≡ caption_number v h i)
unfolding caption_of caption_number
caption_none v h i p q = (rw (p, q), rw (p, q))
