-- What the calls answer, case by case. Assumes nothing.
use mathlib.Core.Path.{◌≡◌, sym, ap, ◌∙◌}
use mathlib.Core.Bool.{Bool, true, false}
use mathlib.Core.List.{List, []}
use Prim.Native.Nat.{ℕ, ◌≤◌, ◌<◌}
use native.Mathlib.Omega.{arith}
use lib.Dec.{ltb}
use lib.ListN.{length, get_or}
use borrow.Author.Tests.{lt-ltb, le-ltb}
use Rattle.std.specs.declared.result.Result.{Result}
use Rattle.std.specs.declared.result.Result.TheVariants.{Ok, Err}
use Rattle.verdict.specs.declared.Answer.{Answer}
use Rattle.verdict.specs.declared.Refused.{Refused}
use Rattle.verdict.specs.Verdict.{refused, rule, ◌then◌}
use Rattle.verdict.proofs.Told.{met_not_refused, refusal_once}
use Rattle.text.specs.Scan.{words, line_at}
use Rattle.names.specs.Name.{is_name}
use Rattle.text.specs.Reading.{Word, nth}
use Rattle.layout.specs.Grammar.{names_of, known_but}
use Rattle.layout.specs.Layout.{layout_verdict, layout_of}
use Rattle.rooms.specs.Rooms.{Rooms, told_rooms, room_names, rooms_of, name_verdict}
use Rattle.layout.specs.Starts.{held, KeptEntries, kept_name, Told, layout_read}
use Rattle.layout.proofs.AnsweredLaws.{answered}
use Rattle.layout.proofs.ApartLaws.{length_names}
use Rattle.layout.proofs.ReadLaws.{layout_good}
use Rattle.layout.proofs.HeldLaws.{held_long, kept_entries}

-- ---- the rooms of a layout, by what the reader answered

module _ (s : List ℕ) (r : Told) (a : r ≡ layout_read s) where
  -- the reader keeps the start of each room
  pub rooms_kept : KeptEntries s r.starts r.rooms
  rooms_kept =
      let h = (answered s r a).held in
      kept_entries 2 (layout_of s).rooms s r.starts r.rooms h.few_rooms (omega (arith, h.few_rooms, (answered s r a).sized)) (rw h.rooms (layout_good s).rooms)

  pub rooms_are : r.rooms ≡ length (room_names s)
  unfolding room_names
  rooms_are = omega (arith, length_names (layout_of s).rooms, ap length (answered s r a).held.rooms, held_long s r.starts r.rooms rooms_kept.inside)

  pub names_are : names_of (held s r.starts r.rooms) ≡ room_names s
  unfolding room_names
  names_are = ap names_of (answered s r a).held.rooms

  pub verdict_is : layout_verdict s ≡ refused r.number r.place
  verdict_is = sym (answered s r a).verdict

  pub rooms_told : ◌≡◌ {A = Rooms} (record { number = r.number; place = r.place; rooms = r.rooms }) (rooms_of s)
  unfolding rooms_of
  rooms_told = rw (verdict_is, ← rooms_are)

  -- ---- a typed name for a room

  module _ (i : ℕ) (w : Word) where
    pub name_21 : r.rooms ≤ i → refused 21 i ≡ name_verdict s i w
    unfolding name_verdict rule ◌then◌
    name_21 h = rw (le-ltb i (length (room_names s)) (omega (arith, rooms_are)))

    module _ (h : i < r.rooms) where
      inside : ltb i (length (room_names s)) ≡ true
      inside = lt-ltb i (length (room_names s)) (omega (arith, rooms_are))

      pub name_34 : is_name w ≡ false → refused 34 0 ≡ name_verdict s i w
      unfolding name_verdict rule ◌then◌
      name_34 e = rw (inside, e)

      pub name_37 : (k : Bool) → is_name w ≡ true → k ≡ known_but i w (names_of (held s r.starts r.rooms)) → rule 37 k 0 ≡ name_verdict s i w
      unfolding name_verdict rule ◌then◌
      name_37 k e ek = rw (inside, e, ek, names_are)

-- ---- the name at a kept start

pub kept_some_name : (s starts : List ℕ) (k : ℕ) (l u : List ℕ) → k < length starts → l ≡ line_at s (get_or starts k 0) → u ≡ nth (words l) 0 → u ≡ kept_name s starts k
unfolding kept_name
kept_some_name s starts k l u h el eu = eu ∙ rw (lt-ltb k (length starts) h, el)

pub kept_no_name : (s starts : List ℕ) (k : ℕ) → length starts ≤ k → [] ≡ kept_name s starts k
unfolding kept_name
kept_no_name s starts k h = rw (le-ltb k (length starts) h)

-- ---- how many rooms there are: what is told is told of one answer alone

answer_in : Rooms → Answer
answer_in t = refused t.number t.place

pub rooms_once : (a b : Result ℕ Refused) → told_rooms a ≡ told_rooms b → a ≡ b
unfolding answer_in
rooms_once (Ok n) (Ok m) e = ap Ok (ap (λ (t : Rooms). t.rooms) e)
rooms_once (Ok n) (Err q) e = met_not_refused q (ap answer_in e)
rooms_once (Err r) (Ok m) e = met_not_refused r (sym (ap answer_in e))
rooms_once (Err r) (Err q) e = ap Err (refusal_once r q (ap answer_in e))
