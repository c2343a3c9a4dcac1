-- The whole form as the printers write it. Assumes nothing.
use mathlib.Core.Path.{◌≡◌, refl, sym, ap, ◌∙◌}
use mathlib.Core.Logic.{inl, inr}
use mathlib.Core.List.{List, [], ◌∷◌, ◌++◌, map, append-nil}
use Prim.Native.Nat.{ℕ, ◌+◌, ◌≤◌, ◌<◌}
use native.Mathlib.Omega.{arith}
use native.Mathlib.Decide.{dec_lt}
use lib.ListN.{length, get_or, take, drop, length-map, length-drop, get_or-eq_default}
use lib.Seq.{take_all, get_or-take, length-take-le}
use borrow.Author.Tests.{lt-ltb, le-ltb}
use Rattle.verdict.proofs.Bools.{decided}
use Rattle.verdict.proofs.Lists.{map_at_lem}
use Rattle.verdict.proofs.Each.{Each}
use Rattle.letters.specs.Case.{lowered}
use Rattle.number.specs.Number.{plain}
use Rattle.printer.specs.Write.{Wrote}
use Rattle.text.specs.Written.{spaced, after, written}
use Rattle.text.proofs.WrittenLaws.{ended_one, written_append}
use Rattle.printer.proofs.WriteLaws.{wrote_then, wrote_is}
use Rattle.text.specs.Reading.{Word, Line, nth}
use Rattle.layout.specs.Grammar.{names_of, beginlayout, roomcount, trackcount, obstaclecount, doorhookcount, donelayout}
use Rattle.layout.specs.Layout.{layout_of}
use Rattle.layout.specs.Plain.{IsEntry}
use Rattle.layout.specs.Starts.{entry_at, held, kept_name, track_starts, obstacle_starts, hook_starts, Told, Held}
use Rattle.layout.proofs.ApartLaws.{length_names}
use Rattle.layout.proofs.ReadLaws.{layout_good}
use Rattle.layout.proofs.HeldLaws.{held_long, entry_at_lem, room_name_lem}
use Rattle.layoutform.specs.Form.{Entry, LayoutParts, entry_of, parts_of_typed, parts_of, section, form, form_text}
use Rattle.layoutform.specs.Rewrite.{name_in, renamed_from, renamed, renamed_form}
use Rattle.layoutform.specs.Lent.{KeptIn, NameOrNone}
use Rattle.layoutform.proofs.PartLaws.{names_lowered, parts_good}
use Rattle.layoutform.proofs.LengthLaws.{head_short}
use Rattle.layoutform.proofs.ByName.{names_are, from_none, by_name}

-- ---- how far a line comes

pub head_end : {a b : List ℕ} {i j : ℕ} (key : Word) (n : ℕ) → length key ≤ 13 → Wrote a b i j (written ((key ∷ plain n ∷ []) ∷ [])) → j ≤ i + 20
head_end key n h w = omega (arith, w.next, ended_one (spaced (key ∷ plain n ∷ [])), head_short key n)

key_long : (key : Word) → length (spaced (key ∷ [])) ≡ length key
unfolding spaced after
key_long key = ap length (append-nil key)

pub key_end : {a b : List ℕ} {i j : ℕ} (key : Word) → length key ≤ 13 → Wrote a b i j (written ((key ∷ []) ∷ [])) → j ≤ i + 14
key_end key h w = omega (arith, w.next, ended_one (spaced (key ∷ [])), key_long key)

-- ---- the whole, by what the reader keeps

module _ (s : List ℕ) (r : Told) (sized : length r.starts ≡ 256) (h : Held s r (layout_of s)) where
  -- the starts of a section's entries as the code has them: those from a place on, to the last
  pub part_is : (at n : ℕ) → at + n ≡ 256 → take n (drop at r.starts) ≡ drop at r.starts
  part_is at n e = take_all n (drop at r.starts) (omega (arith, length-drop at r.starts))

  kept : (k at n : ℕ) (es : List Line) → at + 64 ≤ 256 → n ≤ 64 → held s (drop at r.starts) n ≡ es → Each (IsEntry k (layout_of s).rooms) es → KeptIn k s (drop at r.starts) n
  kept k at n es a few e g =
      let i : n ≤ length (drop at r.starts) = omega (arith, length-drop at r.starts) in
      record { few = few; inside = i; entry = λ j l. record { rooms = (layout_of s).rooms; is = entry_at_lem k (layout_of s).rooms s (drop at r.starts) n few i (rw e g) j l } }

  pub kept_rooms : KeptIn 2 s r.starts r.rooms
  kept_rooms = kept 2 0 r.rooms (layout_of s).rooms (omega arith) h.few_rooms h.rooms (layout_good s).rooms

  pub kept_tracks : KeptIn 3 s (track_starts r.starts) r.tracks
  kept_tracks = kept 3 64 r.tracks (layout_of s).tracks (omega arith) h.few_tracks h.tracks (layout_good s).tracks

  pub kept_obstacles : KeptIn 4 s (obstacle_starts r.starts) r.obstacles
  kept_obstacles = kept 4 128 r.obstacles (layout_of s).obstacles (omega arith) h.few_obstacles h.obstacles (layout_good s).obstacles

  pub kept_hooks : KeptIn 5 s (hook_starts r.starts) r.hooks
  kept_hooks = kept 5 192 r.hooks (layout_of s).hooks (omega arith) h.few_hooks h.hooks (layout_good s).hooks

  -- ---- the old name, as the code finds it among the rooms

  module _ (i : ℕ) (u : Word) (eu : u ≡ kept_name s (take r.rooms r.starts) i) where
    many : length (take r.rooms r.starts) ≡ r.rooms
    many = length-take-le r.rooms r.starts kept_rooms.inside

    old_in : i < r.rooms → u ≡ nth (entry_at s (get_or r.starts i 0)) 0
    old_in l = eu ∙ unfold kept_name in (rw (many, lt-ltb i r.rooms l, get_or-take r.rooms r.starts i 0 l))

    old_past : r.rooms ≤ i → u ≡ []
    old_past l = eu ∙ unfold kept_name in (rw (many, le-ltb i r.rooms l))

    pub old_right : NameOrNone u
    old_right =
        decided (dec_lt i r.rooms) (λ (l : i < r.rooms). inr (rw (old_in l) (kept_rooms.entry i l).is.name))
        (λ (l : i < r.rooms → ⊥). inl (rw (old_past (omega arith)) refl))

    abbrev own : List Line
    own = held s r.starts r.rooms

    old_is : lowered u ≡ name_in (map (entry_of 2) own) i
    old_is =
        let e = names_are (map (entry_of 2) own) i ∙ ap (λ (ns : List Word). get_or ns i []) (names_lowered own) in
        let k : length (names_of own) ≡ r.rooms = length_names own ∙ held_long s r.starts r.rooms kept_rooms.inside in
        decided (dec_lt i r.rooms)
        (λ (l : i < r.rooms). rw (e, map_at_lem lowered [] [] (names_of own) i (omega arith), room_name_lem s r.starts r.rooms i kept_rooms.inside l, old_in l))
        (λ (l : i < r.rooms → ⊥). rw (e, get_or-eq_default (map lowered (names_of own)) [] {n = i} (omega (arith, length-map (names_of own) lowered)), old_past (omega arith)) (unfold lowered in refl))

    -- ---- the sections

    module _ (name : Word) where
      -- the entries that the printers print
      abbrev listed : ℕ → List ℕ → ℕ → Word → List Entry
      listed k starts n old = map (renamed_from (lowered old) (lowered name)) (map (entry_of k) (held s starts n))

      rooms_are : listed 2 r.starts r.rooms u ≡ (renamed (parts_of s) i name).rooms
      unfolding renamed parts_of parts_of_typed
      rooms_are = rw (old_is, h.rooms) (by_name 2 _ (map (entry_of 2) (layout_of s).rooms) (parts_good s).rooms (parts_good s).apart i (lowered name))

      hooks_are : listed 5 (hook_starts r.starts) r.hooks u ≡ (renamed (parts_of s) i name).hooks
      unfolding renamed parts_of parts_of_typed
      hooks_are = rw (old_is, h.rooms, h.hooks)

      tracks_are : listed 3 (track_starts r.starts) r.tracks [] ≡ (renamed (parts_of s) i name).tracks
      unfolding renamed parts_of parts_of_typed lowered
      tracks_are = rw h.tracks (from_none 3 _ _ (map (entry_of 3) (layout_of s).tracks) (parts_good s).tracks)

      obstacles_are : listed 4 (obstacle_starts r.starts) r.obstacles [] ≡ (renamed (parts_of s) i name).obstacles
      unfolding renamed parts_of parts_of_typed lowered
      obstacles_are = rw h.obstacles (from_none 4 _ _ (map (entry_of 4) (layout_of s).obstacles) (parts_good s).obstacles)

      joined : (x y z k : List Entry) → written ((beginlayout ∷ []) ∷ []) ++ (written (section roomcount x) ++ (written (section trackcount y) ++ (written (section obstaclecount z) ++ (written (section doorhookcount k) ++ written ((donelayout ∷ []) ∷ []))))) ≡ written (((beginlayout ∷ []) ∷ []) ++ (section roomcount x ++ (section trackcount y ++ (section obstaclecount z ++ (section doorhookcount k ++ ((donelayout ∷ []) ∷ []))))))
      joined x y z k = sym (simp written_append)

      form_is : (p : LayoutParts) → written (((beginlayout ∷ []) ∷ []) ++ (section roomcount p.rooms ++ (section trackcount p.tracks ++ (section obstaclecount p.obstacles ++ (section doorhookcount p.hooks ++ ((donelayout ∷ []) ∷ [])))))) ≡ form_text p
      unfolding form_text form
      form_is p = refl

      pub form_wrote : {a b c d e f g : List ℕ} {k1 k2 k3 k4 k5 k6 : ℕ} → Wrote a b 0 k1 (written ((beginlayout ∷ []) ∷ [])) → Wrote b c k1 k2 (written (section roomcount (listed 2 r.starts r.rooms u))) → Wrote c d k2 k3 (written (section trackcount (listed 3 (take 192 (drop 64 r.starts)) r.tracks []))) → Wrote d e k3 k4 (written (section obstaclecount (listed 4 (take 128 (drop 128 r.starts)) r.obstacles []))) → Wrote e f k4 k5 (written (section doorhookcount (listed 5 (take 64 (drop 192 r.starts)) r.hooks u))) → Wrote f g k5 k6 (written ((donelayout ∷ []) ∷ [])) → Wrote a g 0 k6 (renamed_form s i name)
      form_wrote p q x y z w =
          wrote_is _ (wrote_then p (wrote_then q (wrote_then x (wrote_then y (wrote_then z w)))))
          (rw (part_is 64 192 (omega arith), part_is 128 128 (omega arith), part_is 192 64 (omega arith), rooms_are, tracks_are, obstacles_are, hooks_are) (joined _ _ _ _ ∙ form_is (renamed (parts_of s) i name)))
