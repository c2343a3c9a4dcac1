-- Layouts that are alike word for word, but for the name of room j there and in its hooks, are alike: their parts are. Assumes nothing.
use mathlib.Core.Path.{◌≡◌, refl, sym, ap, ◌∙◌}
use mathlib.Core.Logic.{◌≢◌, inl, inr}
use mathlib.Core.Bool.{true, false}
use mathlib.Core.List.{List, [], ◌∷◌, map}
use Prim.Native.Nat.{ℕ, zero, suc, ◌≤◌, ◌<◌}
use native.Mathlib.Omega.{arith}
use native.Mathlib.Decide.{ℕ_discrete, dec_lt}
use lib.ListN.{length, get_or, take, drop, length-map, get_or-eq_default}
use lib.Seq.{ext_get_or}
use Rattle.verdict.proofs.Bools.{test, decided}
use Rattle.verdict.proofs.Each.{Each, each_at}
use Rattle.letters.specs.Case.{lowered}
use Rattle.names.specs.Name.{is_name, same_name}
use Rattle.names.proofs.NameLaws.{name_long, same_name_true}
use Rattle.text.specs.Reading.{Word, Line, nth}
use Rattle.layout.specs.Grammar.{names_in, names_of}
use Rattle.layout.specs.Layout.{layout_of}
use Rattle.layout.specs.Plain.{IsEntry}
use Rattle.layout.proofs.ApartLaws.{length_names, names_at}
use Rattle.layout.proofs.ReadLaws.{layout_good}
use Rattle.rooms.specs.Rooms.{room_names}
use Rattle.caption.specs.Caption.{room_name}
use Rattle.layoutform.specs.Form.{entry_named, entry_of, parts_of_typed, parts_of}
use Rattle.layoutform.specs.Rewrite.{named, renamed_at, name_in, renamed_from, renamed}
use Rattle.layoutform.proofs.PartLaws.{some_name, same_lowered}
use Rattle.layoutform.proofs.ByName.{no_name, from_same, from_other}
use Rattle.layoutform.proofs.RenameLaws.{renamed_long, renamed_here, renamed_other}
use Rattle.sight.specs.Plain.{NamesRoom}
use Rattle.sight.proofs.BlockLaws.{named_room}
use Rattle.sight.proofs.SightLaws.{names_apart}
use Rattle.screens.specs.Alike.{OneRoom, behind, Alongside, AlikeLayouts}
use Rattle.screens.specs.WordForWord.{AlikeHook, WordForWord}
use Rattle.screens.proofs.NameLaws.{AlikeNames, names_one}
use Rattle.screens.proofs.LayoutForms.{map_past, named_self, name_in_parts}

-- ---- the parts of two lines that go on alike

-- what stands behind the first word tells the door and the numbers
cut_by : (n : ℕ) → 1 ≤ n → (w u : Word) (ws us : Line) → ws ≡ us → (drop 1 (take n (w ∷ ws)) ≡ drop 1 (take n (u ∷ us))) × (drop n (w ∷ ws) ≡ drop n (u ∷ us))
cut_by zero h w u ws us e = absurd (omega arith)
cut_by (suc n) h w u ws us e = (ap (take n) e, ap (drop n) e)

-- so an entry with the other's name is the other's entry
entry_by : (k : ℕ) (l m : Line) → 0 < length l → 0 < length m → behind l ≡ behind m → named (lowered (nth m 0)) (entry_of k l) ≡ entry_of k m
unfolding entry_of entry_named named
entry_by k [] m h g e = absurd (omega arith)
entry_by k (w ∷ ws) [] h g e = absurd (omega arith)
entry_by k (w ∷ ws) (u ∷ us) h g e = let (door, numbers) = cut_by (names_in k) (some_name k) w u ws us e in rw (door, numbers)

entry_name : (k : ℕ) (l : Line) → (entry_of k l).name ≡ lowered (nth l 0)
unfolding entry_of entry_named
entry_name k l = refl

some_words : (l : Line) → is_name (nth l 0) ≡ true → 0 < length l
some_words [] e = omega (arith, (name_long [] e).0)
some_words (w ∷ ws) e = omega arith

-- ---- hooks

-- a hook names a room of its layout
hook_room : (rooms : List Line) (l : Line) → IsEntry 5 rooms l → (i : ℕ) × NamesRoom (names_of rooms) (nth l 0) i
hook_room rooms l g =
    let h = g.hook refl in
    (h.at, record { name = g.name; inside = omega (arith, h.inside, length_names rooms); same = rw (names_at rooms h.at h.inside) h.same })

module _ (j : ℕ) (v w : List ℕ) (a : AlikeNames j (room_names v) (room_names w)) where
  abbrev ns : List Word
  ns = room_names v

  abbrev ms : List Word
  ms = room_names w

  -- two hooks that are alike name one room
  one_room : (l m : Line) (i k : ℕ) → NamesRoom ns (nth l 0) i → NamesRoom ms (nth m 0) k → AlikeHook ns ms l m → OneRoom ns ms l m × (behind l ≡ behind m)
  one_room l m i k r s (inr b) = b
  one_room l m i k r s (inl e) =
      let q : k ≡ i = sym (names_one j ns ms a (names_apart v) (names_apart w) (nth l 0) i k r (rw e s)) in
      (record { room = i; here = r; there = rw q at s }, ap behind e)

  -- a hook of another room has not room j's name
  other_name : (l : Line) (i : ℕ) → NamesRoom ns (nth l 0) i → i ≢ j → same_name (nth l 0) (get_or ns j []) ≡ false
  other_name l i r n =
      test (same_name (nth l 0) (get_or ns j []))
      (λ (e : same_name (nth l 0) (get_or ns j []) ≡ true).
      decided (dec_lt j (length ns))
      (λ (h : j < length ns). absurd (n (sym (named_room ns (names_apart v) (nth l 0) i r) ∙ named_room ns (names_apart v) (nth l 0) j (record { name = r.name; inside = h; same = e }))))
      (λ (h : j < length ns → ⊥). absurd (no_name (nth l 0) r.name (rw (get_or-eq_default ns [] {n = j} (omega arith)) at e))))
      (λ (e : same_name (nth l 0) (get_or ns j []) ≡ false). e)

  abbrev old : Word
  old = lowered (get_or ns j [])

  abbrev new : Word
  new = lowered (get_or ms j [])

  -- the second's parts are the first's, with the new name where it has the old one
  own_hook : (l m : Line) (b : OneRoom ns ms l m) → behind l ≡ behind m → b.room ≡ j → entry_of 5 m ≡ renamed_from old new (entry_of 5 l)
  own_hook l m b r q =
      let e : same_name (nth l 0) (get_or ns j []) ≡ true = rw q at b.here.same in
      let f : lowered (nth m 0) ≡ new = same_name_true (nth m 0) (get_or ms j []) (rw q at b.there.same) in
      sym (entry_by 5 l m (some_words l b.here.name) (some_words m b.there.name) r) ∙ ap (λ (x : Word). named x (entry_of 5 l)) f
      ∙ sym (from_same old new (entry_of 5 l) (rw (entry_name 5 l) (same_lowered (nth l 0) (get_or ns j []) ∙ e)))

  other_hook : (l m : Line) (b : OneRoom ns ms l m) → behind l ≡ behind m → b.room ≢ j → entry_of 5 m ≡ renamed_from old new (entry_of 5 l)
  other_hook l m b r n =
      let e : same_name (nth l 0) (get_or ns j []) ≡ false = other_name l b.room b.here n in
      let f : lowered (nth m 0) ≡ lowered (nth l 0) = same_name_true (nth m 0) _ b.there.same ∙ ap lowered (sym (a.others b.room b.here.inside n)) ∙ sym (same_name_true (nth l 0) _ b.here.same) in
      sym (entry_by 5 l m (some_words l b.here.name) (some_words m b.there.name) r) ∙ ap (λ (x : Word). named x (entry_of 5 l)) (f ∙ sym (entry_name 5 l)) ∙ named_self (entry_of 5 l)
      ∙ sym (from_other old new (entry_of 5 l) (rw (entry_name 5 l) (same_lowered (nth l 0) (get_or ns j []) ∙ e)))

  hook_with : (l m : Line) → IsEntry 5 (layout_of v).rooms l → IsEntry 5 (layout_of w).rooms m → AlikeHook ns ms l m → entry_of 5 m ≡ renamed_from old new (entry_of 5 l)
  unfolding room_names
  hook_with l m g h d =
      let (i, r) = hook_room (layout_of v).rooms l g in
      let (k, s) = hook_room (layout_of w).rooms m h in
      let (b, rest) = one_room l m i k r s d in
      decided (ℕ_discrete b.room j) (own_hook l m b rest) (other_hook l m b rest)

  hooks_with : (ls ks : List Line) → Each (IsEntry 5 (layout_of v).rooms) ls → Each (IsEntry 5 (layout_of w).rooms) ks → Alongside (AlikeHook ns ms) ls ks → map (entry_of 5) ks ≡ map (renamed_from old new) (map (entry_of 5) ls)
  hooks_with [] [] g h d = refl
  hooks_with [] (k ∷ ks) g h d = absurd d
  hooks_with (l ∷ ls) [] g h d = absurd d
  hooks_with (l ∷ ls) (k ∷ ks) (g, gs) (h, hs) (d, ds) = rw (hook_with l k g h d, hooks_with ls ks gs hs ds)

-- ---- rooms

module _ (j : ℕ) (v w : List ℕ) (a : WordForWord j v w) where
  abbrev es : List Line
  es = (layout_of v).rooms

  abbrev fs : List Line
  fs = (layout_of w).rooms

  word_names : AlikeNames j (room_names v) (room_names w)
  unfolding room_names
  word_names = record {
    long = length_names es ∙ a.rooms ∙ sym (length_names fs);
    others = λ i l n.
        let h : i < length es = omega (arith, length_names es) in
        names_at es i h ∙ ap (λ (e : Line). nth e 0) (a.others i h n) ∙ sym (names_at fs i (omega (arith, a.rooms)));
  }

  some_room : (s : List ℕ) (i : ℕ) → i < length (layout_of s).rooms → 0 < length (get_or (layout_of s).rooms i [])
  some_room s i l = some_words (get_or (layout_of s).rooms i []) (each_at (IsEntry 2 (layout_of s).rooms) [] (layout_of s).rooms (layout_good s).rooms i l).name

  own_room : j < length es → entry_of 2 (get_or fs j []) ≡ named (lowered (get_or (room_names w) j [])) (entry_of 2 (get_or es j []))
  unfolding room_names
  own_room l =
      let k : j < length fs = omega (arith, a.rooms) in
      sym (entry_by 2 (get_or es j []) (get_or fs j []) (some_room v j l) (some_room w j k) a.own) ∙ rw (names_at fs j k)

  rooms_with : map (entry_of 2) fs ≡ renamed_at (map (entry_of 2) es) j (lowered (get_or (room_names w) j []))
  rooms_with =
      let n = lowered (get_or (room_names w) j []) in
      let d = entry_of 2 [] in
      let x = length-map fs (entry_of 2) in
      let y = length-map es (entry_of 2) in
      ext_get_or d _ _ (omega (arith, x, y, a.rooms, renamed_long (map (entry_of 2) es) j n)) (λ i l.
      let h : i < length es = omega (arith, x, a.rooms) in
      decided (ℕ_discrete i j)
      (λ (q : i ≡ j).
      let m : j < length es = rw q at h in
      rw (q, renamed_here (map (entry_of 2) es) j n d (omega (arith, y)), map_past (entry_of 2) [] es j, map_past (entry_of 2) [] fs j) (own_room m))
      (λ (q : i ≢ j). rw (renamed_other (map (entry_of 2) es) j i n d q, map_past (entry_of 2) [] es i, map_past (entry_of 2) [] fs i) (ap (entry_of 2) (sym (a.others i h q)))))

  -- ---- layouts

  other_names : (i : ℕ) → i ≢ j → room_name v i ≡ room_name w i
  unfolding room_name
  other_names i n =
      decided (dec_lt i (length (room_names v))) (λ l. word_names.others i l n)
      (λ l. get_or-eq_default (room_names v) [] (omega arith) ∙ sym (get_or-eq_default (room_names w) [] (omega (arith, word_names.long))))

  parts_with : parts_of w ≡ renamed (parts_of v) j (room_name w j)
  unfolding parts_of parts_of_typed renamed room_name
  parts_with =
      let old : name_in (map (entry_of 2) es) j ≡ lowered (get_or (room_names v) j []) = name_in_parts v j in
      rw (old, rooms_with, hooks_with j v w word_names (layout_of v).hooks (layout_of w).hooks (layout_good v).hooks (layout_good w).hooks a.hooks, a.tracks, a.obstacles)

  -- the theorem
  pub word_for_word : AlikeLayouts j v w
  word_for_word = record { reads = a.reads; other_reads = a.other_reads; others = other_names; parts = parts_with }
