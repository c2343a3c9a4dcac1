-- Visibility that is alike but for one name: every row and every seen count is the same. Assumes nothing.
use mathlib.Core.Path.{◌≡◌, refl, sym, ap, ◌∙◌}
use mathlib.Core.Logic.{inl, inr}
use mathlib.Core.Bool.{true, false}
use mathlib.Core.List.{List, [], ◌∷◌, map}
use Prim.Native.Nat.{ℕ}
use native.Mathlib.Omega.{arith}
use lib.Dec.{eqb, ltb}
use lib.ListN.{length, get_or}
use Rattle.verdict.specs.Verdict.{accepted}
use Rattle.verdict.proofs.Bools.{test}
use Rattle.names.proofs.NameLaws.{name_long}
use Rattle.number.specs.Count.{value}
use Rattle.text.specs.Reading.{Word, Line, nth, spoken, read_lines}
use Rattle.text.specs.Written.{word_lines}
use Rattle.layout.proofs.ApartLaws.{Apart}
use Rattle.rooms.specs.Rooms.{room_names}
use Rattle.sight.specs.Grammar.{room_of, line_fault, moved_to, rows_behind, State, Reading, start, finish, fault, next, sight_grammar}
use Rattle.sight.specs.Plain.{NamesRoom}
use Rattle.sight.specs.Sight.{grammar, sight_verdict, rows_of, row_answer}
use Rattle.sight.proofs.RoomLaws.{room_within}
use Rattle.sight.proofs.RowsGood.{grammar_sane, seen_faults, observer_faults, room_known}
use Rattle.sight.proofs.SightLaws.{names_apart, sight_passed, sight_proper, rows_accepted}
use Rattle.sight.proofs.BlockLaws.{with, Accepts, read_any, spoken_accepts, named_room, room_named}
use Rattle.screens.specs.Alike.{AlikeLine, AlikeSights}
use Rattle.screens.proofs.NameLaws.{AlikeNames, alike_names, names_one}
use Rattle.screens.proofs.ReadingLaws.{Twins, read_twins}

-- ---- a line

-- the first word of a line without fault names a room
names_some : (names : List Word) (st : State) (w : Word) (ws : Line) → fault names st (w ∷ ws) ≡ 0 → NamesRoom names w (room_of names w)
unfolding fault line_fault
names_some names st w ws e =
    let n = length names in
    let room = room_of names w in
    test (ltb 0 st.at.left)
    (λ (h : ltb 0 st.at.left ≡ true).
    let row = get_or st.rows st.at.observer 0 in
    let f = seen_faults n row room (w ∷ ws) (rw h at e) in
    room_named names w f.1.0 (room_known n row room (room_within names w) f.1.1))
    (λ (h : ltb 0 st.at.left ≡ false).
    let f = observer_faults n st.at.told room (w ∷ ws) (rw h at e) in
    room_named names w f.1.0 (room_known n st.at.told room (room_within names w) f.1.1.1))

-- the first count of a list of words, past the last too
count_first : (ws : Line) → get_or (map (value 0) ws) 0 0 ≡ value 0 (nth ws 0)
count_first [] = unfold value in refl
count_first (w ∷ ws) = refl

-- the state behind a line is that behind one that names the same room and has the same counts behind its name
next_by : (ns ms : List Word) (st : State) (w u : Word) (ws us : Line) → room_of ns w ≡ room_of ms u → map (value 0) ws ≡ map (value 0) us → next ns st (w ∷ ws) ≡ next ms st (u ∷ us)
unfolding next moved_to rows_behind
next_by ns ms st w u ws us r e =
    let c : value 0 (nth ws 0) ≡ value 0 (nth us 0) = sym (count_first ws) ∙ ap (λ (ns : List ℕ). get_or ns 0 0) e ∙ count_first us in
    rw (r, c)

-- a line of no words names no room
no_words : (ns : List Word) (j : ℕ) → NamesRoom ns [] j → ⊥
no_words ns j r = omega (arith, (name_long [] r.name).0)

module _ (j : ℕ) (ns ms : List Word) (a : AlikeNames j ns ms) (p : Apart ns) (q : Apart ms) where
  -- two such lines without fault lead to one state
  next_alike : (st : State) (l m : Line) → AlikeLine ns ms l m → fault ns st l ≡ 0 → fault ms st m ≡ 0 → next ns st l ≡ next ms st m
  next_alike st [] m (inl e) y z = rw (← e) (unfold next moved_to rows_behind in refl)
  next_alike st (w ∷ ws) m (inl e) y z =
      let f : fault ms st (w ∷ ws) ≡ 0 = rw e z in
      rw (← e) (next_by ns ms st w w ws ws (names_one j ns ms a p q w (room_of ns w) (room_of ms w) (names_some ns st w ws y) (names_some ms st w ws f)) refl)
  next_alike st [] m (inr (b, c)) y z = absurd (no_words ns b.room b.here)
  next_alike st (w ∷ ws) [] (inr (b, c)) y z = absurd (no_words ms b.room b.there)
  next_alike st (w ∷ ws) (u ∷ us) (inr (b, c)) y z =
      next_by ns ms st w u ws us (named_room ns p w b.room b.here ∙ sym (named_room ms q u b.room b.there)) c

  twins : Twins (sight_grammar ns) (sight_grammar ms) (λ (r : Reading). r.verdict.number) (AlikeLine ns ms)
  unfolding finish
  twins = record { stops = λ f n. refl; other_stops = λ f n. refl; ends = ends; goes_on = next_alike }
    where
      ends : (st : State) (n k : ℕ) → (finish st n).verdict.number ≡ 0 → (finish st k).verdict.number ≡ 0 → finish st n ≡ finish st k
      ends st n k y z =
          test (eqb st.at.left 0) (λ (e : eqb st.at.left 0 ≡ true). rw e) (λ (e : eqb st.at.left 0 ≡ false). absurd (omega (arith, rw e at z)))

-- ---- a text

-- accepted visibility, read without its blank lines
spoken_read : (layout s : List ℕ) → (sight_verdict layout s).number ≡ 0 → read_lines (sight_grammar (room_names layout)) 0 start (spoken (word_lines s)) ≡ with (rows_of layout s)
unfolding grammar
spoken_read layout s z =
    let names = room_names layout in
    let v : (grammar names s).verdict ≡ accepted = (grammar_sane names s).at_0 (sight_passed layout s z).1.1 in
    let e : grammar names s ≡ with (rows_of layout s) = rw (rows_accepted layout s z, ← v) in
    let h : Accepts names start (word_lines s) (rows_of layout s) = λ n. read_any names (word_lines s) 0 n start (rows_of layout s) e in
    spoken_accepts names (word_lines s) start (rows_of layout s) h 0

module _ (j : ℕ) (v w s t : List ℕ) (a : AlikeSights j v w s t) where
  pub rows_alike : rows_of v s ≡ rows_of w t
  rows_alike =
      let x = spoken_read v s a.reads in
      let u = spoken_read w t a.other_reads in
      let k = twins j (room_names v) (room_names w) (alike_names j v w a.layouts) (names_apart v) (names_apart w) in
      ap (λ (r : Reading). r.rows)
      (sym x ∙ read_twins _ _ _ _ k (spoken (word_lines s)) (spoken (word_lines t)) a.lines 0 0 start (ap (λ (r : Reading). r.verdict.number) x) (ap (λ (r : Reading). r.verdict.number) u) ∙ u)

  verdicts_alike : sight_verdict v s ≡ sight_verdict w t
  verdicts_alike = (sight_proper v s).at_0 a.reads ∙ sym ((sight_proper w t).at_0 a.other_reads)

  -- every row and every seen count, for each number of a room and for a number that no room has
  pub row_alike : (i : ℕ) → row_answer v s i ≡ row_answer w t i
  unfolding row_answer
  row_alike i = rw (verdicts_alike, rows_alike)
