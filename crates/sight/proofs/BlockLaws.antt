-- An observer's lines, one after the other: what is accepted is told, and what is told is accepted. Assumes nothing.
use mathlib.Core.Path.{◌≡◌, refl, sym, ap, ◌∙◌}
use mathlib.Core.Bool.{true, false}
use mathlib.Core.List.{List, [], ◌∷◌, ◌++◌}
use Prim.Native.Nat.{ℕ, zero, suc, ◌-◌, ◌≤◌, ◌<◌}
use native.Mathlib.Omega.{arith}
use lib.Dec.{eqb, ltb}
use lib.ListN.{length, get_or, set, length-set, length-append}
use lib.Seq.{get_or-set_same, set-get_or, set-set}
use borrow.Author.Tests.{lt-ltb, eq-eqb, ne_eqb, eqb-true}
use Rattle.verdict.specs.Verdict.{accepted}
use Rattle.verdict.proofs.Bools.{test}
use Rattle.verdict.proofs.Lowest.{lowest_is}
use Rattle.names.specs.Name.{is_name, same_name}
use Rattle.letters.specs.Case.{lowered}
use Rattle.text.specs.Reading.{Word, Line, nth, spoken, read_lines}
use Rattle.names.proofs.NameLaws.{same_true}
use Rattle.text.proofs.ReadingLaws.{read_end}
use Rattle.text.proofs.AcceptLaws as accept
use Rattle.text.proofs.AcceptLaws.{Steady}
use Rattle.number.specs.Count.{value, is_count}
use Rattle.verdict.proofs.Each.{Each}
use Rattle.layout.proofs.ApartLaws.{Apart}
use Rattle.layout.proofs.Accepts.{Full}
use Rattle.sight.specs.Rows.{sees, with_mark}
use Rattle.sight.specs.Grammar.{State, Reading, room_of, room_fault, seen_fault, observer_fault, line_fault, moved_to, rows_behind, fault, next, finish, sight_grammar}
use Rattle.sight.specs.Plain.{NamesRoom, NameLines, Observer, Block}
use Rattle.sight.proofs.RoomLaws.{room_within, room_is}
use Rattle.sight.proofs.RowsGood.{seen_faults, observer_faults, room_known, room_new}
use Rattle.sight.proofs.FreshLaws.{Fresh, marks_of, fresh_once}

-- read with these rows
abbrev pub with : List ℕ → Reading
with rows = record { verdict = accepted; rows = rows }

-- where the reader is
abbrev pub look : ℕ → ℕ → ℕ → List ℕ → State
look o left told rows = record { at = record { observer = o; left = left; told = told }; rows = rows }

module _ (names : List Word) where
  -- the lines are accepted from a state on, with these rows in the end
  abbrev pub Accepts : State → List Line → List ℕ → Type 0
  Accepts st ls rows = (n : ℕ) → read_lines (sight_grammar names) n st ls ≡ with rows

  steady : Steady (sight_grammar names)
  unfolding fault next finish line_fault moved_to rows_behind
  steady = record { number = λ (r : Reading). r.verdict.number; stops = λ f n. refl; ends = ends; blank = λ st. (refl, refl) }
    where
      ends : (st : State) (n m : ℕ) → (finish st n).verdict.number ≡ 0 → finish st m ≡ finish st n
      ends st n m z =
          test (eqb st.at.left 0) (λ (e : eqb st.at.left 0 ≡ true). rw e) (λ (e : eqb st.at.left 0 ≡ false). absurd (omega (arith, rw e at z)))

  is_0 : (rows : List ℕ) → steady.number (with rows) ≡ 0
  unfolding steady
  is_0 rows = refl

  pub read_any : (ls : List Line) (n m : ℕ) (st : State) (rows : List ℕ) → read_lines (sight_grammar names) n st ls ≡ with rows → read_lines (sight_grammar names) m st ls ≡ with rows
  read_any ls n m st rows = accept.read_any (sight_grammar names) steady (with rows) (is_0 rows) ls n m st

  accepts_next : (st : State) (l : Line) (ls : List Line) (u : List ℕ) → fault names st l ≡ 0 → Accepts (next names st l) ls u → Accepts st (l ∷ ls) u
  accepts_next st l ls u = accept.accepts_next (sight_grammar names) steady (with u) (is_0 u) st l ls

  next_accepts : (st : State) (l : Line) (ls : List Line) (u : List ℕ) → Accepts st (l ∷ ls) u → (fault names st l ≡ 0) × Accepts (next names st l) ls u
  next_accepts st l ls u = accept.next_accepts (sight_grammar names) steady (with u) (is_0 u) st l ls

  pub accepts_spoken : (ls : List Line) (st : State) (u : List ℕ) → Accepts st (spoken ls) u → Accepts st ls u
  accepts_spoken ls st u = accept.accepts_spoken (sight_grammar names) steady (with u) (is_0 u) ls st

  pub spoken_accepts : (ls : List Line) (st : State) (u : List ℕ) → Accepts st ls u → Accepts st (spoken ls) u
  spoken_accepts ls st u = accept.spoken_accepts (sight_grammar names) steady (with u) (is_0 u) ls st

  pub accepts_end : (o told : ℕ) (rows : List ℕ) → Accepts (look o 0 told rows) [] rows
  unfolding finish
  accepts_end o told rows n = read_end (sight_grammar names) n (look o 0 told rows)

  pub end_accepts : (st : State) (u : List ℕ) → Accepts st [] u → (st.at.left ≡ 0) × (st.rows ≡ u)
  unfolding finish
  end_accepts st u h =
      let r = sym (read_end (sight_grammar names) 0 st) ∙ h 0 in
      test (eqb st.at.left 0) (λ (e : eqb st.at.left 0 ≡ true). (eqb-true st.at.left 0 e, ap (λ (x : Reading). x.rows) (rw e at r)))
      (λ (e : eqb st.at.left 0 ≡ false).
      let z : 38 ≡ 0 = ap (λ (x : Reading). x.verdict.number) (rw e at r) in
      absurd (omega arith))

  -- ---- the room of a name

  module _ (a : Apart names) where
    pub named_room : (w : Word) (j : ℕ) → NamesRoom names w j → room_of names w ≡ j
    unfolding same_name
    named_room w j r = room_is names w j a r.inside (same_true (lowered w) (lowered (get_or names j [])) r.same)

  pub room_named : (w : Word) → is_name w ≡ true → room_of names w < length names → NamesRoom names w (room_of names w)
  unfolding room_of
  room_named w n l = record { name = n; inside = l; same = (lowest_is _ (length names)).holds l }

  no_fault : (row room : ℕ) → sees row room ≡ false → room < length names → room_fault (length names) row room ≡ 0
  unfolding room_fault
  no_fault row room s l = rw (s, ne_eqb room (length names) (λ z. omega arith))

  -- ---- a line of a list, while some are to come

  module _ (o n told : ℕ) (rows : List ℕ) (w : Word) (ws : Line) where
    some : ltb 0 (suc n) ≡ true
    some = lt-ltb 0 (suc n) (omega arith)

    -- the row so far, and the line's room
    abbrev row : ℕ
    row = get_or rows o 0

    seen_fault_lem : fault names (look o (suc n) told rows) (w ∷ ws) ≡ seen_fault (length names) row (room_of names w) (w ∷ ws)
    unfolding fault line_fault
    seen_fault_lem = rw some

    seen_next : next names (look o (suc n) told rows) (w ∷ ws) ≡ look o n told (set rows o (with_mark row (room_of names w)))
    unfolding next moved_to rows_behind
    seen_next = let z : suc n - 1 ≡ n = omega arith in rw (some, z)

  -- told
  accepts_seen : (o n told : ℕ) (rows : List ℕ) (l : Line) (ls : List Line) (u : List ℕ) → Full l → Accepts (look o (suc n) told rows) (l ∷ ls) u
      → (j : ℕ) × (((length l ≡ 1) × NamesRoom names (nth l 0) j) × ((sees (get_or rows o 0) j ≡ false) × Accepts (look o n told (set rows o (with_mark (get_or rows o 0) j))) ls u))
  accepts_seen o n told rows [] ls u f h = absurd (f.some refl)
  accepts_seen o n told rows (w ∷ ws) ls u f h =
      let (z, r) = next_accepts (look o (suc n) told rows) (w ∷ ws) ls u h in
      let (one, (name, e)) = seen_faults (length names) (get_or rows o 0) (room_of names w) (w ∷ ws) (sym (seen_fault_lem o n told rows w ws) ∙ z) in
      let inside = room_known (length names) (get_or rows o 0) (room_of names w) (room_within names w) e in
      let new = room_new (length names) (get_or rows o 0) (room_of names w) (room_within names w) e in
      (room_of names w, ((one, room_named w name inside), (new, rw (seen_next o n told rows w ws) at r)))

  -- read
  seen_accepts : Apart names → (o n told : ℕ) (rows : List ℕ) (l : Line) (ls : List Line) (u : List ℕ) (j : ℕ) → length l ≡ 1 → NamesRoom names (nth l 0) j → sees (get_or rows o 0) j ≡ false → Accepts (look o n told (set rows o (with_mark (get_or rows o 0) j))) ls u → Accepts (look o (suc n) told rows) (l ∷ ls) u
  seen_accepts a o n told rows [] ls u j one g s h = absurd (omega arith)
  seen_accepts a o n told rows (w ∷ ws) ls u j one g s h =
      let e = named_room a w j g in
      accepts_next (look o (suc n) told rows) (w ∷ ws) ls u
      (seen_fault_lem o n told rows w ws ∙ rw e (right e))
      (rw (seen_next o n told rows w ws, e) h)
    where
      right : room_of names w ≡ j → seen_fault (length names) (get_or rows o 0) j (w ∷ ws) ≡ 0
      right e = unfold seen_fault in (rw (eq-eqb (length (w ∷ ws)) 1 one, g.name) (no_fault (get_or rows o 0) j s g.inside))

  -- ---- a list

  pub record Taken (o n told : ℕ) (rows : List ℕ) (ls : List Line) (u : List ℕ) : Type 0 where
    pub list : List ℕ
    pub own : List Line
    pub behind : List Line
    pub cut : ls ≡ own ++ behind
    pub many : length own ≡ n
    pub seen : NameLines names list own
    pub fresh : Fresh (get_or rows o 0) list
    pub full : Each Full behind
    pub goes_on : Accepts (look o 0 told (set rows o (marks_of (get_or rows o 0) list))) behind u

  pub accepts_list : (o n told : ℕ) (rows : List ℕ) (ls : List Line) (u : List ℕ) → o < length rows → Each Full ls → Accepts (look o n told rows) ls u → Taken o n told rows ls u
  unfolding marks_of
  accepts_list o zero told rows ls u b f h = record {
    list = [];
    own = [];
    behind = ls;
    cut = refl;
    many = refl;
    seen = tt;
    fresh = tt;
    full = f;
    goes_on = rw (set-get_or rows o 0) h;
  }
  accepts_list o (suc n) told rows [] u b f h = absurd (omega (arith, (end_accepts (look o (suc n) told rows) u h).0))
  accepts_list o (suc n) told rows (l ∷ ls) u b (f, fs) h =
      let (j, (g, (s, r))) = accepts_seen o n told rows l ls u f h in
      let m = with_mark (get_or rows o 0) j in
      let more = set rows o m in
      let q = accepts_list o n told more ls u (rw (length-set rows o m) b) fs r in
      let e : get_or more o 0 ≡ m = get_or-set_same rows o m 0 b in
      record {
        list = j ∷ q.list;
        own = l ∷ q.own;
        behind = q.behind;
        cut = ap (λ (x : List Line). l ∷ x) q.cut;
        many = ap suc q.many;
        seen = (g, q.seen);
        fresh = (s, rw e at q.fresh);
        full = q.full;
        goes_on = rw (e, set-set rows o m (marks_of m q.list)) at q.goes_on;
      }

  pub list_accepts : Apart names → (o told : ℕ) (rows : List ℕ) (list : List ℕ) (own ls : List Line) (u : List ℕ) → o < length rows → NameLines names list own → Fresh (get_or rows o 0) list → Accepts (look o 0 told (set rows o (marks_of (get_or rows o 0) list))) ls u → Accepts (look o (length own) told rows) (own ++ ls) u
  unfolding marks_of
  list_accepts a o told rows [] [] ls u b g f h = rw (set-get_or rows o 0) at h
  list_accepts a o told rows [] (l ∷ own) ls u b g f h = absurd g
  list_accepts a o told rows (j ∷ list) [] ls u b g f h = absurd g
  list_accepts a o told rows (j ∷ list) (l ∷ own) ls u b ((one, g), gs) (f, fs) h =
      let m = with_mark (get_or rows o 0) j in
      let e : get_or (set rows o m) o 0 ≡ m = get_or-set_same rows o m 0 b in
      seen_accepts a o (length own) told rows l (own ++ ls) u j one g f
      (list_accepts a o told (set rows o m) list own ls u (rw (length-set rows o m) b) gs (rw e fs) (rw (e, set-set rows o m (marks_of m list)) h))

  -- ---- an observer's line

  module _ (o told : ℕ) (rows : List ℕ) (w : Word) (ws : Line) where
    observer_fault_lem : fault names (look o 0 told rows) (w ∷ ws) ≡ observer_fault (length names) told (room_of names w) (w ∷ ws)
    unfolding fault line_fault
    observer_fault_lem = refl

    observer_next : next names (look o 0 told rows) (w ∷ ws) ≡ look (room_of names w) (value 0 (nth (w ∷ ws) 1)) (with_mark told (room_of names w)) rows
    unfolding next moved_to rows_behind
    observer_next = refl

  -- an observer and its list, and what stands behind them
  pub record Told (told : ℕ) (rows : List ℕ) (ls : List Line) (u : List ℕ) : Type 0 where
    pub observer : Observer
    pub own : List Line
    pub behind : List Line
    pub cut : ls ≡ own ++ behind
    pub block : Block names observer own
    pub new : sees told observer.room ≡ false
    pub fresh : Fresh (get_or rows observer.room 0) observer.list
    pub full : Each Full behind
    pub shorter : length behind < length ls
    pub goes_on : Accepts (look observer.room 0 (with_mark told observer.room) (set rows observer.room (marks_of (get_or rows observer.room 0) observer.list))) behind u

  pub accepts_block : (o told : ℕ) (rows : List ℕ) (l : Line) (ls : List Line) (u : List ℕ) → length names ≤ length rows → Full l → Each Full ls → Accepts (look o 0 told rows) (l ∷ ls) u → Told told rows (l ∷ ls) u
  accepts_block o told rows [] ls u b f fs h = absurd (f.some refl)
  accepts_block o told rows (w ∷ ws) ls u b f fs h =
      let (z, r) = next_accepts (look o 0 told rows) (w ∷ ws) ls u h in
      let (two, (name, (count, e))) = observer_faults (length names) told (room_of names w) (w ∷ ws) (sym (observer_fault_lem o told rows w ws) ∙ z) in
      let inside = room_known (length names) told (room_of names w) (room_within names w) e in
      let new = room_new (length names) told (room_of names w) (room_within names w) e in
      of two (room_named w name inside) count new (accepts_list (room_of names w) (value 0 (nth (w ∷ ws) 1)) (with_mark told (room_of names w)) rows ls u (omega arith) fs (rw (observer_next o told rows w ws) at r))
    where
      of : length (w ∷ ws) ≡ 2 → NamesRoom names w (room_of names w) → is_count (nth (w ∷ ws) 1) ≡ true → sees told (room_of names w) ≡ false → Taken (room_of names w) (value 0 (nth (w ∷ ws) 1)) (with_mark told (room_of names w)) rows ls u → Told told rows ((w ∷ ws) ∷ ls) u
      of two named count new q = record {
        observer = record { room = room_of names w; list = q.list };
        own = (w ∷ ws) ∷ q.own;
        behind = q.behind;
        cut = ap (λ (x : List Line). (w ∷ ws) ∷ x) q.cut;
        block = record { head = w ∷ ws; list = q.own; spelled = refl; two = two; observer = named; right = count; told = sym q.many; seen = q.seen; once = fresh_once q.list _ q.fresh };
        new = new;
        fresh = q.fresh;
        full = q.full;
        shorter = omega (arith, ap length q.cut, length-append q.own q.behind);
        goes_on = q.goes_on;
      }

  pub block_accepts : Apart names → (o told : ℕ) (rows : List ℕ) (b : Observer) (own ls : List Line) (u : List ℕ) → length names ≤ length rows → Block names b own → sees told b.room ≡ false → Fresh (get_or rows b.room 0) b.list → Accepts (look b.room 0 (with_mark told b.room) (set rows b.room (marks_of (get_or rows b.room 0) b.list))) ls u → Accepts (look o 0 told rows) (own ++ ls) u
  block_accepts a o told rows b own ls u w g n f h = rw g.spelled (head_accepts g.head g.two g.observer g.right g.told)
    where
      list : Accepts (look b.room (length g.list) (with_mark told b.room) rows) (g.list ++ ls) u
      list = list_accepts a b.room (with_mark told b.room) rows b.list g.list ls u (omega (arith, g.observer.inside)) g.seen f h

      head_accepts : (l : Line) → length l ≡ 2 → NamesRoom names (nth l 0) b.room → is_count (nth l 1) ≡ true → value 0 (nth l 1) ≡ length g.list → Accepts (look o 0 told rows) (l ∷ (g.list ++ ls)) u
      head_accepts [] two r c t = absurd (omega arith)
      head_accepts (v ∷ vs) two r c t =
          let e = named_room a v b.room r in
          let z : observer_fault (length names) told b.room (v ∷ vs) ≡ 0 = unfold observer_fault in (rw (eq-eqb (length (v ∷ vs)) 2 two, r.name, c) (no_fault told b.room n r.inside)) in
          accepts_next (look o 0 told rows) (v ∷ vs) (g.list ++ ls) u (observer_fault_lem o told rows v vs ∙ rw e z) (rw (observer_next o told rows v vs, e, t) list)
