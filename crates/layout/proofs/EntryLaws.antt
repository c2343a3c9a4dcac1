-- The entries of a section, one after the other, and the line that opens a section: what is accepted is told, and what is told is accepted.
-- Assumes nothing.
use mathlib.Core.Path.{◌≡◌, refl, sym, ap, ◌∙◌}
use mathlib.Core.Bool.{Bool, true, false, cond}
use mathlib.Core.List.{List, [], ◌∷◌, ◌++◌, append_assoc, append-nil}
use Prim.Native.Nat.{ℕ, zero, suc, ◌-◌, ◌≤◌, ◌<◌}
use native.Mathlib.Omega.{arith}
use lib.Dec.{eqb, ltb}
use lib.ListN.{length, get_or, drop}
use borrow.Author.Tests.{lt-ltb, le-leb, lt-leb, eqb-true, ne_eqb}
use Rattle.verdict.proofs.Bools.{test}
use Rattle.verdict.proofs.Lowest.{some_under}
use Rattle.names.specs.Name.{same, same_name}
use Rattle.text.specs.Reading.{Word, Line, nth}
use Rattle.names.proofs.NameLaws.{same_true}
use Rattle.number.specs.Count.{value}
use Rattle.layout.specs.Grammar.{Typed, State, section_of, follows, opens, with_entry, names_of, doors_of, known, names_in, door_fault, hook_fault, name_fault, entry_fault, open_fault, fault, next, beginlayout, roomcount, trackcount, obstaclecount, doorhookcount, donelayout}
use Rattle.layout.specs.Plain.{IsEntry, IsHook}
use Rattle.verdict.proofs.Each.{Each, each_as}
use Rattle.layout.proofs.ApartLaws.{Apart, apart_before, words_join, length_names, names_at}
use Rattle.layout.proofs.EntryWords.{some_words, are_numbers, numbers_from}
use Rattle.layout.proofs.GoodLaws.{entry_good}
use Rattle.layout.proofs.Accepts.{Accepts, accepts_next, next_accepts, end_accepts, Full}

-- where the reader is
abbrev pub at : ℕ → ℕ → Typed → State
at k left t = record { sect = k; left = left; typed = t }

-- ---- entries more, in section k

abbrev pub with_entries : ℕ → Typed → List Line → Typed
with_entries k t es = record {
  rooms = cond (eqb k 2) (t.rooms ++ es) t.rooms;
  tracks = cond (eqb k 3) (t.tracks ++ es) t.tracks;
  obstacles = cond (eqb k 4) (t.obstacles ++ es) t.obstacles;
  hooks = cond (eqb k 5) (t.hooks ++ es) t.hooks;
}

column_none : (q : Bool) (es : List Line) → cond q (es ++ []) es ≡ es
column_none true es = append-nil es
column_none false es = refl

column_more : (q : Bool) (es : List Line) (e : Line) (more : List Line) → cond q (cond q (es ++ (e ∷ [])) es ++ more) (cond q (es ++ (e ∷ [])) es) ≡ cond q (es ++ (e ∷ more)) es
column_more true es e more = append_assoc es (e ∷ []) more
column_more false es e more = refl

pub entries_none : (k : ℕ) (t : Typed) → with_entries k t [] ≡ t
entries_none k t = rw (column_none (eqb k 2) t.rooms, column_none (eqb k 3) t.tracks, column_none (eqb k 4) t.obstacles, column_none (eqb k 5) t.hooks)

entries_more : (k : ℕ) (t : Typed) (e : Line) (es : List Line) → with_entries k (with_entry k t e) es ≡ with_entries k t (e ∷ es)
unfolding with_entry
entries_more k t e es = rw (column_more (eqb k 2) t.rooms e es, column_more (eqb k 3) t.tracks e es, column_more (eqb k 4) t.obstacles e es, column_more (eqb k 5) t.hooks e es)

-- ---- one entry

-- a hook has no fault where no hook has its door
known_by : (rooms : List Line) (w : Word) (i : ℕ) → i < length rooms → same_name w (nth (get_or rooms i []) 0) ≡ true → known w (names_of rooms) ≡ true
unfolding known
known_by rooms w i l s =
    some_under (λ (j : ℕ). same_name w (get_or (names_of rooms) j [])) (length (names_of rooms)) i (omega (arith, length_names rooms)) (rw (names_at rooms i l) s)

hook_right : (t : Typed) (l : Line) → IsHook t.rooms l → known (nth l 1) (doors_of t.hooks) ≡ false → hook_fault t l ≡ 0
unfolding hook_fault door_fault
hook_right t l g new = rw (known_by t.rooms (nth l 0) g.at g.inside g.same, g.door, new)

-- the entry's line has none where no room has its name
module _ (st : State) (l : Line) (g : IsEntry st.sect st.typed.rooms l) (new : eqb st.sect 2 ≡ true → known (nth l 0) (names_of st.typed.rooms) ≡ false) (door : eqb st.sect 5 ≡ true → known (nth l 1) (doors_of st.typed.hooks) ≡ false) where
  names_right : name_fault st l ≡ 0
  unfolding name_fault
  names_right =
      test (eqb st.sect 5)
      (λ (h : eqb st.sect 5 ≡ true). rw (g.name, h) (hook_right st.typed l (g.hook (eqb-true st.sect 5 h)) (door h)))
      (λ (h : eqb st.sect 5 ≡ false). rw (g.name, h))

  entry_right : entry_fault st l ≡ 0
  unfolding entry_fault
  entry_right =
      let n = are_numbers (drop (names_in st.sect) l) (numbers_from (names_in st.sect) l g.number) in
      test (eqb st.sect 2) (λ (h : eqb st.sect 2 ≡ true). rw (g.long, names_right, n, h, new h))
      (λ (h : eqb st.sect 2 ≡ false). rw (g.long, names_right, n, h))

-- hooks leave the rooms as they are
rooms_stay : (k : ℕ) (t : Typed) (e : Line) → k ≡ 5 → (with_entry k t e).rooms ≡ t.rooms
unfolding with_entry
rooms_stay k t e h = rw (ne_eqb k 2 (λ z. omega arith))

other_rooms : (k : ℕ) (a b : List Line) (l : Line) → (k ≡ 5 → a ≡ b) → IsEntry k a l → IsEntry k b l
other_rooms k a b l same g = record { long = g.long; name = g.name; number = g.number; hook = λ h. rw (same h) at (g.hook h) }

entries_on : (k : ℕ) (t : Typed) (e : Line) (es : List Line) → Each (IsEntry k t.rooms) es → Each (IsEntry k (with_entry k t e).rooms) es
entries_on k t e = each_as _ _ (λ l. other_rooms k _ _ l (λ h. sym (rooms_stay k t e h)))

entries_back : (k : ℕ) (t : Typed) (e : Line) (es : List Line) → Each (IsEntry k (with_entry k t e).rooms) es → Each (IsEntry k t.rooms) es
entries_back k t e = each_as _ _ (λ l. other_rooms k _ _ l (rooms_stay k t e))

-- while entries are to come, a line is one
module _ (k n : ℕ) (t : Typed) (w : Word) (ws : Line) where
  some : ltb 0 (suc n) ≡ true
  some = lt-ltb 0 (suc n) (omega arith)

  fault_is : fault (at k (suc n) t) (w ∷ ws) ≡ entry_fault (at k (suc n) t) (w ∷ ws)
  unfolding fault
  fault_is = rw some

  next_is : next (at k (suc n) t) (w ∷ ws) ≡ at k n (with_entry k t (w ∷ ws))
  unfolding next
  next_is = let z : suc n - 1 ≡ n = omega arith in rw (some, z)

entry_accepts : (k n : ℕ) (t : Typed) (l : Line) (ls : List Line) (u : Typed) → IsEntry k t.rooms l → (eqb k 2 ≡ true → known (nth l 0) (names_of t.rooms) ≡ false) → (eqb k 5 ≡ true → known (nth l 1) (doors_of t.hooks) ≡ false) → Accepts (at k n (with_entry k t l)) ls u → Accepts (at k (suc n) t) (l ∷ ls) u
entry_accepts k n t [] ls u g new door h = absurd (some_words k g.long)
entry_accepts k n t (w ∷ ws) ls u g new door h =
    accepts_next (at k (suc n) t) (w ∷ ws) ls u (fault_is k n t w ws ∙ entry_right (at k (suc n) t) (w ∷ ws) g new door) (rw (next_is k n t w ws) h)

accepts_entry : (k n : ℕ) (t : Typed) (l : Line) (ls : List Line) (u : Typed) → Full l → Accepts (at k (suc n) t) (l ∷ ls) u → IsEntry k t.rooms l × Accepts (at k n (with_entry k t l)) ls u
accepts_entry k n t [] ls u f h = absurd (f.some refl)
accepts_entry k n t (w ∷ ws) ls u f h =
    let (z, r) = next_accepts (at k (suc n) t) (w ∷ ws) ls u h in
    let e = sym (fault_is k n t w ws) ∙ z in
    (entry_good (at k (suc n) t) (w ∷ ws) e, rw (next_is k n t w ws) at r)

-- ---- the entries of a section, one after the other; of rooms, none has the name of one before it, of hooks none its door

abbrev pub Fresh : ℕ → Typed → List Line → Type 0
Fresh k t es = (eqb k 2 ≡ true → Apart (names_of (t.rooms ++ es))) × (eqb k 5 ≡ true → Apart (doors_of (t.hooks ++ es)))

names_join : (done : List Line) (e : Line) (es : List Line) → names_of (done ++ (e ∷ es)) ≡ names_of done ++ (nth e 0 ∷ names_of es)
unfolding names_of
names_join done e es = words_join 0 done e es

doors_join : (done : List Line) (e : Line) (es : List Line) → doors_of (done ++ (e ∷ es)) ≡ doors_of done ++ (nth e 1 ∷ doors_of es)
unfolding doors_of
doors_join done e es = words_join 1 done e es

fresh_next : (k : ℕ) (t : Typed) (e : Line) (es : List Line) → Fresh k t (e ∷ es) → Fresh k (with_entry k t e) es
unfolding with_entry
fresh_next k t e es (f, d) = (λ h. rw (h, append_assoc t.rooms (e ∷ []) es) (f h), λ h. rw (h, append_assoc t.hooks (e ∷ []) es) (d h))

pub entries_accept : (k : ℕ) (t : Typed) (es ls : List Line) (u : Typed) → Each (IsEntry k t.rooms) es → Fresh k t es → Accepts (at k 0 (with_entries k t es)) ls u → Accepts (at k (length es) t) (es ++ ls) u
entries_accept k t [] ls u g f h = rw (entries_none k t) at h
entries_accept k t (e ∷ es) ls u (g, gs) f h =
    entry_accepts k (length es) t e (es ++ ls) u g (λ q. apart_before (names_of t.rooms) (nth e 0) (names_of es) (rw (names_join t.rooms e es) at (f.0 q)))
    (λ q. apart_before (doors_of t.hooks) (nth e 1) (doors_of es) (rw (doors_join t.hooks e es) at (f.1 q)))
    (entries_accept k (with_entry k t e) es ls u (entries_on k t e es gs) (fresh_next k t e es f) (rw (entries_more k t e es) h))

-- the lines of n entries, and those behind them
pub record Taken (k n : ℕ) (t : Typed) (ls : List Line) (u : Typed) : Type 0 where
  pub entries : List Line
  pub behind : List Line
  pub cut : ls ≡ entries ++ behind
  pub many : length entries ≡ n
  pub right : Each (IsEntry k t.rooms) entries
  pub full : Each Full behind
  pub goes_on : Accepts (at k 0 (with_entries k t entries)) behind u

pub accepts_entries : (k n : ℕ) (t : Typed) (ls : List Line) (u : Typed) → k < 6 → Each Full ls → Accepts (at k n t) ls u → Taken k n t ls u
accepts_entries k zero t ls u b f h = record {
  entries = [];
  behind = ls;
  cut = refl;
  many = refl;
  right = tt;
  full = f;
  goes_on = rw (entries_none k t) h;
}
accepts_entries k (suc n) t [] u b f h = let z = (end_accepts (at k (suc n) t) u h).0 in absurd (omega arith)
accepts_entries k (suc n) t (l ∷ ls) u b (f, fs) h =
    let (g, r) = accepts_entry k n t l ls u f h in
    let q = accepts_entries k n (with_entry k t l) ls u b fs r in
    record {
      entries = l ∷ q.entries;
      behind = q.behind;
      cut = ap (λ (x : List Line). l ∷ x) q.cut;
      many = ap suc q.many;
      right = (g, entries_back k t l q.entries q.right);
      full = q.full;
      goes_on = rw (entries_more k t l q.entries) at q.goes_on;
    }

-- ---- keywords

-- the keyword of section k
abbrev pub key_of : ℕ → Word
key_of k =
    cond (eqb k 1) beginlayout (cond (eqb k 2) roomcount (cond (eqb k 3) trackcount (cond (eqb k 4) obstaclecount (cond (eqb k 5) doorhookcount donelayout))))

pub section_key : (w : Word) (k : ℕ) → section_of w ≡ k → (k ≡ 0 → ⊥) → w ≡ key_of k
unfolding section_of
section_key w k e n =
    test (same w beginlayout) (λ (h : same w beginlayout ≡ true). told 1 (rw h at e) (same_true w beginlayout h))
    (λ h1. test (same w roomcount) (λ (h : same w roomcount ≡ true). told 2 (rw (h1, h) at e) (same_true w roomcount h))
    (λ h2. test (same w trackcount) (λ (h : same w trackcount ≡ true). told 3 (rw (h1, h2, h) at e) (same_true w trackcount h))
    (λ h3. test (same w obstaclecount) (λ (h : same w obstaclecount ≡ true). told 4 (rw (h1, h2, h3, h) at e) (same_true w obstaclecount h))
    (λ h4. test (same w doorhookcount) (λ (h : same w doorhookcount ≡ true). told 5 (rw (h1, h2, h3, h4, h) at e) (same_true w doorhookcount h))
    (λ h5. test (same w donelayout) (λ (h : same w donelayout ≡ true). told 6 (rw (h1, h2, h3, h4, h5, h) at e) (same_true w donelayout h))
    (λ h6. absurd (n (sym (rw (h1, h2, h3, h4, h5, h6) at e)))))))))
  where
    told : (j : ℕ) → j ≡ k → w ≡ key_of j → w ≡ key_of k
    told j z h = rw z at h

pub opens_is : (sect : ℕ) (w : Word) (k : ℕ) → opens sect w ≡ k → (k ≡ 0 → ⊥) → (section_of w ≡ k) × (follows sect k ≡ true)
unfolding opens
opens_is sect w k e n =
    test (follows sect (section_of w)) (λ (h : follows sect (section_of w) ≡ true). let z : section_of w ≡ k = rw h at e in (z, rw z at h))
    (λ (h : follows sect (section_of w) ≡ false). absurd (n (sym (rw h at e))))

pub opens_by : (sect : ℕ) (w : Word) (k : ℕ) → section_of w ≡ k → follows sect k ≡ true → opens sect w ≡ k
unfolding opens
opens_by sect w k e h = rw (e, h)

-- behind the rooms, every later section may follow
pub follows_by : (sect k : ℕ) → 2 ≤ sect → sect < k → follows sect k ≡ true
unfolding follows
follows_by sect k a b = rw (lt-leb k 2 (omega arith), le-leb 2 sect a, lt-ltb sect k b)

-- ---- a line that opens a section

module _ (sect : ℕ) (t : Typed) (w : Word) (ws : Line) (ls : List Line) (u : Typed) where
  -- what it leaves to come
  abbrev opened : State
  opened = at (opens sect w) (value 0 (nth (w ∷ ws) 1)) t

  pub open_accepts : open_fault (opens sect w) (w ∷ ws) ≡ 0 → Accepts opened ls u → Accepts (at sect 0 t) ((w ∷ ws) ∷ ls) u
  unfolding fault next
  open_accepts f h = accepts_next (at sect 0 t) (w ∷ ws) ls u f h

  pub accepts_open : Accepts (at sect 0 t) ((w ∷ ws) ∷ ls) u → (open_fault (opens sect w) (w ∷ ws) ≡ 0) × Accepts opened ls u
  unfolding fault next
  accepts_open h = next_accepts (at sect 0 t) (w ∷ ws) ls u h
