-- A layout is accepted exactly where its lines are those that the paper tells, and with their entries. Assumes nothing.
use mathlib.Core.Path.{◌≡◌, refl, sym, ap, ◌∙◌}
use mathlib.Core.Bool.{Bool, true, false, cond}
use mathlib.Core.List.{List, [], ◌∷◌}
use Prim.Native.Nat.{ℕ, suc, ◌≤◌, ◌<◌}
use native.Mathlib.Omega.{arith}
use native.Mathlib.Decide.{ℕ_discrete}
use lib.Dec.{leb, ltb}
use lib.ListN.{length, get_or}
use borrow.Author.Tests.{eqb-true, lt-leb}
use Rattle.verdict.specs.declared.Answer.{Answer}
use Rattle.verdict.specs.Verdict.{accepted}
use Rattle.verdict.proofs.Bools.{clash, test, decided, and_true}
use Rattle.names.specs.Name.{same, same_name}
use Rattle.text.specs.Sound.{rules31to32}
use Rattle.text.specs.Written.{word_lines}
use Rattle.text.specs.Reading.{Word, Line, nth, spoken}
use Rattle.number.specs.Count.{value}
use Rattle.layout.specs.Grammar.{Typed, nothing, start, Reading, section_of, follows, opens, words_at, names_of, doors_of, words_of, open_fault, beginlayout, roomcount, trackcount, obstaclecount, doorhookcount, donelayout}
use Rattle.layout.specs.Layout.{grammar, layout_verdict, layout_of}
use Rattle.layout.specs.Plain.{IsEntry, Section, Optional, Spelled}
use Rattle.verdict.proofs.Each.{Each}
use Rattle.layout.proofs.ApartLaws.{Apart, words_long, words_here}
use Rattle.layout.proofs.GoodLaws.{any_rooms, open_some, open_words, opens_later, good_start}
use Rattle.layout.proofs.ReadLaws.{read_sane, layout_sound, verdict_sound, verdict_unsound, grammar_sane}
use Rattle.layout.proofs.Accepts.{with, Accepts, read_any, accepts_end, end_accepts, accepts_spoken, spoken_accepts, spoken_full, Full}
use Rattle.layout.proofs.EntryLaws.{at, with_entries, key_of, section_key, opens_is, opens_by, open_accepts, accepts_open}
use Rattle.layout.proofs.SectionLaws.{section_read, section_told, Cut, optional_told, optional_read}

-- ---- the first two sections and the last are not left out

follows_early : (sect k : ℕ) → sect < 2 → follows sect k ≡ true → k ≡ suc sect
unfolding follows
follows_early sect k a e =
    test (leb k 2) (λ (h : leb k 2 ≡ true). sym (eqb-true (suc sect) k (rw h at e)))
    (λ (h : leb k 2 ≡ false). clash (and_true (leb 2 sect) (ltb sect k) (rw h at e)).0 (lt-leb 2 sect a))

section_most : (w : Word) → section_of w ≤ 6
unfolding section_of
section_most w =
    let go : (q : Bool) (n m : ℕ) → n ≤ 6 → m ≤ 6 → cond q n m ≤ 6 = bound in
    go (same w beginlayout) _ _ (omega arith)
    (go (same w roomcount) _ _ (omega arith)
    (go (same w trackcount) _ _ (omega arith) (go (same w obstaclecount) _ _ (omega arith) (go (same w doorhookcount) _ _ (omega arith) (go (same w donelayout) _ _ (omega arith) (omega arith))))))
  where
    bound : (q : Bool) (n m : ℕ) → n ≤ 6 → m ≤ 6 → cond q n m ≤ 6
    bound true n m a b = a
    bound false n m a b = b

-- what a line opens
module _ (sect : ℕ) (t : Typed) (w : Word) (ws : Line) (ls : List Line) (u : Typed) (h : Accepts (at sect 0 t) ((w ∷ ws) ∷ ls) u) where
  pub no_fault : open_fault (opens sect w) (w ∷ ws) ≡ 0
  no_fault = (accepts_open sect t w ws ls u h).0

  pub early : sect < 2 → opens sect w ≡ suc sect
  early a = follows_early sect (opens sect w) a (opens_is sect w (opens sect w) refl (open_some _ (w ∷ ws) no_fault)).1

  pub last : 5 ≤ sect → (opens sect w ≡ 6) × (sect ≡ 5)
  last a =
      let l = opens_later sect w (open_some _ (w ∷ ws) no_fault) in
      let e = (opens_is sect w (opens sect w) refl (open_some _ (w ∷ ws) no_fault)).0 in
      let m = section_most w in
      (omega (arith, l, e, m), omega (arith, l, e, m))

  -- a keyword with no count
  pub alone : (j : ℕ) → opens sect w ≡ j → words_of j ≡ 1 → ((w ∷ ws) ≡ key_of j ∷ []) × Accepts (at j 0 t) ls u
  unfolding value
  alone j o one =
      let (z, r) = rw o at (accepts_open sect t w ws ls u h) in
      let key = section_key w j (opens_is sect w j o (open_some j (w ∷ ws) z)).0 (open_some j (w ∷ ws) z) in
      let none = single w ws (open_words j (w ∷ ws) z ∙ one) in
      (rw (none, key), rw none at r)
    where
      single : (w : Word) (ws : Line) → length (w ∷ ws) ≡ 1 → ws ≡ []
      single w [] e = refl
      single w (v ∷ ws) e = absurd (omega arith)

-- ---- told of what is accepted

last_told : (t : Typed) (ls : List Line) (u : Typed) → Each Full ls → Accepts (at 5 0 t) ls u → (ls ≡ (donelayout ∷ []) ∷ []) × (t ≡ u)
unfolding words_of
last_told t [] u f h = let z : ◌≡◌ {A = ℕ} 5 6 = (end_accepts (at 5 0 t) u h).0 in absurd (omega arith)
last_told t ([] ∷ ls) u (f, fs) h = absurd (f.some refl)
last_told t ((w ∷ ws) ∷ ls) u (f, fs) h =
    let (e, r) = alone 5 t w ws ls u h 6 (last 5 t w ws ls u h (omega arith)).0 refl in
    let (none, same) = over ls fs r in
    (rw (e, none), same)
  where
    over : (ls : List Line) → Each Full ls → Accepts (at 6 0 t) ls u → (ls ≡ []) × (t ≡ u)
    over [] g r = (refl, (end_accepts (at 6 0 t) u r).1)
    over ([] ∷ ls) (g, gs) r = absurd (g.some refl)
    over ((v ∷ vs) ∷ ls) (g, gs) r = absurd (omega (arith, (last 6 t v vs ls u r (omega arith)).1))

-- a list that is not empty has a line, and here the line has a word
rooms_told : (ls : List Line) (u : Typed) → Each Full ls → Accepts (at 1 0 nothing) ls u → Cut (Section (IsEntry 2 []) roomcount) 2 nothing ls u
rooms_told [] u f h = let z : ◌≡◌ {A = ℕ} 1 6 = (end_accepts (at 1 0 nothing) u h).0 in absurd (omega arith)
rooms_told ([] ∷ ls) u (f, fs) h = absurd (f.some refl)
rooms_told ((w ∷ ws) ∷ ls) u (f, fs) h =
    section_told 1 2 nothing w ws ls u (omega arith) (omega arith) (early 1 nothing w ws ls u h (omega arith)) fs h

-- no two entries of one word k: no two rooms of one name, no two doors
pub words_told : (k : ℕ) (es : List Line) → Apart (words_at k es) → (i j : ℕ) → i < j → j < length es → same_name (nth (get_or es j []) k) (nth (get_or es i []) k) ≡ false
words_told k es a i j l m =
    rw (words_here k es j m, words_here k es i (omega arith)) at (a.other i j l (omega (arith, words_long k es)))

pub apart_told : (es : List Line) → Apart (names_of es) → (i j : ℕ) → i < j → j < length es → same_name (nth (get_or es j []) 0) (nth (get_or es i []) 0) ≡ false
unfolding names_of
apart_told es a = words_told 0 es a

pub doors_told : (es : List Line) → Apart (doors_of es) → (i j : ℕ) → i < j → j < length es → same_name (nth (get_or es j []) 1) (nth (get_or es i []) 1) ≡ false
unfolding doors_of
doors_told es a = words_told 1 es a

-- rooms are right whichever rooms there are
rooms_as : (a b ls es : List Line) → Section (IsEntry 2 a) roomcount ls es → Section (IsEntry 2 b) roomcount ls es
rooms_as a b ls es s = record { count = s.count; spelled = s.spelled; right = s.right; told = s.told; entry = λ i l. any_rooms 2 (λ z. omega arith) a b _ (s.entry i l) }

-- the parts that stand behind `beginlayout`, each in its place
parts_told : (ls : List Line) (u : Typed) (b : List Line) → spoken ls ≡ (beginlayout ∷ []) ∷ b → Apart (names_of u.rooms) → Apart (doors_of u.hooks)
    → (r : Cut (Section (IsEntry 2 []) roomcount) 2 nothing b u)
    → (t : Cut (Optional (IsEntry 3 r.entries) trackcount) 3 (with_entries 2 nothing r.entries) r.behind u)
    → (o : Cut (Optional (IsEntry 4 r.entries) obstaclecount) 4 (with_entries 3 (with_entries 2 nothing r.entries) t.entries) t.behind u)
    → (k : Cut (Optional (IsEntry 5 r.entries) doorhookcount) 5 (with_entries 4 (with_entries 3 (with_entries 2 nothing r.entries) t.entries) o.entries) o.behind u)
    → (k.behind ≡ (donelayout ∷ []) ∷ []) × (◌≡◌ {A = Typed} (record { rooms = r.entries; tracks = t.entries; obstacles = o.entries; hooks = k.entries }) u)
    → Spelled ls u
parts_told ls u b e a ds r t o k (d, q) = record {
  rooms = r.own;
  tracks = t.own;
  obstacles = o.own;
  hooks = k.own;
  order = e ∙ rw (r.cut, t.cut, o.cut, k.cut, d);
  has_rooms = rw (ap (λ (x : Typed). x.rooms) q) at (rooms_as [] u.rooms r.own r.entries r.is);
  has_tracks = rw (ap (λ (x : Typed). x.rooms) q, ap (λ (x : Typed). x.tracks) q) at t.is;
  has_obstacles = rw (ap (λ (x : Typed). x.rooms) q, ap (λ (x : Typed). x.obstacles) q) at o.is;
  has_hooks = rw (ap (λ (x : Typed). x.rooms) q, ap (λ (x : Typed). x.hooks) q) at k.is;
  apart = apart_told u.rooms a;
  doors = doors_told u.hooks ds;
}

behind_told : (ls : List Line) (u : Typed) → Apart (names_of u.rooms) → Apart (doors_of u.hooks) → (b : List Line) → spoken ls ≡ (beginlayout ∷ []) ∷ b → Each Full b → Accepts (at 1 0 nothing) b u → Spelled ls u
behind_told ls u a ds b e f h =
    let r = rooms_told b u f h in
    let t = optional_told 2 (omega arith) (omega arith) _ u r.behind r.full r.goes_on in
    let o = optional_told 3 (omega arith) (omega arith) _ u t.behind t.full t.goes_on in
    let k = optional_told 4 (omega arith) (omega arith) _ u o.behind o.full o.goes_on in
    parts_told ls u b e a ds r t o k (last_told _ k.behind u k.full k.goes_on)

pub accepts_spelled : (ls : List Line) (u : Typed) → Accepts start ls u → Spelled ls u
unfolding words_of
accepts_spelled ls u h = go (spoken ls) refl (spoken_full ls) (spoken_accepts ls start u h)
  where
    a : Apart (names_of u.rooms)
    a = rw (h 0) at (read_sane ls 0 start good_start).typed.apart

    ds : Apart (doors_of u.hooks)
    ds = rw (h 0) at (read_sane ls 0 start good_start).typed.doors

    go : (b : List Line) → spoken ls ≡ b → Each Full b → Accepts start b u → Spelled ls u
    go [] e f r = let z : ◌≡◌ {A = ℕ} 0 6 = (end_accepts start u r).0 in absurd (omega arith)
    go ([] ∷ b) e (f, fs) r = absurd (f.some refl)
    go ((w ∷ ws) ∷ b) e (f, fs) r =
        let (one, more) = alone 0 nothing w ws b u r 1 (early 0 nothing w ws b u r (omega arith)) refl in
        behind_told ls u a ds b (e ∙ ap (λ (x : Line). x ∷ b) one) fs more

-- ---- read where it is told

key_2 : section_of roomcount ≡ 2
unfolding section_of same beginlayout roomcount
key_2 = refl

key_3 : section_of trackcount ≡ 3
unfolding section_of same beginlayout roomcount trackcount
key_3 = refl

key_4 : section_of obstaclecount ≡ 4
unfolding section_of same beginlayout roomcount trackcount obstaclecount
key_4 = refl

key_5 : section_of doorhookcount ≡ 5
unfolding section_of same beginlayout roomcount trackcount obstaclecount doorhookcount
key_5 = refl

opens_1 : opens 0 beginlayout ≡ 1
unfolding opens follows section_of same beginlayout
opens_1 = refl

opens_2 : opens 1 roomcount ≡ 2
unfolding follows
opens_2 = opens_by 1 roomcount 2 key_2 refl

opens_6 : opens 5 donelayout ≡ 6
unfolding opens follows section_of same beginlayout roomcount trackcount obstaclecount doorhookcount donelayout
opens_6 = refl

first_read : (ls : List Line) (u : Typed) → Accepts (at 1 0 nothing) ls u → Accepts start ((beginlayout ∷ []) ∷ ls) u
unfolding open_fault words_of value
first_read ls u h = open_accepts 0 nothing beginlayout [] ls u (rw opens_1) (rw opens_1 h)

last_read : (t : Typed) → Accepts (at 5 0 t) ((donelayout ∷ []) ∷ []) t
unfolding open_fault words_of value
last_read t = open_accepts 5 t donelayout [] [] t (rw opens_6) (rw opens_6 (accepts_end (at 6 0 t) refl))

words_read : (k : ℕ) (es : List Line) → ((i j : ℕ) → i < j → j < length es → same_name (nth (get_or es j []) k) (nth (get_or es i []) k) ≡ false) → Apart (words_at k es)
words_read k es a = record {
  other = λ i j l m.
      let n : j < length es = omega (arith, words_long k es) in
      rw (words_here k es j n, words_here k es i (omega arith)) (a i j l n);
}

apart_read : (es : List Line) → ((i j : ℕ) → i < j → j < length es → same_name (nth (get_or es j []) 0) (nth (get_or es i []) 0) ≡ false) → Apart (names_of es)
unfolding names_of
apart_read es a = words_read 0 es a

doors_read : (es : List Line) → ((i j : ℕ) → i < j → j < length es → same_name (nth (get_or es j []) 1) (nth (get_or es i []) 1) ≡ false) → Apart (doors_of es)
unfolding doors_of
doors_read es a = words_read 1 es a

pub spelled_accepts : (ls : List Line) (u : Typed) → Spelled ls u → Accepts start ls u
spelled_accepts ls u s =
    let t2 : Typed = record { rooms = u.rooms; tracks = []; obstacles = []; hooks = [] } in
    let t3 : Typed = record { rooms = u.rooms; tracks = u.tracks; obstacles = []; hooks = [] } in
    let t4 : Typed = record { rooms = u.rooms; tracks = u.tracks; obstacles = u.obstacles; hooks = [] } in
    let hooks = optional_read 4 (omega arith) (omega arith) t4 u s.hooks u.hooks _ s.has_hooks (λ e. doors_read u.hooks s.doors) key_5 (last_read u) in
    let obstacles = optional_read 3 (omega arith) (omega arith) t3 u s.obstacles u.obstacles _ s.has_obstacles (λ e. clash e refl) key_4 hooks in
    let tracks = optional_read 2 (omega arith) (omega arith) t2 u s.tracks u.tracks _ s.has_tracks (λ e. clash e refl) key_3 obstacles in
    let is-rooms = rooms_as u.rooms [] s.rooms u.rooms s.has_rooms in
    let rooms = section_read 1 2 nothing s.rooms u.rooms _ u (omega arith) (omega arith) opens_2 is-rooms (λ e. apart_read u.rooms s.apart, λ e. clash e refl) tracks in
    accepts_spoken ls start u (rw s.order (first_read _ u rooms))

-- ---- a text

-- an accepted layout is spelled as the paper tells, with its entries ..
pub layout_spelled : (s : List ℕ) → (layout_verdict s).number ≡ 0 → ((rules31to32 s).number ≡ 0) × Spelled (word_lines s) (layout_of s)
unfolding grammar
layout_spelled s z =
    let q = clean s z in
    let r : (grammar s).verdict ≡ accepted = (grammar_sane s).at_0 (ap (λ (v : Answer). v.number) (sym (verdict_sound s q)) ∙ z) in
    let e : grammar s ≡ with (layout_of s) = rw (layout_sound s q, ← r) in
    (q, accepts_spelled (word_lines s) (layout_of s) (λ n. read_any (word_lines s) 0 n start (layout_of s) e))
  where
    clean : (s : List ℕ) → (layout_verdict s).number ≡ 0 → (rules31to32 s).number ≡ 0
    clean s z = decided (ℕ_discrete (rules31to32 s).number 0) (λ e. e) (λ n. absurd (n (ap (λ (v : Answer). v.number) (sym (verdict_unsound s n)) ∙ z)))

-- .. and a text of right bytes that is spelled so is accepted, with these entries and no others
pub spelled_layout : (s : List ℕ) (t : Typed) → (rules31to32 s).number ≡ 0 → Spelled (word_lines s) t → (layout_verdict s ≡ accepted) × (layout_of s ≡ t)
unfolding grammar
spelled_layout s t q h =
    let e = spelled_accepts (word_lines s) t h 0 in
    (verdict_sound s q ∙ ap (λ (r : Reading). r.verdict) e, layout_sound s q ∙ ap (λ (r : Reading). r.typed) e)
