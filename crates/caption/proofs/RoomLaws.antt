-- The rooms of a layout among its lines: each is the first line that is an entry of its name. Assumes nothing.
use mathlib.Core.Path.{◌≡◌, refl, sym, ap, ◌∙◌}
use mathlib.Core.Logic.{◌⊎◌, inl, inr}
use mathlib.Core.Bool.{Bool, true, false, cond}
use mathlib.Core.List.{List, [], ◌∷◌, ◌++◌, map, append-nil, append_assoc}
use Prim.Native.Nat.{ℕ, zero, suc, ◌+◌, ◌≤◌, ◌<◌}
use native.Mathlib.Nat.{le_of_suc-le-suc}
use native.Mathlib.Omega.{arith}
use native.Mathlib.Decide.{dec_lt}
use lib.Dec.{eqb, ltb}
use lib.ListN.{length, get_or, length-append}
use lib.Seq.{get_or-append_seam, get_or-append-add}
use borrow.Author.Tests.{eqb-true, eqb-false, ltb-true}
use Rattle.verdict.proofs.Bools.{clash, test, decided}
use Rattle.letters.specs.Class.{within}
use Rattle.text.specs.Scan.{words}
use Rattle.names.specs.Name.{same}
use Rattle.text.specs.Reading.{Word, Line, nth}
use Rattle.text.proofs.SplitLaws.{words_nil}
use Rattle.names.proofs.NameLaws.{same_refl, same_true, same_name_refl}
use Rattle.text.proofs.ReadingLaws.{read_next, read_stop, read_end}
use Rattle.layout.specs.Grammar.{Typed, State, names_of, with_entry, opens, words_of, open_fault, fault, next, finish, layout_grammar, read_from}
use Rattle.caption.specs.Caption.{enters_as}
use Rattle.layout.proofs.ApartLaws.{Apart, length_names, names_at}
use Rattle.layout.proofs.EntryWords.{four_words}
use Rattle.layout.proofs.GoodLaws.{Good, good_next, entry_good, opens_later, open_some, open_words}
use Rattle.layout.proofs.ReadLaws.{read_sane}
use Rattle.caption.proofs.PlaceLaws.{enters_no, enters_by}

-- ---- the first entry of a name

-- the first of some lines that is an entry of this name
unfoldable pub line_as : Word → List (List ℕ) → List ℕ
line_as w [] = []
line_as w (l ∷ ls) = cond (enters_as w l) l (line_as w ls)

pub line_hit : (w l : List ℕ) (ls : List (List ℕ)) → enters_as w l ≡ true → line_as w (l ∷ ls) ≡ l
unfolding line_as
line_hit w l ls e = rw e

pub line_miss : (w l : List ℕ) (ls : List (List ℕ)) → enters_as w l ≡ false → line_as w (l ∷ ls) ≡ line_as w ls
unfolding line_as
line_miss w l ls e = rw e

pub no_line : (w : Word) → length (words (line_as w [])) ≡ 4 → ⊥
unfolding line_as
no_line w e = let z : ◌≡◌ {A = ℕ} 0 4 = ap length (sym words_nil) ∙ e in omega arith

-- it is one of them
pub line_as_one : (w : Word) (ls : List (List ℕ)) → length (words (line_as w ls)) ≡ 4 → (k : ℕ) × (k < length ls) × (get_or ls k [] ≡ line_as w ls)
line_as_one w [] e = absurd (no_line w e)
line_as_one w (l ∷ ls) e = go (enters_as w l) refl (line_as_one w ls)
  where
    go : (t : Bool) → enters_as w l ≡ t → (length (words (line_as w ls)) ≡ 4 → (k : ℕ) × (k < length ls) × (get_or ls k [] ≡ line_as w ls)) → (k : ℕ) × (k < suc (length ls)) × (get_or (l ∷ ls) k [] ≡ line_as w (l ∷ ls))
    go true q r = (0, omega arith, sym (line_hit w l ls q))
    go false q r =
        let m = line_miss w l ls q in
        let (k, b, f) = r (ap (λ (x : List ℕ). length (words x)) (sym m) ∙ e) in
        (suc k, omega arith, f ∙ sym m)

-- ---- what a line adds

-- no room: while rooms may come, the line has not the four words of an entry
record Passed (st : State) (l : Line) (after : State) : Type 0 where
  same : after.typed.rooms ≡ st.typed.rooms
  later : st.sect ≤ after.sect
  short : st.sect ≤ 2 → length l ≡ 4 → ⊥

-- a room
record Entered (st : State) (l : Line) (after : State) : Type 0 where
  four : length l ≡ 4
  more : after.typed.rooms ≡ st.typed.rooms ++ (l ∷ [])
  here : st.sect ≡ 2

words_few : (k : ℕ) → words_of k ≡ 4 → ⊥
unfolding words_of
words_few k e = test (within 2 5 k) (λ h. omega (arith, rw h at e)) (λ h. omega (arith, rw h at e))

line_adds : (st : State) (l : Line) → Good st → fault st l ≡ 0 → Passed st l (next st l) ⊎ Entered st l (next st l)
unfolding fault next with_entry
line_adds st [] g e = inl (record { same = refl; later = omega arith; short = λ h z. omega arith })
line_adds st (w ∷ ws) g e =
    test (ltb 0 st.left)
    (λ (h : ltb 0 st.left ≡ true).
    let n : 0 < st.left = ltb-true 0 st.left h in
    let (lo, hi) = g.kind n in
    test (eqb st.sect 2)
    (λ (q : eqb st.sect 2 ≡ true). let two : st.sect ≡ 2 = eqb-true st.sect 2 q in inr (rw (h, q) (record { four = four_words st.sect _ (entry_good st (w ∷ ws) (rw h at e)).long (λ z. omega arith); more = refl; here = two })))
    (λ (q : eqb st.sect 2 ≡ false). let z : st.sect ≡ 2 → ⊥ = eqb-false st.sect 2 q in
    inl (rw (h, q) (record { same = refl; later = omega arith; short = λ i j. z (omega arith) }))))
    (λ (h : ltb 0 st.left ≡ false).
    let f : open_fault (opens st.sect w) (w ∷ ws) ≡ 0 = rw h at e in
    let k = opens_later st.sect w (open_some _ (w ∷ ws) f) in
    inl (rw h (record { same = refl; later = omega arith; short = λ i j. words_few (opens st.sect w) (sym (open_words _ (w ∷ ws) f) ∙ j) })))

-- ---- the rooms that the lines add are found by their names

-- a room's name is not that of a later room
name_other : (es : List Line) (l : Line) (more : List Line) → Apart (names_of (es ++ (l ∷ more))) → (i : ℕ) → i < length more → same (nth l 0) (nth (get_or more i []) 0) ≡ false
name_other es l more a i h = test (same (nth l 0) (nth (get_or more i []) 0)) on (λ q. q)
  where
    on : same (nth l 0) (nth (get_or more i []) 0) ≡ true → same (nth l 0) (nth (get_or more i []) 0) ≡ false
    on q =
        let m : length (es ++ (l ∷ more)) ≡ length es + suc (length more) = length-append es (l ∷ more) in
        let k = a.other (length es) (length es + suc i) (omega arith) (omega (arith, length_names (es ++ (l ∷ more)))) in
        let u = rw (names_at (es ++ (l ∷ more)) (length es + suc i) (omega arith), names_at (es ++ (l ∷ more)) (length es) (omega arith), get_or-append-add es (l ∷ more) (suc i) [], get_or-append_seam es l more []) at k in
        clash (same_name_refl (nth (get_or more i []) 0)) (rw (same_true (nth l 0) (nth (get_or more i []) 0) q) at u)

-- the rooms of t are those of st and more, and each of these is the first entry of its name among the lines
pub record Added (st : State) (t : Typed) (ls : List (List ℕ)) : Type 0 where
  pub more : List Line
  pub all : t.rooms ≡ st.typed.rooms ++ more
  pub none : 2 < st.sect → more ≡ []
  pub own : (i : ℕ) → i < length more → (words (line_as (nth (get_or more i []) 0) ls) ≡ get_or more i []) × (length (get_or more i []) ≡ 4)

one_more : (st after : State) (t : Typed) (l : List ℕ) (ls : List (List ℕ)) → Apart (names_of t.rooms) → Added after t ls → Passed st (words l) after ⊎ Entered st (words l) after → Added st t (l ∷ ls)
one_more st after t l ls a d (inl p) = record {
  more = d.more;
  all = d.all ∙ ap (λ (es : List Line). es ++ d.more) p.same;
  none = λ h. d.none (omega (arith, p.later));
  own = λ i h. decided (dec_lt 2 st.sect) (λ q. let z = ap length (d.none (omega (arith, p.later))) in absurd (omega arith))
      (λ q. (ap words (line_miss _ l ls (sym (enters_no _ l (p.short (omega arith))))) ∙ (d.own i h).0, (d.own i h).1));
}
one_more st after t l ls a d (inr x) = record { more = words l ∷ d.more; all = all; none = λ h. absurd (omega (arith, x.here)); own = own }
  where
    all : t.rooms ≡ st.typed.rooms ++ (words l ∷ d.more)
    all = d.all ∙ rw x.more (append_assoc st.typed.rooms (words l ∷ []) d.more)

    own : (i : ℕ) → i < suc (length d.more) → (words (line_as (nth (get_or (words l ∷ d.more) i []) 0) (l ∷ ls)) ≡ get_or (words l ∷ d.more) i []) × (length (get_or (words l ∷ d.more) i []) ≡ 4)
    own zero h = (ap words (line_hit _ l ls (sym (enters_by _ l _ true x.four refl (sym (same_refl (nth (words l) 0)))))), x.four)
    own (suc i) h =
        let k = le_of_suc-le-suc h in
        let n = name_other st.typed.rooms (words l) d.more (rw all at a) i k in
        (ap words (line_miss _ l ls (sym (enters_by _ l _ false x.four refl (sym n)))) ∙ (d.own i k).0, (d.own i k).1)

pub lines_add : (ls : List (List ℕ)) (n : ℕ) (st : State) → Good st → (read_from n st (map words ls)).verdict.number ≡ 0 → Added st (read_from n st (map words ls)).typed ls
unfolding finish
lines_add [] n st g z =
    test (eqb st.sect 6)
    (λ (h : eqb st.sect 6 ≡ true). rw (read_end layout_grammar n st, h) (record { more = []; all = sym (append-nil _); none = λ q. refl; own = λ i q. absurd (omega arith) }))
    (λ (h : eqb st.sect 6 ≡ false). absurd (omega (arith, rw (read_end layout_grammar n st, h) at z)))
lines_add (l ∷ ls) n st g z =
    let rest = lines_add ls (suc n) (next st (words l)) in
    test (eqb (fault st (words l)) 0)
    (λ (h : eqb (fault st (words l)) 0 ≡ true).
    let e = eqb-true (fault st (words l)) 0 h in
    let b = good_next st (words l) g e in
    let r = read_next layout_grammar n st (words l) (map words ls) e in
    rw r (one_more st (next st (words l)) _ l ls (read_sane (map words ls) (suc n) (next st (words l)) b).typed.apart (rest b (rw r at z)) (line_adds st (words l) g e)))
    (λ (h : eqb (fault st (words l)) 0 ≡ false).
    let e = eqb-false (fault st (words l)) 0 h in
    absurd (e (rw (read_stop layout_grammar n st (words l) (map words ls) e) at z)))
