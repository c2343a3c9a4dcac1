-- A section with its count and entries, and one that may be left out: what is accepted is told, and what is told is accepted.
-- Assumes nothing.
use mathlib.Core.Path.{◌≡◌, refl, sym, ap, ◌∙◌}
use mathlib.Core.Logic.{inl, inr}
use mathlib.Core.Bool.{true, false}
use mathlib.Core.List.{List, [], ◌∷◌, ◌++◌}
use Prim.Native.Nat.{ℕ, suc, ◌≤◌, ◌<◌}
use native.Mathlib.Omega.{arith}
use native.Mathlib.Decide.{ℕ_discrete}
use lib.Dec.{eqb}
use lib.ListN.{length}
use borrow.Author.Tests.{le-leb, eqb-true, ne_eqb}
use Rattle.verdict.proofs.Bools.{decided}
use Rattle.letters.specs.Class.{within}
use Rattle.text.specs.Reading.{Word, Line, nth}
use Rattle.number.specs.Count.{value, is_count}
use Rattle.layout.specs.Grammar.{Typed, doors_of, section_of, opens, words_of, open_fault}
use Rattle.layout.specs.Plain.{IsEntry, Section, Optional}
use Rattle.verdict.proofs.Each.{Each, each_at, each_of}
use Rattle.layout.proofs.ApartLaws.{Apart}
use Rattle.layout.proofs.GoodLaws.{open_some, open_words, open_count, opens_later}
use Rattle.layout.proofs.Accepts.{Accepts, accepts_blank, blank_accepts, end_accepts, Full}
use Rattle.layout.proofs.EntryLaws.{at, with_entries, entries_none, Fresh, entries_accept, Taken, accepts_entries, key_of, section_key, opens_is, opens_by, follows_by, open_accepts, accepts_open}

-- ---- a keyword and its count

between : (k : ℕ) → 2 ≤ k → k ≤ 5 → within 2 5 k ≡ true
between k a b = rw (le-leb 2 k a, le-leb k 5 b)

two_words : (w : Word) (ws : Line) → length (w ∷ ws) ≡ 2 → (w ∷ ws) ≡ w ∷ nth (w ∷ ws) 1 ∷ []
two_words w [] e = absurd (omega arith)
two_words w (v ∷ []) e = refl
two_words w (v ∷ x ∷ ws) e = absurd (omega arith)

-- a line that opens section k with a count
module _ (k : ℕ) (low : 2 ≤ k) (high : k ≤ 5) where
  words_2 : words_of k ≡ 2
  unfolding words_of
  words_2 = rw (between k low high)

  pub head_told : (w : Word) (ws : Line) → w ≡ key_of k → open_fault k (w ∷ ws) ≡ 0 → ((w ∷ ws) ≡ key_of k ∷ nth (w ∷ ws) 1 ∷ []) × (is_count (nth (w ∷ ws) 1) ≡ true)
  head_told w ws e f =
      let z = two_words w ws (open_words k (w ∷ ws) f ∙ words_2) in
      (z ∙ ap (λ (x : Word). x ∷ nth (w ∷ ws) 1 ∷ []) e, open_count k (w ∷ ws) f (between k low high))

  pub head_right : (w c : Word) → is_count c ≡ true → open_fault k (w ∷ c ∷ []) ≡ 0
  unfolding open_fault
  head_right w c r = let some : eqb k 0 ≡ false = ne_eqb k 0 (λ z. omega arith) in rw (some, words_2, between k low high, r)

-- ---- a section, read

pub section_read : (sect k : ℕ) (t : Typed) (own es ls : List Line) (u : Typed) → 2 ≤ k → k ≤ 5 → opens sect (key_of k) ≡ k → Section (IsEntry k t.rooms) (key_of k) own es → Fresh k t es → Accepts (at k 0 (with_entries k t es)) ls u → Accepts (at sect 0 t) (own ++ ls) u
section_read sect k t own es ls u low high o s f h =
    let c = s.count in
    let g = entries_accept k t es ls u (each_of (IsEntry k t.rooms) [] es s.entry) f h in
    rw s.spelled (open_accepts sect t (key_of k) (c ∷ []) (es ++ ls) u (rw o (head_right k low high (key_of k) c s.right)) (rw (o, s.told) g))

-- ---- a section, told of what is accepted

-- a section's lines and entries, and what stands behind them
pub record Cut (P : List Line → List Line → Type 0) (k : ℕ) (t : Typed) (ls : List Line) (u : Typed) : Type 0 where
  pub own : List Line
  pub entries : List Line
  pub behind : List Line
  pub cut : ls ≡ own ++ behind
  pub is : P own entries
  pub full : Each Full behind
  pub goes_on : Accepts (at k 0 (with_entries k t entries)) behind u

-- a head with its count, and the entries taken behind it
taken_told : (k : ℕ) (t : Typed) (l : Line) (c : Word) (ls : List Line) (u : Typed) → l ≡ key_of k ∷ c ∷ [] → is_count c ≡ true → Taken k (value 0 c) t ls u → Cut (Section (IsEntry k t.rooms) (key_of k)) k t (l ∷ ls) u
taken_told k t l c ls u line right q = record {
  own = l ∷ q.entries;
  entries = q.entries;
  behind = q.behind;
  cut = ap (λ (x : List Line). l ∷ x) q.cut;
  is = record {
    count = c;
    spelled = ap (λ (x : Line). x ∷ q.entries) line;
    right = right;
    told = sym q.many;
    entry = each_at (IsEntry k t.rooms) [] q.entries q.right;
  };
  full = q.full;
  goes_on = q.goes_on;
}

-- the first line opens section k
pub section_told : (sect k : ℕ) (t : Typed) (w : Word) (ws : Line) (ls : List Line) (u : Typed) → 2 ≤ k → k ≤ 5 → opens sect w ≡ k → Each Full ls → Accepts (at sect 0 t) ((w ∷ ws) ∷ ls) u → Cut (Section (IsEntry k t.rooms) (key_of k)) k t ((w ∷ ws) ∷ ls) u
section_told sect k t w ws ls u low high o f h =
    let (z, r) = rw o at (accepts_open sect t w ws ls u h) in
    let key = section_key w k (opens_is sect w k o (open_some k (w ∷ ws) z)).0 (open_some k (w ∷ ws) z) in
    let (line, right) = head_told k low high w ws key z in
    taken_told k t (w ∷ ws) (nth (w ∷ ws) 1) ls u line right (accepts_entries k (value 0 (nth (w ∷ ws) 1)) t ls u (omega arith) f r)

-- ---- a section that may be left out, between the section before it and those behind it

-- a line that opens a later section does so from here too, and the other way round
opens_before : (sect : ℕ) (w : Word) (k : ℕ) → 2 ≤ sect → opens (suc sect) w ≡ k → (k ≡ 0 → ⊥) → opens sect w ≡ k
opens_before sect w k a o n =
    let (e, f) = opens_is (suc sect) w k o n in
    let l : suc sect < k = rw o at (opens_later (suc sect) w (λ z. n (sym o ∙ z))) in
    opens_by sect w k e (follows_by sect k a (omega arith))

opens_behind : (sect : ℕ) (w : Word) (k : ℕ) → 2 ≤ sect → opens sect w ≡ k → (k ≡ 0 → ⊥) → (k ≡ suc sect → ⊥) → opens (suc sect) w ≡ k
opens_behind sect w k a o n m =
    let (e, f) = opens_is sect w k o n in
    let l : sect < k = rw o at (opens_later sect w (λ z. n (sym o ∙ z))) in
    opens_by (suc sect) w k e (follows_by (suc sect) k (omega arith) (apart l))
  where
    apart : sect < k → suc sect < k
    apart l = decided (ℕ_discrete k (suc sect)) (λ (z : k ≡ suc sect). absurd (m z)) (λ (z : k ≡ suc sect → ⊥). omega arith)

module _ (sect : ℕ) (a : 2 ≤ sect) (b : sect ≤ 4) (t : Typed) (u : Typed) where
  pub optional_told : (ls : List Line) → Each Full ls → Accepts (at sect 0 t) ls u → Cut (Optional (IsEntry (suc sect) t.rooms) (key_of (suc sect))) (suc sect) t ls u
  optional_told [] f h = let z = (end_accepts (at sect 0 t) u h).0 in absurd (omega arith)
  optional_told ([] ∷ ls) (f, fs) h = absurd (f.some refl)
  optional_told ((w ∷ ws) ∷ ls) (f, fs) h = decided (ℕ_discrete (opens sect w) (suc sect)) here past
    where
      here : opens sect w ≡ suc sect → Cut (Optional (IsEntry (suc sect) t.rooms) (key_of (suc sect))) (suc sect) t ((w ∷ ws) ∷ ls) u
      here o =
          let c = section_told sect (suc sect) t w ws ls u (omega arith) (omega arith) o fs h in
          record {
            own = c.own;
            entries = c.entries;
            behind = c.behind;
            cut = c.cut;
            is = inr c.is;
            full = c.full;
            goes_on = c.goes_on;
          }

      past : (opens sect w ≡ suc sect → ⊥) → Cut (Optional (IsEntry (suc sect) t.rooms) (key_of (suc sect))) (suc sect) t ((w ∷ ws) ∷ ls) u
      past n =
          let (z, r) = accepts_open sect t w ws ls u h in
          let o = opens_behind sect w (opens sect w) a refl (open_some _ (w ∷ ws) z) n in
          record {
            own = [];
            entries = [];
            behind = (w ∷ ws) ∷ ls;
            cut = refl;
            is = inl (refl, refl);
            full = (f, fs);
            goes_on = rw (entries_none (suc sect) t) (open_accepts (suc sect) t w ws ls u (rw o z) (rw o r));
          }

  -- the other way round: what is accepted behind section k is accepted before it, with its lines or with none
  pub optional_read : (own es ls : List Line) → Optional (IsEntry (suc sect) t.rooms) (key_of (suc sect)) own es → (eqb (suc sect) 5 ≡ true → Apart (doors_of (t.hooks ++ es))) → section_of (key_of (suc sect)) ≡ suc sect → Accepts (at (suc sect) 0 (with_entries (suc sect) t es)) ls u → Accepts (at sect 0 t) (own ++ ls) u
  optional_read own es ls (inl (p, q)) n k h = rw p (before ls (rw (q, entries_none (suc sect) t) at h))
    where
      before : (ls : List Line) → Accepts (at (suc sect) 0 t) ls u → Accepts (at sect 0 t) ls u
      before [] h = let z = (end_accepts (at (suc sect) 0 t) u h).0 in absurd (omega arith)
      before ([] ∷ ls) h = accepts_blank (at sect 0 t) ls u (before ls (blank_accepts (at (suc sect) 0 t) ls u h))
      before ((w ∷ ws) ∷ ls) h =
          let (z, r) = accepts_open (suc sect) t w ws ls u h in
          let o = opens_before sect w (opens (suc sect) w) a refl (open_some _ (w ∷ ws) z) in
          open_accepts sect t w ws ls u (rw o z) (rw o r)
  optional_read own es ls (inr s) n k h = section_read sect (suc sect) t own es ls u (omega arith) (omega arith) (opens_by sect (key_of (suc sect)) (suc sect) k (follows_by sect (suc sect) a (omega arith))) s (λ q. absurd (no q), n) h
    where
      no : eqb (suc sect) 2 ≡ true → ⊥
      no q = let z : suc sect ≡ 2 = eqb-true (suc sect) 2 q in omega arith
