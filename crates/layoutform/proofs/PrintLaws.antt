-- What the printers write, put together, and how far they come. Assumes nothing.
use mathlib.Core.Path.{◌≡◌, refl, sym, ap, ◌∙◌}
use mathlib.Core.Logic.{⊎_elim}
use mathlib.Core.Bool.{Bool, true, false, cond}
use mathlib.Core.List.{List, [], ◌∷◌, ◌++◌, map, map-append, append_assoc, append-nil}
use Prim.Native.Nat.{ℕ, suc, ◌+◌, ◌-◌, ◌*◌, ◌≤◌, ◌<◌}
use native.Mathlib.Numerals.{add-one}
use native.Mathlib.Omega.{arith}
use native.Mathlib.Decide.{ℕ_discrete}
use lib.ListN.{length, get_or, take, drop, length-map, length-drop}
use lib.Seq.{take-suc, take_all, get_or-drop, get_or-take, length-take-le}
use Rattle.verdict.proofs.Bools.{test, decided}
use Rattle.verdict.proofs.Lists.{map_at_lem}
use Rattle.verdict.proofs.Each.{Each}
use Rattle.number.specs.declared.Num.{Num}
use Rattle.text.specs.Scan.{words, line_at}
use Rattle.letters.specs.Case.{lowered}
use Rattle.names.specs.Name.{is_name, same_name}
use Rattle.number.specs.Number.{number_of, printed, plain}
use Rattle.printer.specs.Write.{Wrote}
use Rattle.text.specs.Written.{after, spaced, ended, written}
use Rattle.text.proofs.WrittenLaws.{ended_one, written_append}
use Rattle.number.proofs.DigitLaws.{printed_short}
use Rattle.number.proofs.NumberTrip.{number_places}
use Rattle.names.proofs.NameLaws.{name_long}
use Rattle.letters.proofs.CaseLaws.{length_lowered}
use Rattle.printer.proofs.WriteLaws.{wrote_none, wrote_then, wrote_is}
use Rattle.text.specs.Reading.{Word, Line, nth}
use Rattle.layout.specs.Grammar.{names_in}
use Rattle.layout.specs.Starts.{held}
use Rattle.layout.proofs.EntryWords.{hook_words}
use Rattle.layout.proofs.HeldLaws.{held_long, held_at}
use Rattle.layoutform.specs.Form.{Entry, entry_named, entry_of, entry_line, section, longest_line}
use Rattle.layoutform.specs.Rewrite.{named, renamed_from}
use Rattle.layoutform.specs.Lent.{AnEntry, KeptIn, NameOrNone}
use Rattle.layoutform.proofs.PartLaws.{names_hook, some_name, few_words, door_of, no_door, same_lowered}
use Rattle.layoutform.proofs.LengthLaws.{doors_short, numbers_short, entry_short}
use Rattle.layoutform.proofs.ByName.{not_none}

-- ---- one line's bytes

pub key_bytes : (key : Word) → key ++ (10 ∷ []) ≡ written ((key ∷ []) ∷ [])
unfolding ended spaced after
key_bytes key = simp (append-nil)

pub head_bytes : (key p : Word) → key ++ ((32 ∷ []) ++ (p ++ (10 ∷ []))) ≡ written ((key ∷ p ∷ []) ∷ [])
unfolding ended spaced after
head_bytes key p = simp (append-nil, append_assoc)

after_append : (a b : Line) → after (a ++ b) ≡ after a ++ after b
unfolding after
after_append [] b = refl
after_append (w ∷ a) b = ap (λ (x : List ℕ). 32 ∷ x) (ap (λ (x : List ℕ). w ++ x) (after_append a b) ∙ apart w (after a) (after b))
  where
    apart : (x y z : List ℕ) → x ++ (y ++ z) ≡ (x ++ y) ++ z
    apart x y z = simp append_assoc

entry_bytes : (w : Word) (d ns : Line) → w ++ (after d ++ (after ns ++ (10 ∷ []))) ≡ written ((w ∷ (d ++ ns)) ∷ [])
unfolding ended spaced
entry_bytes w d ns = rw (after_append d ns) (simp append_assoc)

-- ---- the numbers of a line

-- the number of a word has at most six places
pub few_places : (u : Word) (x : Num) → x ≡ number_of u → x.places ≤ 6
few_places u x e = rw e (number_places u)

pub spaced_wrote : {a b c : List ℕ} {i j k : ℕ} (l : List ℕ) (n : ℕ) (u : Word) (x : Num) → u ≡ nth (words l) n → x ≡ number_of u → Wrote a b i j (32 ∷ []) → Wrote b c j k (printed x) → Wrote a c i k (32 ∷ printed (number_of (nth (words l) n)))
spaced_wrote l n u x eu ex p q = wrote_is _ (wrote_then p q) (rw (ex, eu))

pub spaced_end : {a b : List ℕ} {i j : ℕ} (w : Word) → Wrote a b i j (32 ∷ printed (number_of w)) → j ≤ i + 14
spaced_end w q = omega (arith, q.next, printed_short (number_of w) (number_places w))

-- the words from k on as numbers are written
abbrev pub shown : ℕ → Line → Line
shown k l = map printed (map number_of (drop k l))

shown_long : (k : ℕ) (l : Line) → length (shown k l) ≡ length l - k
shown_long k l = length-map (map number_of (drop k l)) printed ∙ length-map (drop k l) number_of ∙ length-drop k l

shown_at : (k : ℕ) (l : Line) (j : ℕ) → k ≤ j → j < length l → get_or (shown k l) (j - k) [] ≡ printed (number_of (nth l j))
shown_at k l j low h =
    let z : k + (j - k) ≡ j = omega arith in
    map_at_lem printed (number_of []) [] (map number_of (drop k l)) (j - k) (omega (arith, length-map (drop k l) number_of, length-drop k l))
    ∙ ap printed (map_at_lem number_of [] (number_of []) (drop k l) (j - k) (omega (arith, length-drop k l)) ∙ ap number_of (get_or-drop k l (j - k) [] ∙ ap (λ (i : ℕ). nth l i) z))

module _ (k : ℕ) (l : Line) where
  pub numbers_start : (o : List ℕ) (at j : ℕ) → j ≡ k → Wrote o o at at (after (take (j - k) (shown k l)))
  numbers_start o at j e = let z : j - k ≡ 0 = omega arith in rw z (unfold after in (wrote_none o at))

  pub numbers_more : {a b c : List ℕ} {at e f : ℕ} (j : ℕ) → k ≤ j → j < length l → Wrote a b at e (after (take (j - k) (shown k l))) → Wrote b c e f (32 ∷ printed (number_of (nth l j))) → Wrote a c at f (after (take (j + 1 - k) (shown k l)))
  numbers_more j low h p q =
      let z : j + 1 - k ≡ suc (j - k) = omega arith in
      let m : j - k < length (shown k l) = omega (arith, shown_long k l) in
      wrote_is _ (wrote_then p q) (rw (z, take-suc (shown k l) (j - k) [] m, after_append (take (j - k) (shown k l)) (get_or (shown k l) (j - k) [] ∷ []), shown_at k l j low h) (unfold after in (rw append-nil)))

  pub numbers_done : {a b : List ℕ} {at e : ℕ} (j : ℕ) → length l ≤ j → Wrote a b at e (after (take (j - k) (shown k l))) → Wrote a b at e (after (shown k l))
  numbers_done j h p = rw (take_all (j - k) (shown k l) (omega (arith, shown_long k l))) at p

  places_few : (ws : List Word) → Each (λ (x : Num). x.places ≤ 6) (map number_of ws)
  places_few [] = tt
  places_few (w ∷ ws) = (number_places w, places_few ws)

  pub numbers_end : {a b : List ℕ} {i j : ℕ} → length l ≤ 14 → Wrote a b i j (after (shown k l)) → j ≤ i + 14 * 14
  numbers_end h q =
      omega (arith, q.next, numbers_short (map number_of (drop k l)) (places_few (drop k l)), length-map (drop k l) number_of, length-drop k l)

-- ---- an entry

module _ (k : ℕ) (l : Line) (g : AnEntry k l) where
  pub first_name : is_name (nth l 0) ≡ true
  first_name = g.is.name

  pub few_words_of : length l ≤ 14
  few_words_of = few_words k (length l) g.is.long

  -- the door as it is written
  abbrev pub hung : Line
  hung = map lowered (drop 1 (take (names_in k) l))

  hung_is : k ≡ 5 → hung ≡ lowered (nth l 1) ∷ []
  hung_is h = let n : 2 ≤ length l = ⊎_elim (λ (z : length l ≡ 9). omega arith) (λ (z : length l ≡ 14). omega arith) (hook_words k (length l) g.is.long h) in rw (door_of k l h n)

  hung_none : (k ≡ 5 → ⊥) → hung ≡ []
  hung_none n = rw (no_door k l n)

  pub door_none : (o : List ℕ) (at : ℕ) → (k ≡ 5 → ⊥) → Wrote o o at at (after hung)
  door_none o at n = rw (hung_none n) (unfold after in (wrote_none o at))

  pub door_short : (u : Word) → k ≡ 5 → u ≡ nth l 1 → length u ≤ 16
  door_short u h e = rw e (name_long (nth l 1) (g.is.hook h).door).1

  pub door_wrote : {a b c : List ℕ} {i j m : ℕ} (u : Word) → k ≡ 5 → u ≡ nth l 1 → Wrote a b i j (32 ∷ []) → Wrote b c j m (lowered u) → Wrote a c i m (after hung)
  door_wrote u h e p q = wrote_is _ (wrote_then p q) (rw (hung_is h, e) (unfold after in (rw append-nil)))

  hung_short : Each (λ (w : Word). length w ≤ 16) hung
  hung_short =
      decided (ℕ_discrete k 5) (λ (h : k ≡ 5). rw (hung_is h) (omega (arith, length_lowered (nth l 1), (name_long (nth l 1) (g.is.hook h).door).1), tt))
      (λ (n : k ≡ 5 → ⊥). rw (hung_none n) tt)

  hung_one : length hung ≤ 1
  hung_one = decided (ℕ_discrete k 5) (λ (h : k ≡ 5). rw (hung_is h) (omega arith)) (λ (n : k ≡ 5 → ⊥). rw (hung_none n) (omega arith))

  pub door_end : {a b : List ℕ} {i j : ℕ} → Wrote a b i j (after hung) → j ≤ i + 17
  door_end q = omega (arith, q.next, doors_short hung hung_short, hung_one)

  pub entry_wrote : {a b c d e : List ℕ} {i1 i2 i3 i4 i5 m : ℕ} (w : Word) → m ≡ names_in k → Wrote a b i1 i2 (lowered w) → Wrote b c i2 i3 (after hung) → Wrote c d i3 i4 (after (shown m l)) → Wrote d e i4 i5 (10 ∷ []) → Wrote a e i1 i5 (written (entry_line (entry_named k w l) ∷ []))
  unfolding entry_line entry_named
  entry_wrote w em p q r s =
      wrote_is _ (wrote_then p (wrote_then q (wrote_then r s))) (rw em (entry_bytes (lowered w) hung (shown (names_in k) l)))

  -- no entry's line is longer than a hook's may be
  pub entry_end : {a b : List ℕ} {i j : ℕ} (w : Word) → length w ≤ 16 → Wrote a b i j (written (entry_line (entry_named k w l) ∷ [])) → j ≤ i + longest_line 5
  unfolding entry_named
  entry_end w h q =
      let e = entry_named k w l in
      let m : length (spaced (entry_line e)) ≤ 16 + 17 * length hung + 14 * length (map number_of (drop (names_in k) l)) = entry_short e (omega (arith, length_lowered w)) hung_short (places_few k l (drop (names_in k) l)) in
      let n : length (map number_of (drop (names_in k) l)) ≡ length l - names_in k = length-map (drop (names_in k) l) number_of ∙ length-drop (names_in k) l in
      omega (arith, q.next, ended_one (spaced (entry_line e)), m, n, few_words_of, hung_one, names_more)
    where
      names_more : suc (length hung) ≤ names_in k
      names_more = decided (ℕ_discrete k 5) (λ (z : k ≡ 5). omega (arith, hung_one, names_hook k z)) (λ (z : k ≡ 5 → ⊥). omega (arith, ap length (hung_none z), some_name k))

-- ---- with another name

pub is_none : (w old : Word) → is_name w ≡ true → length old ≡ 0 → false ≡ same_name w old
is_none w [] n e = sym (not_none w n)
is_none w (b ∷ old) n e = absurd (omega arith)

pub is_some : (old : Word) → NameOrNone old → (length old ≡ 0 → ⊥) → is_name old ≡ true
is_some old h n = ⊎_elim (λ (e : length old ≡ 0). absurd (n e)) (λ (e : is_name old ≡ true). e) h

module _ (k : ℕ) (old name : Word) (l : Line) (t : Bool) (u : Word) (eu : u ≡ nth l 0) (r : Bool) (er : r ≡ same_name u old) (et : r ≡ t) where
  one_is : renamed_from (lowered old) (lowered name) (entry_of k l) ≡ entry_named k (cond t name u) l
  unfolding renamed_from named entry_of entry_named
  one_is = let z : same_name (nth l 0) old ≡ t = rw (← eu) (sym er ∙ et) in rw (same_lowered (nth l 0) old, z, eu) (go t)
    where
      go : (q : Bool) → ◌≡◌ {A = Entry} (record { name = cond q (lowered name) (lowered (nth l 0)); door = map lowered (drop 1 (take (names_in k) l)); numbers = map number_of (drop (names_in k) l) }) (record { name = lowered (cond q name (nth l 0)); door = map lowered (drop 1 (take (names_in k) l)); numbers = map number_of (drop (names_in k) l) })
      go true = refl
      go false = refl

  pub one_wrote : {a b : List ℕ} {i j : ℕ} → Wrote a b i j (written (entry_line (entry_named k (cond t name u) l) ∷ [])) → Wrote a b i j (written (entry_line (renamed_from (lowered old) (lowered name) (entry_of k l)) ∷ []))
  one_wrote w = rw one_is w

-- ---- the entries of a section

-- a start among the first n is one of all, and behind the last of them n are passed
pub kept_start : (s starts l : List ℕ) (n j : ℕ) → n ≤ length starts → j < length (take n starts) → l ≡ line_at s (get_or (take n starts) j 0) → (j < n) × (l ≡ line_at s (get_or starts j 0))
kept_start s starts l n j h k e =
    let m : j < n = omega (arith, length-take-le n starts h) in
    (m, e ∙ ap (line_at s) (get_or-take n starts j 0 m))

pub kept_all : (starts : List ℕ) (n j : ℕ) → n ≤ length starts → length (take n starts) ≤ j → n ≤ j
kept_all starts n j h k = omega (arith, length-take-le n starts h)

module _ (k : ℕ) (s starts : List ℕ) (n : ℕ) (old name : Word) (kept : KeptIn k s starts n) where
  -- what becomes of an entry, and the entries that are written
  abbrev new : Entry → Entry
  new = renamed_from (lowered old) (lowered name)

  abbrev es : List Entry
  es = map new (map (entry_of k) (held s starts n))

  abbrev none : Entry
  none = new (entry_of k [])

  pub entries_long : length es ≡ n
  entries_long = length-map (map (entry_of k) (held s starts n)) new ∙ length-map (held s starts n) (entry_of k) ∙ held_long s starts n kept.inside

  entry_is : (j : ℕ) (l : List ℕ) → j < n → l ≡ line_at s (get_or starts j 0) → get_or es j none ≡ new (entry_of k (words l))
  entry_is j l h e =
      map_at_lem new (entry_of k []) none (map (entry_of k) (held s starts n)) j (omega (arith, length-map (held s starts n) (entry_of k), held_long s starts n kept.inside))
      ∙ ap new (map_at_lem (entry_of k) [] (entry_of k []) (held s starts n) j (omega (arith, held_long s starts n kept.inside)) ∙ ap (entry_of k) (held_at s starts n j kept.inside h ∙ rw e))

  pub entries_start : (l : List ℕ) (at : ℕ) → Wrote l l at at (written (map entry_line (take 0 es)))
  unfolding ended
  entries_start l at = wrote_none l at

  -- what the printer of one asks
  pub entry_asked : (j : ℕ) (l : List ℕ) → j < n → l ≡ line_at s (get_or starts j 0) → AnEntry k (words l)
  entry_asked j l h e = rw e (kept.entry j h)

  module _ {a b c : List ℕ} {at e m : ℕ} (j : ℕ) (l : List ℕ) (h : j < n) (el : l ≡ line_at s (get_or starts j 0)) (p : Wrote a b at e (written (map entry_line (take j es)))) (q : Wrote b c e m (written (entry_line (new (entry_of k (words l))) ∷ []))) where
    pub entries_more : Wrote a c at m (written (map entry_line (take (j + 1) es)))
    entries_more =
        let i : j < length es = omega (arith, entries_long) in
        rw (add-one j, take-suc es j none i, map-append entry_line (take j es) (get_or es j none ∷ []), written_append (map entry_line (take j es)) (entry_line (get_or es j none) ∷ []), entry_is j l h el)
        (wrote_then p q)

    pub entries_further : length name ≤ 16 → m ≤ e + longest_line 5
    unfolding renamed_from named entry_of entry_named
    entries_further short =
        test (same_name (lowered (nth (words l) 0)) (lowered old))
        (λ (t : same_name (lowered (nth (words l) 0)) (lowered old) ≡ true). entry_end k (words l) (entry_asked j l h el) name short (rw t at q))
        (λ (t : same_name (lowered (nth (words l) 0)) (lowered old) ≡ false). entry_end k (words l) (entry_asked j l h el) (nth (words l) 0) (name_long _ (first_name k (words l) (entry_asked j l h el))).1 (rw t at q))

  pub entries_done : {a b : List ℕ} {at e : ℕ} (j : ℕ) → n ≤ j → Wrote a b at e (written (map entry_line (take j es))) → Wrote a b at e (written (map entry_line es))
  entries_done j h p = rw (take_all j es (omega (arith, entries_long))) at p

  -- a keyword with its count, and the entries
  pub section_wrote : {a b c : List ℕ} {at e m : ℕ} (key : Word) → Wrote a b at e (written ((key ∷ plain n ∷ []) ∷ [])) → Wrote b c e m (written (map entry_line es)) → Wrote a c at m (written (section key es))
  unfolding section
  section_wrote key p q =
      wrote_is _ (wrote_then p q) (sym (written_append ((key ∷ plain n ∷ []) ∷ []) (map entry_line es)) ∙ rw entries_long)
