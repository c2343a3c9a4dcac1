-- The entries that the code keeps by their starts: how many, which, and the state behind a line. Assumes nothing.
use mathlib.Core.Path.{◌≡◌, refl, sym, ap, ◌∙◌}
use mathlib.Core.Bool.{Bool, true, false, cond, not, ◌&&◌}
use mathlib.Core.List.{List, [], ◌∷◌}
use Prim.Native.Nat.{ℕ, ◌+◌, ◌-◌, ◌≤◌, ◌<◌}
use native.Mathlib.Omega.{arith}
use lib.Dec.{eqb}
use lib.ListN.{length, get_or, take, drop, set, length-map, length-drop}
use lib.Seq.{length-take-le, get_or-take, take_all}
use borrow.Author.Tests.{eq-eqb, ne_eqb, lt-ltb, le-ltb}
use Rattle.verdict.specs.Lowest.{any_under}
use Rattle.verdict.proofs.Lists.{map_at_lem}
use Rattle.verdict.proofs.Lowest.{any_same}
use Rattle.text.specs.Scan.{words, line_at}
use Rattle.names.specs.Name.{is_name, same_name}
use Rattle.layout.specs.declared.Progress.{Progress}
use Rattle.text.specs.Reading.{Word, Line, nth}
use Rattle.layout.specs.Grammar.{words_at, names_of, known, opens, known_but}
use Rattle.layout.specs.Starts.{entry_at, held, KeptEntries, KeptWords, count_in, entered, moved_to, slot_of, kept}
use Rattle.verdict.proofs.Each.{Each, each_at}
use Rattle.layout.proofs.ApartLaws.{words_long, words_here}
use Rattle.layout.specs.Plain.{IsEntry}

-- ---- how many entries are kept, and which

pub held_long : (s starts : List ℕ) (n : ℕ) → n ≤ length starts → length (held s starts n) ≡ n
unfolding held
held_long s starts n h = length-map (take n starts) (entry_at s) ∙ length-take-le n starts h

pub held_at : (s starts : List ℕ) (n j : ℕ) → n ≤ length starts → j < n → get_or (held s starts n) j [] ≡ entry_at s (get_or starts j 0)
unfolding held
held_at s starts n j h l =
    let k : length (take n starts) ≡ n = length-take-le n starts h in
    map_at_lem (entry_at s) 0 [] (take n starts) j (omega arith) ∙ rw (get_or-take n starts j 0 l)

pub word_name : (k : ℕ) (s starts : List ℕ) (n j : ℕ) → n ≤ length starts → j < n → get_or (words_at k (held s starts n)) j [] ≡ nth (entry_at s (get_or starts j 0)) k
word_name k s starts n j h l =
    words_here k (held s starts n) j (omega (arith, held_long s starts n h)) ∙ ap (λ (e : Line). nth e k) (held_at s starts n j h l)

pub room_name_lem : (s starts : List ℕ) (n j : ℕ) → n ≤ length starts → j < n → get_or (names_of (held s starts n)) j [] ≡ nth (entry_at s (get_or starts j 0)) 0
unfolding names_of
room_name_lem s starts n j h l = word_name 0 s starts n j h l

-- entries of a layout have names, and hooks doors
module _ (k : ℕ) (rooms : List Line) (s starts : List ℕ) (n : ℕ) (few : n ≤ 64) (h : n ≤ length starts) (g : Each (IsEntry k rooms) (held s starts n)) where
  pub entry_at_lem : (j : ℕ) → j < n → IsEntry k rooms (entry_at s (get_or starts j 0))
  entry_at_lem j l = rw (held_at s starts n j h l) at (each_at (IsEntry k rooms) [] (held s starts n) g j (omega (arith, held_long s starts n h)))

  pub kept_entries : KeptEntries s starts n
  kept_entries = record { few = few; inside = h; name = λ j l. (entry_at_lem j l).name }

  pub kept_doors : k ≡ 5 → KeptWords 1 s starts n
  kept_doors e = record { few = few; inside = h; name = λ j l. ((entry_at_lem j l).hook e).door }

-- the starts from a place on, as the code lends them
rest_is : (starts : List ℕ) (k n : ℕ) → length starts - k ≤ n → take n (drop k starts) ≡ drop k starts
rest_is starts k n h = take_all n (drop k starts) (omega (arith, length-drop k starts))

pub held_rest : (s starts : List ℕ) (k n m : ℕ) → length starts - k ≤ n → held s (take n (drop k starts)) m ≡ held s (drop k starts) m
held_rest s starts k n m h = rw (rest_is starts k n h)

pub kept_rest : (c : ℕ) (s starts : List ℕ) (k n m : ℕ) → length starts - k ≤ n → KeptWords c s (drop k starts) m → KeptWords c s (take n (drop k starts)) m
kept_rest c s starts k n m h q = rw (rest_is starts k n h) q

-- ---- one of them has a name

pub named_not : (j but : ℕ) (t : Bool) → j ≡ but → false ≡ (not (eqb j but) && t)
named_not j but t e = rw (eq-eqb j but e)

pub named_by : (j but k : ℕ) (w s starts l u : List ℕ) (r : Bool) → (j ≡ but → ⊥) → l ≡ line_at s (get_or starts j 0) → u ≡ nth (words l) k → r ≡ same_name w u → r ≡ (not (eqb j but) && same_name w (nth (entry_at s (get_or starts j 0)) k))
named_by j but k w s starts l u r n el eu er = er ∙ rw (eu, el, ne_eqb j but n)

pub named_asked : (s starts l u : List ℕ) (j k : ℕ) → l ≡ line_at s (get_or starts j 0) → u ≡ nth (words l) k → is_name (nth (entry_at s (get_or starts j 0)) k) ≡ true → is_name u ≡ true
named_asked s starts l u j k el eu h = rw (eu, el) h

-- one of the kept entries, another than `but`, has the name
pub known_held : (k : ℕ) (s starts w : List ℕ) (n but : ℕ) → n ≤ length starts
    → any_under n (λ j. not (eqb j but) && same_name w (nth (entry_at s (get_or starts j 0)) k)) ≡ known_but but w (words_at k (held s starts n))
unfolding known_but
known_held k s starts w n but h =
    let e : length (words_at k (held s starts n)) ≡ n = words_long k (held s starts n) ∙ held_long s starts n h in
    rw e (any_same n _ _ (λ j l. ap (λ (u : Word). not (eqb j but) && same_name w u) (sym (word_name k s starts n j h l))))

-- none is left out where there are no more than 64
pub known_all : (w : Word) (names : List Word) → length names ≤ 64 → known_but 64 w names ≡ known w names
unfolding known_but known
known_all w names h =
    any_same (length names) _ _ (λ k l. ap (λ (t : Bool). not t && same_name w (get_or names k [])) (ne_eqb k 64 (λ z. omega arith)))

-- ---- the code's state behind a line

module _ (c : Progress) where
  pub entered_by : (rooms tracks obstacles hooks : ℕ) → rooms ≡ cond (eqb c.sect 2) (c.rooms + 1) c.rooms → tracks ≡ cond (eqb c.sect 3) (c.tracks + 1) c.tracks → obstacles ≡ cond (eqb c.sect 4) (c.obstacles + 1) c.obstacles → hooks ≡ cond (eqb c.sect 5) (c.hooks + 1) c.hooks
      → ◌≡◌ {A = Progress} (record { sect = c.sect; left = c.left - 1; rooms = rooms; tracks = tracks; obstacles = obstacles; hooks = hooks }) (entered c)
  unfolding entered
  entered_by rooms tracks obstacles hooks r t o k = rw (r, t, o, k)

  pub moved_blank : (ws : Line) → length ws ≡ 0 → c ≡ moved_to c ws
  unfolding moved_to
  moved_blank [] e = refl
  moved_blank (w ∷ ws) e = absurd (omega arith)

  pub moved_entry : (ws : Line) (r : Progress) → (length ws ≡ 0 → ⊥) → 0 < c.left → r ≡ entered c → r ≡ moved_to c ws
  unfolding moved_to
  moved_entry [] r n l e = absurd (n refl)
  moved_entry (w ∷ ws) r n l e = rw (lt-ltb 0 c.left l) e

  pub moved_open : (ws : Line) (u v : Word) (k n : ℕ) → (length ws ≡ 0 → ⊥) → c.left ≤ 0 → u ≡ nth ws 0 → k ≡ opens c.sect u → v ≡ nth ws 1 → n ≡ count_in v → ◌≡◌ {A = Progress} (record { sect = k; left = n; rooms = c.rooms; tracks = c.tracks; obstacles = c.obstacles; hooks = c.hooks }) (moved_to c ws)
  unfolding moved_to
  moved_open [] u v k n o l eu ek ev en = absurd (o refl)
  moved_open (w ∷ ws) u v k n o l eu ek ev en = rw (le-ltb 0 c.left l, ek, eu, en, ev)

  pub slot_room : c.sect ≡ 2 → c.rooms ≡ slot_of c
  unfolding slot_of
  slot_room e = rw (eq-eqb c.sect 2 e)

  pub slot_track : (c.sect ≡ 2 → ⊥) → c.sect ≡ 3 → 64 + c.tracks ≡ slot_of c
  unfolding slot_of
  slot_track n e = rw (ne_eqb c.sect 2 n, eq-eqb c.sect 3 e)

  pub slot_obstacle : (c.sect ≡ 2 → ⊥) → (c.sect ≡ 3 → ⊥) → c.sect ≡ 4 → 128 + c.obstacles ≡ slot_of c
  unfolding slot_of
  slot_obstacle n m e = rw (ne_eqb c.sect 2 n, ne_eqb c.sect 3 m, eq-eqb c.sect 4 e)

  pub slot_hook : (c.sect ≡ 2 → ⊥) → (c.sect ≡ 3 → ⊥) → (c.sect ≡ 4 → ⊥) → 192 + c.hooks ≡ slot_of c
  unfolding slot_of
  slot_hook n m o = rw (ne_eqb c.sect 2 n, ne_eqb c.sect 3 m, ne_eqb c.sect 4 o)

  pub kept_none : (starts : List ℕ) (at : ℕ) → c.left ≡ 0 → starts ≡ kept starts c at
  unfolding kept
  kept_none starts at e = rw (le-ltb 0 c.left (omega arith))

  pub kept_some : (starts : List ℕ) (at i : ℕ) → (c.left ≡ 0 → ⊥) → i ≡ slot_of c → set starts i at ≡ kept starts c at
  unfolding kept
  kept_some starts at i n e = rw (lt-ltb 0 c.left (omega arith), e)
