-- One line more: the starts that the code keeps stand for the grammar's next state. Assumes nothing.
use mathlib.Core.Path.{◌≡◌, refl, ◌∙◌}
use mathlib.Core.Logic.{◌⊎◌, inl, inr, ⊎_elim}
use mathlib.Core.Bool.{true, false, cond}
use mathlib.Core.List.{List, [], ◌∷◌, ◌++◌, map-append}
use Prim.Native.Nat.{ℕ, ◌+◌, ◌-◌, ◌≤◌, ◌<◌}
use native.Mathlib.Numerals.{add-one}
use native.Mathlib.Omega.{arith}
use native.Mathlib.Decide.{ℕ_discrete}
use lib.Dec.{eqb, ltb}
use lib.ListN.{length, take, drop, set, length-drop}
use lib.Seq.{take-suc-set, drop-set-add, drop-set-lt, take-set-le}
use borrow.Author.Tests.{eqb-true, ltb-true}
use Rattle.verdict.proofs.Bools.{test, decided}
use Rattle.letters.specs.Class.{within}
use Rattle.number.specs.Count.{value, is_count}
use Rattle.layout.specs.declared.Progress.{Progress}
use Rattle.text.specs.Reading.{Word, Line, nth}
use Rattle.layout.specs.Grammar.{with_entry, opens, words_of, open_fault, fault, next}
use Rattle.layout.specs.Starts.{entry_at, held, Few, track_starts, obstacle_starts, hook_starts, state_of, count_in, entered, moved_to, slot_of, kept}
use Rattle.layout.proofs.GoodLaws.{Good, open_words, open_count}
use Rattle.layout.proofs.HeldLaws.{held_long, slot_room, slot_track, slot_obstacle, slot_hook}

-- ---- a start stored behind the n of its kind, and one stored elsewhere

held_more : (s starts : List ℕ) (at from n : ℕ) → from + n < length starts → held s (drop from (set starts (from + n) at)) (n + 1) ≡ held s (drop from starts) n ++ (entry_at s at ∷ [])
unfolding held
held_more s starts at from n h =
    rw (drop-set-add from starts n at, add-one n, take-suc-set (drop from starts) n at (omega (arith, length-drop from starts)))
    (map-append (entry_at s) (take n (drop from starts)) (at ∷ []))

held_other : (s starts : List ℕ) (at p from n : ℕ) → (p < from) ⊎ (from + n ≤ p) → held s (drop from (set starts p at)) n ≡ held s (drop from starts) n
unfolding held
held_other s starts at p from n q =
    ⊎_elim (λ (l : p < from). rw (drop-set-lt from starts p at l))
    (λ (l : from + n ≤ p).
    let d : p ≡ from + (p - from) = omega arith in
    rw (d, drop-set-add from starts (p - from) at, take-set-le n (drop from starts) (p - from) at (omega arith))) q

column : (s starts : List ℕ) (at k sect p from n : ℕ) → from + 64 ≤ length starts → (sect ≡ k → (p ≡ from + n) × (n < 64)) → (p < from) ⊎ (from + n ≤ p) → held s (drop from (set starts p at)) (cond (eqb sect k) (n + 1) n) ≡ cond (eqb sect k) (held s (drop from starts) n ++ (entry_at s at ∷ [])) (held s (drop from starts) n)
column s starts at k sect p from n h own side =
    test (eqb sect k)
    (λ (e : eqb sect k ≡ true).
    let (q, l) = own (eqb-true sect k e) in
    rw (e, q) (held_more s starts at from n (omega arith)))
    (λ (e : eqb sect k ≡ false). rw e (held_other s starts at p from n side))

-- ---- where an entry's start is kept

record Spot (c : Progress) (p : ℕ) : Type 0 where
  own2 : c.sect ≡ 2 → (p ≡ 0 + c.rooms) × (c.rooms < 64)
  own3 : c.sect ≡ 3 → (p ≡ 64 + c.tracks) × (c.tracks < 64)
  own4 : c.sect ≡ 4 → (p ≡ 128 + c.obstacles) × (c.obstacles < 64)
  own5 : c.sect ≡ 5 → (p ≡ 192 + c.hooks) × (c.hooks < 64)
  side2 : (p < 0) ⊎ (0 + c.rooms ≤ p)
  side3 : (p < 64) ⊎ (64 + c.tracks ≤ p)
  side4 : (p < 128) ⊎ (128 + c.obstacles ≤ p)
  side5 : (p < 192) ⊎ (192 + c.hooks ≤ p)
  inside : p < 256

module _ (c : Progress) (f : Few c) (some : 0 < c.left) (kind : (2 ≤ c.sect) × (c.sect ≤ 5)) (h2 : c.sect ≡ 2 → c.rooms + c.left ≤ 64) (h3 : c.sect ≡ 3 → c.tracks + c.left ≤ 64) (h4 : c.sect ≡ 4 → c.obstacles + c.left ≤ 64) (h5 : c.sect ≡ 5 → c.hooks + c.left ≤ 64) where
  spot : Spot c (slot_of c)
  spot =
      decided (ℕ_discrete c.sect 2)
      (λ (e : c.sect ≡ 2).
      let z : c.rooms ≡ slot_of c = slot_room c e in
      let m : c.rooms + c.left ≤ 64 = h2 e in
      record { own2 = λ q. (omega arith, omega arith); own3 = λ q. absurd (omega arith); own4 = λ q. absurd (omega arith); own5 = λ q. absurd (omega arith); side2 = inr (omega arith); side3 = inl (omega arith); side4 = inl (omega arith); side5 = inl (omega arith); inside = omega arith })
      (λ (n : c.sect ≡ 2 → ⊥).
      decided (ℕ_discrete c.sect 3)
      (λ (e : c.sect ≡ 3).
      let z : 64 + c.tracks ≡ slot_of c = slot_track c n e in
      let m : c.tracks + c.left ≤ 64 = h3 e in
      record { own2 = λ q. absurd (omega arith); own3 = λ q. (omega arith, omega arith); own4 = λ q. absurd (omega arith); own5 = λ q. absurd (omega arith); side2 = inr (omega arith); side3 = inr (omega arith); side4 = inl (omega arith); side5 = inl (omega arith); inside = omega arith })
      (λ (d : c.sect ≡ 3 → ⊥).
      decided (ℕ_discrete c.sect 4)
      (λ (e : c.sect ≡ 4).
      let z : 128 + c.obstacles ≡ slot_of c = slot_obstacle c n d e in
      let m : c.obstacles + c.left ≤ 64 = h4 e in
      record { own2 = λ q. absurd (n q); own3 = λ q. absurd (d q); own4 = λ q. (omega arith, omega arith); own5 = λ q. absurd (omega arith); side2 = inr (omega arith); side3 = inr (omega arith); side4 = inr (omega arith); side5 = inl (omega arith); inside = omega arith })
      (λ (o : c.sect ≡ 4 → ⊥).
      let z : 192 + c.hooks ≡ slot_of c = slot_hook c n d o in
      let five : c.sect ≡ 5 = omega arith in
      let m : c.hooks + c.left ≤ 64 = h5 five in
      record { own2 = λ q. absurd (n q); own3 = λ q. absurd (d q); own4 = λ q. absurd (o q); own5 = λ q. (omega arith, omega arith); side2 = inr (omega arith); side3 = inr (omega arith); side4 = inr (omega arith); side5 = inr (omega arith); inside = omega arith })))

module _ (s starts : List ℕ) (c : Progress) (sized : length starts ≡ 256) (f : Few c) (g : Good (state_of s starts c)) where
  kept_spot : 0 < c.left → Spot c (slot_of c)
  unfolding state_of
  kept_spot h =
      spot c f h (g.kind h) (λ e. omega (arith, g.slot2.here e, held_long s starts c.rooms (omega arith)))
      (λ e. omega (arith, g.slot3.here e, held_long s (track_starts starts) c.tracks (omega (arith, length-drop 64 starts))))
      (λ e. omega (arith, g.slot4.here e, held_long s (obstacle_starts starts) c.obstacles (omega (arith, length-drop 128 starts))))
      (λ e. omega (arith, g.slot5.here e, held_long s (hook_starts starts) c.hooks (omega (arith, length-drop 192 starts))))

  pub slot_inside : 0 < c.left → slot_of c < 256
  slot_inside h = (kept_spot h).inside

  pub few_rooms : length (held s starts c.rooms) ≤ 64
  few_rooms = omega (arith, held_long s starts c.rooms (omega arith))

  -- a blank line
  blank_step : (at : ℕ) → state_of s (kept starts c at) c ≡ state_of s starts c
  unfolding state_of kept
  blank_step at =
      test (ltb 0 c.left)
      (λ (h : ltb 0 c.left ≡ true).
      let q = kept_spot (ltb-true 0 c.left h) in
      rw (h, held_other s starts at (slot_of c) 0 c.rooms q.side2, held_other s starts at (slot_of c) 64 c.tracks q.side3, held_other s starts at (slot_of c) 128 c.obstacles q.side4, held_other s starts at (slot_of c) 192 c.hooks q.side5))
      (λ (h : ltb 0 c.left ≡ false). rw h)

  -- an entry
  entry_step : (at : ℕ) → 0 < c.left → state_of s (set starts (slot_of c) at) (entered c) ≡ record { sect = c.sect; left = c.left - 1; typed = with_entry c.sect (state_of s starts c).typed (entry_at s at) }
  unfolding state_of entered with_entry
  entry_step at h =
      let q = kept_spot h in
      rw (
        column s starts at 2 c.sect (slot_of c) 0 c.rooms (omega arith) q.own2 q.side2,
        column s starts at 3 c.sect (slot_of c) 64 c.tracks (omega arith) q.own3 q.side3,
        column s starts at 4 c.sect (slot_of c) 128 c.obstacles (omega arith) q.own4 q.side4,
        column s starts at 5 c.sect (slot_of c) 192 c.hooks (omega arith) q.own5 q.side5,
      )

  entry_fits : 0 < c.left → Few (entered c)
  unfolding entered
  entry_fits h =
      let q = kept_spot h in
      record {
        rooms = at_most 2 c.rooms f.rooms (λ e. (q.own2 e).1);
        tracks = at_most 3 c.tracks f.tracks (λ e. (q.own3 e).1);
        obstacles = at_most 4 c.obstacles f.obstacles (λ e. (q.own4 e).1);
        hooks = at_most 5 c.hooks f.hooks (λ e. (q.own5 e).1);
      }
    where
      at_most : (k n : ℕ) → n ≤ 64 → (c.sect ≡ k → n < 64) → cond (eqb c.sect k) (n + 1) n ≤ 64
      at_most k n l m = test (eqb c.sect k) (λ (e : eqb c.sect k ≡ true). rw e (omega (arith, m (eqb-true c.sect k e)))) (λ (e : eqb c.sect k ≡ false). rw e l)

-- what a right count says
no_word : (l : Line) → length l ≡ 1 → count_in (nth l 1) ≡ value 0 (nth l 1)
unfolding count_in value is_count
no_word [] e = absurd (omega arith)
no_word (w ∷ []) e = refl
no_word (w ∷ v ∷ l) e = absurd (omega arith)

count_said : (k : ℕ) (l : Line) → open_fault k l ≡ 0 → count_in (nth l 1) ≡ value 0 (nth l 1)
count_said k l e =
    test (within 2 5 k)
    (λ (h : within 2 5 k ≡ true). let z = open_count k l e h in unfold count_in in (rw z))
    (λ (h : within 2 5 k ≡ false). let n : words_of k ≡ 1 = unfold words_of in (rw h) in no_word l (open_words k l e ∙ n))

-- ---- the law: the code's state behind a line is the grammar's next one

module _ (s starts : List ℕ) (c : Progress) (at : ℕ) (sized : length starts ≡ 256) (f : Few c) (g : Good (state_of s starts c)) where
  -- what is to be shown of a line
  abbrev Steps : Line → Type 0
  Steps l = (state_of s (kept starts c at) (moved_to c l) ≡ next (state_of s starts c) l) × Few (moved_to c l)

  by_entry : (w : Word) (ws : Line) → (w ∷ ws) ≡ entry_at s at → ltb 0 c.left ≡ true → Steps (w ∷ ws)
  by_entry w ws q h = (same, fits)
    where
      same : state_of s (kept starts c at) (moved_to c (w ∷ ws)) ≡ next (state_of s starts c) (w ∷ ws)
      same = unfold moved_to next state_of kept in (rw (h, q) (unfold state_of in (entry_step s starts c sized f g at (ltb-true 0 c.left h))))

      fits : Few (moved_to c (w ∷ ws))
      fits = unfold moved_to in (rw h (entry_fits s starts c sized f g (ltb-true 0 c.left h)))

  by_open : (w : Word) (ws : Line) → ltb 0 c.left ≡ false → open_fault (opens c.sect w) (w ∷ ws) ≡ 0 → Steps (w ∷ ws)
  by_open w ws h o = (same, fits)
    where
      same : state_of s (kept starts c at) (moved_to c (w ∷ ws)) ≡ next (state_of s starts c) (w ∷ ws)
      same = unfold moved_to next state_of kept in (rw (h, count_said (opens c.sect w) (w ∷ ws) o))

      fits : Few (moved_to c (w ∷ ws))
      fits = unfold moved_to in (rw h (record { rooms = f.rooms; tracks = f.tracks; obstacles = f.obstacles; hooks = f.hooks }))

  by_blank : Steps []
  unfolding moved_to next
  by_blank = (blank_step s starts c sized f g at, f)

  open_right : (w : Word) (ws : Line) → ltb 0 c.left ≡ false → fault (state_of s starts c) (w ∷ ws) ≡ 0 → open_fault (opens c.sect w) (w ∷ ws) ≡ 0
  unfolding fault state_of
  open_right w ws h e = rw h at e

  by_line : (l : Line) → l ≡ entry_at s at → fault (state_of s starts c) l ≡ 0 → Steps l
  by_line [] q e = by_blank
  by_line (w ∷ ws) q e = test (ltb 0 c.left) (λ h. by_entry w ws q h) (λ h. by_open w ws h (open_right w ws h e))

  pub step : fault (state_of s starts c) (entry_at s at) ≡ 0 → (state_of s (kept starts c at) (moved_to c (entry_at s at)) ≡ next (state_of s starts c) (entry_at s at)) × Few (moved_to c (entry_at s at))
  step e = by_line (entry_at s at) refl e
