-- A text's lines from a place on, read one after the other. Assumes nothing.
use mathlib.Core.Path.{◌≡◌, refl, sym, ap, ◌∙◌}
use mathlib.Core.List.{List, ◌∷◌}
use Prim.Native.Nat.{ℕ, ◌+◌, ◌≤◌, ◌<◌}
use native.Mathlib.Omega.{arith}
use lib.Dec.{ltb}
use lib.ListN.{length, drop, length-drop, length-set, length-replicate}
use borrow.Author.Tests.{eq-eqb, ne_eqb}
use Rattle.verdict.specs.Verdict.{accepted}
use Rattle.verdict.proofs.Bools.{test}
use Rattle.letters.specs.Class.{is_end}
use Rattle.text.specs.Scan.{run, apart, words, lines, line_at}
use Rattle.text.proofs.SplitLaws.{line_step, line_none, line_long, piece_within}
use Rattle.text.proofs.ReadingLaws.{Standing, standing, stand_next, stand_stop, stand_end}
use Rattle.layout.specs.declared.Progress.{Progress}
use Rattle.layout.specs.Grammar.{nothing, State, start, Reading, stopped, fault, finish, layout_grammar}
use Rattle.layout.specs.Layout.{grammar}
use Rattle.layout.specs.Starts.{entry_at, held, Few, state_of, moved_to, slot_of, kept, starts_from, no_starts, begun, starts_of, no_layout, hook_starts, KeptSoFar, Told, Held, Found}
use Rattle.layout.proofs.GoodLaws.{Good, good_start, good_next}
use Rattle.layout.proofs.HeldLaws.{kept_entries, kept_doors}
use Rattle.layout.proofs.StepLaws.{step}

finish_early : (st : State) (n : ℕ) → (st.sect ≡ 6 → ⊥) → finish st n ≡ stopped 38 n
unfolding finish
finish_early st n h = rw (ne_eqb st.sect 6 h)

finish_right : (st : State) (n : ℕ) → st.sect ≡ 6 → finish st n ≡ record { verdict = accepted; typed = st.typed }
unfolding finish
finish_right st n h = rw (eq-eqb st.sect 6 h)

-- ---- what the code has found

-- nothing is kept at the start
start_state : (s starts : List ℕ) → state_of s starts begun ≡ start
unfolding state_of held
start_state s starts = refl

pub held_nothing : (s : List ℕ) (number place : ℕ) → Held s (no_layout number place) nothing
unfolding held no_layout
held_nothing s number place = record {
  rooms = refl;
  tracks = refl;
  obstacles = refl;
  hooks = refl;
  few_rooms = omega arith;
  few_tracks = omega arith;
  few_obstacles = omega arith;
  few_hooks = omega arith;
}

found_stopped : (s : List ℕ) (r : Told) (found : Reading) (f n : ℕ) → found ≡ stopped f n → (f ≡ 0 → ⊥) → r ≡ no_layout f n → Found s r found
unfolding no_layout
found_stopped s r found f n e z q = rw (e, q) (record { verdict = refl; held = held_nothing s f n; starts = rw (ne_eqb f 0 z) })

found_right : (s : List ℕ) (starts : List ℕ) (c : Progress) (r : Told) (found : Reading) → found ≡ record { verdict = accepted; typed = (state_of s starts c).typed } → starts_of s ≡ starts → Few c → r.number ≡ 0 → r.place ≡ 0 → r.rooms ≡ c.rooms → r.tracks ≡ c.tracks → r.obstacles ≡ c.obstacles → r.hooks ≡ c.hooks → r.starts ≡ starts → Found s r found
unfolding state_of
found_right s starts c r found e k f n p x y z w q = rw e (record {
  starts = q ∙ sym k;
  verdict = rw (n, p);
  held = record {
    rooms = rw (x, q);
    tracks = rw (y, q);
    obstacles = rw (z, q);
    hooks = rw (w, q);
    few_rooms = omega (arith, f.rooms);
    few_tracks = omega (arith, f.tracks);
    few_obstacles = omega (arith, f.obstacles);
    few_hooks = omega (arith, f.hooks);
  };
})

kept_long : (starts : List ℕ) (c : Progress) (at : ℕ) → length (kept starts c at) ≡ length starts
unfolding kept
kept_long starts c at = test (ltb 0 c.left) (λ h. rw h (length-set starts (slot_of c) at)) (λ h. rw h)

done : (s starts : List ℕ) (c : Progress) → c.sect ≡ 6 → (state_of s starts c).sect ≡ 6
unfolding state_of
done s starts c e = e

not_done : (s starts : List ℕ) (c : Progress) → (c.sect ≡ 6 → ⊥) → (state_of s starts c).sect ≡ 6 → ⊥
unfolding state_of
not_done s starts c n e = n e

-- ---- the starts: before the first line, one line more, and at the end

starts_begun : (s : List ℕ) → starts_of s ≡ starts_from no_starts begun 0 (lines (drop 0 s))
unfolding starts_of
starts_begun s = refl

starts_line : (starts : List ℕ) (c : Progress) (at : ℕ) (l : List ℕ) (ls : List (List ℕ)) → starts_from starts c at (l ∷ ls) ≡ starts_from (kept starts c at) (moved_to c (words l)) (at + length l + 1) ls
unfolding starts_from
starts_line starts c at l ls = refl

starts_more : (s starts : List ℕ) (c : Progress) (at e : ℕ) → starts_of s ≡ starts_from starts c at (lines (drop at s)) → at < length s → e ≡ at + run (apart is_end) (drop at s) → starts_of s ≡ starts_from (kept starts c at) (moved_to c (words (line_at s at))) (e + 1) (lines (drop (e + 1) s))
starts_more s starts c at e i h he =
    let k : at + length (line_at s at) + 1 ≡ e + 1 = omega (arith, line_long s at) in
    i ∙ rw (line_step s at e he h) (starts_line starts c at (line_at s at) (lines (drop (e + 1) s)) ∙ rw k)

starts_done : (s starts : List ℕ) (c : Progress) (at : ℕ) → starts_of s ≡ starts_from starts c at (lines (drop at s)) → length s ≤ at → starts_of s ≡ starts
starts_done s starts c at i h = i ∙ rw (line_none s at h) (unfold starts_from in refl)

-- ---- the lines from a place on

-- where the line in hand ends
pub line_ends : (s l : List ℕ) (at : ℕ) → l ≡ line_at s at → at + length l ≡ at + run (apart is_end) (drop at s)
line_ends s l at e = ap (λ (k : ℕ). at + k) (ap length e ∙ line_long s at)

pub line_inside : (s l : List ℕ) (at : ℕ) → l ≡ line_at s at → at < length s → at + length l ≤ length s
line_inside s l at e h = (piece_within is_end s at (at + length l) (line_ends s l at e) (omega (arith, h))).1

-- where the reader stands: what is left of the lines, of the grammar and of the starts; and what it keeps stands for a good state
pub record Reader (s starts : List ℕ) (c : Progress) (passed at : ℕ) : Type 0 where
  pub fits : Few c
  pub good : Good (state_of s starts c)
  pub sized : length starts ≡ 256
  pub stands : Standing layout_grammar s (grammar s) (state_of s starts c) passed at
  pub begun : starts_of s ≡ starts_from starts c at (lines (drop at s))

-- before the first line
pub reader : (s : List ℕ) → Reader s no_starts begun 0 0
unfolding grammar
reader s = record {
  fits = record { rooms = omega arith; tracks = omega arith; obstacles = omega arith; hooks = omega arith };
  good = rw (start_state s no_starts) good_start;
  sized = length-replicate {A = ℕ} 256 0;
  stands = rw (start_state s no_starts) (standing layout_grammar s start);
  begun = starts_begun s;
}

-- a turn of the reader, at the values that the code has in hand
module _ (s starts : List ℕ) (c : Progress) (n at f : ℕ) (inv : Reader s starts c n at) (h : at < length s) (ef : f ≡ fault (state_of s starts c) (entry_at s at)) where
  pub turn_stops : (r : Told) → (f ≡ 0 → ⊥) → r ≡ no_layout f (n + 1) → Found s r (grammar s)
  turn_stops r z q = found_stopped s r (grammar s) f (n + 1) (stand_stop inv.stands h (λ y. z (ef ∙ y)) ∙ rw (← ef)) z q

  pub turn_more : (more l : List ℕ) (d : Progress) (e : ℕ) → f ≡ 0 → more ≡ kept starts c at → l ≡ line_at s at → d ≡ moved_to c (words l) → e ≡ at + run (apart is_end) (drop at s) → Reader s more d (n + 1) (e + 1)
  turn_more more l d e z hm hl hd he =
      let y : fault (state_of s starts c) (entry_at s at) ≡ 0 = sym ef ∙ z in
      let (same, fit) = step s starts c at inv.sized inv.fits inv.good y in
      rw (hd, hl, hm) (record {
        fits = fit;
        good = rw same (good_next (state_of s starts c) (entry_at s at) inv.good y);
        sized = kept_long starts c at ∙ inv.sized;
        stands = rw same (stand_next inv.stands he h y);
        begun = starts_more s starts c at e inv.begun h he;
      })

-- no line is left
module _ (s starts : List ℕ) (c : Progress) (n at : ℕ) (inv : Reader s starts c n at) (h : length s ≤ at) where
  over : grammar s ≡ finish (state_of s starts c) n
  over = stand_end inv.stands h

  pub ends_early : (r : Told) → (c.sect ≡ 6 → ⊥) → r ≡ no_layout 38 n → Found s r (grammar s)
  ends_early r z q = found_stopped s r (grammar s) 38 n (over ∙ finish_early (state_of s starts c) n (not_done s starts c z)) (λ y. omega arith) q

  pub ends_right : c.sect ≡ 6 → Found s (record { number = 0; place = 0; rooms = c.rooms; tracks = c.tracks; obstacles = c.obstacles; hooks = c.hooks; starts = starts }) (grammar s)
  ends_right z =
      found_right s starts c _ (grammar s) (over ∙ finish_right (state_of s starts c) n (done s starts c z)) (starts_done s starts c at inv.begun h) inv.fits refl refl refl refl refl refl refl

-- the rooms and the hooks so far are kept
pub kept_so_far : (s starts : List ℕ) (c : Progress) (n at : ℕ) → Reader s starts c n at → KeptSoFar s starts c
unfolding state_of
kept_so_far s starts c n at inv = record {
  rooms = kept_entries 2 _ s starts c.rooms inv.fits.rooms (omega (arith, inv.fits.rooms, inv.sized)) inv.good.rooms;
  hooks = kept_doors 5 _ s (hook_starts starts) c.hooks inv.fits.hooks (omega (arith, inv.fits.hooks, inv.sized, length-drop 192 starts)) inv.good.hooks refl;
  sized = inv.sized;
}
