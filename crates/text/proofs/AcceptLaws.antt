-- A reading that accepts, by any steady grammar: the same from whatever line the reader counts, and whatever blank lines stand between.
-- Assumes nothing.
use mathlib.Core.Path.{◌≡◌, sym, ap, ◌∙◌}
use mathlib.Core.List.{List, [], ◌∷◌}
use Prim.Native.Nat.{ℕ, suc}
use native.Mathlib.Decide.{ℕ_discrete}
use Rattle.verdict.proofs.Bools.{decided}
use Rattle.text.specs.Reading.{Line, Grammar, read_lines, spoken}
use Rattle.text.proofs.ReadingLaws.{read_next, read_stop, read_end}

-- a fault is told as it is, where the text ends is told only of a text that ends early, and a blank line changes nothing
pub record Steady {S R : Type 0} (g : Grammar S R) : Type 0 where
  pub number : R → ℕ
  pub stops : (f n : ℕ) → number (g.stopped f n) ≡ f
  pub ends : (st : S) (n m : ℕ) → number (g.finish st n) ≡ 0 → g.finish st m ≡ g.finish st n
  pub blank : (st : S) → (g.fault st [] ≡ 0) × (g.next st [] ≡ st)

module _ {S R : Type 0} (g : Grammar S R) (k : Steady g) (r : R) (z : k.number r ≡ 0) where
  -- the lines are read as r from a state on
  abbrev ReadAs : S → List Line → Type 0
  ReadAs st ls = (n : ℕ) → read_lines g n st ls ≡ r

  -- an accepted reading has no fault in its first line
  no_fault : (n : ℕ) (st : S) (l : Line) (ls : List Line) → read_lines g n st (l ∷ ls) ≡ r → g.fault st l ≡ 0
  no_fault n st l ls h =
      decided (ℕ_discrete (g.fault st l) 0) (λ (e : g.fault st l ≡ 0). e)
      (λ (e : g.fault st l ≡ 0 → ⊥). sym (k.stops (g.fault st l) (suc n)) ∙ ap k.number (sym (read_stop g n st l ls e) ∙ h) ∙ z)

  -- from whatever line the reader counts
  pub read_any : (ls : List Line) (n m : ℕ) (st : S) → read_lines g n st ls ≡ r → read_lines g m st ls ≡ r
  read_any [] n m st h =
      let e = sym (read_end g n st) ∙ h in
      read_end g m st ∙ k.ends st n m (ap k.number e ∙ z) ∙ e
  read_any (l ∷ ls) n m st h =
      let f = no_fault n st l ls h in
      read_next g m st l ls f ∙ read_any ls (suc n) (suc m) (g.next st l) (sym (read_next g n st l ls f) ∙ h)

  -- ---- one line

  pub accepts_next : (st : S) (l : Line) (ls : List Line) → g.fault st l ≡ 0 → ReadAs (g.next st l) ls → ReadAs st (l ∷ ls)
  accepts_next st l ls f h n = read_next g n st l ls f ∙ h (suc n)

  pub next_accepts : (st : S) (l : Line) (ls : List Line) → ReadAs st (l ∷ ls) → (g.fault st l ≡ 0) × ReadAs (g.next st l) ls
  next_accepts st l ls h =
      let f = no_fault 0 st l ls (h 0) in
      (f, λ n. read_any ls 1 n (g.next st l) (sym (read_next g 0 st l ls f) ∙ h 0))

  -- ---- blank lines

  pub accepts_blank : (st : S) (ls : List Line) → ReadAs st ls → ReadAs st ([] ∷ ls)
  accepts_blank st ls h = let (f, e) = k.blank st in accepts_next st [] ls f (rw e h)

  pub blank_accepts : (st : S) (ls : List Line) → ReadAs st ([] ∷ ls) → ReadAs st ls
  blank_accepts st ls h = let (f, e) = k.blank st in rw e at (next_accepts st [] ls h).1

  pub accepts_spoken : (ls : List Line) (st : S) → ReadAs st (spoken ls) → ReadAs st ls
  unfolding spoken
  accepts_spoken [] st h = h
  accepts_spoken ([] ∷ ls) st h = accepts_blank st ls (accepts_spoken ls st h)
  accepts_spoken ((w ∷ ws) ∷ ls) st h =
      let (f, q) = next_accepts st (w ∷ ws) (spoken ls) h in
      accepts_next st (w ∷ ws) ls f (accepts_spoken ls (g.next st (w ∷ ws)) q)

  pub spoken_accepts : (ls : List Line) (st : S) → ReadAs st ls → ReadAs st (spoken ls)
  unfolding spoken
  spoken_accepts [] st h = h
  spoken_accepts ([] ∷ ls) st h = spoken_accepts ls st (blank_accepts st ls h)
  spoken_accepts ((w ∷ ws) ∷ ls) st h =
      let (f, q) = next_accepts st (w ∷ ws) ls h in
      accepts_next st (w ∷ ws) (spoken ls) f (spoken_accepts ls (g.next st (w ∷ ws)) q)
