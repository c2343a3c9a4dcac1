-- Reading line by line: one line, several lines, and the lines of a text from a place on. Assumes nothing.
use mathlib.Core.Path.{◌≡◌, refl, ◌∙◌}
use mathlib.Core.List.{List, [], ◌∷◌, map}
use Prim.Native.Nat.{ℕ, suc, ◌+◌, ◌≤◌, ◌<◌}
use native.Mathlib.Numerals.{add-one}
use native.Mathlib.Omega.{arith}
use lib.ListN.{length, drop}
use borrow.Author.Tests.{eq-eqb, ne_eqb}
use Rattle.letters.specs.Class.{is_end}
use Rattle.text.specs.Scan.{run, apart, words, lines, line_at}
use Rattle.text.specs.Written.{word_lines}
use Rattle.text.specs.Reading.{Line, Grammar, read_lines}
use Rattle.text.proofs.SplitLaws.{line_step, line_none, piece_within}

-- the lines of words from a place on
abbrev pub rest : List ℕ → ℕ → List Line
rest s at = map words (lines (drop at s))

module _ {S R : Type 0} (g : Grammar S R) where
  -- a line with no fault, one with a fault, and no line
  pub read_next : (n : ℕ) (st : S) (l : Line) (ls : List Line) → g.fault st l ≡ 0 → read_lines g n st (l ∷ ls) ≡ read_lines g (suc n) (g.next st l) ls
  unfolding read_lines
  read_next n st l ls e = rw (eq-eqb (g.fault st l) 0 e)

  pub read_stop : (n : ℕ) (st : S) (l : Line) (ls : List Line) → (g.fault st l ≡ 0 → ⊥) → read_lines g n st (l ∷ ls) ≡ g.stopped (g.fault st l) (suc n)
  unfolding read_lines
  read_stop n st l ls e = rw (ne_eqb (g.fault st l) 0 e)

  pub read_end : (n : ℕ) (st : S) → read_lines g n st [] ≡ g.finish st n
  unfolding read_lines
  read_end n st = refl

-- ---- the lines of a text from a place on

-- the reader stands before the line that starts at a place, in a state, behind so many lines: those that are left say what all do
pub record Standing {S R : Type 0} (g : Grammar S R) (s : List ℕ) (all : R) (st : S) (passed at : ℕ) : Type 0 where
  pub fewer : passed ≤ at
  pub within : at ≤ length s + 1
  pub same : all ≡ read_lines g passed st (rest s at)

-- before the first line
pub standing : {S R : Type 0} (g : Grammar S R) (s : List ℕ) (st : S) → Standing g s (read_lines g 0 st (word_lines s)) st 0 0
unfolding word_lines
standing g s st = record { fewer = omega arith; within = omega arith; same = refl }

module _ {S R : Type 0} {g : Grammar S R} {s : List ℕ} {all : R} {st : S} {n at : ℕ} (here : Standing g s all st n at) where
  -- the line there has no fault, has one, or there is none
  pub stand_next : {e : ℕ} → e ≡ at + run (apart is_end) (drop at s) → at < length s → g.fault st (words (line_at s at)) ≡ 0 → Standing g s all (g.next st (words (line_at s at))) (n + 1) (e + 1)
  stand_next {e} he h f =
      let ends = piece_within is_end s at e he (omega arith) in
      record {
        fewer = omega (arith, here.fewer, ends);
        within = omega (arith, ends);
        same = here.same ∙ rw (line_step s at e he h, add-one n) (read_next g n st (words (line_at s at)) (rest s (e + 1)) f);
      }

  pub stand_stop : at < length s → (g.fault st (words (line_at s at)) ≡ 0 → ⊥) → all ≡ g.stopped (g.fault st (words (line_at s at))) (n + 1)
  stand_stop h f =
      let e = at + run (apart is_end) (drop at s) in
      here.same ∙ rw (line_step s at e refl h, add-one n) (read_stop g n st (words (line_at s at)) (rest s (e + 1)) f)

  pub stand_end : length s ≤ at → all ≡ g.finish st n
  stand_end h = here.same ∙ rw (line_none s at h) (read_end g n st)
