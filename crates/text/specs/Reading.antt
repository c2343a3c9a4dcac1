-- Reading a text line by line: the lowest faulty line gets the first of its faults, and where no line is faulty the text may end early.
-- A grammar says the rest. Definitions only.
use Rattle.std.specs.Prelude.{ℕ, suc, cond, List, [], ◌∷◌, eqb, get_or, Result, Ok, Err}
use Rattle.verdict.specs.Refusals.{number_of}
use Rattle.verdict.specs.declared.Refusal.{Refusal}

abbrev pub Word : Type 0
Word = List ℕ

abbrev pub Line : Type 0
Line = List Word

-- word k of a line
abbrev pub nth : Line → ℕ → Word
nth l k = get_or l k []

-- the lines that have a word: blank lines are skipped
unfoldable pub spoken : List Line → List Line
spoken [] = []
spoken ([] ∷ ls) = spoken ls
spoken ((w ∷ ws) ∷ ls) = (w ∷ ws) ∷ spoken ls

-- a fault by its number, 0 for nothing
abbrev pub fault_of : {A : Type 0} → Result A Refusal → ℕ
fault_of (Ok _) = 0
fault_of (Err r) = number_of r

-- what is wrong with a line, 0 for nothing; the state behind a line that has no fault; what is read where no line is left, by the number
-- of lines; and what is read where a line has a fault, by the fault and the line, counted from 1
pub record Grammar (S R : Type 0) : Type 0 where
  pub fault : S → Line → ℕ
  pub next : S → Line → S
  pub finish : S → ℕ → R
  pub stopped : ℕ → ℕ → R

-- the lines behind the first n
unfoldable pub read_lines : {S R : Type 0} → Grammar S R → ℕ → S → List Line → R
read_lines g n st [] = g.finish st n
read_lines g n st (l ∷ ls) =
    let rest = read_lines g (suc n) (g.next st l) ls in
    cond (eqb (g.fault st l) 0) rest (g.stopped (g.fault st l) (suc n))
