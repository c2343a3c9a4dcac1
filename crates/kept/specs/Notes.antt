-- What the number kept of each half-edge in the work memory says once the old edge entries have been looked through. No rule speaks of it.
-- Definitions only.
use Rattle.std.specs.Prelude.{ℕ, zero, suc, ◌+◌, ◌*◌, ◌/◌, ◌%◌, ◌<◌, ◌≡◌, cond, List, take, eqb, leb, ltb}
use Rattle.verdict.specs.Lists.{bit}
use Rattle.wire.specs.Bytes.{u16_at}
use Rattle.tables.specs.Parts.{none32, Parts, transition}
use Rattle.pairs.specs.Halves.{halves, border, partner}
use Rattle.corners.specs.Corners.{recornered}
use Rattle.corners.specs.Memory.{mates_at, mate_place, loose}
use Rattle.kept.specs.Kept.{entry_of, led_by}

-- a transition as one number: 1 for -1, else two more
unfoldable pub code_of : ℕ → ℕ
code_of t = cond (eqb t none32) 1 (t + 2)

-- more than one valid entry
abbrev pub several : ℕ
several = 66

-- a half-edge's valid entries among the first n: none (0), one with its transition, or several
unfoldable pub code_by : Parts → ℕ → ℕ → ℕ
code_by p zero h = 0
code_by p (suc n) h =
    let before = code_by p n h in cond (entry_of p h n) (cond (eqb before 0) (code_of (transition p n)) several) before

-- a mark beside it: some valid entry of 0 or more
abbrev pub led_mark : ℕ
led_mark = 16384

-- what is kept of half-edge h after the first n entries: of a border, that it is one and its entries; else its partner; and the mark
unfoldable pub note_by : Parts → Parts → ℕ → ℕ → ℕ
note_by p q n h = cond (border q h) (loose + code_by p n h) (partner q h) + led_mark * bit (led_by p n h)

pub record Noted (p q : Parts) (n : ℕ) (w : List ℕ) : Type 0 where
  pub at : (h : ℕ) → h < halves q → u16_at w (mate_place h) ≡ note_by p q n h

-- all entries are noted
abbrev pub AllNoted : Parts → List ℕ → Type 0
AllNoted p w = Noted p (recornered p) p.edges w

-- a note with one valid entry more, of transition t
unfoldable pub mark_of : ℕ → ℕ → ℕ
mark_of x t = cond (leb t 63) 1 (x / led_mark % 2)

unfoldable pub noted : ℕ → ℕ → ℕ
noted x t = cond (ltb x loose) (x % led_mark) (loose + cond (eqb (x % led_mark) 0) (code_of t) several) + led_mark * mark_of x t

-- the memory before the notes is the same in two
abbrev pub SameBelow : List ℕ → List ℕ → Type 0
SameBelow v w = take mates_at v ≡ take mates_at w
