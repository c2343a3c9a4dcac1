-- Which transition a half-edge keeps when a floor is mended (M-109), by the edge entries as they stand. Definitions only.
use Rattle.std.specs.Prelude.{ℕ, Bool, not, cond, ◌&&◌, eqb, ltb, leb}
use Rattle.verdict.specs.Lowest.{lowest, any_under}
use Rattle.verdict.specs.Lists.{tally}
use Rattle.tables.specs.Parts.{none32, Parts, edge_of, transition}
use Rattle.pairs.specs.Halves.{halves, border}
use Rattle.border.specs.Loops.{wrong_transition}

-- a valid entry names a walkable half-edge and has a transition that 18 allows
unfoldable pub valid_entry : Parts → ℕ → Bool
valid_entry p i = ltb (edge_of p i) (halves p) && not (wrong_transition p i)

-- entry i is a valid entry of half-edge h
unfoldable pub entry_of : Parts → ℕ → ℕ → Bool
entry_of p h i = valid_entry p i && eqb (edge_of p i) h

-- .. with a transition of 0 or more
unfoldable pub leads_of : Parts → ℕ → ℕ → Bool
leads_of p h i = entry_of p h i && leb (transition p i) 63

-- the transition that half-edge h keeps, by the first n entries: that of its entry if it has just one valid entry, else -1
unfoldable pub kept_by : Parts → ℕ → ℕ → ℕ
kept_by p n h = cond (eqb (tally n (entry_of p h)) 1) (transition p (lowest n (entry_of p h))) none32

-- it has a valid entry of 0 or more among the first n
unfoldable pub led_by : Parts → ℕ → ℕ → Bool
led_by p n h = any_under n (leads_of p h)

-- both by all entries
abbrev pub kept : Parts → ℕ → ℕ
kept p h = kept_by p p.edges h

abbrev pub led : Parts → ℕ → Bool
led p h = led_by p p.edges h

-- half-edge h had a valid entry of 0 or more and keeps none: in the floor with the changed corners, q, it is no border, or its edge gets -1
unfoldable pub lost : Parts → Parts → ℕ → Bool
lost p q h = led p h && not (border q h && leb (kept p h) 63)
