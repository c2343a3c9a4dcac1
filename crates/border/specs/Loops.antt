-- Edge entries and perimeter entries: rules 17 to 19, over the floor's parts. Definitions only.
use Rattle.std.specs.Prelude.{ℕ, zero, suc, ◌+◌, ◌-◌, ◌<◌, Bool, not, cond, ◌&&◌, ◌||◌, eqb, ltb}
use Rattle.verdict.specs.Lowest.{any_under}
use Rattle.verdict.specs.Verdict.{rule, rule_of_each, ◌then◌}
use Rattle.verdict.specs.declared.Answer.{Answer}
use Rattle.tables.specs.Parts.{none32, Parts, edge_of, transition, loop_end}
use Rattle.pairs.specs.Halves.{halves, from, to, border}

-- half-edge h stands in one of the first n edge entries
unfoldable pub stands_in : Parts → ℕ → ℕ → Bool
stands_in p n h = any_under n (λ i. eqb (edge_of p i) h)

-- an edge entry is no border, or repeats an earlier one
unfoldable pub wrong_edge : Parts → ℕ → Bool
wrong_edge p i = not (border p (edge_of p i)) || stands_in p i (edge_of p i)

-- a border is missing
unfoldable pub missing : Parts → ℕ → Bool
missing p h = border p h && not (stands_in p p.edges h)

-- 17: an edge entry is no border, or repeats an earlier one, place the lowest entry; else a border is missing, place the edge count
unfoldable pub rule17 : Parts → Answer
rule17 p = rule_of_each 17 p.edges (wrong_edge p) (λ i. i) then rule 17 (any_under (halves p) (missing p)) p.edges

-- a transition is not -1 to 63
unfoldable pub wrong_transition : Parts → ℕ → Bool
wrong_transition p i = ltb 63 (transition p i) && not (eqb (transition p i) none32)

-- 18: transition not -1 to 63; place the lowest entry
unfoldable pub rule18 : Parts → Answer
rule18 p = rule_of_each 18 p.edges (wrong_transition p) (λ i. i)

-- perimeter entries are ends of loops: loop j starts at the entry before it (0 before the first)
unfoldable pub loop_start : Parts → ℕ → ℕ
loop_start p zero = 0
loop_start p (suc j) = loop_end p j

-- the next after edge i in the run from s up to t: the first after the last
unfoldable pub after : ℕ → ℕ → ℕ → ℕ
after s t i = cond (eqb (i + 1) t) s (i + 1)

-- edge i does not end where the next starts
unfoldable pub open_at : Parts → ℕ → ℕ → ℕ → Bool
open_at p s t i = not (eqb (to p (edge_of p i)) (from p (edge_of p (after s t i))))

-- the run of edges from s up to t isn't a closed chain
unfoldable pub open_run : Parts → ℕ → ℕ → Bool
open_run p s t = any_under (t - s) (λ k. open_at p s t (s + k))

-- perimeter entry j isn't above the one before, is above the edge count, or its run of edges isn't a closed chain
unfoldable pub wrong_loop : Parts → ℕ → Bool
wrong_loop p j =
    not (ltb (loop_start p j) (loop_end p j)) || ltb p.edges (loop_end p j) || open_run p (loop_start p j) (loop_end p j)

-- 19: perimeter wrong, place the lowest wrong entry; if none and the last (0 without entries) isn't the edge count, the perimeter count
unfoldable pub rule19 : Parts → Answer
rule19 p =
    rule_of_each 19 p.perimeters (wrong_loop p) (λ j. j) then
    rule 19 (not (eqb (loop_start p p.perimeters) p.edges)) p.perimeters

-- rules 17 to 19
unfoldable pub rules17to19 : Parts → Answer
rules17to19 p = rule17 p then rule18 p then rule19 p

-- every edge entry names a half-edge: what 17 leaves for 19
pub record EdgesIn (p : Parts) : Type 0 where
  pub below : (i : ℕ) → i < p.edges → edge_of p i < halves p
