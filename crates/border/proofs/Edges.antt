-- Rule 17 from the marks: one law for the answer, one for the memory, and what an unbroken rule 17 leaves. Assumes nothing.
use mathlib.Core.Path.{◌≡◌, refl, ap, subst, ◌∙◌}
use mathlib.Core.List.{List}
use Prim.Native.Nat.{ℕ, ◌<◌, ◌≤◌}
use native.Mathlib.Omega.{arith}
use lib.ListN.{length, drop}
use Rattle.verdict.specs.Lowest.{lowest, any_under}
use Rattle.verdict.specs.Memory.{work_size, cleared_to, past, SamePast}
use Rattle.verdict.proofs.Lowest.{any_same}
use Rattle.verdict.proofs.Memory.{drop_cleared}
use Rattle.verdict.proofs.Verdict.{passed, each_met}
use Rattle.tables.specs.Parts.{Parts}
use Rattle.pairs.specs.Halves.{halves}
use Rattle.border.specs.Loops.{wrong_edge, missing, rule17, EdgesIn}
use Rattle.border.specs.Memory.{marks_of, unmarked}
use Rattle.border.proofs.Marks.{drop_marks, edge_in, edges_before, unmarked_missing}

module _ (p : Parts) (wrong : ℕ) (first : wrong ≡ lowest p.edges (wrong_edge p)) (v w : List ℕ) (marks : v ≡ marks_of p wrong (cleared_to (halves p) w)) (long : halves p ≤ length w) where
  -- where no entry is wrong, a border without a mark is one that no entry names
  pub gap_missing : wrong ≡ p.edges → any_under (halves p) (unmarked p v) ≡ any_under (halves p) (missing p)
  gap_missing n =
      let x = cleared_to (halves p) w in
      let u : v ≡ marks_of p p.edges x = marks ∙ ap (λ (k : ℕ). marks_of p k x) n in
      ap (λ (y : List ℕ). any_under (halves p) (unmarked p y)) u
      ∙ any_same (halves p) (unmarked p (marks_of p p.edges x)) (missing p) (unmarked_missing p w x long refl)

  -- marking changes nothing past the work memory
  pub edges_rest : halves p ≤ work_size → SamePast v w
  unfolding past
  edges_rest few =
      ap (drop work_size) marks
      ∙ drop_marks p work_size wrong (cleared_to (halves p) w) (λ j l. omega (arith, edges_before p p.edges j (subst (λ (k : ℕ). j < k) first l)))
      ∙ drop_cleared work_size (halves p) w few long

-- what 17 tells
pub edges_in : (p : Parts) → (rule17 p).number ≡ 0 → EdgesIn p
unfolding rule17
edges_in p z = record { below = λ i l. edge_in p i (each_met 16 p.edges (wrong_edge p) _ (passed _ _ z).0 i l) }
