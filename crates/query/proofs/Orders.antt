-- The query's refusals in order: the verdict is the first broken rule of the list; and its promise admits one answer and one memory only.
-- Assumes nothing.
use mathlib.Core.Path.{◌≡◌, sym, ◌∙◌}
use mathlib.Core.List.{List}
use Prim.Native.Nat.{ℕ}
use lib.IntN.{ℤ}
use lib.ListN.{length}
use Rattle.verdict.specs.Verdict.{FirstBroken}
use Rattle.verdict.specs.declared.Answer.{Answer}
use Rattle.verdict.proofs.Verdict.{first_broken, first_only}
use Rattle.floor.specs.Reader.{reader_memory}
use Rattle.query.specs.declared.Point.{Point}
use Rattle.query.specs.Rules.{query_rules, query_verdict}
use Rattle.query.specs.Points.{point_answer}

module _ (b : List ℕ) (room : ℕ) (x y : ℤ) where
  pub query_first : FirstBroken (query_rules b room x y) (query_verdict b room x y)
  unfolding query_verdict
  query_first = first_broken (query_rules b room x y)

  pub verdict_only : (a : Answer) → FirstBroken (query_rules b room x y) a → a ≡ query_verdict b room x y
  verdict_only a f = first_only (query_rules b room x y) a (query_verdict b room x y) f query_first

-- ---- one answer, one memory

-- what the query's promise says of an answer and a memory
pub record Admits (b w : List ℕ) (x y : ℤ) (r : Point) (m : List ℕ) : Type 0 where
  pub answer : r ≡ point_answer b (length w) x y
  pub memory : m ≡ reader_memory w

pub query_only : (b w : List ℕ) (x y : ℤ) (r q : Point) (m n : List ℕ) → Admits b w x y r m → Admits b w x y q n → (r ≡ q) × (m ≡ n)
query_only b w x y r q m n h k = (h.answer ∙ sym k.answer, h.memory ∙ sym k.memory)
