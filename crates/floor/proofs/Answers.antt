-- The reader's answer and the memory that it leaves, case by case; and that its promise admits one answer only. Assumes nothing.
use mathlib.Core.Path.{◌≡◌, refl, sym, ap, ◌∙◌}
use mathlib.Core.List.{List}
use Prim.Native.Nat.{ℕ, ◌≤◌, ◌<◌}
use native.Mathlib.Omega.{arith}
use native.Mathlib.Decide.{dec_lt}
use lib.ListN.{length, get_or-eq_default}
use borrow.Author.Tests.{lt-ltb, le-ltb, ne_eqb}
use Rattle.verdict.specs.Verdict.{accepted, refused, rule}
use Rattle.verdict.specs.Memory.{work_size, cleared_to}
use Rattle.verdict.specs.declared.Answer.{Answer}
use Rattle.verdict.specs.declared.Form.{Form}
use Rattle.verdict.proofs.Bools.{decided}
use Rattle.verdict.proofs.Verdict.{then_next, then_stop}
use Rattle.tables.specs.Parts.{Parts, parts_of}
use Rattle.mesh.proofs.Plain.{walkable_faces_lem}
use Rattle.floor.specs.declared.Floor.{Floor}
use Rattle.floor.specs.Groups.{rules1to19}
use Rattle.floor.specs.Reader.{rule20, reader_verdict, walkable_faces, answer_of, reader_answer, reader_memory, reader_rules}
use Rattle.floor.specs.Rewrite.{rewrite_answer, rewrite_memory}
use Rattle.floor.specs.Accepted.{Accepted}
use Rattle.floor.proofs.Order.{by_groups, reader_first}

-- ---- work memory

module _ (b w : List ℕ) where
  pub too_little : length w < work_size → (refused 20 0 ≡ reader_verdict b (length w)) × (w ≡ reader_memory w)
  unfolding rule20 reader_memory rule
  too_little l =
      (sym (by_groups b (length w) ∙ rw (lt-ltb (length w) work_size l) (then_stop (refused 20 0) (λ z. omega arith) (rules1to19 b))), rw (lt-ltb (length w) work_size l))

  pub enough : work_size ≤ length w → (rules1to19 b ≡ reader_verdict b (length w)) × (cleared_to work_size w ≡ reader_memory w)
  unfolding rule20 reader_memory rule
  enough l =
      (sym (by_groups b (length w) ∙ rw (le-ltb (length w) work_size l) (then_next accepted (rules1to19 b) refl)), rw (le-ltb (length w) work_size l))

-- ---- the counts

pub on_refusal : (a : Answer) (p : Parts) → (a.number ≡ 0 → ⊥)
    → ◌≡◌ {A = Floor} (record { number = a.number; place = a.place; faces = 0; walkable = 0; edges = 0; perimeters = 0 }) (answer_of a p)
unfolding answer_of
on_refusal a p z = rw (ne_eqb a.number 0 z)

-- a reader that accepts answers 0 at 0
reader_proper : (b : List ℕ) (room : ℕ) → (reader_verdict b room).number ≡ 0 → accepted ≡ reader_verdict b room
reader_proper b room z =
    let f = reader_first b room in
    decided (dec_lt f.at (length (reader_rules b room)))
    (λ l. absurd (f.broken l (ap (λ (a : Answer). a.number) (sym f.answer) ∙ z)))
    (λ m. sym (f.answer ∙ get_or-eq_default (reader_rules b room) accepted (omega arith)))

pub nothing_broken : (b : List ℕ) (room : ℕ) (r : Answer) → r ≡ reader_verdict b room → r.number ≡ 0 → accepted ≡ reader_verdict b room
nothing_broken b room r e z = reader_proper b room (ap (λ (a : Answer). a.number) (sym e) ∙ z)

-- the walkable faces of an accepted floor are A
pub walkable_is : (b : List ℕ) → Accepted b → walkable_faces (parts_of b) ≡ (parts_of b).adjacency
unfolding walkable_faces
walkable_is b a = walkable_faces_lem (parts_of b) a.sized.adjacency a.mesh.painted

-- ---- one answer, one memory

-- what the reader's promise says of an answer and a memory
pub record Admits (b w : List ℕ) (r : Floor) (m : List ℕ) : Type 0 where
  pub answer : r ≡ reader_answer b (length w)
  pub memory : m ≡ reader_memory w

pub one_answer : (b w : List ℕ) (r q : Floor) (m n : List ℕ) → Admits b w r m → Admits b w q n → (r ≡ q) × (m ≡ n)
one_answer b w r q m n x y = (x.answer ∙ sym y.answer, x.memory ∙ sym y.memory)

-- the same of the rewriter, and of its output
pub record Rewrites (b w o : List ℕ) (f : Form) (m n : List ℕ) : Type 0 where
  pub answer : f ≡ rewrite_answer b (length w) (length o)
  pub memory : m ≡ reader_memory w
  pub output : n ≡ rewrite_memory b (length w) o

pub one_form : (b w o : List ℕ) (f g : Form) (m k n l : List ℕ) → Rewrites b w o f m n → Rewrites b w o g k l → (f ≡ g) × ((m ≡ k) × (n ≡ l))
one_form b w o f g m k n l x y = (x.answer ∙ sym y.answer, (x.memory ∙ sym y.memory, x.output ∙ sym y.output))
