-- Two texts read alongside each other, each by its grammar: where each two lines lead from one state to one state, and both are accepted,
-- both are read as the same. Assumes nothing.
use mathlib.Core.Path.{◌≡◌, sym, ap, ◌∙◌}
use mathlib.Core.List.{List, [], ◌∷◌}
use Prim.Native.Nat.{ℕ, suc}
use native.Mathlib.Decide.{ℕ_discrete}
use Rattle.verdict.proofs.Bools.{decided}
use Rattle.text.specs.Reading.{Line, Grammar, read_lines}
use Rattle.text.proofs.ReadingLaws.{read_next, read_stop, read_end}
use Rattle.screens.specs.Alike.{Alongside}

-- what is read of a text that ends is the same in both, where it is accepted, and a fault is told as it is
pub record Twins {S R : Type 0} (g h : Grammar S R) (number : R → ℕ) (Q : Line → Line → Type 0) : Type 0 where
  pub stops : (f n : ℕ) → number (g.stopped f n) ≡ f
  pub other_stops : (f n : ℕ) → number (h.stopped f n) ≡ f
  pub ends : (st : S) (n k : ℕ) → number (g.finish st n) ≡ 0 → number (h.finish st k) ≡ 0 → g.finish st n ≡ h.finish st k
  pub goes_on : (st : S) (l m : Line) → Q l m → g.fault st l ≡ 0 → h.fault st m ≡ 0 → g.next st l ≡ h.next st m

-- an accepted reading has no fault in its first line
no_fault : {S R : Type 0} (g : Grammar S R) (number : R → ℕ) → ((f n : ℕ) → number (g.stopped f n) ≡ f) → (n : ℕ) (st : S) (l : Line) (ls : List Line) → number (read_lines g n st (l ∷ ls)) ≡ 0 → g.fault st l ≡ 0
no_fault g number stops n st l ls z =
    decided (ℕ_discrete (g.fault st l) 0) (λ (e : g.fault st l ≡ 0). e)
    (λ (e : g.fault st l ≡ 0 → ⊥). sym (stops (g.fault st l) (suc n)) ∙ ap number (sym (read_stop g n st l ls e)) ∙ z)

module _ {S R : Type 0} (g h : Grammar S R) (number : R → ℕ) (Q : Line → Line → Type 0) (t : Twins g h number Q) where
  pub read_twins : (ls ms : List Line) → Alongside Q ls ms → (n k : ℕ) (st : S) → number (read_lines g n st ls) ≡ 0 → number (read_lines h k st ms) ≡ 0 → read_lines g n st ls ≡ read_lines h k st ms
  read_twins [] [] q n k st y z =
      let a = read_end g n st in
      let b = read_end h k st in
      a ∙ t.ends st n k (ap number (sym a) ∙ y) (ap number (sym b) ∙ z) ∙ sym b
  read_twins [] (m ∷ ms) q n k st y z = absurd q
  read_twins (l ∷ ls) [] q n k st y z = absurd q
  read_twins (l ∷ ls) (m ∷ ms) (q, r) n k st y z =
      let e = no_fault g number t.stops n st l ls y in
      let f = no_fault h number t.other_stops k st m ms z in
      let a = read_next g n st l ls e in
      let b = read_next h k st m ms f in
      let c = t.goes_on st l m q e f in
      a ∙ read_twins ls ms r (suc n) (suc k) (g.next st l) (ap number (sym a) ∙ y) (rw c (ap number (sym b) ∙ z))
      ∙ ap (λ (x : S). read_lines h (suc k) x ms) c ∙ sym b
