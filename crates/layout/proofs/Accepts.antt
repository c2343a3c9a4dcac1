-- A layout's lines that are accepted from a state on: one line, no line, and blank lines between. Assumes nothing.
use mathlib.Core.Path.{◌≡◌, refl, sym, ap, ◌∙◌}
use mathlib.Core.Bool.{true, false}
use mathlib.Core.List.{List, [], ◌∷◌}
use Prim.Native.Nat.{ℕ, suc}
use native.Mathlib.Omega.{arith}
use lib.Dec.{eqb}
use lib.ListN.{length}
use borrow.Author.Tests.{eqb-true, eq-eqb}
use Rattle.verdict.specs.Verdict.{accepted}
use Rattle.verdict.proofs.Bools.{test}
use Rattle.text.specs.Reading.{Word, Line, spoken}
use Rattle.text.proofs.ReadingLaws.{read_end}
use Rattle.text.proofs.AcceptLaws as accept
use Rattle.text.proofs.AcceptLaws.{Steady}
use Rattle.layout.specs.Grammar.{Typed, State, Reading, fault, next, finish, layout_grammar, read_from}
use Rattle.verdict.proofs.Each.{Each}

-- read with these entries
abbrev pub with : Typed → Reading
with t = record { verdict = accepted; typed = t }

-- the lines are accepted from a state on, with these entries in the end
abbrev pub Accepts : State → List Line → Typed → Type 0
Accepts st ls t = (n : ℕ) → read_from n st ls ≡ with t

steady : Steady layout_grammar
unfolding fault next finish
steady = record { number = λ (r : Reading). r.verdict.number; stops = λ f n. refl; ends = ends; blank = λ st. (refl, refl) }
  where
    ends : (st : State) (n m : ℕ) → (finish st n).verdict.number ≡ 0 → finish st m ≡ finish st n
    ends st n m z =
        test (eqb st.sect 6) (λ (e : eqb st.sect 6 ≡ true). rw e) (λ (e : eqb st.sect 6 ≡ false). absurd (omega (arith, rw e at z)))

is_0 : (t : Typed) → steady.number (with t) ≡ 0
unfolding steady
is_0 t = refl

pub read_any : (ls : List Line) (n m : ℕ) (st : State) (t : Typed) → read_from n st ls ≡ with t → read_from m st ls ≡ with t
read_any ls n m st t = accept.read_any layout_grammar steady (with t) (is_0 t) ls n m st

-- ---- one line, and no line

pub accepts_next : (st : State) (l : Line) (ls : List Line) (t : Typed) → fault st l ≡ 0 → Accepts (next st l) ls t → Accepts st (l ∷ ls) t
accepts_next st l ls t = accept.accepts_next layout_grammar steady (with t) (is_0 t) st l ls

pub next_accepts : (st : State) (l : Line) (ls : List Line) (t : Typed) → Accepts st (l ∷ ls) t → (fault st l ≡ 0) × Accepts (next st l) ls t
next_accepts st l ls t = accept.next_accepts layout_grammar steady (with t) (is_0 t) st l ls

pub accepts_end : (st : State) → st.sect ≡ 6 → Accepts st [] st.typed
unfolding finish
accepts_end st e n = read_end layout_grammar n st ∙ rw (eq-eqb st.sect 6 e)

pub end_accepts : (st : State) (t : Typed) → Accepts st [] t → (st.sect ≡ 6) × (st.typed ≡ t)
unfolding finish
end_accepts st t h =
    let r = sym (read_end layout_grammar 0 st) ∙ h 0 in
    test (eqb st.sect 6) (λ (e : eqb st.sect 6 ≡ true). (eqb-true st.sect 6 e, ap (λ (x : Reading). x.typed) (rw e at r)))
    (λ (e : eqb st.sect 6 ≡ false).
    let z : 38 ≡ 0 = ap (λ (x : Reading). x.verdict.number) (rw e at r) in
    absurd (omega arith))

-- ---- blank lines

pub accepts_blank : (st : State) (ls : List Line) (t : Typed) → Accepts st ls t → Accepts st ([] ∷ ls) t
accepts_blank st ls t = accept.accepts_blank layout_grammar steady (with t) (is_0 t) st ls

pub blank_accepts : (st : State) (ls : List Line) (t : Typed) → Accepts st ([] ∷ ls) t → Accepts st ls t
blank_accepts st ls t = accept.blank_accepts layout_grammar steady (with t) (is_0 t) st ls

pub accepts_spoken : (ls : List Line) (st : State) (t : Typed) → Accepts st (spoken ls) t → Accepts st ls t
accepts_spoken ls st t = accept.accepts_spoken layout_grammar steady (with t) (is_0 t) ls st

pub spoken_accepts : (ls : List Line) (st : State) (t : Typed) → Accepts st ls t → Accepts st (spoken ls) t
spoken_accepts ls st t = accept.spoken_accepts layout_grammar steady (with t) (is_0 t) ls st

-- a line that has a word
pub record Full (l : Line) : Type 0 where
  pub some : l ≡ [] → ⊥

full : (w : Word) (ws : Line) → Full (w ∷ ws)
full w ws = record { some = λ e. absurd (cons_nil e) }
  where
    cons_nil : (w ∷ ws) ≡ [] → ⊥
    cons_nil e = let z : suc (length ws) ≡ 0 = ap length e in omega arith

pub spoken_full : (ls : List Line) → Each Full (spoken ls)
unfolding spoken
spoken_full [] = tt
spoken_full ([] ∷ ls) = spoken_full ls
spoken_full ((w ∷ ws) ∷ ls) = (full w ws, spoken_full ls)
