-- A put-back is what the plain words say, both ways; and a refused call changes neither floor nor journal nor f, but for a put-back that
-- stopped. Assumes nothing.
use mathlib.Core.Path.{◌≡◌, refl, sym, ap, ap₂, ◌∙◌}
use mathlib.Core.Logic.{◌⊎◌, inl, inr, ⊎_elim}
use Prim.Native.Nat.{ℕ, zero, suc, ◌≤◌}
use mathlib.Core.List.{List}
use native.Mathlib.Omega.{arith}
use native.Mathlib.Decide.{ℕ_discrete}
use lib.Dec.{eqb}
use borrow.Author.Tests.{eq-eqb, ne_eqb}
use Rattle.verdict.specs.Verdict.{rule, ◌then◌}
use Rattle.verdict.specs.declared.Answer.{Answer}
use Rattle.verdict.proofs.Bools.{decided, test}
use Rattle.laying.specs.Kind.{Kind, fits}
use Rattle.journal.specs.declared.Session.{Session}
use Rattle.journal.specs.Step.{State, Outcome, left, session, next, done, refusal, holds, is_blocked, undone, undo_rules, taken_out, unless, out_step, unwind, unwound, ended, common_verdict, edit_step, undo_step, put_back_step}
use Rattle.journal.specs.Calls.{Call, edit, undo, put_back, step}
use Rattle.journal.specs.Stopped.{Undone, none, more, Finished, Stopped, StoppedPutBack}
use Rattle.journal.proofs.Steps.{unless_next, unless_stop}
use Rattle.journal.proofs.Outs.{some_left}

-- ---- where a put-back ends

module _ (K : Kind) (bench : ℕ) where
  unwind_undone : (n : ℕ) (s : State) → Undone K bench s (unwind K bench n s)
  unfolding unwind
  unwind_undone zero s = none
  unwind_undone (suc n) s =
      decided (ℕ_discrete (undo_rules K bench s).number 0) (λ z. rw (eq-eqb _ 0 z) (more z (unwind_undone n (taken_out K bench s)))) (λ z. rw (ne_eqb _ 0 z) none)

  -- after as many undos as there are records the next one is refused
  unwind_ends : (n : ℕ) (s : State) → s.f ≤ n → (undo_rules K bench (unwind K bench n s)).number ≡ 0 → ⊥
  unfolding unwind
  unwind_ends zero s l z = let some = some_left K bench s.floor s.journal s.f z in omega arith
  unwind_ends (suc n) s l z =
      decided (ℕ_discrete (undo_rules K bench s).number 0)
      (λ y. unwind_ends n (taken_out K bench s) (omega (arith, some_left K bench s.floor s.journal s.f y)) (rw (eq-eqb _ 0 y) at z))
      (λ y. y (rw (ne_eqb _ 0 y) at z))

  -- by 26, or by 43 or 27 at f
  stops_at : (s : State) → let a = undo_rules K bench s in (a.number ≡ 0 → ⊥) → (a.number ≡ 26 → ⊥) → ((a.number ≡ 43) ⊎ (a.number ≡ 27)) × (a.place ≡ s.f)
  unfolding undo_rules rule ◌then◌
  stops_at s some held =
      test (eqb (holds bench s) 0) (λ e. absurd (held (rw e)))
      (λ e. test (is_blocked bench s) (λ b. rw (e, b) (inl refl, refl))
      (λ b. test (fits K s.floor (undone bench s)) (λ f. absurd (some (rw (e, b, f)))) (λ f. rw (e, b, f) (inr refl, refl))))

  -- 26 says that the bench holds none, and is what an undo would be refused then
  none_of_26 : (s : State) → (undo_rules K bench s).number ≡ 26 → holds bench s ≡ 0
  unfolding undo_rules rule ◌then◌
  none_of_26 s e =
      decided (ℕ_discrete (holds bench s) 0) (λ z. z)
      (λ z. absurd (test (is_blocked bench s) (λ b. let h = rw (ne_eqb _ 0 z, b) at e in omega arith)
      (λ b. test (fits K s.floor (undone bench s)) (λ f. let h = rw (ne_eqb _ 0 z, b, f) at e in omega arith) (λ f. let h = rw (ne_eqb _ 0 z, b, f) at e in omega arith))))

  pub none_26 : (s : State) → holds bench s ≡ 0 → (undo_rules K bench s).number ≡ 26
  unfolding undo_rules rule ◌then◌
  none_26 s z = rw (eq-eqb (holds bench s) 0 z)

  -- what was undone until an undo is refused is what unwinding leaves
  undone_unwind : {s to : State} → Undone K bench s to → ((undo_rules K bench to).number ≡ 0 → ⊥) → (n : ℕ) → s.f ≤ n → unwind K bench n s ≡ to
  unfolding unwind
  undone_unwind none h zero l = refl
  undone_unwind none h (suc n) l = rw (ne_eqb _ 0 h)
  undone_unwind (more {s = s} z u) h zero l = absurd (let some = some_left K bench s.floor s.journal s.f z in omega arith)
  undone_unwind (more {s = s} z u) h (suc n) l = rw (eq-eqb _ 0 z) (undone_unwind u h n (omega (arith, some_left K bench s.floor s.journal s.f z)))

-- ---- A PUT-BACK, where the common rules let it through

module _ (K : Kind) (bench : ℕ) (s : State) (met : (common_verdict K bench s.f s).number ≡ 0) where
  -- it is done, or it stopped ..
  pub put_back_plain : Finished K bench s (put_back_step K bench s) ⊎ Stopped K bench s (put_back_step K bench s)
  unfolding put_back_step unwound ended
  put_back_plain =
      let u = unwind K bench s.f s in
      let a = undo_rules K bench u in
      let v = common_verdict K bench s.f s in
      let o = ended (unwound K bench s) in
      decided (ℕ_discrete a.number 26)
      (λ y. rw (unless_next v s o met, eq-eqb a.number 26 y)
      (inl (record { number = refl; place = refl; undone = unwind_undone K bench s.f s; none = none_of_26 K bench u y })))
      (λ y.
      let t = stops_at K bench u (unwind_ends K bench s.f s (omega arith)) y in
      rw (unless_next v s o met, ne_eqb a.number 26 y)
      (inr (record { number = t.0; place = t.1; undone = unwind_undone K bench s.f s; here = refl })))

  -- .. and whatever outcome is either is this one
  goes_on : (o : Outcome) → Undone K bench s (next o) → ((undo_rules K bench (next o)).number ≡ 0 → ⊥) → ended (refusal (undo_rules K bench (next o)) (next o)) ≡ put_back_step K bench s
  unfolding put_back_step unwound
  goes_on o u h = rw (undone_unwind K bench u h s.f (omega arith)) (sym (unless_next (common_verdict K bench s.f s) s _ met))

  pub put_back_only : (o : Outcome) → Finished K bench s o ⊎ Stopped K bench s o → o ≡ put_back_step K bench s
  unfolding ended
  put_back_only o (inl d) =
      let e = none_26 K bench (next o) d.none in
      ap₂ (λ (n p : ℕ). left (session n p o.answer.f) o.floor o.journal) d.number d.place
      ∙ rw (← goes_on o d.undone (λ z. omega arith), eq-eqb (undo_rules K bench (next o)).number 26 e)
  put_back_only o (inr t) = by t.number
    where
      number_is : (undo_rules K bench (next o)).number ≡ o.answer.number
      number_is = ap (λ (a : Answer). a.number) t.here

      goes : (o.answer.number ≡ 0 → ⊥) → (o.answer.number ≡ 26 → ⊥) → o ≡ put_back_step K bench s
      goes z y =
          rw (← goes_on o t.undone (λ h. z (sym number_is ∙ h)), ne_eqb (undo_rules K bench (next o)).number 26 (λ h. y (sym number_is ∙ h)))
          (ap (λ (a : Answer). refusal a (next o)) (sym t.here))

      by : (o.answer.number ≡ 43) ⊎ (o.answer.number ≡ 27) → o ≡ put_back_step K bench s
      by (inl e) = goes (λ z. omega arith) (λ z. omega arith)
      by (inr e) = goes (λ z. omega arith) (λ z. omega arith)

-- ---- a refusal

unless_keeps : (a : Answer) (s : State) (o : Outcome) → o.answer.number ≡ 0 → ((unless a s o).answer.number ≡ 0 → ⊥) → next (unless a s o) ≡ s
unless_keeps a s o done z =
    decided (ℕ_discrete a.number 0) (λ e. absurd (z (rw (unless_next a s o e) done))) (λ e. rw (unless_stop a s o e))

undo_refused : (K : Kind) (bench : ℕ) (s : State) → ((undo_step K bench s).answer.number ≡ 0 → ⊥) → next (undo_step K bench s) ≡ s
unfolding undo_step out_step
undo_refused K bench s z =
    let a = common_verdict K bench s.f s in
    let o = unless (undo_rules K bench s) s (done (taken_out K bench s)) in
    decided (ℕ_discrete a.number 0)
    (λ e. rw (unless_next a s o e) (unless_keeps (undo_rules K bench s) s (done (taken_out K bench s)) refl (rw (unless_next a s o e) at z)))
    (λ e. rw (unless_stop a s o e))

common_refused : (K : Kind) (bench : ℕ) (s : State) → ((common_verdict K bench s.f s).number ≡ 0 → ⊥) → next (put_back_step K bench s) ≡ s
unfolding put_back_step
common_refused K bench s e = rw (unless_stop (common_verdict K bench s.f s) s (ended (unwound K bench s)) e)

put_back_refused : (K : Kind) (bench : ℕ) (s : State) → ((put_back_step K bench s).answer.number ≡ 0 → ⊥)
    → (next (put_back_step K bench s) ≡ s) ⊎ Stopped K bench s (put_back_step K bench s)
put_back_refused K bench s z =
    decided (ℕ_discrete (common_verdict K bench s.f s).number 0)
    (λ e. ⊎_elim (λ (d : Finished K bench s (put_back_step K bench s)). absurd (z d.number)) (λ (t : Stopped K bench s (put_back_step K bench s)). inr t) (put_back_plain K bench s e))
    (λ e. inl (common_refused K bench s e))

pub refused_keeps : (K : Kind) (c : Call) (s : State) → ((step K c s).answer.number ≡ 0 → ⊥) → (next (step K c s) ≡ s) ⊎ StoppedPutBack K c s
unfolding step edit_step
refused_keeps K (edit bench e) s z = inl (unless_keeps _ s _ refl z)
refused_keeps K (undo bench) s z = inl (undo_refused K bench s z)
refused_keeps K (put_back bench) s z = by (put_back_refused K bench s z)
  where
    by : (next (put_back_step K bench s) ≡ s) ⊎ Stopped K bench s (put_back_step K bench s) → (next (put_back_step K bench s) ≡ s) ⊎ StoppedPutBack K (put_back bench) s
    by (inl e) = inl e
    by (inr t) = inr (record { bench = bench; call = refl; stopped = unfold step in t })

-- two answers that a call's contract admits are equal, with what is left of the floor and the journal
pub outcome_only : (q r : Session) (fl gl j i : List ℕ) (o : Outcome) → left q fl j ≡ o → left r gl i ≡ o → (q ≡ r) × (fl ≡ gl) × (j ≡ i)
outcome_only q r fl gl j i o e f =
    let h = e ∙ sym f in (ap (λ (x : Outcome). x.answer) h, ap (λ (x : Outcome). x.floor) h, ap (λ (x : Outcome). x.journal) h)
