-- What the code of undo and put-back has to show, by the verdict. Assumes nothing.
use mathlib.Core.Path.{◌≡◌, refl, sym, ap, ◌∙◌}
use mathlib.Core.Bool.{Bool, true, false, not, cond}
use Rattle.std.specs.declared.option.Option.TheVariants.{None, Some}
use Prim.Native.Nat.{ℕ, zero, suc, ◌-◌, ◌*◌, ◌≤◌, ◌<◌}
use mathlib.Core.List.{List}
use native.Mathlib.Omega.{arith}
use native.Mathlib.Decide.{ℕ_discrete}
use lib.Dec.{eqb}
use lib.ListN.{length}
use borrow.Author.Tests.{eq-eqb, ne_eqb, eqb-false, not-true, not-false}
use Rattle.std.specs.declared.result.Result.TheVariants.{Ok, Err}
use Rattle.verdict.specs.Verdict.{refused, accepted, rule, ◌then◌}
use Rattle.verdict.specs.Refusals.{number_of}
use Rattle.verdict.specs.declared.Answer.{Answer}
use Rattle.verdict.specs.declared.Refused.{Refused}
use Rattle.verdict.specs.declared.Refusal.TheVariants.{NoStep}
use Rattle.verdict.proofs.Bools.{decided}
use Rattle.verdict.proofs.Lists.{tally_within}
use Rattle.verdict.proofs.Highest.{highest_is}
use Rattle.verdict.proofs.Results.{here, past, unbroken_by, number_positive}
use Rattle.verdict.proofs.Verdict.{passed, unbroken, met}
use Rattle.tables.specs.Header.{RightHeader}
use Rattle.record.specs.declared.Rec.{Rec}
use Rattle.record.specs.Record.{size, flip}
use Rattle.laying.specs.Kind.{Kind, lay, fits}
use Rattle.laying.specs.Area.{area_floor}
use Rattle.laying.proofs.Laying.{fits_inside}
use Rattle.laying.proofs.Area.{lay_right}
use Rattle.holding.specs.Held.{stored, is_of, held, latest, latest_held, blocked, closed}
use Rattle.holding.proofs.Plain.{held_some, held_none}
use Rattle.holding.proofs.Shifts.{length_closed}
use Rattle.journal.proofs.NoStep.{no_step}
use Rattle.journal.specs.declared.Session.{Session}
use Rattle.journal.specs.Step.{State, Outcome, lent, left, session, session_of, next, holds, done, refusal, unless, latest_of, is_blocked, undone, undo_rules, taken_out, out_step, unwind, unwound, ended}
use Rattle.journal.proofs.Steps.{unless_next, unless_stop, refused_unless, accepted_unless}

-- a rule that refuses is broken
pub broken_by : (r : Refused) (n : ℕ) (t : Bool) (p : ℕ) → refused (number_of r.refusal) r.place ≡ rule n t p → t ≡ true
unfolding rule
broken_by r n true p e = refl
broken_by r n false p e = absurd (omega (arith, number_positive r.refusal, ap (λ (a : Answer). a.number) e))

module _ (K : Kind) (bench : ℕ) (s : State) where
  -- ---- one record

  -- 26
  pub out_none : None ≡ latest_held (stored s.journal) s.f bench → left (session 26 s.f s.f) s.floor s.journal ≡ out_step K bench s
  unfolding out_step undo_rules unless rule ◌then◌
  out_none e = rw (eq-eqb (holds bench s) 0 (held_none _ _ _ e))

  -- the bench's latest record
  module _ (i : ℕ) (e : Some i ≡ latest_held (stored s.journal) s.f bench) where
    some : holds bench s ≡ 0 → ⊥
    some = (held_some (stored s.journal) s.f bench i e).0

    is : i ≡ latest_of bench s
    is = (held_some (stored s.journal) s.f bench i e).1

    pub latest_under : i < s.f
    unfolding held latest
    latest_under = rw is (highest_is s.f (λ i. is_of bench (stored s.journal i)) some).under

    holding : accepted ≡ rule 26 (eqb (holds bench s) 0) s.f
    holding = rw (ne_eqb (holds bench s) 0 some) (sym (met 26 s.f))

    module _ (b : Bool) (q : b ≡ blocked (stored s.journal) s.f bench i) where
      rule43 : rule 43 b s.f ≡ rule 43 (is_blocked bench s) s.f
      rule43 = ap (λ (t : Bool). rule 43 t s.f) (q ∙ ap (blocked (stored s.journal) s.f bench) is)

      pub out_blocked : (r : Refused) → refused (number_of r.refusal) r.place ≡ rule 43 b s.f → left (session_of (Err r) s.f) s.floor s.journal ≡ out_step K bench s
      unfolding out_step undo_rules
      out_blocked r x = refused_unless r s _ (here r _ (past holding (x ∙ rule43)))

      -- taken back, where it fits
      module _ (free : accepted ≡ rule 43 b s.f) (u : Rec) (back : u ≡ flip (stored s.journal i)) (t : Bool) (to : List ℕ)
          (turned : (t ≡ fits K s.floor u) × (to ≡ cond (fits K s.floor u) (lay K s.floor u) s.floor)) where
        undone_is : u ≡ undone bench s
        undone_is = back ∙ ap (λ (k : ℕ). flip (stored s.journal k)) is

        rule27 : rule 27 (not t) s.f ≡ rule 27 (not (fits K s.floor (undone bench s))) s.f
        rule27 = ap (λ (x : Bool). rule 27 (not x) s.f) (turned.0 ∙ ap (fits K s.floor) undone_is)

        pub out_unfit : (r : Refused) → refused (number_of r.refusal) r.place ≡ rule 27 (not t) s.f → left (session_of (Err r) s.f) to s.journal ≡ out_step K bench s
        unfolding out_step undo_rules
        out_unfit r x =
            rw (turned.1, sym turned.0 ∙ not-true t (broken_by r 27 (not t) s.f x)) (refused_unless r s _ (past (past holding (free ∙ rule43)) (x ∙ rule27)))

        pub out_done : (by : List ℕ) → accepted ≡ rule 27 (not t) s.f → by ≡ closed s.journal i s.f → left (session 0 0 (s.f - 1)) to by ≡ out_step K bench s
        unfolding out_step undo_rules
        out_done by x h =
            let z = sym turned.0 ∙ not-false t (unbroken_by 27 (not t) s.f (omega arith) x) in
            rw (turned.1, z, h, undone_is, is) (accepted_unless s (past (past holding (free ∙ rule43)) (x ∙ rule27)) refl)

-- ---- how a put-back ends: it is done where the bench holds no record, and else it stops

module _ {o : Outcome} (fl j : List ℕ) (r : Refused) (n : ℕ) (e : left (session_of (Err r) n) fl j ≡ o) where
  pub back_done : r.refusal ≡ NoStep → left (session_of (Ok n) n) fl j ≡ ended o
  unfolding ended
  back_done z = rw (← e, eq-eqb (number_of r.refusal) 26 (ap number_of z))

  pub back_held : (r.refusal ≡ NoStep → ⊥) → left (session_of (Err r) n) fl j ≡ ended o
  unfolding ended
  back_held z = rw (← e, ne_eqb (number_of r.refusal) 26 (λ h. z (no_step r.refusal h)))

-- ---- the loop

module _ (K : Kind) (bench : ℕ) (fl j : List ℕ) (n : ℕ) where
  abbrev there : State
  there = lent fl j n

  -- an undo that is refused, and one that is done
  pub out_number : (out_step K bench there).answer.number ≡ (undo_rules K bench there).number
  unfolding out_step
  out_number =
      decided (ℕ_discrete (undo_rules K bench there).number 0)
      (λ z. rw (unless_next (undo_rules K bench there) there (done (taken_out K bench there)) z) (sym z))
      (λ z. rw (unless_stop (undo_rules K bench there) there (done (taken_out K bench there)) z))

  pub out_refused : ((undo_rules K bench there).number ≡ 0 → ⊥) → out_step K bench there ≡ refusal (undo_rules K bench there) there
  unfolding out_step
  out_refused z = unless_stop (undo_rules K bench there) there (done (taken_out K bench there)) z

  pub out_taken : (undo_rules K bench there).number ≡ 0 → out_step K bench there ≡ done (taken_out K bench there)
  unfolding out_step
  out_taken z = unless_next (undo_rules K bench there) there (done (taken_out K bench there)) z

  -- it is done only where there are records
  pub some_left : (undo_rules K bench there).number ≡ 0 → 0 < n
  unfolding undo_rules
  some_left z =
      let some : holds bench there ≡ 0 → ⊥ = eqb-false _ _ (unbroken 25 _ n (passed _ _ (passed _ _ z).0).0) in
      let within : holds bench there ≤ n = unfold held in tally_within n (λ i. is_of bench (stored j i)) in
      omega arith

  -- and where the record fits
  pub out_fits : (undo_rules K bench there).number ≡ 0 → fits K fl (undone bench there) ≡ true
  unfolding undo_rules
  out_fits z = not-false _ (unbroken 26 _ n (passed _ _ z).1)

  pub unwind_halt : ((undo_rules K bench there).number ≡ 0 → ⊥) → unwind K bench n there ≡ there
  unwind_halt z = by n
    where
      by : (m : ℕ) → unwind K bench m there ≡ there
      by zero = unfold unwind in refl
      by (suc m) = unfold unwind in rw (ne_eqb (undo_rules K bench there).number 0 z)

  pub unwind_turn : (undo_rules K bench there).number ≡ 0 → unwind K bench n there ≡ unwind K bench (n - 1) (taken_out K bench there)
  unfolding unwind
  unwind_turn z = by n (some_left z)
    where
      by : (m : ℕ) → 0 < m → unwind K bench m there ≡ unwind K bench (m - 1) (taken_out K bench there)
      by zero l = absurd (omega arith)
      by (suc m) l = let e : suc m - 1 ≡ m = omega arith in rw (eq-eqb (undo_rules K bench there).number 0 z, e)

  -- the same of where it ends
  pub unwound_halt : ((undo_rules K bench there).number ≡ 0 → ⊥) → unwound K bench there ≡ refusal (undo_rules K bench there) there
  unfolding unwound
  unwound_halt z = rw (unwind_halt z)

  pub unwound_turn : (undo_rules K bench there).number ≡ 0 → unwound K bench there ≡ unwound K bench (taken_out K bench there)
  unfolding unwound
  unwound_turn z = rw (unwind_turn z)

-- on area floors: after an undo that was done, the next turn of the loop has what it asks for
pub record Turned (bench : ℕ) (fl j : List ℕ) (n : ℕ) (to by : List ℕ) (m : ℕ) : Type 0 where
  pub less : m < n
  pub right : RightHeader to
  pub room : size * m ≤ length by
  pub same : unwound area_floor bench (lent to by m) ≡ unwound area_floor bench (lent fl j n)

module _ (bench : ℕ) (fl j : List ℕ) (n : ℕ) (to by : List ℕ) where
  module _ (q : Session) (e : left q to by ≡ out_step area_floor bench (lent fl j n)) where
    rules_number : (undo_rules area_floor bench (lent fl j n)).number ≡ q.number
    rules_number = sym (ap (λ (o : Outcome). o.answer.number) e ∙ out_number area_floor bench fl j n)

  pub turn_refused : (r : Refused) → left (session_of (Err r) n) to by ≡ out_step area_floor bench (lent fl j n)
      → left (session_of (Err r) n) to by ≡ unwound area_floor bench (lent fl j n)
  turn_refused r e =
      let y : (undo_rules area_floor bench (lent fl j n)).number ≡ 0 → ⊥ = λ z. absurd (omega (arith, number_positive r.refusal, rules_number (session_of (Err r) n) e, z)) in
      e ∙ out_refused area_floor bench fl j n y ∙ sym (unwound_halt area_floor bench fl j n y)

  pub turn_done : (m : ℕ) → left (session_of (Ok m) n) to by ≡ out_step area_floor bench (lent fl j n) → RightHeader fl → size * n ≤ length j → Turned bench fl j n to by m
  turn_done m e right room =
      let y = rules_number (session_of (Ok m) n) e in
      let t : lent to by m ≡ taken_out area_floor bench (lent fl j n) = ap next (e ∙ out_taken area_floor bench fl j n y) in
      let f : m ≡ n - 1 = ap (λ (s : State). s.f) t in
      let l = some_left area_floor bench fl j n y in
      record {
        less = omega arith;
        right = rw (ap (λ (s : State). s.floor) t) (lay_right fl (undone bench (lent fl j n)) right (fits_inside area_floor fl (undone bench (lent fl j n)) (out_fits area_floor bench fl j n y)));
        room = rw (ap (λ (s : State). s.journal) t) (omega (arith, length_closed j (latest_of bench (lent fl j n)) n));
        same = rw t (sym (unwound_turn area_floor bench fl j n y));
      }
