-- What a verdict of a call says: where it accepts, the facts that the rest goes by; and the outcome, by the verdict. Assumes nothing.
use mathlib.Core.Path.{◌≡◌, sym, ap, ◌∙◌}
use mathlib.Core.Bool.{Bool, true, false}
use Prim.Native.Nat.{ℕ, suc, ◌+◌, ◌*◌, ◌≤◌, ◌<◌}
use mathlib.Core.List.{List}
use native.Mathlib.Omega.{arith}
use lib.Dec.{leb, ltb, eqb}
use lib.ListN.{length}
use borrow.Author.Tests.{ltb-true, ltb-false, leb-false, eqb-false, lt-ltb, le-ltb, lt-leb, eq-eqb, ne_eqb, not-false}
use Rattle.std.specs.declared.result.Result.TheVariants.{Err}
use Rattle.verdict.specs.Verdict.{refused, accepted, ◌then◌}
use Rattle.verdict.specs.Refusals.{number_of}
use Rattle.verdict.specs.declared.Answer.{Answer}
use Rattle.verdict.specs.declared.Refused.{Refused}
use Rattle.verdict.proofs.Bools.{or_false, false_or}
use Rattle.verdict.proofs.Verdict.{then_next, then_both, passed, unbroken, met, Proper, rule_proper, then_proper}
use Rattle.verdict.proofs.Results.{accepts, number_positive}
use Rattle.record.specs.Record.{size}
use Rattle.laying.specs.Kind.{Kind}
use Rattle.journal.specs.Wish.{Wish}
use Rattle.journal.specs.Lawful.{old_word}
use Rattle.journal.specs.Step.{State, Outcome, left, session_of, most_records, fit_in, half, rule28, rule45, common_verdict, refusal, unless, full, rule21, edit_rules}

-- ---- the outcome

pub unless_next : (a : Answer) (s : State) (o : Outcome) → a.number ≡ 0 → unless a s o ≡ o
unfolding unless
unless_next a s o z = rw (eq-eqb a.number 0 z)

pub unless_stop : (a : Answer) (s : State) (o : Outcome) → (a.number ≡ 0 → ⊥) → unless a s o ≡ refusal a s
unfolding unless
unless_stop a s o z = rw (ne_eqb a.number 0 z)

-- what a refusal tells and leaves, and what is done where the verdict accepts
pub refused_unless : (r : Refused) (s : State) (o : Outcome) {a : Answer} → refused (number_of r.refusal) r.place ≡ a
    → left (session_of (Err r) s.f) s.floor s.journal ≡ unless a s o
refused_unless r s o {a} e =
    ap (λ (x : Answer). refusal x s) e ∙ sym (unless_stop a s o (λ z. absurd (omega (arith, number_positive r.refusal, ap (λ (x : Answer). x.number) e, z))))

pub accepted_unless : (s : State) {x o : Outcome} {a : Answer} → accepted ≡ a → x ≡ o → x ≡ unless a s o
accepted_unless s {x} {o} {a} e h = h ∙ sym (unless_next a s o (accepts e))

-- ---- every call

-- so many records fit
pub fit_room : (room : ℕ) → size * fit_in room ≤ room
unfolding fit_in
fit_room room = omega arith

pub fit_most : (room : ℕ) → fit_in room ≤ most_records
unfolding fit_in
fit_most room = omega arith

-- 45
pub bench_met : (bench f : ℕ) → (rule45 bench f).number ≡ 0 → bench ≤ 1
unfolding rule45
bench_met bench f z = ltb-false 1 bench (unbroken 44 (ltb 1 bench) f z)

pub met_bench : (bench f : ℕ) → bench ≤ 1 → rule45 bench f ≡ accepted
unfolding rule45
met_bench bench f b = rw (le-ltb 1 bench b) (met 45 f)

pub bench_proper : (bench f : ℕ) → Proper (rule45 bench f)
unfolding rule45
bench_proper bench f = rule_proper 44 (ltb 1 bench) f

-- where 1 to 6 and 28 let a call through, 45 is left
pub common_is : (K : Kind) (bench place : ℕ) (s : State) → (K.rules s.floor).number ≡ 0 → s.f ≤ fit_in (length s.journal) → common_verdict K bench place s ≡ rule45 bench s.f
unfolding common_verdict rule28
common_is K bench place s z l =
    rw (le-ltb (fit_in (length s.journal)) s.f l, met 28 place)
    (then_next (K.rules s.floor then accepted) (rule45 bench s.f) (ap (λ (a : Answer). a.number) (then_next (K.rules s.floor) accepted z)))

-- what every call's rules let through
pub record CommonMet (K : Kind) (bench : ℕ) (s : State) : Type 0 where
  pub right : (K.rules s.floor).number ≡ 0
  pub few : s.f ≤ fit_in (length s.journal)
  pub owner : bench ≤ 1

pub common_met : (K : Kind) (bench place : ℕ) (s : State) → (common_verdict K bench place s).number ≡ 0 → CommonMet K bench s
unfolding common_verdict rule28
common_met K bench place s z =
    let p = passed _ _ z in
    let q = passed _ _ p.0 in
    record { right = q.0; few = ltb-false _ _ (unbroken 27 _ place q.1); owner = bench_met bench s.f p.1 }

pub met_common : (K : Kind) (bench place : ℕ) (s : State) → CommonMet K bench s → common_verdict K bench place s ≡ accepted
met_common K bench place s m = common_is K bench place s m.right m.few ∙ met_bench bench s.f m.owner

-- then the records lie in the journal
pub few_room : (room f : ℕ) → f ≤ fit_in room → size * f ≤ room
few_room room f l = omega (arith, fit_room room)

-- ---- an edit

-- 25, both ways
pub full_free : (room f n : ℕ) → full room f n ≡ false → ((n < half room) × (f ≡ fit_in room → ⊥))
unfolding full
full_free room f n e = let p = or_false (leb (half room) n) (eqb f (fit_in room)) e in (leb-false _ _ p.0, eqb-false _ _ p.1)

pub free_full : (room f n : ℕ) → n < half room → (f ≡ fit_in room → ⊥) → full room f n ≡ false
unfolding full
free_full room f n l z = false_or (leb (half room) n) (eqb f (fit_in room)) (lt-leb (half room) n l) (ne_eqb f (fit_in room) z)

pub record EditMet (K : Kind) (w : Wish) (fl : List ℕ) (is_full : Bool) : Type 0 where
  pub inside : w.place < K.count fl w.tag
  pub may : w.may (old_word K fl w) ≡ true
  pub free : is_full ≡ false

pub edit_met : (K : Kind) (w : Wish) (fl : List ℕ) (is_full : Bool) → (edit_rules K w fl is_full).number ≡ 0 → EditMet K w fl is_full
unfolding edit_rules rule21
edit_met K w fl is_full z =
    let p = passed _ _ z in
    let q = passed _ _ p.0 in
    let e : 21 + w.tag ≡ suc (20 + w.tag) = omega arith in
    record {
      inside = ltb-true _ _ (not-false _ (unbroken 20 _ w.place q.0));
      may = not-false _ (unbroken (20 + w.tag) _ w.place (rw e at q.1));
      free = unbroken 24 is_full w.place p.1;
    }

-- and the other way round
pub met_edit : (K : Kind) (w : Wish) (fl : List ℕ) (is_full : Bool) → EditMet K w fl is_full → edit_rules K w fl is_full ≡ accepted
unfolding edit_rules rule21
met_edit K w fl is_full m =
    rw (lt-ltb w.place (K.count fl w.tag) m.inside, m.may, m.free)
    (then_both (then_both (met 21 w.place) (met (21 + w.tag) w.place)) (met 25 w.place))

-- where the verdict of an edit accepts, it accepts at 0
pub edit_proper : (K : Kind) (w : Wish) (fl : List ℕ) (is_full : Bool) → Proper (edit_rules K w fl is_full)
unfolding edit_rules rule21
edit_proper K w fl is_full =
    let e : 21 + w.tag ≡ suc (20 + w.tag) = omega arith in
    then_proper _ _ (then_proper _ _ (rule_proper 20 _ w.place) (rw e (rule_proper (20 + w.tag) _ w.place))) (rule_proper 24 is_full w.place)
