-- Demand 3 as M-108 restates it, for every lawful kind of floor: whatever calls two benches make from an accepted floor and an empty
-- journal. Assumes nothing.
use mathlib.Core.Path.{◌≡◌, refl, sym, ap, ◌∙◌}
use mathlib.Core.Logic.{◌⊎◌, inl, inr}
use mathlib.Core.Bool.{false}
use Prim.Native.Nat.{ℕ, suc, ◌-◌, ◌≤◌, ◌<◌}
use mathlib.Core.List.{List, [], ◌∷◌}
use native.Mathlib.Omega.{arith}
use native.Mathlib.Decide.{dec_lt}
use lib.ListN.{length}
use borrow.Author.Tests.{le-ltb}
use Rattle.verdict.specs.declared.Answer.{Answer}
use Rattle.verdict.proofs.Bools.{decided}
use Rattle.verdict.proofs.Verdict.{then_both, passed}
use Rattle.record.specs.declared.Rec.{Rec}
use Rattle.holding.specs.Held.{listed, other}
use Rattle.laying.specs.Kind.{Kind, lay}
use Rattle.journal.specs.Wish.{Edit}
use Rattle.journal.specs.Lawful.{Lawful}
use Rattle.journal.specs.Step.{State, lent, fit_in, half, holds, rule45, full}
use Rattle.journal.specs.Calls.{Call, edit, undo, put_back, step, Accepts, run}
use Rattle.journal.specs.Replay.{lay_all}
use Rattle.journal.specs.Plain.{floor_of, held_by, plain_undo_rules, plain_put_back, plain_end, plain_verdict, plain_step, plain_run}
use Rattle.journal.specs.Demand.{put_back_by, Demand3}
use Rattle.journal.proofs.Replays.{lay_all_none}
use Rattle.journal.proofs.Steps.{bench_met, met_bench, free_full}
use Rattle.journal.proofs.Without.{held_all}
use Rattle.journal.proofs.Could.{could_none, room_left, last_met, met_undo}
use Rattle.journal.proofs.PutBack.{back_empty, unwind_less}
use Rattle.journal.proofs.Sessions.{good}
use Rattle.journal.proofs.Never.{plain_never, plain_not_full}
use Rattle.journal.proofs.Follows.{Follows, Ran, held_same, step_follows, run_follows}

-- a list without records
none_listed : (rs : List Rec) → length rs ≡ 0 → rs ≡ []
none_listed [] e = refl
none_listed (r ∷ rs) e = absurd (omega arith)

module _ (K : Kind) (opening : List ℕ) (room : ℕ) (A : List ℕ → Type 0) (L : Lawful K A) (acc : A opening) where
  module _ (s : State) (rs : List Rec) (r : Ran K opening room s rs) where
    follows : (c : Call) → Follows K opening room (step K c s) (plain_verdict K opening room c rs) (plain_step K opening room c rs)
    follows c = rw r.same (step_follows K opening room A L acc s.journal c rs r.kept)

    number_is : (c : Call) → (step K c s).answer.number ≡ (plain_verdict K opening room c rs).number
    number_is c = ap (λ (a : Answer). a.number) (follows c).verdict

    counted : s.f ≡ length rs
    counted = ap (λ (x : State). x.f) r.same

    pub held_in : (bench : ℕ) → holds bench s ≡ held_by bench rs
    held_in bench = rw counted (held_same s.journal rs r.kept.stored bench)

    -- no record is left
    bare : length rs ≡ 0 → s.floor ≡ opening
    bare e = ap (λ (x : State). x.floor) r.same ∙ ap (floor_of K opening) (none_listed rs e) ∙ lay_all_none (lay K) opening

    cleared : holds 0 s ≡ 0 → holds 1 s ≡ 0 → s.floor ≡ opening
    cleared a b = bare (omega (arith, held_all rs 0 (omega arith) r.kept.could.owners, held_in 0, held_in 1))

    -- a put-back that is not refused
    record Emptied (bench : ℕ) : Type 0 where
      owner : bench ≤ 1
      ran : Ran K opening room (put_back_by K bench s) (plain_put_back bench rs)
      none : held_by bench (plain_put_back bench rs) ≡ 0

    empties : (bench : ℕ) → Accepts K s (put_back bench) → Emptied bench
    unfolding plain_verdict plain_step
    empties bench z =
        let o = follows (put_back bench) in
        let p = passed (rule45 bench (length rs)) (plain_end (plain_undo_rules bench (plain_put_back bench rs))) (sym (number_is (put_back bench)) ∙ z) in
        let b = bench_met bench (length rs) p.0 in
        record { owner = b; ran = rw (le-ltb 1 bench b) at o.ran; none = back_empty bench rs p.1 }

    -- a bench that holds less than its half is not refused 25
    halves : (bench : ℕ) (e : Edit) → holds bench s < half room → (step K (edit bench e) s).answer.number ≡ 25 → ⊥
    halves bench e l z = plain_not_full K opening room bench e rs free (sym (number_is (edit bench e)) ∙ z)
      where
        free : bench ≤ 1 → full room (length rs) (held_by bench rs) ≡ false
        free b =
            let h : held_by bench rs < half room = rw (held_in bench) at l in
            let g = room_left K opening (fit_in room) rs r.kept.could bench b h in
            free_full room (length rs) (held_by bench rs) h (λ y. omega arith)

    -- the bench of the last record can undo
    undoes : (bench i : ℕ) → bench ≤ 1 → length rs ≡ suc i → (listed rs i).bench ≡ bench → Accepts K s (undo bench)
    unfolding plain_verdict
    undoes bench i b e own = number_is (undo bench) ∙ ap (λ (a : Answer). a.number) (then_both (met_bench bench (length rs) b) (met_undo bench rs (last_met bench rs i e own)))

    somebody : 0 < s.f → Accepts K s (undo 0) ⊎ Accepts K s (undo 1)
    somebody h =
        let i = length rs - 1 in
        let e : length rs ≡ suc i = omega (arith, counted) in
        let b = r.kept.could.owners i (omega arith) in
        decided (dec_lt (listed rs i).bench 1) (λ l. inl (undoes 0 i (omega arith) e (omega arith))) (λ l. inr (undoes 1 i (omega arith) e (omega arith)))

  -- both have put back: no record is left
  opened : (s : State) (rs : List Rec) → Ran K opening room s rs → (bench : ℕ) → Accepts K s (put_back bench)
      → Accepts K (put_back_by K bench s) (put_back (other bench)) → (put_back_by K (other bench) (put_back_by K bench s)).floor ≡ opening
  opened s rs r bench z y =
      let one = empties s rs r bench z in
      let two = empties (put_back_by K bench s) (plain_put_back bench rs) one.ran (other bench) y in
      let qs = plain_put_back (other bench) (plain_put_back bench rs) in
      bare _ qs two.ran
      (omega (arith, held_all qs bench one.owner two.ran.kept.could.owners, one.none, two.none, unwind_less (other bench) bench (length (plain_put_back bench rs)) (plain_put_back bench rs)))

  reached : (s : State) (rs : List Rec) → Ran K opening room s rs → Demand3 K A opening room s rs
  reached s rs r = record {
    f = counted s rs r;
    records = λ i h. r.kept.stored i (rw (counted s rs r) at h);
    long = r.kept.long;
    floor = ap (λ (x : State). x.floor) r.same;
    accepted = rw r.same (good K opening room A L acc rs r.kept.could);
    answers = λ c. (follows s rs r c).verdict;
    emptied = λ bench z. let t = empties s rs r bench z in held_in (put_back_by K bench s) (plain_put_back bench rs) t.ran bench ∙ t.none;
    opened = opened s rs r;
    cleared = cleared s rs r;
    halves = halves s rs r;
    somebody = somebody s rs r;
  }

  -- any run of calls, bad ones included
  pub demand3 : (journal : List ℕ) → length journal ≡ room → (cs : List Call)
      → Demand3 K A opening room (run K cs (lent opening journal 0)) (plain_run K opening room cs [])
  unfolding lay_all
  demand3 journal e cs =
      reached _ _ (run_follows K opening room A L acc cs journal [] (record { could = could_none K opening (fit_in room); long = e; stored = λ i h. absurd (omega arith) }))

  -- after it no call answers 1 to 20, 27 or 28
  pub never : (journal : List ℕ) → length journal ≡ room → (cs : List Call) (c : Call) (n : ℕ) → 0 < n → (n ≤ 20) ⊎ ((n ≡ 27) ⊎ (n ≡ 28))
      → (step K c (run K cs (lent opening journal 0))).answer.number ≡ n → ⊥
  never journal e cs c n some far z =
      plain_never K opening room c _ n some far (sym (ap (λ (a : Answer). a.number) ((demand3 journal e cs).answers c)) ∙ z)
