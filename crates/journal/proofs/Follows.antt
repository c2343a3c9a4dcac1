-- A bench's call over bytes does what the plain list does, for every lawful kind of floor: one call, then a run. Assumes nothing.
use mathlib.Core.Path.{◌≡◌, refl, sym, ap, ◌∙◌}
use mathlib.Core.Bool.{◌&&◌}
use Prim.Native.Nat.{ℕ, zero, suc, ◌-◌, ◌*◌, ◌≤◌, ◌<◌}
use mathlib.Core.List.{List, [], ◌∷◌, ◌++◌}
use native.Mathlib.Omega.{arith}
use native.Mathlib.Decide.{dec_lt, ℕ_discrete}
use lib.Dec.{eqb, ltb}
use lib.ListN.{length, length-append}
use borrow.Author.Tests.{eq-eqb, ne_eqb, lt-ltb, le-ltb}
use Rattle.verdict.specs.Verdict.{accepted, rule, ◌then◌}
use Rattle.verdict.specs.declared.Answer.{Answer}
use Rattle.verdict.proofs.Bools.{decided}
use Rattle.verdict.proofs.Lists.{tally_same}
use Rattle.verdict.proofs.Lowest.{any_same}
use Rattle.verdict.proofs.Highest.{highest_same, highest_under}
use Rattle.verdict.proofs.Verdict.{then_next, then_stop, met, then_proper}
use Rattle.wire.specs.Bytes.{put}
use Rattle.wire.proofs.Put.{length_put}
use Rattle.record.specs.declared.Rec.{Rec}
use Rattle.record.specs.Record.{size, record_bytes}
use Rattle.record.proofs.Records.{record_at_put, record_at_below}
use Rattle.laying.specs.Kind.{Kind, lay}
use Rattle.journal.specs.Wish.{Edit, wish_of}
use Rattle.journal.specs.Lawful.{Lawful, Fits}
use Rattle.holding.specs.Held.{listed, stored, is_of, same_field, other, held, latest, blocked}
use Rattle.journal.specs.Step.{State, Outcome, next, lent, fit_in, half, rule45, common_verdict, done, refusal, unless, record_of, full, edited, edit_verdict, edit_step, undo_rules, taken_out, out_step, undo_step, unwind, unwound, ended, put_back_step}
use Rattle.journal.specs.Calls.{Call, edit, undo, put_back, step, run}
use Rattle.journal.specs.Plain.{floor_of, held_by, latest_in, blocked_in, plain_undo_rules, plain_undo, plain_unwind, plain_put_back, plain_end, plain_verdict, plain_step, plain_run}
use Rattle.journal.specs.Demand.{verdict_of}
use Rattle.journal.proofs.Replays.{lay_all_snoc}
use Rattle.journal.proofs.Laying.{fits_is, fits_sized}
use Rattle.journal.proofs.Without.{length_more, listed_more, listed_last, length_without, listed_below, listed_above}
use Rattle.journal.proofs.Could.{Could, few, could_edit, UndoMet, undo_met, latest_is, undo_out, could_undo}
use Rattle.journal.proofs.Steps.{unless_next, unless_stop, fit_room, bench_met, met_bench, bench_proper, common_is, edit_proper}
use Rattle.journal.proofs.PutBack.{undo_proper}
use Rattle.journal.proofs.Sessions.{good, edit_made}
use Rattle.holding.proofs.Shifts.{length_closed, stored_below, stored_above}

-- the journal holds the list, and the list could have come about
pub record Kept (K : Kind) (opening journal : List ℕ) (room : ℕ) (rs : List Rec) : Type 0 where
  pub could : Could K opening (fit_in room) rs
  pub long : length journal ≡ room
  pub stored : (i : ℕ) → i < length rs → stored journal i ≡ listed rs i

-- the state that a plain list and a journal make
abbrev pub state_of : Kind → List ℕ → List ℕ → List Rec → State
state_of K opening j rs = lent (floor_of K opening rs) j (length rs)

-- a state is what the plain list says: the counter, the floor, and a journal that holds the list
pub record Ran (K : Kind) (opening : List ℕ) (room : ℕ) (s : State) (rs : List Rec) : Type 0 where
  pub same : s ≡ state_of K opening s.journal rs
  pub kept : Kept K opening s.journal room rs

-- so is an outcome, and its number and place are the plain list's
pub record Follows (K : Kind) (opening : List ℕ) (room : ℕ) (o : Outcome) (a : Answer) (rs : List Rec) : Type 0 where
  pub verdict : verdict_of o.answer ≡ a
  pub ran : Ran K opening room (next o) rs

-- ---- what a bench holds in the journal is what it holds in the list

module _ (j : List ℕ) (rs : List Rec) (same : (i : ℕ) → i < length rs → stored j i ≡ listed rs i) (bench : ℕ) where
  pub held_same : held (stored j) (length rs) bench ≡ held_by bench rs
  unfolding held
  held_same = tally_same (length rs) (λ i. is_of bench (stored j i)) (λ i. is_of bench (listed rs i)) (λ i l. ap (is_of bench) (same i l))

  pub latest_same : latest (stored j) (length rs) bench ≡ latest_in bench rs
  unfolding latest
  latest_same = highest_same (length rs) (λ i. is_of bench (stored j i)) (λ i. is_of bench (listed rs i)) (λ i l. ap (is_of bench) (same i l))

  pub blocked_same : blocked (stored j) (length rs) bench (latest_in bench rs) ≡ blocked_in bench rs
  unfolding blocked
  blocked_same =
      let i = latest_in bench rs in
      any_same (length rs) (λ x. ltb i x && is_of (other bench) (stored j x) && same_field (stored j i) (stored j x)) (λ x. ltb i x && is_of (other bench) (listed rs x) && same_field (listed rs i) (listed rs x))
      (λ x l. rw (same x l, same i (unfold latest in highest_under (length rs) (λ y. is_of bench (listed rs y)) x l)))

module _ (K : Kind) (opening : List ℕ) (room : ℕ) (A : List ℕ → Type 0) (L : Lawful K A) (acc : A opening) where
  module _ (j : List ℕ) (rs : List Rec) (k : Kept K opening j room rs) where
    -- 1 to 6 and 28 never refuse
    common_never : (bench place : ℕ) → common_verdict K bench place (state_of K opening j rs) ≡ rule45 bench (length rs)
    common_never bench place =
        common_is K bench place (state_of K opening j rs) (L.right _ (good K opening room A L acc rs k.could)) (rw k.long (few K opening (fit_in room) rs k.could))

    -- a refused call
    refused_follows : (a : Answer) → Follows K opening room (refusal a (state_of K opening j rs)) a rs
    refused_follows a = record { verdict = refl; ran = record { same = refl; kept = k } }

    -- a record that fits, added at the end
    edit_ran : (r : Rec) → r.bench ≤ 1 → held_by r.bench rs < half room → length rs < fit_in room → Fits K (floor_of K opening rs) r
        → Ran K opening room (edited K r (state_of K opening j rs)) (rs ++ (r ∷ []))
    edit_ran r b half space fit =
        let f = length rs in
        let below : (i : ℕ) → i < f → stored (put j (size * f) (record_bytes r)) i ≡ listed (rs ++ (r ∷ [])) i =
        λ i h. record_at_below (record_bytes r) j (size * f) (size * i) (omega arith) ∙ k.stored i h ∙ sym (listed_more rs r i h) in
        let last : stored (put j (size * f) (record_bytes r)) f ≡ listed (rs ++ (r ∷ [])) f =
        record_at_put j (size * f) r (omega (arith, k.long, fit_room room)) (fits_sized K A L _ r (good K opening room A L acc rs k.could) fit (omega arith)) ∙ sym (listed_last rs r) in
        record {
          same = rw (length-append rs (r ∷ []), lay_all_snoc (lay K) rs r opening);
          kept = record {
            could = could_edit K opening (fit_in room) rs k.could r b half fit;
            long = length_put (record_bytes r) j (size * f) ∙ k.long;
            stored = λ i h. decided (dec_lt i f) (below i) (λ n. let z : i ≡ f = omega (arith, length_more rs r) in rw z last);
          };
        }

    -- the bench's latest record, taken out
    module _ (bench : ℕ) (b : bench ≤ 1) where
      out_ran : UndoMet bench rs → Ran K opening room (taken_out K bench (state_of K opening j rs)) (plain_undo bench rs)
      out_ran m =
          let f = length rs in
          let i = latest_in bench rs in
          let l = (latest_is bench rs m.some).under in
          let o = undo_out K opening (fit_in room) bench b rs k.could m A L acc in
          let n = length_without rs i l in
          let less : f - 1 ≡ length (plain_undo bench rs) = omega arith in
          let room_of_lem : size * f ≤ length j = omega (arith, k.long, fit_room room, few K opening (fit_in room) rs k.could) in
          rw (latest_same j rs k.stored bench, k.stored i l, o.floor, less)
          (record {
            same = refl;
            kept = record {
              could = could_undo K opening (fit_in room) bench b rs k.could m A L acc;
              long = length_closed j i f ∙ k.long;
              stored = λ x h. decided (dec_lt x i)
                  (λ g. stored_below j i f x g ∙ k.stored x (omega arith) ∙ sym (listed_below rs i l x g))
                  (λ g. stored_above j i f l room_of_lem x (omega arith) (omega arith) ∙ k.stored (suc x) (omega arith) ∙ sym (listed_above rs i l x (omega arith)));
            };
          })

      -- an undo is refused where the plain list says: 27 never is the reason
      rules_same : undo_rules K bench (state_of K opening j rs) ≡ plain_undo_rules bench rs
      unfolding undo_rules plain_undo_rules
      rules_same =
          let P = rule 26 (eqb (held_by bench rs) 0) (length rs) then rule 43 (blocked_in bench rs) (length rs) in
          rw (held_same j rs k.stored bench, latest_same j rs k.stored bench, blocked_same j rs k.stored bench)
          (decided (ℕ_discrete P.number 0)
          (λ z.
          let m = undo_met bench rs (unfold plain_undo_rules in z) in
          let o = undo_out K opening (fit_in room) bench b rs k.could m A L acc in
          rw (k.stored (latest_in bench rs) (latest_is bench rs m.some).under, fits_is K _ _ o.fits, met 27 (length rs))
          (then_next P accepted z ∙ sym (unfold plain_undo_rules in (undo_proper bench rs).at_0 z)))
          (λ z. then_stop P z _))

  -- ---- the calls

  module _ (j : List ℕ) (rs : List Rec) (k : Kept K opening j room rs) (bench : ℕ) where
    -- an edit
    edit_follows : (e : Edit) → Follows K opening room (edit_step K bench (wish_of e) (state_of K opening j rs)) (plain_verdict K opening room (edit bench e) rs) (plain_step K opening room (edit bench e) rs)
    unfolding edit_step edit_verdict plain_verdict plain_step
    edit_follows e =
        let w = wish_of e in
        let a = plain_verdict K opening room (edit bench e) rs in
        let s = state_of K opening j rs in
        let r = record_of K bench (floor_of K opening rs) w in
        rw (common_never j rs k bench w.place, k.long, held_same j rs k.stored bench)
        (decided (ℕ_discrete a.number 0)
        (λ z.
        let d = edit_made K opening room A L acc bench e rs k.could z in
        let p = then_proper _ _ (bench_proper bench (length rs)) (edit_proper K w (floor_of K opening rs) (full room (length rs) (held_by bench rs))) in
        rw (unless_next a s (done (edited K r s)) z, eq-eqb a.number 0 z, p.at_0 z)
        (record { verdict = refl; ran = edit_ran j rs k r d.owner d.half d.space d.fits }))
        (λ z. rw (unless_stop a s (done (edited K r s)) z, ne_eqb a.number 0 z) (refused_follows j rs k a)))

    -- undo
    undo_follows : Follows K opening room (undo_step K bench (state_of K opening j rs)) (plain_verdict K opening room (undo bench) rs) (plain_step K opening room (undo bench) rs)
    unfolding undo_step out_step plain_verdict plain_step
    undo_follows =
        let s = state_of K opening j rs in
        let B = rule45 bench (length rs) in
        let a = plain_undo_rules bench rs in
        let o = done (taken_out K bench s) in
        rw (common_never j rs k bench (length rs))
        (decided (ℕ_discrete B.number 0)
        (λ y.
        let b = bench_met bench (length rs) y in
        rw (then_next B a y, unless_next B s (unless (undo_rules K bench s) s o) y, rules_same j rs k bench b)
        (decided (ℕ_discrete a.number 0)
        (λ z.
        rw (unless_next a s o z, eq-eqb a.number 0 z, (undo_proper bench rs).at_0 z) (record { verdict = refl; ran = out_ran j rs k bench b (undo_met bench rs z) }))
        (λ z. rw (unless_stop a s o z, ne_eqb a.number 0 z) (refused_follows j rs k a))))
        (λ y. rw (then_stop B y a, unless_stop B s (unless (undo_rules K bench s) s o) y, ne_eqb B.number 0 y) (refused_follows j rs k B)))

  -- put-back: undo after undo
  unwind_ran : (bench : ℕ) → bench ≤ 1 → (n : ℕ) (j : List ℕ) (rs : List Rec) → Kept K opening j room rs
      → Ran K opening room (unwind K bench n (state_of K opening j rs)) (plain_unwind bench n rs)
  unfolding unwind plain_unwind
  unwind_ran bench b zero j rs k = record { same = refl; kept = k }
  unwind_ran bench b (suc n) j rs k =
      rw (rules_same j rs k bench b)
      (decided (ℕ_discrete (plain_undo_rules bench rs).number 0)
      (λ z.
      let t = out_ran j rs k bench b (undo_met bench rs z) in
      rw (eq-eqb _ 0 z, t.same) (unwind_ran bench b n _ (plain_undo bench rs) t.kept))
      (λ z. rw (ne_eqb _ 0 z) (record { same = refl; kept = k })))

  -- where it ended
  ended_follows : (bench : ℕ) → bench ≤ 1 → (j : List ℕ) (rs : List Rec) → Kept K opening j room rs
      → Follows K opening room (ended (unwound K bench (state_of K opening j rs))) (plain_end (plain_undo_rules bench (plain_put_back bench rs))) (plain_put_back bench rs)
  unfolding unwound ended plain_end
  ended_follows bench b j rs k =
      let t = unwind_ran bench b (length rs) j rs k in
      let u = unwind K bench (length rs) (state_of K opening j rs) in
      let a = plain_undo_rules bench (plain_put_back bench rs) in
      let e : undo_rules K bench u ≡ a = rw t.same (rules_same u.journal (plain_put_back bench rs) t.kept bench b) in
      rw e
      (decided (ℕ_discrete a.number 26)
      (λ z. rw (eq-eqb _ 26 z) (record { verdict = refl; ran = t }))
      (λ z. rw (ne_eqb _ 26 z) (record { verdict = refl; ran = t })))

  put_back_follows : (j : List ℕ) (rs : List Rec) → Kept K opening j room rs → (bench : ℕ)
      → Follows K opening room (put_back_step K bench (state_of K opening j rs)) (plain_verdict K opening room (put_back bench) rs) (plain_step K opening room (put_back bench) rs)
  unfolding put_back_step plain_verdict plain_step
  put_back_follows j rs k bench =
      let s = state_of K opening j rs in
      let B = rule45 bench (length rs) in
      let E = plain_end (plain_undo_rules bench (plain_put_back bench rs)) in
      rw (common_never j rs k bench (length rs))
      (decided (dec_lt 1 bench)
      (λ l.
      let y : B.number ≡ 0 → ⊥ = λ z. let b = bench_met bench (length rs) z in omega arith in
      rw (lt-ltb 1 bench l, then_stop B y E, unless_stop B s _ y) (refused_follows j rs k B))
      (λ l.
      let b : bench ≤ 1 = omega arith in
      let y : B.number ≡ 0 = ap (λ (a : Answer). a.number) (met_bench bench (length rs) b) in
      rw (le-ltb 1 bench b, then_next B E y, unless_next B s _ y)
      (ended_follows bench b j rs k)))

  -- one call
  pub step_follows : (j : List ℕ) (c : Call) (rs : List Rec) → Kept K opening j room rs
      → Follows K opening room (step K c (state_of K opening j rs)) (plain_verdict K opening room c rs) (plain_step K opening room c rs)
  unfolding step
  step_follows j (edit bench e) rs k = edit_follows j rs k bench e
  step_follows j (undo bench) rs k = undo_follows j rs k bench
  step_follows j (put_back bench) rs k = put_back_follows j rs k bench

  -- a run
  pub run_follows : (cs : List Call) (j : List ℕ) (rs : List Rec) → Kept K opening j room rs
      → Ran K opening room (run K cs (state_of K opening j rs)) (plain_run K opening room cs rs)
  unfolding run plain_run
  run_follows [] j rs k = record { same = refl; kept = k }
  run_follows (c ∷ cs) j rs k =
      let t = (step_follows j c rs k).ran in
      rw t.same (run_follows cs _ (plain_step K opening room c rs) t.kept)
