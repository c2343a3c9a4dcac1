-- When an edit is accepted, and what it leaves: one edit, and two of them one after the other, by one bench or by two. Assumes nothing.
use mathlib.Core.Path.{◌≡◌, sym, ap, subst}
use mathlib.Core.Bool.{true, false}
use Prim.Native.Nat.{ℕ, ◌+◌, ◌*◌, ◌≤◌, ◌<◌}
use mathlib.Core.List.{[], ◌∷◌}
use native.Mathlib.Omega.{arith}
use native.Mathlib.Numerals.{add-one, lt_of_le_of_ne}
use native.Mathlib.Decide.{ℕ_discrete}
use lib.ListN.{length}
use Rattle.verdict.specs.Lists.{bit, tally}
use Rattle.verdict.specs.declared.Answer.{Answer}
use Rattle.verdict.proofs.Bools.{decided}
use Rattle.verdict.proofs.Lists.{tally_same}
use Rattle.verdict.proofs.Verdict.{then_both, passed}
use Rattle.wire.specs.Bytes.{put}
use Rattle.wire.proofs.Put.{length_put}
use Rattle.grid.proofs.Nudges.{nudge_lt}
use Rattle.record.specs.declared.Rec.{Rec}
use Rattle.record.specs.Record.{size, record_bytes}
use Rattle.record.proofs.Records.{record_at_below, bench_put}
use Rattle.holding.specs.Held.{stored, is_of, held}
use Rattle.holding.proofs.Owners.{own_bit, other_bit}
use Rattle.laying.specs.Kind.{Kind}
use Rattle.laying.specs.Fields.{LawfulFields}
use Rattle.laying.proofs.Allowed.{permitted_small, link_word, linkable_small}
use Rattle.journal.specs.Wish.{Edit, paint, link, nudge, wish_of}
use Rattle.journal.specs.Step.{State, next, done, fit_in, half, holds, is_full, common_verdict, edit_rules, edit_verdict, record_of, edited, edit_step}
use Rattle.journal.specs.Calls.{edit, step, Accepts, run}
use Rattle.journal.specs.Order.{InTurn, RoomForBoth}
use Rattle.journal.proofs.Steps.{unless_next, unless_stop, fit_room, CommonMet, common_met, met_common, full_free, free_full, EditMet, edit_met, met_edit}

-- an edit that may be made writes a 32-bit word
pub word_small : (e : Edit) (old : ℕ) → (wish_of e).may old ≡ true → (wish_of e).new old < 4294967296
word_small (paint face m) old p = omega (arith, permitted_small old m p)
word_small (link entry t) old p = linkable_small _ (link_word t p)
word_small (nudge place n) old p = nudge_lt old n

-- all that is asked of a bench's edit is met
pub record AllMet (K : Kind) (s : State) (b : ℕ) (e : Edit) : Type 0 where
  pub common : CommonMet K b s
  pub own : EditMet K (wish_of e) s.floor (is_full b s)

-- the record that an edit lays on, and what an accepted edit leaves
abbrev pub recorded : Kind → State → ℕ → Edit → Rec
recorded K s b e = record_of K b s.floor (wish_of e)

abbrev pub left_by : Kind → State → ℕ → Edit → State
left_by K s b e = edited K (recorded K s b e) s

module _ (K : Kind) (s : State) (b : ℕ) (e : Edit) where
  verdict_met : (edit_verdict K b (wish_of e) s).number ≡ 0 → AllMet K s b e
  unfolding edit_verdict
  verdict_met z =
      let p = passed (common_verdict K b (wish_of e).place s) (edit_rules K (wish_of e) s.floor (is_full b s)) z in
      record { common = common_met K b (wish_of e).place s p.0; own = edit_met K (wish_of e) s.floor (is_full b s) p.1 }

  pub accepts_met : Accepts K s (edit b e) → AllMet K s b e
  unfolding step edit_step
  accepts_met z =
      decided (ℕ_discrete (edit_verdict K b (wish_of e) s).number 0) verdict_met
      (λ n. absurd (n (rw (unless_stop (edit_verdict K b (wish_of e) s) s (done (left_by K s b e)) n) at z)))

  pub met_step : AllMet K s b e → step K (edit b e) s ≡ done (left_by K s b e)
  unfolding step edit_step edit_verdict
  met_step m =
      unless_next _ s (done (left_by K s b e))
      (ap (λ (a : Answer). a.number) (then_both (met_common K b (wish_of e).place s m.common) (met_edit K (wish_of e) s.floor (is_full b s) m.own)))

  pub met_accepts : AllMet K s b e → Accepts K s (edit b e)
  met_accepts m = rw (met_step m)

  pub run_one : AllMet K s b e → run K (edit b e ∷ []) s ≡ left_by K s b e
  unfolding run
  run_one m = ap next (met_step m)

  -- ---- the journal that it leaves

  long : length (left_by K s b e).journal ≡ length s.journal
  long = length_put (record_bytes (recorded K s b e)) s.journal (size * s.f)

  module _ (m : AllMet K s b e) where
    -- 25 let it through
    pub half_free : holds b s < half (length s.journal)
    half_free = (full_free _ _ _ m.own.free).0

    pub space_free : s.f < fit_in (length s.journal)
    space_free = lt_of_le_of_ne m.common.few (full_free _ _ _ m.own.free).1

    -- each bench holds what it held, and the edit's own one record more
    pub held_left : (d : ℕ) → holds d (left_by K s b e) ≡ bit (is_of d (recorded K s b e)) + holds d s
    unfolding held tally is_of
    held_left d =
        let r = recorded K s b e in
        let j = put s.journal (size * s.f) (record_bytes r) in
        rw (
          add-one s.f,
          bench_put s.journal (size * s.f) r (omega (arith, space_free, fit_room (length s.journal))),
          tally_same s.f (λ i. is_of d (stored j i)) (λ i. is_of d (stored s.journal i)) (λ i l. ap (is_of d) (record_at_below (record_bytes r) s.journal (size * s.f) (size * i) (omega arith))),
        )

    -- it was not more before
    pub held_before : (d : ℕ) → holds d s ≤ holds d (left_by K s b e)
    held_before d = omega (arith, held_left d)

    -- the common rules let a bench's next call through
    pub common_after : LawfulFields K → (d : ℕ) → d ≤ 1 → CommonMet K d (left_by K s b e)
    common_after F d o = record {
      right = F.right s.floor (recorded K s b e) m.common.right m.own.inside;
      few = rw long (omega (arith, space_free));
      owner = o;
    }

module _ (K : Kind) (s : State) (b : ℕ) (e : Edit) (d : ℕ) (g : Edit) where
  -- of both, the second on what the first one leaves
  pub record BothMet : Type 0 where
    pub first : AllMet K s b e
    pub second : AllMet K (left_by K s b e) d g

  pub turn_met : InTurn K s b e d g → BothMet
  turn_met t =
      let m = accepts_met K s b e t.first in
      record { first = m; second = accepts_met K (left_by K s b e) d g (rw (run_one K s b e m) at t.second) }

  pub met_turn : BothMet → InTurn K s b e d g
  met_turn m = record { first = met_accepts K s b e m.first; second = rw (run_one K s b e m.first) (met_accepts K (left_by K s b e) d g m.second) }

  -- there is room for the second where there is room for both ..
  pub next_free : AllMet K s b e → AllMet K s d g → RoomForBoth s b d → is_full d (left_by K s b e) ≡ false
  next_free me mg room = rw (long K s b e) (free_full _ _ _ (by (ℕ_discrete b d)) (λ z. omega (arith, room.two)))
    where
      by : Dec (b ≡ d) → holds d (left_by K s b e) < half (length s.journal)
      by (yes z) = rw (held_left K s b e me d, ← z) (omega (arith, room.own z, own_bit (recorded K s b e)))
      by (no n) = rw (held_left K s b e me d) (omega (arith, half_free K s d g mg, other_bit (recorded K s b e) d n))

  -- .. and where both were accepted there was room for both, and for the second alone
  pub turn_room : InTurn K s b e d g → RoomForBoth s b d
  turn_room t =
      let m = turn_met t in
      let h : holds d (left_by K s b e) < half (length s.journal) = rw (long K s b e) at (half_free K (left_by K s b e) d g m.second) in
      let l : s.f + 1 < fit_in (length s.journal) = rw (long K s b e) at (space_free K (left_by K s b e) d g m.second) in
      record { two = omega arith; own = own m h }
    where
      own : (m : BothMet) → holds d (left_by K s b e) < half (length s.journal) → b ≡ d → holds b s + 2 ≤ half (length s.journal)
      own m h z =
          let n : holds b (left_by K s b e) ≡ bit (is_of b (recorded K s b e)) + holds b s = held_left K s b e m.first b in
          let k : holds b (left_by K s b e) < half (length s.journal) = subst (λ (x : ℕ). holds x (left_by K s b e) < half (length s.journal)) (sym z) h in
          omega (arith, own_bit (recorded K s b e))

  pub still_free : AllMet K s b e → AllMet K (left_by K s b e) d g → is_full d s ≡ false
  still_free me mg =
      let h : holds d (left_by K s b e) < half (length s.journal) = rw (long K s b e) at (half_free K (left_by K s b e) d g mg) in
      let l = space_free K s b e me in
      free_full _ _ _ (omega (arith, held_before K s b e me d)) (λ z. omega arith)

  pub run_two : BothMet → run K (edit b e ∷ edit d g ∷ []) s ≡ left_by K (left_by K s b e) d g
  unfolding run
  run_two m = rw (met_step K s b e m.first, met_step K (left_by K s b e) d g m.second)
