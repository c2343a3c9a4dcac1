-- What the code of the edits has to show, by the verdict. Assumes nothing.
use mathlib.Core.Path.{◌≡◌, refl, sym, ap, ◌∙◌}
use mathlib.Core.Bool.{true, false, not}
use Prim.Native.Nat.{ℕ, ◌+◌, ◌*◌, ◌≤◌, ◌<◌}
use mathlib.Core.List.{List}
use native.Mathlib.Omega.{arith}
use borrow.Author.Tests.{ltb-true, not-false}
use Rattle.std.specs.declared.result.Result.TheVariants.{Err}
use Rattle.verdict.specs.Verdict.{refused, accepted, rule, ◌then◌}
use Rattle.verdict.specs.Refusals.{number_of}
use Rattle.verdict.specs.declared.Answer.{Answer}
use Rattle.verdict.specs.declared.Refused.{Refused}
use Rattle.verdict.proofs.Results.{here, past, accepts, unbroken_by}
use Rattle.verdict.proofs.Verdict.{then_next, then_assoc, passed, unbroken}
use Rattle.wire.specs.Bytes.{put}
use Rattle.record.specs.Record.{size, record_bytes}
use Rattle.laying.specs.Kind.{Kind, lay}
use Rattle.journal.specs.Wish.{Wish, asked}
use Rattle.journal.specs.Lawful.{old_word}
use Rattle.journal.specs.Step.{State, Outcome, left, session, session_of, fit_in, common_verdict, record_of, full, is_full, rule21, edit_rules, open_verdict, edit_verdict, edit_step}
use Rattle.journal.proofs.Steps.{refused_unless, accepted_unless, few_room, CommonMet, common_met, full_free}

module _ (K : Kind) (bench : ℕ) (w : Wish) (s : State) where
  abbrev C : Answer
  C = common_verdict K bench w.place s

  abbrev P : Answer
  P = rule21 K w.tag w.place s.floor

  -- its own rule, and 25
  abbrev pub own_rule : Answer
  own_rule = rule (21 + w.tag) (not (w.may (old_word K s.floor w))) w.place

  abbrev pub rule25 : Answer
  rule25 = rule 25 (is_full bench s) w.place

  -- the verdict is the papers' chain
  edit_chain : edit_verdict K bench w s ≡ (C then P then own_rule then rule25)
  unfolding edit_verdict edit_rules
  edit_chain = sym (then_assoc C (P then own_rule) rule25) ∙ ap (λ (a : Answer). a then rule25) (sym (then_assoc C P own_rule))

  -- before the old word is read
  open_next : (open_verdict K bench w.tag w.place s).number ≡ 0 → edit_verdict K bench w s ≡ (own_rule then rule25)
  unfolding open_verdict
  open_next z = edit_chain ∙ ap (λ (a : Answer). a then rule25) (then_next (C then P) own_rule z)

  -- an edit asks the wish of the old word alone, and for the new word only where it may be made
  own_met : accepted ≡ own_rule → w.may (old_word K s.floor w) ≡ true
  own_met o = not-false _ (unbroken_by (21 + w.tag) _ w.place (omega arith) o)

  pub edit_as : (new : ℕ) → let old = old_word K s.floor w in w.may old ≡ true → new ≡ w.new old → edit_step K bench (asked w.tag w.place true new) s ≡ edit_step K bench w s
  unfolding edit_step edit_verdict edit_rules
  edit_as new e f = rw (e, f) refl

  pub edit_goes : {x : Outcome} (new : ℕ) → accepted ≡ own_rule → new ≡ w.new (old_word K s.floor w)
      → x ≡ edit_step K bench (asked w.tag w.place true new) s → x ≡ edit_step K bench w s
  edit_goes new o f e = e ∙ edit_as new (own_met o) f

  -- an edit that is refused before the old word is read, by its own rule, and by 25
  module _ (r : Refused) where
    refuses : refused (number_of r.refusal) r.place ≡ edit_verdict K bench w s → left (session_of (Err r) s.f) s.floor s.journal ≡ edit_step K bench w s
    unfolding edit_step
    refuses e = refused_unless r s _ e

    pub open_refuses : refused (number_of r.refusal) r.place ≡ open_verdict K bench w.tag w.place s → left (session_of (Err r) s.f) s.floor s.journal ≡ edit_step K bench w s
    unfolding open_verdict
    open_refuses e = refuses (here r rule25 (here r own_rule e) ∙ sym edit_chain)

    pub own_refuses : accepted ≡ open_verdict K bench w.tag w.place s → refused (number_of r.refusal) r.place ≡ own_rule
        → left (session_of (Err r) s.f) s.floor s.journal ≡ edit_step K bench w s
    own_refuses o e = refuses (here r rule25 e ∙ sym (open_next (accepts o)))

    pub full_refuses : (open_verdict K bench w.tag w.place s).number ≡ 0 → accepted ≡ own_rule → refused (number_of r.refusal) r.place ≡ rule25
        → left (session_of (Err r) s.f) s.floor s.journal ≡ edit_step K bench w s
    full_refuses z o e = refuses (past o e ∙ sym (open_next z))

  -- and one that is done
  pub edit_does : (fl j : List ℕ) → (open_verdict K bench w.tag w.place s).number ≡ 0 → accepted ≡ own_rule → accepted ≡ rule25
      → fl ≡ lay K s.floor (record_of K bench s.floor w) → j ≡ put s.journal (size * s.f) (record_bytes (record_of K bench s.floor w))
      → left (session 0 0 (s.f + 1)) fl j ≡ edit_step K bench w s
  unfolding edit_step
  edit_does fl j z o e l n = rw (l, n) (accepted_unless s (past o e ∙ sym (open_next z)) refl)

-- every call's rules and 21
pub record OpenMet (K : Kind) (bench tag place : ℕ) (s : State) : Type 0 where
  pub common : CommonMet K bench s
  pub inside : place < K.count s.floor tag

pub open_met : (K : Kind) (bench tag place : ℕ) (s : State) → (open_verdict K bench tag place s).number ≡ 0 → OpenMet K bench tag place s
unfolding open_verdict rule21
open_met K bench tag place s z =
    let p = passed _ _ z in
    record { common = common_met K bench place s p.0; inside = ltb-true _ _ (not-false _ (unbroken 20 _ place p.1)) }

-- where 25 lets it through, there is room for a record more
pub space_met : (room f n : ℕ) → f ≤ fit_in room → full room f n ≡ false → size * (f + 1) ≤ room
space_met room f n l e = let z = (full_free room f n e).1 in few_room room (f + 1) (omega arith)
