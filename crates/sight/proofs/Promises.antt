-- What a caller may rely on: two admitted answers are equal, and what a row's answer says. Assumes nothing.
use mathlib.Core.Path.{◌≡◌, sym, ap, ◌∙◌}
use mathlib.Core.Bool.{false}
use mathlib.Core.List.{List}
use Prim.Native.Nat.{ℕ, ◌≤◌}
use native.Mathlib.Omega.{arith}
use lib.Count.{ones}
use lib.ListN.{length, get_or}
use lib.Pow.{pow_mono}
use Rattle.std.specs.declared.result.Result.{Result}
use Rattle.std.specs.declared.result.Result.TheVariants.{Ok, Err}
use Rattle.verdict.specs.declared.Answer.{Answer}
use Rattle.verdict.specs.declared.Refused.{Refused}
use Rattle.verdict.specs.Lists.{tally}
use Rattle.verdict.specs.Verdict.{refused}
use Rattle.verdict.proofs.Told.{met_not_refused, refusal_once}
use Rattle.rooms.specs.Rooms.{room_names}
use Rattle.sight.specs.declared.Row.{Row}
use Rattle.sight.specs.Rows.{sees}
use Rattle.sight.specs.Code.{told_sight, no_sight}
use Rattle.sight.specs.Sight.{ToldSight, rows_of, sight_of, row_answer}
use Rattle.sight.proofs.MarkLaws.{sees_past}
use Rattle.sight.proofs.LowLaws.{ones_tally}
use Rattle.sight.proofs.RowsGood.{no_row}
use Rattle.sight.proofs.SightLaws.{rows_good, rows_refused, no_room, row_fits}

-- ---- reading

-- the number and the place that are told
abbrev answer_of : ToldSight → Answer
answer_of t = refused t.number t.place

-- what is told is told of one answer alone
pub told_once : (a b : Result (List ℕ) Refused) → told_sight a ≡ told_sight b → a ≡ b
unfolding no_sight
told_once (Ok v) (Ok w) e = ap Ok (ap (λ (t : ToldSight). t.rows) e)
told_once (Ok v) (Err q) e = met_not_refused q (ap answer_of e)
told_once (Err r) (Ok w) e = met_not_refused r (sym (ap answer_of e))
told_once (Err r) (Err q) e = ap Err (refusal_once r q (ap answer_of e))

-- two answers that the contract admits are equal
pub one_sight : (layout s : List ℕ) (a b : Result (List ℕ) Refused) → told_sight a ≡ sight_of layout s → told_sight b ≡ sight_of layout s → a ≡ b
one_sight layout s a b p q = told_once a b (p ∙ sym q)

-- ---- a row's answer

-- two answers that the contract admits are equal
pub one_row : (layout s : List ℕ) (room : ℕ) (a b : Row) → a ≡ row_answer layout s room → b ≡ row_answer layout s room → a ≡ b
one_row layout s room a b p q = p ∙ sym q

module _ (layout s : List ℕ) (room : ℕ) where
  -- the number of rooms seen is the count of the row's set marks
  pub seen_is_count : (row_answer layout s room).seen ≡ tally 64 (sees (row_answer layout s room).row)
  unfolding row_answer
  seen_is_count = ones_tally (get_or (rows_of layout s) room 0) 64 (row_fits layout s room)

  -- no mark is set for a room that the layout has not
  pub unseen_past : (j : ℕ) → length (room_names layout) ≤ j → sees (row_answer layout s room).row j ≡ false
  unfolding row_answer
  unseen_past j l = sees_past (get_or (rows_of layout s) room 0) j (omega (arith, (rows_good layout s).fits room, pow_mono l))

  -- both are 0 for no room ..
  pub no_room_no_row : length (room_names layout) ≤ room → ((row_answer layout s room).row ≡ 0) × ((row_answer layout s room).seen ≡ 0)
  unfolding row_answer ones
  no_room_no_row l = let e = no_room layout s room l in (e, ap ones e)

  -- .. and on refusal
  pub refused_no_row : ((row_answer layout s room).number ≡ 0 → ⊥) → ((row_answer layout s room).row ≡ 0) × ((row_answer layout s room).seen ≡ 0)
  unfolding row_answer ones
  refused_no_row z = let e : get_or (rows_of layout s) room 0 ≡ 0 = ap (λ (r : List ℕ). get_or r room 0) (rows_refused layout s z) ∙ no_row room in (e, ap ones e)
