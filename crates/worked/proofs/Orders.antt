-- M-107's examples hold: the calls are computed, the rest is the laws. Assumes nothing.
use mathlib.Core.Path.{ap}
use mathlib.Core.Bool.{Bool, true, ◌&&◌}
use mathlib.Core.List.{List, [], ◌∷◌}
use Prim.Native.Nat.{ℕ, zero, suc, ◌<◌}
use native.Mathlib.Omega.{arith}
use lib.Dec.{T, ltb, eqb}
use lib.IntN.{pos, nat_abs}
use lib.ListN.{length, get_or}
use lib.Ieee.{of_bits, to_bits, round}
use borrow.Author.Tests.{ltb-true, eqb-true}
use Rattle.verdict.specs.Lowest.{lowest, any_under, all_under}
use Rattle.verdict.specs.Lists.{times, tally}
use Rattle.verdict.specs.Verdict.{rule, rule_of_each, ◌then◌, in_order}
use Rattle.verdict.specs.Memory.{work_size}
use Rattle.verdict.proofs.Bools.{T_true, true_T, and_true}
use Rattle.wire.specs.Bytes.{u32_at, u32_bytes, put}
use Rattle.wire.specs.Words.{bytes_of}
use Rattle.grid.specs.Grid.{on_grid, scaled, grid_float, may_nudge, nudge_bits}
use Rattle.tables.specs.Tables.{rule5, rule6, outside_at, outside, span_of, shares, shares_earlier}
use Rattle.tables.specs.Header.{wrong_length, field_rules, header_rules, header_verdict, starts_wrong, differs, limit, rule1, rule2, rule3, rule4}
use Rattle.tables.specs.Parts.{parts_of, word_place}
use Rattle.mesh.specs.Faces.{walkable}
use Rattle.record.specs.Record.{record_bytes, record_at}
use Rattle.holding.specs.Held.{is_of, held}
use Rattle.laying.specs.Allowed.{permitted, may_link, transition_word}
use Rattle.laying.specs.Kind.{lay}
use Rattle.laying.specs.Area.{area_count, area_field, area_floor}
use Rattle.journal.specs.Wish.{Edit, paint, link, nudge}
use Rattle.journal.specs.Step.{State, fit_in, rule28, rule45, common_verdict, unless, full, rule21, edit_rules, edit_verdict, edit_step}
use Rattle.journal.specs.Calls.{Call, edit, step, Accepts, run}
use Rattle.journal.specs.Order.{InTurn, RoomForBoth}
use Rattle.journal.specs.SoundFloor.{AcceptedFloor}
use Rattle.journal.proofs.AcceptedFloors.{read_sound, sound_read}
use Rattle.journal.proofs.Order.{area_order_counts}
use Rattle.worked.specs.Worked.{triangle}
use Rattle.worked.specs.Orders.{lent_triangle, OrderExamples}
use Rattle.worked.proofs.Examples.{triangle_read}

-- ---- the calls

accepts : State → Call → Bool
accepts s c = eqb (step area_floor c s).answer.number 0

-- the first float nudged by 640
abbrev nudged : Edit
nudged = nudge 0 (pos 640)

record Computed : Type 0 where
  pub painted_5 : T (accepts lent_triangle (edit 0 (paint 0 5)))
  pub painted_3 : T (accepts lent_triangle (edit 1 (paint 0 3)))
  pub linked_1 : T (accepts lent_triangle (edit 0 (link 0 (pos 1))))
  pub linked_2 : T (accepts lent_triangle (edit 1 (link 0 (pos 2))))
  pub nudged_once : T (accepts lent_triangle (edit 0 nudged))
  pub nudged_twice : T (accepts (run area_floor (edit 0 nudged ∷ []) lent_triangle) (edit 1 nudged))
  pub two : T (eqb (fit_in (length lent_triangle.journal)) 2)

computed : Computed
unfolding accepts triangle bytes_of u32_bytes u32_at rule rule_of_each ◌then◌ in_order lowest any_under all_under times tally
    header_verdict header_rules field_rules rule1 rule2 rule3 rule4 limit rule5 rule6 wrong_length starts_wrong differs outside_at outside span_of shares shares_earlier parts_of word_place
    step run edit_step edit_verdict edit_rules common_verdict rule28 rule45 fit_in rule21 full unless held is_of record_at area_count area_field lay put record_bytes permitted walkable may_link transition_word
    of_bits to_bits round may_nudge nudge_bits on_grid scaled grid_float
computed = record { painted_5 = tt; painted_3 = tt; linked_1 = tt; linked_2 = tt; nudged_once = tt; nudged_twice = tt; two = tt }

accepted_by : (s : State) (c : Call) → T (accepts s c) → Accepts area_floor s c
unfolding accepts
accepted_by s c t = eqb-true _ 0 (T_true _ t)

-- ---- the floor's bytes

bytes : List ℕ → Bool
bytes [] = true
bytes (x ∷ xs) = ltb x 256 && bytes xs

byte_of : (xs : List ℕ) → T (bytes xs) → (i : ℕ) → get_or xs i 0 < 256
unfolding bytes
byte_of [] t i = omega arith
byte_of (x ∷ xs) t zero = ltb-true x 256 (and_true (ltb x 256) (bytes xs) (T_true _ t)).0
byte_of (x ∷ xs) t (suc i) = byte_of xs (true_T _ (and_true (ltb x 256) (bytes xs) (T_true _ t)).1) i

triangle_bytes : T (bytes triangle)
unfolding bytes triangle bytes_of u32_bytes
triangle_bytes = tt

triangle_accepted : AcceptedFloor triangle
triangle_accepted = sound_read triangle (read_sound triangle work_size (record { byte = byte_of triangle triangle_bytes }) triangle_read)

room : RoomForBoth lent_triangle 0 1
room = record { two = omega (arith, eqb-true (fit_in (length lent_triangle.journal)) 2 (T_true _ computed.two)); own = λ e. omega arith }

nudged_in_turn : InTurn area_floor lent_triangle 0 nudged 1 nudged
nudged_in_turn = record {
  first = accepted_by lent_triangle (edit 0 nudged) computed.nudged_once;
  second = accepted_by (run area_floor (edit 0 nudged ∷ []) lent_triangle) (edit 1 nudged) computed.nudged_twice;
}

pub order_examples : OrderExamples
order_examples =
    let c = area_order_counts in
    record {
      accepted = triangle_accepted;
      paints = c.paints lent_triangle 0 1 0 5 3 (λ e. omega arith) (accepted_by lent_triangle (edit 0 (paint 0 5)) computed.painted_5) (accepted_by lent_triangle (edit 1 (paint 0 3)) computed.painted_3) room;
      links = c.links lent_triangle 0 1 0 (pos 1) (pos 2) (λ e. omega (arith, ap nat_abs e)) (accepted_by lent_triangle (edit 0 (link 0 (pos 1))) computed.linked_1) (accepted_by lent_triangle (edit 1 (link 0 (pos 2))) computed.linked_2) room;
      nudges = nudged_in_turn;
      sum = c.too_far lent_triangle 0 1 0 (pos 640) (pos 640) nudged_in_turn (λ l. omega arith);
    }
