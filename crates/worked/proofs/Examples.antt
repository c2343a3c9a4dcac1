-- The checked examples hold: one test that is computed over the table, and one law that turns it into the equation of each case.
-- Assumes nothing.
use mathlib.Core.Path.{◌≡◌, refl, sym, ap, ◌∙◌}
use mathlib.Core.Bool.{Bool, true, false, ◌&&◌}
use mathlib.Core.List.{List, [], ◌∷◌, ◌++◌, append-nil}
use Prim.Native.Nat.{ℕ, ◌+◌, ◌<◌}
use native.Mathlib.Omega.{arith}
use lib.Dec.{T, ltb, eqb}
use lib.ListN.{length, get_or, replicate, length-append, length-replicate}
use lib.Ieee.{of_bits, to_bits, round, le, lt, eq}
use borrow.Author.Tests.{le-ltb, lt-ltb, ltb-true, eqb-true}
use Rattle.verdict.specs.Lowest.{lowest, highest, any_under, all_under}
use Rattle.verdict.specs.Lists.{times, tally, once}
use Rattle.verdict.specs.Verdict.{rule, rule_of_each, ◌then◌, in_order, refused, accepted}
use Rattle.verdict.specs.declared.Answer.{Answer}
use Rattle.verdict.specs.Memory.{work_size}
use Rattle.verdict.specs.Output.{over, form_answer, form_memory}
use Rattle.verdict.proofs.Bools.{T_true, true_T, and_true}
use Rattle.verdict.proofs.Verdict.{then_next, then_stop}
use Rattle.wire.specs.Bytes.{u32_at, u32_bytes, put}
use Rattle.wire.specs.Words.{words_at, bytes_of, joined}
use Rattle.grid.specs.Grid.{finite, on_grid, size64, scaled, grid_float, may_nudge, nudge_bits}
use Rattle.boxes.specs.Box.{between, none_over, holds_point, holds_box, holds_xy, box_of_bits}
use Rattle.triangle.specs.Triangle.{in_triangle, sides, all_left, all_right, cross}
use Rattle.tables.specs.Tables.{rule5, rule6, outside_at, outside, span_of, shares, shares_earlier}
use Rattle.tables.specs.Header.{wrong_length, field_rules, header_rules, header_verdict, starts_wrong, differs, limit, rule1, rule2, rule3, rule4}
use Rattle.tables.specs.Parts.{parts_of, table_words, word_of, word_place}
use Rattle.tables.specs.Fixed.{start_of, form_of}
use Rattle.tables.proofs.Right.{wrong_long}
use Rattle.mesh.specs.Floats.{wild, wild_head, wild_in, rule7_in, rule7_head, rule7}
use Rattle.mesh.specs.Faces.{wrong_corner, wrong_corners, walkable, strange, misplaced, rule8, rule9, rule10}
use Rattle.nodes.specs.Nodes.{nodes_of, is_plane, is_leaf, is_inner, neither, stray_root, rule11, rule12}
use Rattle.tree.specs.Tree.{ends, deep, leaf_faces, one_tree, rule13}
use Rattle.tree.specs.Visits.{visited_count, visited, shown, above}
use Rattle.tree.specs.Boxes.{box_of, holds_corner, holds_face, holds_children, too_small, rule14}
use Rattle.pairs.specs.Halves.{from, to, runs, repeats, partner, border, pairing, wrong_adjacent, rule15, rule16}
use Rattle.border.specs.Loops.{stands_in, wrong_edge, missing, rule17, wrong_transition, rule18, loop_start, after, open_at, open_run, wrong_loop, rule19}
use Rattle.floor.specs.Groups.{rules15to19, rules1to14, rules1to19}
use Rattle.floor.specs.Reader.{rule20, early_rules, part_rules, reader_rules, reader_verdict, walkable_faces, answer_of, reader_answer}
use Rattle.floor.specs.Rewrite.{fixed_form, rewrite_verdict, rewrite_answer, rewrite_memory}
use Rattle.floor.proofs.Order.{by_groups}
use Rattle.record.specs.Record.{record_bytes, record_at}
use Rattle.holding.specs.Held.{is_of, same_field, held, latest, blocked, closed}
use Rattle.laying.specs.Allowed.{permitted, linkable, may_link, transition_word}
use Rattle.laying.specs.Kind.{lay, fits}
use Rattle.laying.specs.Area.{area_count, area_field, area_allowed}
use Rattle.journal.specs.Step.{fit_in, rule28, rule45, common_verdict, unless, full, rule21, edit_rules, edit_verdict, edit_step, undo_rules, out_step, undo_step, put_back_step}
use Rattle.journal.specs.Calls.{step, run}
use Rattle.query.specs.Rules.{rule29, rule30, off_grid, query_rules, query_verdict}
use Rattle.query.specs.Points.{corner_at, face_holds, box_holds, lowest_face, visited_nodes, reply_of, point_of, point_answer}
use Rattle.worked.specs.Worked.{Deed, read, rewrite, pair, ask, call, nudge, told, gives, Case, Right, triangle, square, worked}

-- ---- a file that is too long, without its bytes

long_verdict : (b : List ℕ) → 1048576 < length b → reader_verdict b work_size ≡ refused 1 0
unfolding wrong_length rules1to14 rules1to19 rule20 rule
long_verdict b l =
    by_groups b work_size
    ∙ rw (wrong_long b (rw (le-ltb (length b) 136 (omega arith), lt-ltb 1048576 (length b) l)), then_next accepted)
    (ap (λ (a : Answer). a then rules15to19 (parts_of b)) (then_stop (refused 1 0) (λ z. omega arith) _) ∙ then_stop (refused 1 0) (λ z. omega arith) _)

long_answer : (b : List ℕ) → 1048576 < length b → told (reader_answer b work_size) ≡ 1 ∷ 0 ∷ 0 ∷ 0 ∷ 0 ∷ 0 ∷ []
unfolding reader_answer answer_of
long_answer b l = rw (long_verdict b l)

-- the same numbers, without the list of a file that is too long
quick : Deed → List ℕ
quick (read start zeros) =
    elim (ltb 1048576 (length start + zeros)) [ true ↦ 1 ∷ 0 ∷ 0 ∷ 0 ∷ 0 ∷ 0 ∷ [] | false ↦ gives (read start zeros) ]
quick (rewrite file room) = gives (rewrite file room)
quick (pair file hs) = gives (pair file hs)
quick (ask file x y) = gives (ask file x y)
quick (call file room cs c) = gives (call file room cs c)
quick (nudge b n) = gives (nudge b n)

quick_right : (d : Deed) → gives d ≡ quick d
unfolding quick gives
quick_right (read start zeros) = by (ltb 1048576 (length start + zeros)) refl
  where
    b : List ℕ
    b = start ++ replicate zeros 0

    by : (t : Bool) → ltb 1048576 (length start + zeros) ≡ t
        → told (reader_answer b work_size) ≡ elim t [ true ↦ 1 ∷ 0 ∷ 0 ∷ 0 ∷ 0 ∷ 0 ∷ [] | false ↦ told (reader_answer b work_size) ]
    by true e = long_answer b (simp (length-append, length-replicate) (ltb-true _ _ e))
    by false e = refl
quick_right (rewrite file room) = refl
quick_right (pair file hs) = refl
quick_right (ask file x y) = refl
quick_right (call file room cs c) = refl
quick_right (nudge b n) = refl

-- ---- the test

same : List ℕ → List ℕ → Bool
same [] [] = true
same [] (y ∷ ys) = false
same (x ∷ xs) [] = false
same (x ∷ xs) (y ∷ ys) = eqb x y && same xs ys

same_eq : (xs ys : List ℕ) → T (same xs ys) → xs ≡ ys
unfolding same
same_eq [] [] t = refl
same_eq [] (y ∷ ys) t = absurd t
same_eq (x ∷ xs) [] t = absurd t
same_eq (x ∷ xs) (y ∷ ys) t =
    let h = and_true (eqb x y) (same xs ys) (T_true _ t) in
    let e = eqb-true x y h.0 in
    let r = same_eq xs ys (true_T _ h.1) in
    cc

tested : List Case → Bool
tested [] = true
tested (c ∷ cs) = same (quick c.deed) c.result && tested cs

right_of : (cs : List Case) → T (tested cs) → Right cs
unfolding tested
right_of [] t = tt
right_of (c ∷ cs) t =
    let h = and_true (same (quick c.deed) c.result) (tested cs) (T_true _ t) in
    (quick_right c.deed ∙ same_eq (quick c.deed) c.result (true_T _ h.0), right_of cs (true_T _ h.1))

computed : T (tested worked)
unfolding worked triangle square tested quick gives same
    bytes_of u32_bytes u32_at words_at rule rule_of_each ◌then◌ lowest any_under all_under times tally once
    rewrite_answer rewrite_memory rewrite_verdict fixed_form form_answer form_memory over form_of start_of joined
    reader_answer answer_of reader_verdict reader_rules early_rules part_rules walkable_faces rule20 rule1 rule2 rule3 rule4 limit rule5 rule6 wrong_length starts_wrong differs outside_at outside span_of shares shares_earlier
    parts_of table_words word_of word_place rule7 rule7_in rule7_head wild wild_head wild_in finite of_bits rule8 wrong_corners wrong_corner rule9 strange rule10 misplaced walkable
    rule11 stray_root rule12 neither is_leaf is_inner is_plane nodes_of rule13 one_tree deep ends leaf_faces rule14 too_small holds_children holds_face holds_corner box_of box_of_bits holds_point holds_box between none_over le lt eq
    rule15 rule16 repeats partner runs from to wrong_adjacent pairing border rule17 stands_in wrong_edge missing rule18 wrong_transition rule19 wrong_loop loop_start open_run open_at after
    point_answer point_of reply_of query_verdict query_rules rule29 rule30 off_grid lowest_face face_holds corner_at box_holds holds_xy visited_nodes visited_count visited shown above
    step run edit_step edit_verdict edit_rules common_verdict header_verdict header_rules field_rules in_order rule28 rule45 fit_in rule21 full unless area_count area_field lay put record_bytes permitted may_link transition_word linkable
    undo_step out_step undo_rules put_back_step held latest highest blocked closed is_of same_field record_at fits area_allowed
    in_triangle sides all_left all_right cross size64 may_nudge nudge_bits on_grid scaled grid_float to_bits round
computed = tt

pub examples : Right worked
examples = right_of worked computed

-- W4: the triangle is accepted
pub triangle_read : (reader_verdict triangle work_size).number ≡ 0
unfolding worked gives reader_answer answer_of
triangle_read = ap (λ (b : List ℕ). (reader_verdict b work_size).number) (sym (append-nil triangle)) ∙ ap (λ (told : List ℕ). get_or told 0 0) examples.1.1.1.0
