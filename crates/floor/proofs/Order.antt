-- The reader's table by groups: the groups one after another are the table, and the verdict is the first broken rule in order.
-- Assumes nothing.
use mathlib.Core.Path.{◌≡◌, sym, ap, ◌∙◌}
use mathlib.Core.List.{List}
use mathlib.Core.Bool.{not}
use Prim.Native.Nat.{ℕ}
use lib.Dec.{eqb}
use Rattle.verdict.specs.Verdict.{◌then◌, in_order, FirstBroken}
use Rattle.verdict.specs.declared.Answer.{Answer}
use Rattle.verdict.proofs.Verdict.{then_next, then_stop, then_assoc, then_last, Proper, rule_proper, each_proper, then_proper, order_append, first_broken, first_only}
use Rattle.tables.specs.Header.{header_rules, header_verdict}
use Rattle.tables.specs.Parts.{Parts, parts_of, word_place}
use Rattle.mesh.specs.Mesh.{rules7to10}
use Rattle.nodes.specs.Nodes.{rules11to12}
use Rattle.tree.specs.Boxes.{rules13to14}
use Rattle.pairs.specs.Halves.{halves, repeats, rule15, rules15to16}
use Rattle.border.specs.Loops.{wrong_loop, loop_start, rule19, rules17to19}
use Rattle.floor.specs.Groups.{rules7to12, rules15to19, rules1to14, rules1to15, rules1to19}
use Rattle.floor.specs.Reader.{rule20, early_rules, part_rules, reader_rules, early_reader_rules, reader_verdict}

-- ---- the table, by groups

last_proper : (p : Parts) → Proper (rule19 p)
unfolding rule19
last_proper p =
    then_proper _ _ (each_proper 18 p.perimeters (wrong_loop p) (λ j. j))
    (rule_proper 18 (not (eqb (loop_start p p.perimeters) p.edges)) p.perimeters)

parts_by_groups : (place : ℕ → ℕ → ℕ) (p : Parts) → in_order (part_rules place p) ≡ (rules7to12 place p then (rules13to14 p then rules15to19 p))
unfolding early_rules part_rules in_order rules7to12 rules15to19 rules7to10 rules11to12 rules13to14 rules15to16 rules17to19
parts_by_groups place p = simp (then_assoc, then_last (rule19 p) (last_proper p))

pub by_groups : (b : List ℕ) (room : ℕ) → reader_verdict b room ≡ (rule20 room then rules1to19 b)
unfolding reader_verdict reader_rules in_order rules1to19 rules1to14 header_verdict
by_groups b room =
    ap (λ (r : Answer). rule20 room then r)
    (order_append (header_rules b) (part_rules (word_place b) (parts_of b))
    ∙ ap (λ (r : Answer). in_order (header_rules b) then r) (parts_by_groups (word_place b) (parts_of b)) ∙ simp then_assoc)

-- the same of the reader's but 16 to 19
pub run_proper : (p : Parts) → Proper (rule15 p)
unfolding rule15
run_proper p = each_proper 14 (halves p) (repeats p) (λ h. h)

pub early_by_groups : (place : ℕ → ℕ → ℕ) (p : Parts) → in_order (early_rules place p) ≡ (rules7to12 place p then (rules13to14 p then rule15 p))
unfolding early_rules in_order rules7to12 rules7to10 rules11to12 rules13to14
early_by_groups place p = simp (then_assoc, then_last (rule15 p) (run_proper p))

pub early_reader : (b : List ℕ) (room : ℕ) → in_order (early_reader_rules b room) ≡ (rule20 room then rules1to15 b)
unfolding early_reader_rules in_order rules1to15 rules1to14 header_verdict
early_reader b room =
    ap (λ (r : Answer). rule20 room then r)
    (order_append (header_rules b) (early_rules (word_place b) (parts_of b))
    ∙ ap (λ (r : Answer). in_order (header_rules b) then r) (early_by_groups (word_place b) (parts_of b)) ∙ simp then_assoc)

-- ---- one group, then the next, as code goes

pub stops : (a b r : Answer) → r ≡ a → (r.number ≡ 0 → ⊥) → r ≡ (a then b)
stops a b r e z = e ∙ sym (then_stop a (λ y. z (ap (λ (x : Answer). x.number) e ∙ y)) b)

pub goes_on : (a b r q : Answer) → r ≡ a → r.number ≡ 0 → q ≡ b → q ≡ (a then b)
goes_on a b r q e z f = f ∙ sym (then_next a b (sym (ap (λ (x : Answer). x.number) e) ∙ z))

pub zero : (a r : Answer) → r ≡ a → r.number ≡ 0 → a.number ≡ 0
zero a r e z = sym (ap (λ (x : Answer). x.number) e) ∙ z

-- ---- the first broken rule in order

pub reader_first : (b : List ℕ) (room : ℕ) → FirstBroken (reader_rules b room) (reader_verdict b room)
unfolding reader_verdict
reader_first b room = first_broken (reader_rules b room)

-- two answers that the table admits are equal
pub reader_only : (b : List ℕ) (room : ℕ) (a : Answer) → FirstBroken (reader_rules b room) a → a ≡ reader_verdict b room
reader_only b room a f = first_only (reader_rules b room) a (reader_verdict b room) f (reader_first b room)
