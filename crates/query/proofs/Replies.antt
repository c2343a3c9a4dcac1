-- Laws of the answer, case by case, and of the query's verdict by its groups. Assumes nothing.
use mathlib.Core.Path.{◌≡◌, sym, ap, ◌∙◌}
use mathlib.Core.Bool.{true, false, not, ◌&&◌}
use mathlib.Core.List.{List, [], ◌∷◌}
use Prim.Native.Nat.{ℕ, ◌≤◌, ◌<◌}
use native.Mathlib.Omega.{arith}
use lib.IntN.{ℤ}
use borrow.Author.Tests.{lt-ltb, le-ltb, ne_eqb, not-false}
use Rattle.verdict.specs.Verdict.{accepted, ◌then◌, in_order}
use Rattle.verdict.specs.declared.Answer.{Answer}
use Rattle.verdict.proofs.Bools.{and_true}
use Rattle.verdict.proofs.Verdict.{then_next, then_stop, then_last, passed, unbroken, each_met, Proper, rule_proper, each_proper, then_proper, order_append}
use Rattle.wire.specs.Signed.{Within}
use Rattle.grid.specs.Grid.{within}
use Rattle.grid.proofs.Answers.{within_bound}
use Rattle.tables.specs.Parts.{Parts, parts_of}
use Rattle.floor.specs.Reader.{reader_rules, reader_verdict}
use Rattle.floor.specs.Accepted.{Accepted}
use Rattle.query.specs.declared.Point.{Point}
use Rattle.query.specs.Rules.{rule29, rule30, off_grid, query_rules, query_verdict}
use Rattle.query.specs.Points.{lowest_face, visited_nodes, reply_of, point_of, point_answer, Ready}

-- a refusal gives its number and place, and 0s
pub on_refusal : (a : Answer) → 0 < a.number → (face faces visited : ℕ)
    → ◌≡◌ {A = Point} (record { number = a.number; place = a.place; found = 0; face = 0; visited = 0 }) (reply_of a face faces visited)
unfolding reply_of
on_refusal a z face faces visited = rw (ne_eqb a.number 0 (λ (e : a.number ≡ 0). omega arith))

pub on_found : (face faces visited : ℕ) → face < faces
    → ◌≡◌ {A = Point} (record { number = 0; place = 0; found = 1; face = face; visited = visited }) (reply_of accepted face faces visited)
unfolding reply_of
on_found face faces visited l = rw (lt-ltb face faces l)

pub on_none : (face faces visited : ℕ) → faces ≤ face
    → ◌≡◌ {A = Point} (record { number = 0; place = 0; found = 0; face = 0; visited = visited }) (reply_of accepted face faces visited)
unfolding reply_of
on_none face faces visited l = rw (le-ltb face faces l)

-- ---- the verdict by its groups: the reader's, then 29 and 30

abbrev pub rules29to30 : Parts → ℤ → ℤ → Answer
rules29to30 p x y = rule29 x y then rule30 p

last_proper : (p : Parts) → Proper (rule30 p)
unfolding rule30
last_proper p = each_proper 29 p.vertices (off_grid p) (λ v. v)

last_two : (p : Parts) (x y : ℤ) → in_order (rule29 x y ∷ rule30 p ∷ []) ≡ rules29to30 p x y
unfolding in_order
last_two p x y = ap (λ (r : Answer). rule29 x y then r) (then_last (rule30 p) (last_proper p))

pub by_groups : (b : List ℕ) (room : ℕ) (x y : ℤ) → query_verdict b room x y ≡ (reader_verdict b room then rules29to30 (parts_of b) x y)
unfolding query_verdict query_rules reader_verdict
by_groups b room x y =
    order_append (reader_rules b room) (rule29 x y ∷ rule30 (parts_of b) ∷ [])
    ∙ ap (λ (r : Answer). in_order (reader_rules b room) then r) (last_two (parts_of b) x y)

-- a refusal, whatever lies behind it
refusals : (a : Answer) → 0 < a.number → (face faces visited : ℕ) → reply_of a 0 0 0 ≡ reply_of a face faces visited
refusals a z face faces visited = sym (on_refusal a z 0 0 0) ∙ on_refusal a z face faces visited

pub refuses : (p : Parts) (x y : ℤ) (a v : Answer) → 0 < a.number → a ≡ v → reply_of a 0 0 0 ≡ point_of v p x y
unfolding point_of
refuses p x y a v z e = refusals a z (lowest_face p x y) p.faces (visited_nodes p x y) ∙ ap (λ (q : Answer). reply_of q (lowest_face p x y) p.faces (visited_nodes p x y)) e

-- by the reader, or by what follows it
pub reader_refuses : (b : List ℕ) (room : ℕ) (x y : ℤ) (a : Answer) → 0 < a.number → a ≡ reader_verdict b room → reply_of a 0 0 0 ≡ point_answer b room x y
unfolding point_answer
reader_refuses b room x y a z e =
    refuses (parts_of b) x y a (query_verdict b room x y) z
    (e ∙ sym (by_groups b room x y ∙ then_stop (reader_verdict b room) (λ (q : (reader_verdict b room).number ≡ 0). omega (arith, ap (λ (k : Answer). k.number) e)) (rules29to30 (parts_of b) x y)))

pub reader_accepts : (b : List ℕ) (room : ℕ) (x y : ℤ) → (reader_verdict b room).number ≡ 0 → point_of (rules29to30 (parts_of b) x y) (parts_of b) x y ≡ point_answer b room x y
unfolding point_answer
reader_accepts b room x y z = rw (by_groups b room x y, then_next (reader_verdict b room) (rules29to30 (parts_of b) x y) z)

-- ---- what 29 and 30 give

module _ (p : Parts) (x y : ℤ) (z : (rules29to30 p x y).number ≡ 0) where
  near : (within 65536 x ≡ true) × (within 65536 y ≡ true)
  unfolding rule29
  near = and_true _ _ (not-false _ (unbroken 28 (not (within 65536 x && within 65536 y)) 0 (passed (rule29 x y) (rule30 p) z).0))

  pub near_x : Within 65536 x
  near_x = within_bound 65536 x near.0

  pub near_y : Within 65536 y
  near_y = within_bound 65536 y near.1

  pub all_on_grid : (v : ℕ) → v < p.vertices → off_grid p v ≡ false
  unfolding rule30
  all_on_grid = each_met 29 p.vertices (off_grid p) (λ v. v) (passed (rule29 x y) (rule30 p) z).1

pub point_proper : (p : Parts) (x y : ℤ) → Proper (rules29to30 p x y)
unfolding rule29 rule30
point_proper p x y =
    then_proper _ _ (rule_proper 28 (not (within 65536 x && within 65536 y)) 0) (each_proper 29 p.vertices (off_grid p) (λ v. v))

-- so the walk may be made, and its answer is that of the verdict
pub ready : (b : List ℕ) → Accepted b → (x y : ℤ) → (rules29to30 (parts_of b) x y).number ≡ 0 → Ready b
ready b a x y z = record { floor = a; grid = all_on_grid (parts_of b) x y z }

pub accepts : (p : Parts) (x y : ℤ) → (rules29to30 p x y).number ≡ 0 → point_of accepted p x y ≡ point_of (rules29to30 p x y) p x y
accepts p x y z = ap (λ (a : Answer). point_of a p x y) (sym ((point_proper p x y).at_0 z))
