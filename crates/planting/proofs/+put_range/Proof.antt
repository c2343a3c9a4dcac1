-- `put_range` writes the nodes of its range and answers their box. The measure is how many faces the range has. Assumes nothing.
use Prim.Native.Nat.{ℕ, ◌<◌, ◌≤◌}
use native.Mathlib.Omega.{arith}
use mathlib.Core.Path.{◌≡◌, sym, subst, ◌∙◌}
use lib.ListN.{length}
use borrow.Author.Rules.{rules}
use borrow.Fn.Kinds.{In}
use borrow.Fn.PlainCycle.{Measures, is, falls, and}
use Rattle.tables.specs.Parts.{Parts, parts_of}
use Rattle.planting.specs.Sides.{Sides, Good}
use Rattle.planting.proofs.Ranges.{most_12}
use Rattle.planting.proofs.Tight.{sides_around, face_good, range_good}
use Rattle.planting.proofs.Writing.{leaf_written, inner_written}
use Rattle.planting.proofs.put_range.Reads as put-range
use Rattle.planting.proofs.put_range.Kinds as put-range-kinds
use Rattle.planting.proofs.+put_range.Lts-put_range as put-range-lts
use Rattle.planting.proofs.around_both.Reads as around-both-reads
use Rattle.planting.proofs.face_box.Reads as face-box-reads
use Rattle.planting.proofs.put_inner.Reads as put-inner-reads
use Rattle.planting.proofs.put_leaf.Reads as put-leaf-reads
use Rattle.planting.proofs.+put_range.{statement}
use Rattle.planting.proofs.+put_range.Tie.{close}

abbrev μ_put_range : Measures 2 put-range-kinds.ps ℕ
μ_put_range κs a = a.1.1.1.1.0

abbrev put_range_at : ℕ → In 2 put-range-kinds.ps
put_range_at t = and 2 put-range-kinds.ps (is 2 put-range-kinds.ps μ_put_range t) put-range.Pre

abbrev put_range_below : ℕ → In 2 put-range-kinds.ps
put_range_below t = and 2 put-range-kinds.ps (falls 2 put-range-kinds.ps ◌<◌ μ_put_range t) put-range.Pre

-- what the calls are asked and what they teach
abbrev G : ℕ → put-range-lts.Claims
G t = (
  face-box-reads.Asked,
  face-box-reads.Learnt,
  put-leaf-reads.Asked,
  put-leaf-reads.Learnt,
  put_range_below t,
  put-range.Post,
  around-both-reads.Asked,
  around-both-reads.Learnt,
  put-inner-reads.Asked,
  put-inner-reads.Learnt,
)

-- the file's parts
abbrev parts : {t : ℕ} → put-range-lts.Start (G t) (put_range_at t) put-range.Post → Parts
parts s = parts_of s.args.bytes.now

-- past the test there are two faces or more
two_at : (t : ℕ) (c : put-range-lts.Else-n-le1 (G t) (put_range_at t) put-range.Post) → 2 ≤ c.args.n
two_at t c = omega arith

put_range_face_box_requires : (t : ℕ) → put-range-lts.Need-face_box-b-requires (G t) (put_range_at t) put-range.Post
put_range_face_box_requires t c κs = let s = c.before.before.before in (s.requires.1.0, omega (arith, s.requires.1.1))

put_range_mul_put_leaf : (t : ℕ) → put-range-lts.Need-overflow_mul-at (G t) (put_range_at t) put-range.Post
put_range_mul_put_leaf t c = omega arith

put_range_add_put_leaf : (t : ℕ) → put-range-lts.Need-overflow_add-start (G t) (put_range_at t) put-range.Post
put_range_add_put_leaf t c = omega arith

put_range_cast_put_leaf : (t : ℕ) → put-range-lts.Need-overflow_cast-from (G t) (put_range_at t) put-range.Post
put_range_cast_put_leaf t c = omega arith

put_range_put_leaf_requires : (t : ℕ) → put-range-lts.Need-put_leaf-requires (G t) (put_range_at t) put-range.Post
put_range_put_leaf_requires t c κs =
    let s = c.before.before.before.before.before in
    let r = s.requires.1.0 in
    (subst (Sides Good) (sym c.face_box-b.ensures) (face_good (parts s) r.finite.vertex r.cornered.under s.args.from (omega (arith, s.requires.1.1))), omega (arith, s.requires.1.1))

put_range_same_length : (t : ℕ) → put-range-lts.Need-shape_of-out-then-n-le1 (G t) (put_range_at t) put-range.Post
put_range_same_length t c = search rules

put_range_returns : (t : ℕ) → put-range-lts.Need-returns-then-n-le1 (G t) (put_range_at t) put-range.Post
put_range_returns t c =
    let s = c.before.before.before.before.before.before.before.before in
    leaf_written (parts s) s.args.out.now s.args.start s.args.from s.args.n s.args.at (omega arith) c.face_box-b.ensures c.put_leaf.ensures

put_range_sub_rest : (t : ℕ) → put-range-lts.Need-overflow_sub-rest (G t) (put_range_at t) put-range.Post
put_range_sub_rest t c = omega arith

put_range_add_put_range : (t : ℕ) → put-range-lts.Need-overflow_add-at (G t) (put_range_at t) put-range.Post
put_range_add_put_range t c = omega arith

put_range_put_range_requires : (t : ℕ) → put-range-lts.Need-put_range-lower-requires (G t) (put_range_at t) put-range.Post
put_range_put_range_requires t c κs =
    let s = c.before.before.before.before in
    let r = s.requires.1.1 in
    (omega arith, (s.requires.1.0, record { some = omega arith; faces = omega (arith, r); few = omega (arith, r); nodes = omega (arith, r); room = omega (arith, r) }))

put_range_add_put_range_2 : (t : ℕ) → put-range-lts.Need-overflow_add-from (G t) (put_range_at t) put-range.Post
put_range_add_put_range_2 t c = omega arith

put_range_mul_put_range : (t : ℕ) → put-range-lts.Need-overflow_mul-half (G t) (put_range_at t) put-range.Post
put_range_mul_put_range t c = omega arith

put_range_add_put_range_3 : (t : ℕ) → put-range-lts.Need-overflow_add-at-2 (G t) (put_range_at t) put-range.Post
put_range_add_put_range_3 t c = omega arith

put_range_put_range_requires_2 : (t : ℕ) → put-range-lts.Need-put_range-upper-requires (G t) (put_range_at t) put-range.Post
put_range_put_range_requires_2 t c κs =
    let s = c.before.before.before.before.before.before.before.before in
    let r = s.requires.1.1 in
    let long = c.put_range-lower.auto.out in
    (omega arith, (s.requires.1.0, record { some = omega arith; faces = omega (arith, r); few = omega (arith, r); nodes = omega (arith, r); room = omega (arith, r, long) }))

put_range_around_both_requires : (t : ℕ) → put-range-lts.Need-around_both-b-requires (G t) (put_range_at t) put-range.Post
put_range_around_both_requires t c κs = search rules

put_range_mul_put_inner : (t : ℕ) → put-range-lts.Need-overflow_mul-at-2 (G t) (put_range_at t) put-range.Post
put_range_mul_put_inner t c = let s = c.before.before.before.before.before.before.before.before.before.before.before.before.before in omega (arith, s.requires.1.1)

put_range_add_put_inner : (t : ℕ) → put-range-lts.Need-overflow_add-start-2 (G t) (put_range_at t) put-range.Post
put_range_add_put_inner t c = let s = c.before.before.before.before.before.before.before.before.before.before.before.before.before in omega (arith, s.requires.1.1)

put_range_put_inner_requires : (t : ℕ) → put-range-lts.Need-put_inner-requires (G t) (put_range_at t) put-range.Post
put_range_put_inner_requires t c κs =
    let s = c.before.before.before.before.before.before.before.before.before.before.before.before.before in
    let r = s.requires.1.0 in
    let l = c.put_range-lower in
    let u = c.put_range-upper in
    let long : length u.new.out ≡ length s.args.out.now = u.auto.out ∙ l.auto.out in
    let two = two_at t c.before.before.before.before.before.before.before.before.before.before in
    let good = range_good (parts s) r.finite.vertex r.cornered.under 12 in (
      rw (c.around_both-b.ensures, l.ensures.0, u.ensures.0)
          (sides_around Good _ _ (good _ _ (omega (arith, two)) (omega (arith, s.requires.1.1, most_12)) (omega (arith, s.requires.1.1))) (good _ _ (omega (arith, two)) (omega (arith, s.requires.1.1, most_12)) (omega (arith, s.requires.1.1)))),
      omega (arith, s.requires.1.1),
      omega (arith, s.requires.1.1, long),
    )

put_range_same_length_2 : (t : ℕ) → put-range-lts.Need-shape_of-out (G t) (put_range_at t) put-range.Post
put_range_same_length_2 t c = c.put_inner.auto.out ∙ (c.put_range-upper.auto.out ∙ c.put_range-lower.auto.out)

put_range_returns_2 : (t : ℕ) → put-range-lts.Need-returns (G t) (put_range_at t) put-range.Post
put_range_returns_2 t c =
    let s = c.before.before.before.before.before.before.before.before.before.before.before.before.before.before.before.before in
    let l = c.put_range-lower in
    let u = c.put_range-upper in
    inner_written (parts s) s.args.out.now s.args.start s.args.from s.args.n s.args.at (two_at t c.before.before.before.before.before.before.before.before.before.before.before.before.before) (omega (arith, s.requires.1.1))
    l.ensures u.ensures c.around_both-b.ensures c.put_inner.ensures

pub +put_range_spec : {M : Type 1} → statement M
+put_range_spec = close μ_put_range λ t. put-range-lts.spec (G t)
    (put_range_at t)
    put-range.Post
    (put_range_face_box_requires t)
    (put_range_mul_put_leaf t)
    (put_range_add_put_leaf t)
    (put_range_cast_put_leaf t)
    (put_range_put_leaf_requires t)
    (put_range_same_length t)
    (put_range_returns t)
    (put_range_sub_rest t)
    (put_range_add_put_range t)
    (put_range_put_range_requires t)
    (put_range_add_put_range_2 t)
    (put_range_mul_put_range t)
    (put_range_add_put_range_3 t)
    (put_range_put_range_requires_2 t)
    (put_range_around_both_requires t)
    (put_range_mul_put_inner t)
    (put_range_add_put_inner t)
    (put_range_put_inner_requires t)
    (put_range_same_length_2 t)
    (put_range_returns_2 t)
