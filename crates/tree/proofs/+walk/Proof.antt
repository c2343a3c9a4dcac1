-- `walk`'s answer and marks are those of its trail. The measure is the remaining depth. Assumes nothing.
use Prim.Native.Nat.{ℕ, ◌<◌}
use native.Mathlib.Omega.{arith}
use mathlib.Core.Path.{◌≡◌, sym, ◌∙◌}
use mathlib.Core.Bool.{true}
use lib.ListN.{length, get_or, length-set}
use borrow.Fn.Kinds.{In}
use borrow.Fn.PlainCycle.{Measures, is, falls, and}
use Rattle.tables.specs.Parts.{parts_of}
use Rattle.nodes.specs.Nodes.{Nodes, nodes_of}
use Rattle.nodes.proofs.is_inner_node.Reads as is-inner-node-reads
use Rattle.nodes.proofs.left_of.Reads as left-of-reads
use Rattle.nodes.proofs.right_of.Reads as right-of-reads
use Rattle.tree.proofs.Shape.{hit, leaf, last, stop, go}
use Rattle.tree.proofs.walk.Reads as walk
use Rattle.tree.proofs.walk.Kinds as walk-kinds
use Rattle.tree.proofs.+walk.Lts-walk as walk-lts
use Rattle.tree.proofs.+walk.{statement}
use Rattle.tree.proofs.+walk.Tie.{close}

abbrev μ_walk : Measures 2 walk-kinds.ps ℕ
μ_walk κs a = a.1.1.1.0

abbrev walk_at : ℕ → In 2 walk-kinds.ps
walk_at t = and 2 walk-kinds.ps (is 2 walk-kinds.ps μ_walk t) walk.Pre

abbrev walk_below : ℕ → In 2 walk-kinds.ps
walk_below t = and 2 walk-kinds.ps (falls 2 walk-kinds.ps ◌<◌ μ_walk t) walk.Pre

-- what the calls are asked and what they teach
abbrev G : ℕ → walk-lts.Claims
G t = (
  is-inner-node-reads.Asked,
  is-inner-node-reads.Learnt,
  left-of-reads.Asked,
  left-of-reads.Learnt,
  walk_below t,
  walk.Post,
  right-of-reads.Asked,
  right-of-reads.Learnt,
)

-- the file's nodes
abbrev tree : {t : ℕ} → walk-lts.Start (G t) (walk_at t) walk.Post → Nodes
tree s = nodes_of (parts_of s.args.bytes.now)

-- past the first test the node is not marked yet
unmarked : (t : ℕ) (c : walk-lts.Else-work-n-ne0 (G t) (walk_at t) walk.Post) → get_or c.args.work.now c.args.n 0 ≡ 0
unmarked t c = omega arith

-- past the second test it is inner
inner_at : (t : ℕ) (c : walk-lts.Else-not-is_inner_node (G t) (walk_at t) walk.Post) → (tree c.before.before.before.before.before.before).inner c.args.n ≡ true
inner_at t c = sym c.is_inner_node.ensures ∙ c.if-not-is_inner_node.false

walk_slice_read_if1 : (t : ℕ) → walk-lts.Need-bounds-work-n (G t) (walk_at t) walk.Post
walk_slice_read_if1 t c = omega arith

walk_returns : (t : ℕ) → walk-lts.Need-returns-then-work-n-ne0 (G t) (walk_at t) walk.Post
walk_returns t c =
    let s = c.before.before.before.before in
    hit (tree s) s.args.depth s.args.n s.args.work.now (λ (z : get_or s.args.work.now s.args.n 0 ≡ 0). omega arith)

walk_slice_write_work : (t : ℕ) → walk-lts.Need-bounds-work-n-2 (G t) (walk_at t) walk.Post
walk_slice_write_work t c = omega arith

walk_is_inner_node_requires : (t : ℕ) → walk-lts.Need-is_inner_node-requires (G t) (walk_at t) walk.Post
walk_is_inner_node_requires t c κs = let s = c.before.before.before.before in (s.requires.1.0.0, s.requires.1.1.0)

walk_same_length : (t : ℕ) → walk-lts.Need-shape_of-work-then-not-is_inner_node (G t) (walk_at t) walk.Post
walk_same_length t c = simp length-set

walk_returns_2 : (t : ℕ) → walk-lts.Need-returns-then-not-is_inner_node (G t) (walk_at t) walk.Post
walk_returns_2 t c =
    let s = c.before.before.before.before.before.before in
    leaf (tree s) s.args.depth s.args.n s.args.work.now (unmarked t c.before.before) (sym c.is_inner_node.ensures ∙ c.if-not-is_inner_node.true)

walk_same_length_2 : (t : ℕ) → walk-lts.Need-shape_of-work-then-depth-eq0 (G t) (walk_at t) walk.Post
walk_same_length_2 t c = simp length-set

walk_returns_3 : (t : ℕ) → walk-lts.Need-returns-then-depth-eq0 (G t) (walk_at t) walk.Post
walk_returns_3 t c =
    let s = c.before.before.before.before.before.before.before in
    last (tree s) s.args.depth s.args.n s.args.work.now (unmarked t c.before.before.before) (omega arith) (inner_at t c.before) c.if-depth-eq0.true

walk_left_of_requires : (t : ℕ) → walk-lts.Need-left_of-l-requires (G t) (walk_at t) walk.Post
walk_left_of_requires t c κs = let s = c.before.before.before.before.before.before.before in (s.requires.1.0.0, s.requires.1.1.0)

walk_sub_walk : (t : ℕ) → walk-lts.Need-overflow_sub-depth (G t) (walk_at t) walk.Post
walk_sub_walk t c = omega arith

walk_walk_requires : (t : ℕ) → walk-lts.Need-walk-requires (G t) (walk_at t) walk.Post
unfolding nodes_of
walk_walk_requires t c κs =
    let s = c.before.before.before.before.before.before.before.before.before in
    let under = s.requires.1.0.1.left s.args.n s.requires.1.1.0 (inner_at t c.before.before.before) in
    (omega arith, (s.requires.1.0, (rw c.left_of-l.ensures under, simp length-set s.requires.1.1.1)))

walk_same_length_3 : (t : ℕ) → walk-lts.Need-shape_of-work-then-not-walk (G t) (walk_at t) walk.Post
walk_same_length_3 t c = c.walk.auto.work ∙ simp length-set

walk_returns_4 : (t : ℕ) → walk-lts.Need-returns-then-not-walk (G t) (walk_at t) walk.Post
unfolding nodes_of
walk_returns_4 t c =
    let d = c.before.before.before.before.before.before in
    let s = d.before.before.before.before.before.before.before in
    let w = c.walk in
    let l = c.left_of-l in
    stop (tree s) s.args.depth s.args.n s.args.work.now (unmarked t d.before.before.before) (inner_at t d.before) d.if-depth-eq0.false
    l.result l.ensures w.new.work w.ensures.1 (sym (c.if-not-walk.true) ∙ w.ensures.0)

walk_right_of_requires : (t : ℕ) → walk-lts.Need-right_of-r-requires (G t) (walk_at t) walk.Post
walk_right_of_requires t c κs = let s = c.before.before.before.before.before.before.before.before.before.before.before.before.before in (s.requires.1.0.0, s.requires.1.1.0)

walk_sub_walk_2 : (t : ℕ) → walk-lts.Need-overflow_sub-depth-2 (G t) (walk_at t) walk.Post
walk_sub_walk_2 t c = omega arith

walk_walk_requires_2 : (t : ℕ) → walk-lts.Need-walk-requires-2 (G t) (walk_at t) walk.Post
unfolding nodes_of
walk_walk_requires_2 t c κs =
    let d = c.before.before.before.before.before.before.before.before in
    let s = d.before.before.before.before.before.before.before in
    let w = c.walk in
    let under = s.requires.1.0.1.right s.args.n s.requires.1.1.0 (inner_at t d.before) in
    let long : length w.new.work ≡ length s.args.work.now = w.auto.work ∙ simp length-set in
    (omega arith, (s.requires.1.0, (rw c.right_of-r.ensures under, omega (arith, s.requires.1.1))))

walk_same_length_4 : (t : ℕ) → walk-lts.Need-shape_of-work (G t) (walk_at t) walk.Post
walk_same_length_4 t c = c.walk-2.auto.work ∙ (c.walk.auto.work ∙ simp length-set)

walk_returns_5 : (t : ℕ) → walk-lts.Need-returns (G t) (walk_at t) walk.Post
unfolding nodes_of
walk_returns_5 t c =
    let d = c.before.before.before.before.before.before.before.before.before.before.before in
    let s = d.before.before.before.before.before.before.before in
    let w = c.walk in
    let v = c.walk-2 in
    let l = c.left_of-l in
    let r = c.right_of-r in
    go (tree s) s.args.depth s.args.n s.args.work.now (unmarked t d.before.before.before) (inner_at t d.before) d.if-depth-eq0.false
    l.result l.ensures w.new.work w.ensures.1 (sym (c.if-not-walk.false) ∙ w.ensures.0)
    r.result r.ensures v.result v.new.work v.ensures.0 v.ensures.1

pub +walk_spec : {M : Type 1} → statement M
+walk_spec = close μ_walk λ t. walk-lts.spec (G t)
    (walk_at t)
    walk.Post
    (walk_slice_read_if1 t)
    (walk_returns t)
    (walk_slice_write_work t)
    (walk_is_inner_node_requires t)
    (walk_same_length t)
    (walk_returns_2 t)
    (walk_same_length_2 t)
    (walk_returns_3 t)
    (walk_left_of_requires t)
    (walk_sub_walk t)
    (walk_walk_requires t)
    (walk_same_length_3 t)
    (walk_returns_4 t)
    (walk_right_of_requires t)
    (walk_sub_walk_2 t)
    (walk_walk_requires_2 t)
    (walk_same_length_4 t)
    (walk_returns_5 t)
