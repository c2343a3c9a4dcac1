-- `look` sees what a walk of the remaining depth sees. The measure is that depth. Assumes nothing.
use Prim.Native.Nat.{ℕ, ◌<◌}
use native.Mathlib.Omega.{arith}
use mathlib.Core.Path.{◌≡◌, sym, ◌∙◌}
use mathlib.Core.Bool.{true}
use mathlib.Core.List.{List}
use borrow.Fn.Kinds.{In}
use borrow.Fn.PlainCycle.{Measures, is, falls, and}
use Rattle.tables.specs.Parts.{parts_of}
use Rattle.query.proofs.Sights.{shape, at_end, at_stop, at_go, left_under, right_under, left_few, right_few, few_seen}
use Rattle.query.proofs.look.Reads as look
use Rattle.query.proofs.look.Kinds as look-kinds
use Rattle.query.proofs.+look.Lts-look as look-lts
use Rattle.query.proofs.goes_on.Reads as goes-on-reads
use Rattle.query.proofs.joined.Reads as joined-reads
use Rattle.query.proofs.own.Reads as own-reads
use Rattle.nodes.proofs.left_of.Reads as left-of-reads
use Rattle.nodes.proofs.right_of.Reads as right-of-reads
use Rattle.query.proofs.+look.{statement}
use Rattle.query.proofs.+look.Tie.{close}

abbrev μ_look : Measures 1 look-kinds.ps ℕ
μ_look κs a = a.1.1.1.0

abbrev look_at : ℕ → In 1 look-kinds.ps
look_at t = and 1 look-kinds.ps (is 1 look-kinds.ps μ_look t) look.Pre

abbrev look_below : ℕ → In 1 look-kinds.ps
look_below t = and 1 look-kinds.ps (falls 1 look-kinds.ps ◌<◌ μ_look t) look.Pre

-- what the calls are asked and what they teach
abbrev G : ℕ → look-lts.Claims
G t = (
  own-reads.Asked,
  own-reads.Learnt,
  goes-on-reads.Asked,
  goes-on-reads.Learnt,
  left-of-reads.Asked,
  left-of-reads.Learnt,
  look_below t,
  look.Post,
  right-of-reads.Asked,
  right-of-reads.Learnt,
  joined-reads.Asked,
  joined-reads.Learnt,
)

-- the file
abbrev file : {t : ℕ} → look-lts.Start (G t) (look_at t) look.Post → List ℕ
file s = s.args.bytes.now

-- past both tests the walk goes on
on_at : (t : ℕ) (c : look-lts.Else-not-goes_on (G t) (look_at t) look.Post)
    → (shape (parts_of (file c.before.before.before.before)) c.args.at.x c.args.at.y).inner c.args.n ≡ true
on_at t c = sym c.goes_on.ensures ∙ c.if-not-goes_on.false

look_own_requires : (t : ℕ) → look-lts.Need-own-requires (G t) (look_at t) look.Post
look_own_requires t c κs = c.requires.1.0

look_returns : (t : ℕ) → look-lts.Need-returns-then-depth-eq0 (G t) (look_at t) look.Post
look_returns t c =
    let s = c.before.before.before in
    let pre = s.requires.1.0 in
    at_end (file s) pre.0 s.args.at.x s.args.at.y s.args.n pre.2 s.args.depth _ _ c.own.ensures.0 c.own.ensures.1 c.if-depth-eq0.true

look_goes_on_requires : (t : ℕ) → look-lts.Need-goes_on-requires (G t) (look_at t) look.Post
look_goes_on_requires t c κs = c.requires.1.0

look_own_requires_2 : (t : ℕ) → look-lts.Need-own-requires-then-not-goes_on (G t) (look_at t) look.Post
look_own_requires_2 t c κs = c.requires.1.0

look_returns_2 : (t : ℕ) → look-lts.Need-returns-then-not-goes_on (G t) (look_at t) look.Post
look_returns_2 t c =
    let s = c.before.before.before.before.before in
    let pre = s.requires.1.0 in
    at_stop (file s) pre.0 s.args.at.x s.args.at.y s.args.n pre.2 s.args.depth _ _ c.own-then-not-goes_on.ensures.0 c.own-then-not-goes_on.ensures.1
    (sym c.goes_on.ensures ∙ c.if-not-goes_on.true)

look_left_of_requires : (t : ℕ) → look-lts.Need-left_of-l-requires (G t) (look_at t) look.Post
look_left_of_requires t c κs = let pre = c.requires.1.0 in (pre.0.floor.header, pre.2)

look_sub_look : (t : ℕ) → look-lts.Need-overflow_sub-depth (G t) (look_at t) look.Post
look_sub_look t c = omega arith

look_look_requires : (t : ℕ) → look-lts.Need-look-a-requires (G t) (look_at t) look.Post
look_look_requires t c κs =
    let e = c.before in
    let s = e.before.before.before.before in
    let pre = s.requires.1.0 in
    let more = e.if-depth-eq0.false in
    let l = c.left_of-l.ensures in (
      omega arith,
      (
        (pre.0, pre.1, left_under (file s) pre.0 s.args.at.x s.args.at.y s.args.n pre.2 (on_at t e) _ l),
        left_few (file s) pre.0 s.args.at.x s.args.at.y s.args.n pre.2 (on_at t e) s.args.depth more s.requires.1.1 _ l,
      ),
    )

look_right_of_requires : (t : ℕ) → look-lts.Need-right_of-r-requires (G t) (look_at t) look.Post
look_right_of_requires t c κs = let pre = c.requires.1.0 in (pre.0.floor.header, pre.2)

look_sub_look_2 : (t : ℕ) → look-lts.Need-overflow_sub-depth-2 (G t) (look_at t) look.Post
look_sub_look_2 t c = omega arith

look_look_requires_2 : (t : ℕ) → look-lts.Need-look-b-requires (G t) (look_at t) look.Post
look_look_requires_2 t c κs =
    let e = c.before.before.before in
    let s = e.before.before.before.before in
    let pre = s.requires.1.0 in
    let more = e.if-depth-eq0.false in
    let r = c.right_of-r.ensures in (
      omega arith,
      (
        (pre.0, pre.1, right_under (file s) pre.0 s.args.at.x s.args.at.y s.args.n pre.2 (on_at t e) _ r),
        right_few (file s) pre.0 s.args.at.x s.args.at.y s.args.n pre.2 (on_at t e) s.args.depth more s.requires.1.1 _ r,
      ),
    )

look_joined_requires : (t : ℕ) → look-lts.Need-joined-requires (G t) (look_at t) look.Post
look_joined_requires t c κs =
    let d = c.before.before.before in
    let e = d.before in
    let s = e.before.before.before.before in
    let pre = s.requires.1.0 in
    few_seen (file s) pre.0 s.args.at.x s.args.at.y s.args.n pre.2 (on_at t e) s.args.depth e.if-depth-eq0.false s.requires.1.1
    _ _ _ _ _ _ d.left_of-l.ensures c.right_of-r.ensures c.look-a.ensures c.look-b.ensures

look_returns_3 : (t : ℕ) → look-lts.Need-returns (G t) (look_at t) look.Post
look_returns_3 t c =
    let f = c.before in
    let d = f.before.before.before in
    let e = d.before in
    let s = e.before.before.before.before in
    let pre = s.requires.1.0 in
    at_go (file s) pre.0 s.args.at.x s.args.at.y s.args.n pre.2 (on_at t e) s.args.depth e.if-depth-eq0.false s.requires.1.1
    _ _ _ _ _ _ d.left_of-l.ensures f.right_of-r.ensures f.look-a.ensures f.look-b.ensures
    _ _ c.joined.ensures.0 c.joined.ensures.1

pub +look_spec : {M : Type 1} → statement M
+look_spec = close μ_look λ t. look-lts.spec (G t)
    (look_at t)
    look.Post
    (look_own_requires t)
    (look_returns t)
    (look_goes_on_requires t)
    (look_own_requires_2 t)
    (look_returns_2 t)
    (look_left_of_requires t)
    (look_sub_look t)
    (look_look_requires t)
    (look_right_of_requires t)
    (look_sub_look_2 t)
    (look_look_requires_2 t)
    (look_joined_requires t)
    (look_returns_3 t)
