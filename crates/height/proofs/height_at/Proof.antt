-- The query's answer, and the height where it found a face. Assumes nothing.
use borrow.Author.Rules.{rules}
use mathlib.Core.Path.{◌≡◌, sym, subst, ◌∙◌}
use lib.ListN.{length}
use mir.Syntax.{w32}
use mir.ValLaws.{to_z-of_z}
use Rattle.wire.specs.Signed.{Within}
use Rattle.wire.proofs.Signed.{read, read_is, read_within, within_32}
use Rattle.query.specs.Points.{point_answer}
use Rattle.query.proofs.Reaches.{handed}
use Rattle.height.proofs.Answers.{Found, face_found, no_height, the_height}
use Rattle.height.proofs.height_at.Statement.{statement}
use Rattle.height.proofs.height_at.Tie as tie

-- the query's answer of x and y as they were handed in
asked : (c : tie.After-query-q) → let s = c.args in c.query-q.result ≡ point_answer s.bytes.now (length s.work.now) s.x s.y
asked c =
    let s = c.before.before.before.before in
    rw (to_z-of_z w32 _ s.ranges.x, to_z-of_z w32 _ s.ranges.y) at c.query-q.ensures.0

returns : tie.Need-returns-then-q-eq0
returns c =
    let q = c.before.before.before.before.before in
    (c.with_height.ensures ∙ no_height _ _ _ _ _ (asked q) c.if-q-eq0.true, q.query-q.ensures.1)

-- past the test a face was found, and it holds the point
found : (c : tie.Else-q-eq0) → let q = c.before.before.before.before in let s = q.args in Found s.bytes.now s.x s.y q.query-q.result.face
found c = face_found _ _ _ _ _ (asked c.before.before.before.before) c.if-q-eq0.false

-- x and y as they are passed on
x_is : (c : tie.After-widened-2) → let s = c.before.before.before.before.before.before.before.before.before.before.before in read c.widened.result ≡ s.args.x
x_is c = let s = c.before.before.before.before.before.before.before.before.before.before.before in handed _ s.ranges.x _ c.widened.ensures

y_is : (c : tie.After-widened-2) → let s = c.before.before.before.before.before.before.before.before.before.before.before in read c.widened-2.result ≡ s.args.y
y_is c = let s = c.before.before.before.before.before.before.before.before.before.before.before in handed _ s.ranges.y _ c.widened-2.ensures

face_height_requires : tie.Need-face_height-h-requires
face_height_requires c κs =
    let h = found c.before.before.before in
    (h.floor, h.under, subst (Within 65536) (sym (x_is c)) h.near_x, subst (Within 65536) (sym (y_is c)) h.near_y, rw (x_is c, y_is c) h.holds)

cast_with_height : tie.Need-overflow_cast-h
cast_with_height c = within_32 (read_within c.face_height-h.ensures.1 tt) tt

returns_2 : tie.Need-returns
returns_2 c =
    let h = c.before in
    let w = h.before in
    let e = w.before.before.before in
    let q = e.before.before.before.before in
    let r = h.face_height-h.ensures in
    let is = to_z-of_z w32 _ (within_32 (read_within r.1 tt) tt) ∙ read_is r.1 tt ∙ (rw (x_is w, y_is w) at r.0) in
    (c.with_height-2.ensures ∙ the_height _ _ _ _ _ (asked q) e.if-q-eq0.false is, q.query-q.ensures.1)

pub height_at_spec : {M : Type 1} → statement M
height_at_spec =
    tie.close
    (tie.spec (λ c κs. tt) (λ c κs. tt) (search rules) returns (search rules) (λ c κs. tt) (λ c κs. tt) face_height_requires cast_with_height (λ c κs. tt) (search rules) returns_2)
