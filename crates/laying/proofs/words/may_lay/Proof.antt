-- Test by test. Assumes nothing.
use borrow.Author.Rules.{rules}
use native.Mathlib.Omega.{arith}
use borrow.Author.Tests.{le-ltb, lt-ltb, eq-eqb, ne_eqb}
use Rattle.record.specs.Record.{body}
use Rattle.laying.specs.Kind.{fits}
use Rattle.laying.specs.Area.{area_count}
use Rattle.laying.proofs.words.may_lay.Statement.{statement}
use Rattle.laying.proofs.words.may_lay.Tie as tie

returns : tie.Need-returns-then-len-ne-BODY
unfolding fits
returns c = let a = c.args in rw (ne_eqb a.r.len body c.if-len-ne-BODY.true)

returns_2 : tie.Need-returns-then-count_of-place
unfolding fits
returns_2 c =
    let a = c.args in
    rw (eq-eqb a.r.len body (omega arith), le-ltb a.r.place (area_count a.floor.now a.r.tag) (omega arith))

returns_3 : tie.Need-returns-then-word_at-old
unfolding fits
returns_3 c =
    let a = c.args in
    rw (
      eq-eqb a.r.len body (omega arith),
      lt-ltb a.r.place (area_count a.floor.now a.r.tag) (omega arith),
      ← c.word_at.ensures,
      ne_eqb c.word_at.result a.r.old c.if-word_at-old.true,
    )

returns_4 : tie.Need-returns
unfolding fits
returns_4 c =
    let a = c.args in
    rw (
      eq-eqb a.r.len body (omega arith),
      lt-ltb a.r.place (area_count a.floor.now a.r.tag) (omega arith),
      ← c.word_at.ensures,
      eq-eqb c.word_at.result a.r.old (omega arith),
    )
    c.is_allowed.ensures

pub may_lay_spec : {M : Type 1} → statement M
may_lay_spec = tie.close (tie.spec returns (search rules) (search rules) returns_2 (search rules) returns_3 (search rules) returns_4)
