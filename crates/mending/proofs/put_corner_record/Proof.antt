-- The tag and three numbers. Assumes nothing.
use borrow.Author.Rules.{rules}
use native.Mathlib.Omega.{arith}
use Rattle.tables.proofs.Reading.{sized_of}
use Rattle.mending.proofs.Records.{corner_put}
use Rattle.mending.proofs.put_corner_record.Statement.{statement}
use Rattle.mending.proofs.put_corner_record.Tie as tie

-- a corner's number fits a word
cast_put_u32 : tie.Need-overflow_cast-j
cast_put_u32 c =
    let s = c.before.before.before.before.before.before.before.before in
    omega (arith, s.requires.1, (sized_of s.args.bytes.now s.requires.0.right).faces)

returns : tie.Need-returns
returns c =
    let three = c.before.before in
    let two = three.before.before.before.before.before in
    let one = two.before.before.before.before.before in
    let tag = one.before.before.before.before in
    corner_put _ _ _ _ tag.put_tag.ensures one.put_u32.ensures two.put_u32-2.ensures three.put_u32-3.ensures two.word_at.ensures three.corner_at.ensures

pub put_corner_record_spec : {M : Type 1} → statement M
put_corner_record_spec = tie.close (tie.spec (search rules) (search rules) cast_put_u32 (search rules) (search rules) (λ c κs. search rules) (search rules) (search rules) (λ c κs. search rules) (search rules) (search rules) returns)
