-- Corner after corner is the order of half-edges. Assumes nothing.
use borrow.Author.Rules.{rules}
use mathlib.Core.Path.{◌∙◌}
use native.Mathlib.Omega.{arith}
use Rattle.pairs.proofs.Halves.{corner_among, from_word}
use Rattle.pairs.proofs.from_of.Statement.{statement}
use Rattle.pairs.proofs.from_of.Tie as tie

returns : tie.Need-returns
returns c = (c.word_at.ensures ∙ from_word _ _, omega arith)

word_at_requires : tie.Need-word_at-requires
word_at_requires c κs = let s = c.before in (s.requires.0, omega arith, corner_among s.args.bytes.now s.requires.0 s.args.h s.requires.1)

pub from_of_spec : {M : Type 1} → statement M
from_of_spec = tie.close (tie.spec word_at_requires (search rules) returns)
