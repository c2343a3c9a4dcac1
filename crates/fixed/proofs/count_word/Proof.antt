-- A count fits a word. Assumes nothing.
use borrow.Author.Rules.{rules}
use native.Mathlib.Omega.{arith}
use Rattle.fixed.proofs.Parted.{count_few}
use Rattle.fixed.proofs.count_word.Statement.{statement}
use Rattle.fixed.proofs.count_word.Tie as tie

cast_result : tie.Need-overflow_cast-result
cast_result c = let s = c.before in omega (arith, c.count_by.ensures, count_few s.args.n s.requires.0 s.args.k s.requires.1)

pub count_word_spec : {M : Type 1} → statement M
count_word_spec = tie.close (tie.spec (λ c κs. search rules) cast_result (search rules))
