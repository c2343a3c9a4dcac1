-- `letters::class_of` meets its contract: the table's rule. Assumes nothing.
use borrow.Author.Rules.{rules}
use Rattle.letters.proofs.ClassLaws.{classes, class_at}
use Rattle.letters.proofs.class_of.Statement.{statement}
use Rattle.letters.proofs.class_of.Tie as tie

returns : tie.Need-returns
unfolding classes
returns c = class_at c.args.b (search rules)

pub class_of_spec : {M : Type 1} → statement M
class_of_spec = tie.close (tie.spec (search rules) returns)
