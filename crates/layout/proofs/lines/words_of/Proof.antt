-- `layout::lines::words_of` meets its contract. Assumes nothing.
use Rattle.layout.proofs.LineLaws.{words_low, words_mid, words_high}
use Rattle.layout.proofs.lines.words_of.Statement.{statement}
use Rattle.layout.proofs.lines.words_of.Tie as tie

returns : tie.Need-returns-then-k-lt2
returns c = words_low _ c.if-k-lt2.true

returns_2 : tie.Need-returns-then-k-le5
returns_2 c = words_mid _ c.if-k-lt2.false c.if-k-le5.true

returns_3 : tie.Need-returns
returns_3 c = words_high _ c.if-k-lt2.false c.if-k-le5.false

pub words_of_spec : {M : Type 1} → statement M
words_of_spec = tie.close (tie.spec returns returns_2 returns_3)
