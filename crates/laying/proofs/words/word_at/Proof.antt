-- Where the place's bytes lie. Assumes nothing.
use borrow.Author.Rules.{rules}
use mathlib.Core.Path.{ap, ◌∙◌}
use Prim.Native.Nat.{ℕ}
use Rattle.wire.specs.Bytes.{u32_at}
use Rattle.laying.proofs.words.word_at.Statement.{statement}
use Rattle.laying.proofs.words.word_at.Tie as tie

returns : tie.Need-returns
returns c =
    let a = c.args in
    c.u32_at.ensures ∙ ap (λ (at : ℕ). u32_at a.floor.now at) c.field_at-at.ensures.0

pub word_at_spec : {M : Type 1} → statement M
word_at_spec = tie.close (tie.spec (search rules) (search rules) returns)
