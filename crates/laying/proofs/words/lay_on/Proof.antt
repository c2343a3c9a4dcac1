-- Where the place's bytes lie. Assumes nothing.
use borrow.Author.Rules.{rules}
use mathlib.Core.Path.{◌≡◌, ap, ◌∙◌}
use Prim.Native.Nat.{ℕ}
use Rattle.wire.specs.Bytes.{put_u32}
use Rattle.laying.specs.Kind.{lay}
use Rattle.laying.proofs.words.lay_on.Statement.{statement}
use Rattle.laying.proofs.words.lay_on.Tie as tie

-- the new word is written
written : (c : tie.After-put_u32) → let a = c.args in c.put_u32.new.bytes ≡ put_u32 a.floor.now c.field_at-at.result a.r.new
written c = c.put_u32.ensures

returns : tie.Need-returns
unfolding lay
returns c =
    let a = c.args in
    written c.before.before ∙ ap (λ (at : ℕ). put_u32 a.floor.now at a.r.new) c.field_at-at.ensures.0

pub lay_on_spec : {M : Type 1} → statement M
lay_on_spec = tie.close (tie.spec (search rules) (search rules) (search rules) (search rules) returns)
