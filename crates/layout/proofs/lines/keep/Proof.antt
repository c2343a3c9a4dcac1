-- `layout::lines::keep` meets its contract. Assumes nothing.
use native.Mathlib.Omega.{arith}
use Rattle.layout.proofs.HeldLaws.{kept_none, kept_some}
use Prim.Native.Nat.{◌<◌}
use Rattle.layout.specs.Starts.{slot_of}
use borrow.Author.Rules.{rules}
use Rattle.layout.proofs.lines.keep.Statement.{statement}
use Rattle.layout.proofs.lines.keep.Tie as tie

-- an entry's slot is one of the 256
inside : (c : tie.After-slot-i) → c.slot-i.result < 256
inside c =
    let g = c.before.before.before in
    let h : slot_of g.args.st < 256 = g.requires.1 (omega (arith, c.if-st-eq0.false)) in
    omega (arith, c.slot-i.ensures)

returns : tie.Need-returns-then-st-eq0
returns c = kept_none _ _ _ c.if-st-eq0.true

mul_starts : tie.Need-offset_bounds-starts-i
mul_starts c = omega (arith, inside c)

element_write_starts : tie.Need-bounds-starts-i
element_write_starts c = inside c.before

returns_2 : tie.Need-returns
returns_2 c = kept_some _ _ _ _ c.if-st-eq0.false c.slot-i.ensures

pub keep_spec : {M : Type 1} → statement M
keep_spec = tie.close (tie.spec returns (search rules) mul_starts element_write_starts returns_2)
