-- `caption::name_place` meets its contract. Assumes nothing.
use mathlib.Core.Path.{◌≡◌, refl, sym, ap, ◌∙◌}
use native.Mathlib.Nat.{zero-add}
use native.Mathlib.Omega.{arith}
use borrow.Author.Rules.{rules}
use Prim.Native.Nat.{◌+◌, ◌-◌, ◌≤◌}
use lib.ListN.{length, drop}
use Rattle.letters.specs.Class.{is_end, is_gap}
use Rattle.text.specs.Scan.{run, lines, line_at}
use Rattle.text.proofs.SplitLaws.{piece_within}
use Rattle.caption.specs.Caption.{enters_as, name_place}
use Rattle.caption.proofs.PlaceLaws.{place_hit, place_next, place_none, gap_within}
use Rattle.caption.proofs.name_place.Statement.{statement}
use Rattle.caption.proofs.name_place.Tie as tie

abbrev invariant_loop : tie.invariant-loop-at
invariant_loop s w at₀ at = (at ≤ length s + 1) × (name_place w 0 (lines s) ≡ name_place w at (lines (drop at s)))

abbrev decreases_loop : tie.decreases-loop-at
decreases_loop s w at₀ at = length s - at

-- the name of the line that was found
found : (c : tie.After-skip_gap invariant_loop decreases_loop) → let at-loop = c.before.before.before.before.before in let start = at-loop.before.before.before in (at-loop.loop-at.at + c.skip_gap.result ≡ name_place start.args.w.now 0 (lines start.args.s.now)) × (at-loop.loop-at.at + c.skip_gap.result ≤ length start.args.s.now)
found c =
    let at-line-at = c.before.before.before in
    let in-loop = at-line-at.before in
    let at-loop = in-loop.before in
    let start = at-loop.before.before.before in
    let l : c.skip_gap.result ≡ run is_gap (line_at start.args.s.now at-loop.loop-at.at) = c.skip_gap.ensures ∙ zero-add _ ∙ ap (run is_gap) at-line-at.line_at-l.ensures in
    (place_hit _ _ _ _ in-loop.loop-at-test.true (ap (enters_as _) (sym at-line-at.line_at-l.ensures) ∙ sym c.enters_as.ensures ∙ c.if-enters_as.true) l ∙ sym at-loop.loop-at.invariant.1, omega (arith, gap_within start.args.s.now at-loop.loop-at.at (omega (arith, in-loop.loop-at-test.true))))

-- a line ends within the text
ends : (c : tie.After-line_end-at invariant_loop decreases_loop) → let at-loop = c.before.before.before.before.before in let start = at-loop.before.before.before in (at-loop.loop-at.at ≤ c.line_end-at.result) × (c.line_end-at.result ≤ length start.args.s.now)
ends c = piece_within is_end _ _ _ c.line_end-at.ensures (omega (arith, c.loop-at-test.true))

loop_holds : tie.Need-loop-at-init invariant_loop decreases_loop
loop_holds c = (omega arith, refl)

add_result : tie.Need-overflow_add-result invariant_loop decreases_loop
add_result c = omega (arith, (found c).1, c.requires)

returns : tie.Need-returns-then-enters_as invariant_loop decreases_loop
returns c = ((found c).0, omega (arith, (found c).1, c.requires))

add_at : tie.Need-overflow_add-at invariant_loop decreases_loop
add_at c = omega (arith, ends c, c.requires)

loop_less : tie.Need-loop-at-smaller invariant_loop decreases_loop
loop_less c = omega (arith, ends c, c.loop-at-test.true)

loop_again : tie.Need-loop-at-preserved invariant_loop decreases_loop
loop_again c =
    let z = c.before.before.before.before.before in
    (omega (arith, ends c), z.loop-at.invariant.1 ∙ place_next _ _ _ _ c.line_end-at.ensures c.loop-at-test.true (ap (enters_as _) (sym c.line_at-l.ensures) ∙ sym c.enters_as.ensures ∙ c.if-enters_as.false))

returns_2 : tie.Need-returns invariant_loop decreases_loop
returns_2 c = (place_none _ _ _ c.loop-at-test.false ∙ sym c.loop-at.invariant.1, omega (arith, c.loop-at.invariant.0, c.requires))

pub name_place_spec : {M : Type 1} → statement M
name_place_spec =
    tie.close
    (tie.spec invariant_loop decreases_loop loop_holds (search rules) (search rules) (search rules) add_result returns (search rules) add_at loop_less loop_again returns_2)
