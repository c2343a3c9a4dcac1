-- The code of a border tells what it keeps. Assumes nothing.
use borrow.Author.Rules.{rules}
use native.Mathlib.Omega.{arith}
use Prim.Native.Nat.{◌%◌, ◌<◌}
use mathlib.Core.Path.{◌≡◌, sym, ◌∙◌}
use Rattle.tables.specs.Parts.{Parts, parts_of}
use Rattle.pairs.specs.Halves.{halves}
use Rattle.pairs.proofs.Halves.{few_walkable, border_in}
use Rattle.corners.specs.Corners.{recornered}
use Rattle.kept.specs.Notes.{code_by, led_mark}
use Rattle.kept.proofs.Entries.{kept_low, kept_lone, several_none}
use Rattle.corners.proofs.Corners.{as_many}
use Rattle.kept.proofs.Notes.{all_read}
use Rattle.kept.proofs.kept_of.Statement.{statement}
use Rattle.kept.proofs.kept_of.Tie as tie

abbrev parts : tie.Start → Parts
parts s = parts_of s.args.bytes.now

under : (s : tie.Start) → s.args.h < halves (parts s)
under s = omega (arith, as_many (parts s), border_in (recornered (parts s)) s.args.h s.requires.0.2)

few : (s : tie.Start) → s.args.h < 12288
few s = omega (arith, under s, few_walkable s.args.bytes.now s.requires.0.0)

-- the code as it is read
told : (c : tie.After-u16_at-code) → let s = c.before.before.before in c.u16_at-code.result % led_mark ≡ code_by (parts s) (parts s).edges s.args.h
told c =
    let s = c.before.before.before in
    (all_read s.args.bytes.now s.args.work.now s.args.h _ s.requires.0.0 s.requires.1 (under s) c.u16_at-code.ensures.0).border_low s.requires.0.2

returns : tie.Need-returns-then-code-lt2
returns c = kept_low _ _ _ (omega (arith, told c.before, c.if-code-lt2.true))

returns_2 : tie.Need-returns-then-code-eq-SEVERAL
returns_2 c = sym (several_none _ _ _ (sym (told c.before.before) ∙ c.if-code-eq-SEVERAL.true))

returns_3 : tie.Need-returns
returns_3 c =
    let e = told c.before.before in
    rw e (kept_lone _ _ _ (omega (arith, e, c.if-code-lt2.false)) (λ z. c.if-code-eq-SEVERAL.false (e ∙ z)))

pub kept_of_spec : {M : Type 1} → statement M
kept_of_spec = tie.close (tie.spec (λ c. omega (arith, few c.before.before)) (λ c. omega (arith, few c.before.before)) (λ c κs. omega (arith, few c.before.before, c.requires.0.1)) returns returns_2 (search rules) returns_3)
