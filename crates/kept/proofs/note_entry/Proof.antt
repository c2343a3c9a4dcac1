-- The note of the half-edge that a valid entry names gets one entry more; no other changes. Assumes nothing.
use borrow.Author.Rules.{rules}
use native.Mathlib.Omega.{arith}
use Prim.Native.Nat.{◌<◌}
use mathlib.Core.Path.{◌≡◌, refl, sym, ◌∙◌}
use mathlib.Core.Bool.{true}
use Rattle.tables.specs.Parts.{Parts, parts_of}
use Rattle.pairs.proofs.Halves.{few_walkable}
use Rattle.kept.specs.Kept.{valid_entry}
use Rattle.kept.proofs.Entries.{valid_parts}
use Rattle.corners.proofs.Corners.{as_many}
use Rattle.kept.proofs.Notes.{note_top, note_below, few_halves, noted_invalid, noted_valid}
use Rattle.kept.proofs.note_entry.Statement.{statement}
use Rattle.kept.proofs.note_entry.Tie as tie

abbrev parts : tie.Start → Parts
parts s = parts_of s.args.bytes.now

valid : (c : tie.Then-is_valid) → let s = c.before.before.before.before in valid_entry (parts s) s.args.i ≡ true
valid c = sym c.is_valid.ensures ∙ c.if-is_valid.true

-- the half-edge that it names has a note
low : (c : tie.After-edge_of-h) → c.edge_of-h.result < 12288
low c =
    let s = c.before.before.before.before.before in
    omega (arith, c.edge_of-h.ensures, (valid_parts (parts s) s.args.i (valid c.before)).0, few_walkable s.args.bytes.now s.requires.0.0)

u16_at_requires : tie.Need-u16_at-x-requires
u16_at_requires c κs = let h = c.before in omega (arith, low h, h.requires.0.1)

noted_more_requires : tie.Need-noted_more-y-requires
noted_more_requires c κs =
    let h = c.before.before in
    (c.u16_at-x.ensures.1, rw c.transition_of-t.ensures (valid_parts (parts h.before.before.before.before.before) c.args.i (valid h.before)).1)

put_u16_requires : tie.Need-put_u16-requires
put_u16_requires c κs =
    let h = c.before.before.before.before in omega (arith, low h, h.requires.0.1)

returns : tie.Need-returns-then-is_valid
returns c =
    let h = c.before.before.before.before.before.before.before in
    let s = h.before.before.before.before.before in
    let w = s.args.work.now in
    let is = c.put_u16.ensures in (
      noted_valid _ _ _ w s.requires.1 (few_halves _ s.requires.0.0) (as_many (parts s)) s.requires.0.1 (valid h.before) _ _ _ _ _
          c.edge_of-h.ensures c.transition_of-t.ensures c.u16_at-x.ensures.0 c.noted_more-y.ensures.0 c.noted_more-y.ensures.1 is,
      (rw is (note_top w _ _ (low h)), rw is (note_below w _ _)),
    )

returns_2 : tie.Need-returns-else-is_valid
returns_2 c =
    let s = c.before.before.before.before in
    (noted_invalid _ _ _ _ s.requires.1 (sym c.is_valid.ensures ∙ c.if-is_valid.false), (refl, refl))

pub note_entry_spec : {M : Type 1} → statement M
note_entry_spec = tie.close (tie.spec (λ c κs. search rules) (λ c κs. search rules) (λ c κs. search rules) (λ c. omega (arith, low c.before)) (λ c. omega (arith, low c.before)) u16_at_requires noted_more_requires (λ c. omega (arith, low c.before.before.before.before)) (λ c. omega (arith, low c.before.before.before.before)) put_u16_requires (search rules) returns returns_2)
