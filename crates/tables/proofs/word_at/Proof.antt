-- A word past its table's start is that of the parts, and lies in the file. Assumes nothing.
use borrow.Author.Rules.{rules}
use mathlib.Core.Path.{◌≡◌}
use Prim.Native.Nat.{◌+◌, ◌*◌, ◌≤◌, ◌<◌}
use native.Mathlib.Omega.{arith}
use lib.ListN.{length}
use Rattle.tables.specs.Parts.{word_place, words_in}
use Rattle.tables.proofs.Reading.{read_at, count_is, word_is}
use Rattle.tables.proofs.Writing.{place_inside}
use Rattle.tables.proofs.word_at.Statement.{statement}
use Rattle.tables.proofs.word_at.Tie as tie

where_it_lies : (c : tie.After-start_of)
    → c.start_of.result + 4 * c.args.j ≡ word_place c.args.bytes.now c.args.k c.args.j
unfolding word_place
where_it_lies c = rw c.start_of.ensures.0

among : (c : tie.After-start_of) → c.args.j < words_in c.args.bytes.now c.args.k
among c = let s = c.before.before in rw (count_is s.args.bytes.now s.args.k s.requires.1) at s.requires.2

lies_in : (c : tie.After-start_of) → c.start_of.result + 4 * c.args.j + 4 ≤ length c.args.bytes.now
lies_in c = let s = c.before.before in omega (arith, where_it_lies c, (place_inside _ s.requires.0 _ s.requires.1 _ (among c) 0 (omega arith)).1)

mul_u32_at : tie.Need-overflow_mul-j
mul_u32_at c = omega (arith, lies_in c)

add_u32_at : tie.Need-overflow_add-start_of
add_u32_at c = omega (arith, lies_in c)

u32_at_requires : tie.Need-u32_at-requires
u32_at_requires c κs = omega (arith, lies_in c)

returns : tie.Need-returns
returns c = let s = c.before.before.before in read_at _ c.u32_at.ensures (where_it_lies c.before) (word_is _ _ s.requires.1 _ (among c.before))

pub word_at_spec : {M : Type 1} → statement M
word_at_spec = tie.close (tie.spec (search rules) mul_u32_at add_u32_at u32_at_requires returns)
