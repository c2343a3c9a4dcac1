-- The table's bytes, from where it lies. Assumes nothing.
use borrow.Author.Rules.{rules}
use native.Mathlib.Omega.{arith}
use Prim.Native.Nat.{◌+◌, ◌*◌}
use mathlib.Core.Path.{◌≡◌}
use Rattle.wire.specs.Bytes.{u32_at}
use Rattle.tables.specs.Tables.{table_at}
use Rattle.tables.specs.Header.{floor_tables}
use Rattle.tables.specs.Parts.{words_in}
use Rattle.tables.proofs.Right.{header_met}
use Rattle.tables.proofs.Reading.{start_at, stop_at, table_inside}
use Rattle.fixed.proofs.Parted.{sum_more, span_copied}
use Rattle.fixed.proofs.copy_table.Statement.{statement}
use Rattle.fixed.proofs.copy_table.Tie as tie

span_at_requires : tie.Need-span_at-s-requires
span_at_requires c κs = let s = c.before.before in (s.requires.1, (header_met s.args.bytes.now s.requires.0).long)

-- where the table starts, and how many bytes it has
record Lies (c : tie.After-span_at-s) : Type 0 where
  start : c.span_at-s.result.start ≡ u32_at c.args.bytes.now (table_at floor_tables c.args.k).offset
  stop : c.span_at-s.result.stop ≡ c.span_at-s.result.start + 4 * words_in c.args.bytes.now c.args.k

lies : (c : tie.After-span_at-s) → Lies c
lies c =
    let s = c.before.before.before in
    record {
      start = rw c.span_at-s.ensures (start_at s.args.bytes.now s.args.k);
      stop = rw c.span_at-s.ensures (omega (arith, start_at s.args.bytes.now s.args.k, stop_at s.args.bytes.now s.args.k s.requires.1));
    }

sub_n : tie.Need-overflow_sub-n
sub_n c = sum_more _ (lies c.before).stop

copy_part_requires : tie.Need-copy_part-requires
copy_part_requires c κs =
    let l = lies c.before.before in
    let s = c.before.before.before.before.before in
    ((λ m. let q = table_inside s.args.bytes.now s.requires.0 s.args.k s.requires.1 (omega (arith, l.stop)) in omega (arith, l.start, l.stop)), omega (arith, l.stop))

add_result : tie.Need-overflow_add-result
add_result c = omega (arith, lies c.before.before.before.before.before)

returns : tie.Need-returns
returns c =
    let l = lies c.before.before.before.before.before in
    span_copied _ _ _ _ _ _ _ l.start l.stop c.copy_part.ensures

pub copy_table_spec : {M : Type 1} → statement M
copy_table_spec = tie.close (tie.spec span_at_requires sub_n copy_part_requires add_result (search rules) returns)
