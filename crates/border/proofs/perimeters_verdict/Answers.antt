-- A perimeter entry's number is small.
use Rattle.std.proofs.Common.{arith}
use Rattle.tables.proofs.Reading.{sized_of}
use Rattle.verdict.proofs.Results.{first_under}
use Rattle.border.proofs.perimeters_verdict.Goals as goal

pub refuse_at-requires : goal.refuse_at-requires
refuse_at-requires c = first_under _ _ _ _ c.first_wrong_loop.ensures (omega (arith, (sized_of _ c.requires.0).perimeters))
