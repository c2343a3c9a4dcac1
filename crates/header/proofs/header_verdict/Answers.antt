-- A file whose length is not wrong is long enough.
use Rattle.tables.proofs.Right.{length_met}
use Rattle.verdict.proofs.Results.{unbroken_by}
use Rattle.std.proofs.Common.{sym, ◌∙◌, arith}
use Rattle.header.proofs.header_verdict.Goals as goal

pub fields_verdict-requires : goal.fields_verdict-requires
fields_verdict-requires c = (length_met _ (sym c.wrong_length.ensures ∙ unbroken_by 1 _ 0 (omega arith) c.in_ok-refuse_if.ensures)).0
