-- The later records, moved down in one piece. Assumes nothing.
use Rattle.std.proofs.Common.{◌∙◌}
use Rattle.holding.proofs.Shifts.{moved_down}
use Rattle.holding.proofs.close_up.Goals as goal

pub returns : goal.returns
returns c = c.copy_within.ensures.after ∙ moved_down c.args.journal.now c.args.i c.args.f c.requires.0 c.requires.1
