-- A header that every call's rules let through is right.
use Rattle.verdict.proofs.Results.{accepts}
use Rattle.verdict.proofs.Verdict.{passed}
use Rattle.journal.proofs.open_verdict.Goals as goal

pub count_of-n-requires : goal.count_of-n-requires
count_of-n-requires c = (passed _ _ (passed _ _ (accepts c.in_ok-common_verdict.ensures)).0).0
