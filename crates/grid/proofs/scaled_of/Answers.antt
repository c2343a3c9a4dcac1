-- What `size_of` answers, with the sign.
use Rattle.std.proofs.Common.{true, false, ℕ, ◌<◌, ◌≡◌, ◌^◌, Some, sym, ap, ◌∙◌}
use Rattle.std.proofs.lemmas.Bool.{le-leb, lt-leb}
use native.Mathlib.Nat.{lt_of_le_of_lt}
use lib.Dec.{lit<}
use Rattle.grid.specs.Answers.{size_at}
use Rattle.grid.proofs.Answers.{size_small, scaled_none, scaled_some}
use Rattle.wire.proofs.Signed.{nat_is, neg_back}
use Rattle.grid.proofs.scaled_of.Goals as goal

small : (b n : ℕ) → size_at b ≡ Some n → n < 2 ^ 63
small b n e = lt_of_le_of_lt (size_small b n e) (lit< tt)

pub returns-in_err-n : goal.returns-in_err-n
returns-in_err-n c = c.from_residual.ensures ∙ sym (scaled_none _ (sym c.size_of.ensures ∙ c.in_err-n.was))

pub returns-then-b-lt2147483648 : goal.returns-then-b-lt2147483648
returns-then-b-lt2147483648 c =
    let e = sym c.size_of.ensures ∙ c.in_ok-n.was in
    ap Some (nat_is _ (small _ _ e)) ∙ sym (scaled_some _ _ false e (lt-leb _ _ c.if-b-lt2147483648.true))

pub returns-else-b-lt2147483648 : goal.returns-else-b-lt2147483648
returns-else-b-lt2147483648 c =
    let e = sym c.size_of.ensures ∙ c.in_ok-n.was in
    ap Some (neg_back _ (small _ _ e)) ∙ sym (scaled_some _ _ true e (le-leb _ _ c.if-b-lt2147483648.false))
