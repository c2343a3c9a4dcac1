-- The sum of three shares. Assumes nothing.
use borrow.Author.Rules.{rules}
use mathlib.Core.Path.{ap₂}
use lib.IntN.{ℤ, ◌+ℤ◌}
use Rattle.wire.proofs.Signed.{plus, called, fits, stored, param, reads_within}
use Rattle.slope.specs.Height.{lifted}
use Rattle.slope.proofs.Machine.{one_share}
use Rattle.slope.proofs.lifted_of.Statement.{statement}
use Rattle.slope.proofs.lifted_of.Tie as tie

add_result : tie.Need-overflow_add-result
add_result c =
    let b = c.before.before.before in
    fits (plus (param b.share_of-of_a.ensures.1 tt) (param b.share_of-of_b.ensures.1 tt)) tt

add_result_2 : tie.Need-overflow_add-result-2
add_result_2 c =
    let b = c.before.before.before in
    fits (plus (stored (plus (param b.share_of-of_a.ensures.1 tt) (param b.share_of-of_b.ensures.1 tt)) tt) (param c.share_of-of_c.ensures.1 tt)) tt

returns : tie.Need-returns
unfolding lifted
returns c =
    let b = c.before.before.before in
    let a = b.before.before.before in
    let h = a.requires in
    let of-a = one_share _ _ h.3 h.4 h.0.z a.beside.ensures.0 a.beside.ensures.1 a.share_of-of_a.ensures.0 in
    let of-b = one_share _ _ h.3 h.4 h.1.z b.beside-2.ensures.0 b.beside-2.ensures.1 b.share_of-of_b.ensures.0 in
    let of_c = one_share _ _ h.3 h.4 h.2.z c.beside-3.ensures.0 c.beside-3.ensures.1 c.share_of-of_c.ensures.0 in
    let sum = plus (stored (plus (param a.share_of-of_a.ensures.1 tt) (param b.share_of-of_b.ensures.1 tt)) tt) (param c.share_of-of_c.ensures.1 tt) in
    let r = stored (called (ap₂ (λ (p q : ℤ). p +ℤ q) (ap₂ (λ (p q : ℤ). p +ℤ q) of-a of-b) of_c) sum) tt in
    (r.same, reads_within r)

pub lifted_of_spec : {M : Type 1} → statement M
lifted_of_spec =
    tie.close (tie.spec (λ c κs. search rules) (λ c κs. search rules) (λ c κs. search rules) (λ c κs. search rules) (λ c κs. search rules) (λ c κs. search rules) add_result add_result_2 returns)
