-- One mark more: what was looked at so far, and that one.
use Rattle.std.proofs.Common.{◌≡◌, ◌∙◌, ap, Bool, ℕ, ◌&&◌, not, eqb, get_or, take, arith}
use Rattle.std.proofs.lemmas.List.{get_or-take, length-take-le}
use Rattle.verdict.specs.Memory.{is_marked}
use Rattle.verdict.proofs.Lowest.{all_none, all_next}
use Rattle.verdict.proofs.all_marked.Goals as goal

pub loop-mark-init : goal.loop-mark-init
loop-mark-init c = all_none (is_marked c.args.work.now)

pub loop-mark-preserved : goal.loop-mark-preserved
unfolding is_marked
loop-mark-preserved c =
    let l = c.loop-mark in
    let w = c.args.work.now in
    let here : get_or (take c.args.n w) l.mark-index 0 ≡ get_or w l.mark-index 0 = get_or-take c.args.n w l.mark-index 0 (omega (arith, length-take-le c.args.n w c.requires)) in
    let more : (l.full && not (eqb (get_or (take c.args.n w) l.mark-index 0) 0)) ≡ (l.full && is_marked w l.mark-index) = ap (λ (b : ℕ). l.full && not (eqb b 0)) here in
    more ∙ ap (λ (f : Bool). f && is_marked w l.mark-index) l.invariant ∙ all_next (is_marked w) l.mark-index
