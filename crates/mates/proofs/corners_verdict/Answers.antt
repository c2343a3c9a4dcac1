-- The vertices are mapped, 8 and then 15 decided by the changed corners, and the partners kept.
use Rattle.std.proofs.Common.{ℕ, List, arith, sym, subst, ◌∙◌, ◌≡◌}
use Rattle.std.proofs.lemmas.Result.{err_from_is_err_and}
use Rattle.verdict.specs.Lowest.{lowest}
use Rattle.verdict.proofs.Results.{here, past, first_under, number_positive, nothing_at, none_lowest}
use Rattle.chains.specs.Chains.{Chained}
use Rattle.tables.specs.Parts.{parts_of}
use Rattle.pairs.specs.Halves.{halves, repeats}
use Rattle.pairs.proofs.Halves.{few_walkable}
use Rattle.corners.specs.Corners.{recornered}
use Rattle.corners.specs.Memory.{Mapped}
use Rattle.corners.proofs.Corners.{top_past}
use Rattle.mates.specs.Keys.{run_chains, run_key}
use Rattle.mates.proofs.Runs.{halves_same, faces_same}
use Rattle.mates.proofs.Verdict.{rule8_by, rule15_by, repeat_apart}
use Rattle.mates.proofs.corners_verdict.Goals as goal

-- places are numbers of faces and of half-edges
pub refuse_at-requires : goal.refuse_at-requires
refuse_at-requires c = first_under _ _ _ _ c.first_pinched-pinched.ensures (omega (arith, c.count_of-faces.ensures))

pub returns-in_err-refuse_at : goal.returns-in_err-refuse_at
returns-in_err-refuse_at c =
    let r = c.in_err-refuse_at.field-0.0 in
    let q = recornered (parts_of c.args.bytes.now) in
    let p = err_from_is_err_and c.from_residual.result c.from_residual.ensures.1 in
    let e = here r _ (c.in_err-refuse_at.ensures ∙ rule8_by q _ _ (c.count_of-faces.ensures.0 ∙ sym (faces_same _)) c.first_pinched-pinched.ensures) in
    record {
      answer = rw (p.1, p.2) e;
      memory = c.map_vertices.ensures.1;
      ready = rw (p.1, p.2) (λ z. absurd (omega (arith, number_positive r.refusal, z)));
    }

pub refuse_at-requires-2 : goal.refuse_at-requires-2
refuse_at-requires-2 c = first_under _ _ _ _ c.first_repeat-repeat.ensures.answer (omega (arith, few_walkable _ c.requires.0))

pub returns-in_err-refuse_at-2 : goal.returns-in_err-refuse_at-2
returns-in_err-refuse_at-2 c =
    let r = c.in_err-refuse_at-2.field-0.0 in
    let q = recornered (parts_of c.args.bytes.now) in
    let p = err_from_is_err_and c.from_residual-in_err-refuse_at-2.result c.from_residual-in_err-refuse_at-2.ensures.1 in
    let met = c.in_ok-refuse_at.ensures ∙ rule8_by q _ _ (c.count_of-faces.ensures.0 ∙ sym (faces_same _)) c.first_pinched-pinched.ensures in
    let e = past met (c.in_err-refuse_at-2.ensures ∙ rule15_by q _ _ (sym (halves_same _)) c.first_repeat-repeat.ensures.answer) in
    record {
      answer = rw (p.1, p.2) e;
      memory = top_past _ _ c.first_repeat-repeat.ensures.memory ∙ c.map_vertices.ensures.1;
      ready = rw (p.1, p.2) (λ z. absurd (omega (arith, number_positive r.refusal, z)));
    }

-- 15 is met, so all half-edges are chained, and no two run the same way
pub put_mates-requires : goal.put_mates-requires
put_mates-requires c =
    let p = parts_of c.args.bytes.now in
    let q = recornered p in
    let none : lowest (halves p) (repeats q) ≡ halves p = none_lowest (halves p) (repeats q) (sym (nothing_at 15 _ (omega arith) c.in_ok-refuse_at-2.ensures) ∙ c.first_repeat-repeat.ensures.answer) in
    record {
      right_header = (c.requires.0, c.requires.2, repeat_apart q _ (sym (halves_same p)) none);
      mapped = (omega arith, subst (λ (w : List ℕ). Mapped p w) (sym c.first_repeat-repeat.ensures.memory) c.map_vertices.ensures.0);
      chained = subst (λ (k : ℕ). Chained run_chains (run_key q) c.first_repeat-repeat.new.work k) none c.first_repeat-repeat.ensures.chained;
    }

pub returns-clause-answer : goal.returns-clause-answer
returns-clause-answer c =
    let q = recornered (parts_of c.args.bytes.now) in
    let eight = c.in_ok-refuse_at.ensures ∙ rule8_by q _ _ (c.count_of-faces.ensures.0 ∙ sym (faces_same _)) c.first_pinched-pinched.ensures in
    let fifteen = c.in_ok-refuse_at-2.ensures ∙ rule15_by q _ _ (sym (halves_same _)) c.first_repeat-repeat.ensures.answer in
    past eight fifteen

pub returns-clause-memory : goal.returns-clause-memory
returns-clause-memory c = top_past _ _ c.put_mates.ensures.memory ∙ top_past _ _ c.first_repeat-repeat.ensures.memory ∙ c.map_vertices.ensures.1
