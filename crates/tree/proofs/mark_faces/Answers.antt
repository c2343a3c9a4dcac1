-- One node more: an inner one adds no face, a leaf one that is new, or one that is marked already.
use Rattle.std.proofs.Common.{◌∙◌, refl, sym, ap, arith, ℕ, set}
use Rattle.verdict.specs.Memory.{fresh, marked}
use Rattle.tables.specs.Parts.{parts_of}
use Rattle.nodes.specs.Nodes.{nodes_of, face_of}
use Rattle.tree.specs.Tree.{leaf_faces}
use Rattle.tree.proofs.Faces.{faces_inner, face_new, face_hit}
use Rattle.tree.proofs.mark_faces.Goals as goal
use Rattle.tree.proofs.mark_faces.Goals.{then-not-is_inner_node+else-work-f-ne0, else-not-is_inner_node}

pub loop-n-init : goal.loop-n-init
unfolding leaf_faces fresh marked
loop-n-init c = record { once = refl; marks = refl }

pub returns-then-work-f-ne0 : goal.returns-then-work-f-ne0
returns-then-work-f-ne0 c =
    let p = parts_of c.args.bytes.now in
    let l = c.loop-n in
    let hit = face_hit (nodes_of p) (face_of p) c.args.work.now l.work l.n l.invariant.once l.invariant.marks
    (sym c.is_inner_node.ensures ∙ c.if-not-is_inner_node.true) p.nodes (omega arith) (rw c.face_of-f.ensures at c.if-work-f-ne0.true) in
    record { answer = hit.0; marks = hit.1 }

pub loop-n-preserved : goal.loop-n-preserved
loop-n-preserved c =
    let p = parts_of c.args.bytes.now in
    let T = nodes_of p in
    let F = face_of p in
    let l = c.loop-n in
    elim c.if-not-is_inner_node.branch [
      | then-not-is_inner_node+else-work-f-ne0 w ↦ let new = face_new T F c.args.work.now l.work l.n l.invariant.once l.invariant.marks (sym c.is_inner_node.ensures ∙ w.if-not-is_inner_node.true) (rw w.face_of-f.ensures at w.if-work-f-ne0.false) in
          record { once = new.0; marks = w.work-is ∙ (ap (λ (k : ℕ). set l.work k 1) w.face_of-f.ensures ∙ new.1) }
      | else-not-is_inner_node w ↦ let same = faces_inner T F l.n (sym c.is_inner_node.ensures ∙ w.if-not-is_inner_node.false) in
          record { once = rw same l.invariant.once; marks = rw same (w.work-is ∙ l.invariant.marks) }
    ]
