-- The faces of the leaves so far are marked, each of them once.
use Rattle.std.proofs.Common.{◌≡◌, true}
use Rattle.verdict.specs.Memory.{fresh, marked}
use Rattle.tables.specs.Parts.{parts_of}
use Rattle.nodes.specs.Nodes.{nodes_of, face_of}
use Rattle.tree.specs.Tree.{leaf_faces}
use Rattle.tree.proofs.mark_faces.Given as goal

abbrev pub invariant-loop-n : goal.invariant-loop-n
invariant-loop-n l = record {
  once : fresh (leaf_faces (nodes_of (parts_of l.bytes)) (face_of (parts_of l.bytes)) l.n) l.fn.work ≡ true;
  marks : l.work ≡ marked (leaf_faces (nodes_of (parts_of l.bytes)) (face_of (parts_of l.bytes)) l.n) l.fn.work;
}
