-- The rings in the memory, then the notes beside them. Assumes nothing.
use borrow.Author.Rules.{rules}
use mathlib.Core.Path.{◌∙◌}
use Rattle.corners.proofs.Corners.{top_past}
use Rattle.mend.proofs.Steps.{worked_of, edge_number}
use Rattle.mend.proofs.work_out.Statement.{statement}
use Rattle.mend.proofs.work_out.Tie as tie

note_entries_requires : tie.Need-note_entries-requires
note_entries_requires c κs =
    let r = c.all_rings-c.ensures.1.1.1.0 in
    ((r.right, r.long), r.mated)

returns : tie.Need-returns
returns c =
    let note = c.before.before in
    let ring = note.before.before.before.before in
    let s = ring.before.before.before.before in
    let b = s.args.bytes.now in
    let all = ring.all_rings-c.ensures in
    let memory = note.note_entries.ensures.1 in (
      worked_of b _ _ _ all.1.1.0.1 memory.1 all.1.1.1.0 all.0 all.1.0 note.note_entries.auto.work memory.0 note.note_entries.ensures.0,
      ((edge_number b _ _ all.0, all.1.1.0.0), top_past _ _ (memory.0 ∙ all.1.1.1.1)),
    )

pub work_out_spec : {M : Type 1} → statement M
work_out_spec = tie.close (tie.spec (λ c κs. search rules) note_entries_requires (search rules) returns)
