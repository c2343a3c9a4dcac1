-- Edge after edge, each with the transition that it keeps. Assumes nothing.
use Rattle.std.proofs.Common.{ℕ, arith, ap, ◌∙◌, List, ◌*◌, ◌%◌, ◌≡◌, length}
use Rattle.tables.specs.Parts.{parts_of}
use Rattle.rings.specs.Rings.{edge_list}
use Rattle.follow.specs.Memory.{mark}
use Rattle.follow.specs.Ready.{web_in}
use Rattle.seams.specs.Mended.{entries_for}
use Rattle.mending.specs.Worked.{Worked}
use Rattle.mending.proofs.Puts.{none_put, all_put}
use Rattle.mending.proofs.Tables.{entries_long, entry_more, edge_count, edge_at, edge_border}
use Rattle.mending.proofs.put_entries.Goals as goal

-- all entries of a file's floor: two for each edge
abbrev entries : List ℕ → List ℕ
entries b = entries_for (parts_of b) (edge_list (web_in b))

long : (b w : List ℕ) (e : ℕ) → Worked b w e → length (entries b) ≡ e * 2
long b w e k = omega (arith, edge_count b w e k, entries_long (parts_of b) (edge_list (web_in b)))

pub loop-i-init : goal.loop-i-init
loop-i-init c = none_put _ (entries c.args.bytes.now) _

pub put_u32-requires : goal.put_u32-requires
put_u32-requires c = omega (arith, long _ _ _ c.requires.0)

pub kept_of-requires-clause-right_header : goal.kept_of-requires-clause-right_header
kept_of-requires-clause-right_header c =
    let k = c.requires.0 in
    (k.right, k.long, edge_border _ _ _ k c.loop-i.i _ (omega arith) (ap (λ (x : ℕ). x % mark) c.u16_at-h.ensures.0))

pub put_u32-requires-in-loop-i : goal.put_u32-requires-in-loop-i
put_u32-requires-in-loop-i c = omega (arith, long _ _ _ c.requires.0, c.put_u32.auto)

pub loop-i-preserved : goal.loop-i-preserved
loop-i-preserved c =
    let b = c.args.bytes.now in
    let k = c.requires.0 in
    entry_more (parts_of b) (edge_list (web_in b)) _ _ c.loop-i.i _ _ (omega (arith, edge_count b _ _ k)) (ap (λ (x : ℕ). x % mark) c.u16_at-h.ensures.0 ∙ edge_at b _ _ k c.loop-i.i (omega arith))
    c.kept_of.ensures c.loop-i.invariant c.put_u32.ensures c.put_u32-in-loop-i.ensures

pub returns-clause-next : goal.returns-clause-next
returns-clause-next c = omega (arith, long _ _ _ c.requires.0)

pub returns-clause-table : goal.returns-clause-table
returns-clause-table c = all_put _ (entries c.args.bytes.now) _ (c.loop-i.i * 2) (omega (arith, long _ _ _ c.requires.0)) c.loop-i.invariant
