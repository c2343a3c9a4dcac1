-- Edge after edge, each with the transition that it keeps. Assumes nothing.
use Rattle.std.proofs.Common.{◌≡◌, ◌*◌, take}
use Rattle.wire.specs.Bytes.{put}
use Rattle.wire.specs.Words.{bytes_of}
use Rattle.tables.specs.Parts.{parts_of}
use Rattle.rings.specs.Rings.{edge_list}
use Rattle.follow.specs.Ready.{web_in}
use Rattle.seams.specs.Mended.{entries_for}
use Rattle.mending.proofs.put_entries.Given as goal

abbrev pub invariant-loop-i : goal.invariant-loop-i
invariant-loop-i l = l.out ≡ put l.fn.out l.at (bytes_of (take (l.i * 2) (entries_for (parts_of l.bytes) (edge_list (web_in l.bytes)))))
