-- Corner after corner. Assumes nothing.
use Rattle.std.proofs.Common.{◌≡◌, take}
use Rattle.wire.specs.Bytes.{put}
use Rattle.wire.specs.Words.{bytes_of}
use Rattle.tables.specs.Parts.{parts_of}
use Rattle.corners.specs.Corners.{mended_corners}
use Rattle.mending.proofs.put_corners.Given as goal

abbrev pub invariant-loop-j : goal.invariant-loop-j
invariant-loop-j l = l.out ≡ put l.fn.out l.at (bytes_of (take l.j (mended_corners (parts_of l.bytes))))
