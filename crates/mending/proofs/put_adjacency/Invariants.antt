-- Half-edge after half-edge. Assumes nothing.
use Rattle.std.proofs.Common.{◌≡◌, take}
use Rattle.wire.specs.Bytes.{put}
use Rattle.wire.specs.Words.{bytes_of}
use Rattle.tables.specs.Parts.{parts_of}
use Rattle.corners.specs.Corners.{recornered}
use Rattle.seams.specs.Mended.{adjacency_of}
use Rattle.mending.proofs.put_adjacency.Given as goal

abbrev pub invariant-loop-h : goal.invariant-loop-h
invariant-loop-h l = l.out ≡ put l.fn.out l.at (bytes_of (take l.h (adjacency_of (recornered (parts_of l.bytes)))))
