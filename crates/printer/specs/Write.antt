-- What a printer does to the bytes that it is lent: it puts bytes from a place on, as far as there is room, and answers the place behind
-- them. Definitions only.
use Rattle.std.specs.Prelude.{◌≡◌, List, ℕ, ◌+◌, length}
use Rattle.wire.specs.Bytes.{put}

pub record Wrote (old new : List ℕ) (from end : ℕ) (bytes : List ℕ) : Type 0 where
  pub next : end ≡ from + length bytes
  pub holds : new ≡ put old from bytes
