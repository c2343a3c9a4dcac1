-- A record laid on leaves the floor's length, and one that 27 lets through has a place. Assumes nothing.
use mathlib.Core.Path.{◌≡◌}
use mathlib.Core.Bool.{true, ◌&&◌}
use Prim.Native.Nat.{ℕ, ◌<◌}
use mathlib.Core.List.{List}
use lib.Dec.{ltb, eqb}
use lib.ListN.{length}
use borrow.Author.Tests.{ltb-true}
use Rattle.verdict.proofs.Bools.{and_true}
use Rattle.wire.specs.Bytes.{u32_at}
use Rattle.wire.proofs.Numbers.{length_put_u32}
use Rattle.record.specs.declared.Rec.{Rec}
use Rattle.record.specs.Record.{body}
use Rattle.laying.specs.Kind.{Kind, lay, fits}

pub length_lay : (K : Kind) (fl : List ℕ) (r : Rec) → length (lay K fl r) ≡ length fl
unfolding lay
length_lay K fl r = length_put_u32 fl (K.field fl r.tag r.place) r.new

-- a record that 27 lets through has a place on the floor
pub fits_inside : (K : Kind) (fl : List ℕ) (r : Rec) → fits K fl r ≡ true → r.place < K.count fl r.tag
unfolding fits
fits_inside K fl r e =
    let a = eqb r.len body in
    let b = ltb r.place (K.count fl r.tag) in
    let d = eqb (u32_at fl (K.field fl r.tag r.place)) r.old in
    ltb-true _ _ (and_true a b (and_true (a && b) d (and_true (a && b && d) (K.allowed r.tag r.old r.new) e).0).0).1
