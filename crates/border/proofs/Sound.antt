-- Rules 15 to 19 are unbroken exactly if the borders are sound; and where each border then lies. Assumes nothing.
use mathlib.Core.Path.{◌≡◌}
use Prim.Native.Nat.{ℕ}
use Rattle.verdict.specs.Verdict.{accepted, ◌then◌}
use Rattle.verdict.proofs.Verdict.{passed, then_both}
use Rattle.tables.specs.Parts.{Parts}
use Rattle.pairs.specs.Halves.{rules15to16}
use Rattle.pairs.specs.Plain.{Border}
use Rattle.pairs.proofs.Paired.{paired_of, paired_to}
use Rattle.border.specs.Loops.{rule17, rule18, rule19, rules17to19}
use Rattle.border.specs.Plain.{Placed, SoundBorders}
use Rattle.border.proofs.Entries.{bordered_of, bordered_to, linked_of, linked_to}
use Rattle.border.proofs.Rings.{looped_of, looped_to, one_loop}

pub borders_sound : (p : Parts) → (rules15to16 p).number ≡ 0 → (rules17to19 p).number ≡ 0 → SoundBorders p
unfolding rules17to19
borders_sound p y z =
    let p19 = passed (rule17 p then rule18 p) (rule19 p) z in
    let p18 = passed (rule17 p) (rule18 p) p19.0 in
    record {
      paired = paired_of p y;
      bordered = bordered_of p p18.0;
      transitions = linked_of p p18.1;
      looped = looped_of p p19.1;
    }

pub sound_borders : (p : Parts) → SoundBorders p → (rules15to16 p ≡ accepted) × (rules17to19 p ≡ accepted)
unfolding rules17to19
sound_borders p s =
    (paired_to p s.paired, then_both (then_both (bordered_to p s.bordered) (linked_to p s.transitions)) (looped_to p s.looped))

-- every border stands in exactly one edge entry, and that lies in exactly one loop
pub placed : (p : Parts) → SoundBorders p → (h : ℕ) → Border p h → Placed p h
placed p s h b = let o = s.bordered.once h b in record { entry = o; ring = one_loop p s.looped o.at o.below }
