-- The reader accepts exactly the sound floors; and what acceptance gives its callers. Assumes nothing.
use mathlib.Core.Path.{◌≡◌, ap, ◌∙◌}
use mathlib.Core.List.{List}
use Prim.Native.Nat.{ℕ, ◌≤◌}
use lib.Dec.{ltb}
use borrow.Author.Tests.{le-ltb, ltb-false}
use Rattle.verdict.specs.Verdict.{accepted}
use Rattle.verdict.specs.Memory.{work_size}
use Rattle.verdict.specs.declared.Answer.{Answer}
use Rattle.verdict.proofs.Verdict.{passed, unbroken, met, then_both}
use Rattle.tables.specs.Header.{RightHeader}
use Rattle.tables.specs.Parts.{Parts, parts_of, word_place}
use Rattle.tables.specs.Fixed.{Sized}
use Rattle.tables.proofs.Right.{header_sound, sound_header}
use Rattle.tables.proofs.Reading.{sized_of}
use Rattle.mesh.specs.Mesh.{Meshed}
use Rattle.mesh.proofs.Plain.{mesh_met, met_mesh}
use Rattle.nodes.specs.Plain.{SoundNodes, Closed}
use Rattle.nodes.proofs.Rule12.{nodes_met, met_nodes, sound_closed}
use Rattle.tree.specs.Boxes.{rules13to14}
use Rattle.tree.specs.Plain.{FloorTree, BoxesHold}
use Rattle.tree.proofs.Theorem.{rule13_met, met_rule13}
use Rattle.tree.proofs.Held.{boxes_met, met_boxes}
use Rattle.border.proofs.Sound.{borders_sound, sound_borders}
use Rattle.floor.specs.Groups.{rules7to12, rules15to19, rules1to14, rules1to19}
use Rattle.floor.specs.Reader.{rule20, reader_verdict}
use Rattle.floor.specs.Sound.{Sound}
use Rattle.floor.specs.Accepted.{Accepted}
use Rattle.floor.proofs.Order.{by_groups}

-- what rules 7 to 12 give once they are passed
pub record Shaped (p : Parts) : Type 0 where
  pub mesh : Meshed p
  pub nodes : SoundNodes p
  pub closed : Closed p

pub shape_met : (b : List ℕ) → RightHeader b → (rules7to12 (word_place b) (parts_of b)).number ≡ 0 → Shaped (parts_of b)
unfolding rules7to12
shape_met b r z =
    let s = sized_of b r in
    let h = passed _ _ z in
    let n = nodes_met (parts_of b) h.1 in
    record { mesh = mesh_met (word_place b) (parts_of b) s.adjacency h.0; nodes = n; closed = sound_closed (parts_of b) s.faces n }

-- all that rules 1 to 14 give
pub record Early (b : List ℕ) : Type 0 where
  pub header : RightHeader b
  pub sized : Sized (parts_of b)
  pub mesh : Meshed (parts_of b)
  pub nodes : SoundNodes (parts_of b)
  pub closed : Closed (parts_of b)
  pub tree : FloorTree (parts_of b)
  pub boxes : BoxesHold (parts_of b)

pub early_met : (b : List ℕ) → (rules1to14 b).number ≡ 0 → Early b
unfolding rules1to14 rules13to14
early_met b z =
    let h1 = passed _ _ z in
    let h2 = passed _ _ h1.1 in
    let t = passed _ _ h2.1 in
    let s = sized_of b h1.0 in
    let shape = shape_met b h1.0 h2.0 in
    record {
      header = h1.0;
      sized = s;
      mesh = shape.mesh;
      nodes = shape.nodes;
      closed = shape.closed;
      tree = rule13_met (parts_of b) shape.nodes.count shape.closed t.0;
      boxes = boxes_met (parts_of b) s.faces t.1;
    }

-- all that rules 1 to 19 give
pub all_met : (b : List ℕ) → (rules1to19 b).number ≡ 0 → Accepted b
unfolding rules1to19 rules15to19
all_met b z =
    let h = passed _ _ z in
    let e = early_met b h.0 in
    let k = passed _ _ h.1 in
    record {
      header = e.header;
      sized = e.sized;
      mesh = e.mesh;
      nodes = e.nodes;
      closed = e.closed;
      tree = e.tree;
      boxes = e.boxes;
      borders = borders_sound (parts_of b) k.0 k.1;
    }

-- ---- THE BRIDGE: what acceptance gives

pub accepted_of : (b : List ℕ) (room : ℕ) → (reader_verdict b room).number ≡ 0 → Accepted b
accepted_of b room z = all_met b (passed _ _ (rw (by_groups b room) at z)).1

-- ---- the reader accepts exactly the sound floors

pub accepted_sound : (b : List ℕ) (room : ℕ) → (reader_verdict b room).number ≡ 0 → Sound b
accepted_sound b room z =
    let a = accepted_of b room z in
    record { header = header_sound b a.header; mesh = a.mesh; nodes = a.nodes; tree = a.tree; boxes = a.boxes; borders = a.borders }

-- work memory enough, where the reader accepts
pub room_is_enough : (b : List ℕ) (room : ℕ) → (reader_verdict b room).number ≡ 0 → work_size ≤ room
unfolding rule20
room_is_enough b room z = ltb-false room work_size (unbroken 19 (ltb room work_size) 0 (passed _ _ (rw (by_groups b room) at z)).0)

pub room_enough : (room : ℕ) → work_size ≤ room → rule20 room ≡ accepted
unfolding rule20
room_enough room l = rw (le-ltb room work_size l) (met 20 0)

pub sound_early : (b : List ℕ) → Sound b → rules1to14 b ≡ accepted
unfolding rules1to14 rules7to12 rules13to14
sound_early b s =
    let p = parts_of b in
    let h = sound_header b s.header in
    let few = (sized_of b (ap (λ (a : Answer). a.number) h)).faces in
    then_both h
    (then_both (then_both (met_mesh (word_place b) p s.mesh) (met_nodes p s.nodes))
    (then_both (met_rule13 p (sound_closed p few s.nodes) s.tree) (met_boxes p few s.nodes.kinds s.boxes)))

sound_all : (b : List ℕ) → Sound b → rules1to19 b ≡ accepted
unfolding rules1to19 rules15to19
sound_all b s = let e = sound_borders (parts_of b) s.borders in then_both (sound_early b s) (then_both e.0 e.1)

pub sound_accepted : (b : List ℕ) (room : ℕ) → work_size ≤ room → Sound b → reader_verdict b room ≡ accepted
sound_accepted b room l s = by_groups b room ∙ then_both (room_enough room l) (sound_all b s)
