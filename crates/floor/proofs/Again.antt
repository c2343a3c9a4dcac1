-- The fixed form of an accepted floor: it is accepted, is read as the same parts and with the same counts, and is its own fixed form; so a
-- second rewriting changes no byte. Assumes nothing.
use mathlib.Core.Path.{◌≡◌, refl, sym, ap, ◌∙◌, subst}
use mathlib.Core.List.{List}
use Prim.Native.Nat.{ℕ, ◌≤◌}
use native.Mathlib.Omega.{arith}
use lib.ListN.{length}
use Rattle.verdict.specs.Verdict.{accepted}
use Rattle.verdict.specs.declared.Answer.{Answer}
use Rattle.wire.specs.Bytes.{Bytes}
use Rattle.tables.specs.Parts.{Parts, parts_of}
use Rattle.tables.specs.Plain.{SoundHeader}
use Rattle.tables.specs.Fixed.{form_of}
use Rattle.tables.proofs.Right.{header_sound}
use Rattle.tables.proofs.Reform.{form_accepted, form_parts, form_again, length_form, form_most}
use Rattle.mesh.specs.Mesh.{Meshed}
use Rattle.nodes.specs.Plain.{SoundNodes}
use Rattle.tree.specs.Plain.{FloorTree, BoxesHold}
use Rattle.border.specs.Plain.{SoundBorders}
use Rattle.floor.specs.Reader.{reader_verdict, answer_of, reader_answer}
use Rattle.floor.specs.Rewrite.{fixed_form, rewrite_verdict, rewrite_answer, rewrite_memory}
use Rattle.floor.specs.Sound.{Sound}
use Rattle.floor.specs.Accepted.{Accepted}
use Rattle.floor.proofs.Meaning.{accepted_of, sound_accepted, room_is_enough}
use Rattle.floor.proofs.Answers.{nothing_broken}
use Rattle.floor.proofs.Rewriting.{rewrite_passed, rewrite_accepts, rewrite_met}

-- an accepted floor. That its bytes are bytes is what a file is
module _ (b : List ℕ) (room : ℕ) (y : Bytes b) (z : (reader_verdict b room).number ≡ 0) where
  floor : Accepted b
  floor = accepted_of b room z

  pub same_parts : parts_of (fixed_form b) ≡ parts_of b
  unfolding fixed_form
  same_parts = form_parts b floor.header y

  -- a second rewriting changes no byte
  pub form_twice : fixed_form (fixed_form b) ≡ fixed_form b
  unfolding fixed_form
  form_twice = form_again b floor.header y

  pub form_longest : length (fixed_form b) ≤ 737372
  unfolding fixed_form
  form_longest = omega (arith, length_form (parts_of b) floor.sized, form_most (parts_of b) floor.sized)

  form_header : SoundHeader (fixed_form b)
  unfolding fixed_form
  form_header = header_sound (form_of (parts_of b)) (ap (λ (a : Answer). a.number) (form_accepted b floor.header y))

  form_sound : Sound (fixed_form b)
  form_sound = record {
    header = form_header;
    mesh = subst Meshed (sym same_parts) floor.mesh;
    nodes = subst SoundNodes (sym same_parts) floor.nodes;
    tree = subst FloorTree (sym same_parts) floor.tree;
    boxes = subst BoxesHold (sym same_parts) floor.boxes;
    borders = subst SoundBorders (sym same_parts) floor.borders;
  }

  pub form_read : reader_verdict (fixed_form b) room ≡ accepted
  form_read = sound_accepted (fixed_form b) room (room_is_enough b room z) form_sound

  -- the reader answers the same of both
  pub same_answer : reader_answer (fixed_form b) room ≡ reader_answer b room
  unfolding reader_answer
  same_answer =
      ap (λ (p : Parts). answer_of (reader_verdict (fixed_form b) room) p) same_parts
      ∙ ap (λ (a : Answer). answer_of a (parts_of b)) (form_read ∙ nothing_broken b room (reader_verdict b room) refl z)

-- what was written, rewritten into an output of the same size: the same answer and the same bytes
module _ (b : List ℕ) (room : ℕ) (out : List ℕ) (y : Bytes b) (z : (rewrite_verdict b room (length out)).number ≡ 0) where
  again : rewrite_verdict (fixed_form b) room (length out) ≡ rewrite_verdict b room (length out)
  again =
      let h = rewrite_passed b room (length out) z in
      rewrite_met (fixed_form b) room (length out) (form_read b room y h.0) (subst (λ (f : List ℕ). length f ≤ length out) (sym (form_twice b room y h.0)) h.1)
      ∙ sym (rewrite_accepts b room (length out) z)

  pub second_rewriting : (rewrite_answer (fixed_form b) room (length out) ≡ rewrite_answer b room (length out)) × (rewrite_memory (fixed_form b) room out ≡ rewrite_memory b room out)
  unfolding rewrite_answer rewrite_memory
  second_rewriting =
      let t = form_twice b room y (rewrite_passed b room (length out) z).0 in
      (rw (again, t), rw (again, t))
