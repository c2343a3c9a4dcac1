-- DEMAND 3 WITH THE READER'S OWN VERDICT: area floors are a lawful kind for the floors that the reader accepts, so whatever is done to
-- an accepted floor, the floor that is left is one the reader accepts. Assumes nothing.
use mathlib.Core.Path.{◌≡◌, refl, sym, ap}
use mathlib.Core.Logic.{◌⊎◌, inl, inr}
use mathlib.Core.Bool.{true}
use Prim.Native.Nat.{ℕ, ◌≤◌, ◌<◌}
use mathlib.Core.List.{List, []}
use native.Mathlib.Omega.{arith}
use lib.ListN.{length}
use lib.Dec.{leb}
use lib.Ieee.{Float, nan, inf, fin, binary32, of_bits}
use borrow.Author.Tests.{leb-true, le-leb, eqb-true}
use Rattle.verdict.specs.Verdict.{accepted}
use Rattle.verdict.specs.Memory.{work_size}
use Rattle.verdict.specs.declared.Answer.{Answer}
use Rattle.verdict.proofs.Bools.{test, clash}
use Rattle.wire.specs.Bytes.{Bytes}
use Rattle.wire.proofs.Numbers.{bytes_put_u32}
use Rattle.grid.specs.Grid.{on_grid}
use Rattle.tables.specs.Header.{RightHeader}
use Rattle.tables.specs.Parts.{parts_of, transition}
use Rattle.tables.proofs.Right.{header_sound, sound_header}
use Rattle.mesh.specs.Mesh.{IsFinite}
use Rattle.floor.specs.Reader.{reader_verdict}
use Rattle.floor.specs.Sound.{Sound}
use Rattle.floor.proofs.Meaning.{accepted_sound, sound_accepted}
use Rattle.floor.proofs.Edits.{paint_kept, link_kept, nudge_kept}
use Rattle.record.specs.declared.Rec.{Rec}
use Rattle.laying.specs.Allowed.{linkable}
use Rattle.laying.specs.Kind.{lay}
use Rattle.laying.specs.Area.{area_floor}
use Rattle.laying.proofs.Allowed.{permitted_small, permitted_same}
use Rattle.laying.proofs.Area.{lay_right}
use Rattle.journal.specs.Lawful.{Fits, Lawful}
use Rattle.journal.specs.Step.{lent}
use Rattle.journal.specs.Calls.{Call, run}
use Rattle.journal.specs.Plain.{plain_run}
use Rattle.journal.specs.Demand.{Demand3}
use Rattle.journal.specs.SoundFloor.{SoundFloor, AcceptedFloor}
use Rattle.journal.proofs.Lawful.{fits_ways, area_lawful}
use Rattle.journal.proofs.Demand.{demand3}

-- ---- the tests of 23 and 24 as plain facts

-- 18 and 23 say the same of a transition
pub linkable_plain : (w : ℕ) → linkable w ≡ true → (w ≤ 63) ⊎ (w ≡ 4294967295)
unfolding linkable
linkable_plain w e = test (leb w 63) (λ h. inl (leb-true w 63 h)) (λ h. inr (eqb-true w 4294967295 (rw h at e)))

pub plain_linkable : (w : ℕ) → (w ≤ 63) ⊎ (w ≡ 4294967295) → linkable w ≡ true
unfolding linkable
plain_linkable w (inl l) = rw (le-leb w 63 l)
plain_linkable w (inr e) = rw e

-- what is on the grid is finite
pub grid_finite : (w : ℕ) → on_grid (of_bits binary32 w) ≡ true → IsFinite w
unfolding on_grid
grid_finite w = by (of_bits binary32 w) refl
  where
    by : (x : Float) → of_bits binary32 w ≡ x → on_grid x ≡ true → IsFinite w
    by nan e h = clash h refl
    by (inf s) e h = clash h refl
    by (fin s m k) e h = record { sign = s; digits = m; exponent = k; value = e }

-- ---- a record that fits leaves a sound floor sound

right_of : (fl : List ℕ) → Sound fl → RightHeader fl
right_of fl s = ap (λ (a : Answer). a.number) (sound_header fl s.header)

sound_laid : (fl : List ℕ) (r : Rec) → Sound fl → Fits area_floor fl r → Sound (lay area_floor fl r)
sound_laid fl r s o =
    let right = right_of fl s in
    let header = header_sound (lay area_floor fl r) (lay_right fl r right o.inside) in
    fits_ways fl r right o
    (λ face m i w h e. paint_kept fl (lay area_floor fl r) face m s i (permitted_small _ m h).1 (sym (permitted_same _ m h)) header e)
    (λ entry w i l h e. link_kept fl (lay area_floor fl r) entry w s i (linkable_plain w h) header e)
    (λ place w i l h e. nudge_kept fl (lay area_floor fl r) place w s (omega arith) (grid_finite w h) header e)

laid : (fl : List ℕ) (r : Rec) → SoundFloor fl → Fits area_floor fl r → SoundFloor (lay area_floor fl r)
laid fl r a o = record { bytes = unfold lay in bytes_put_u32 fl _ r.new a.bytes; sound = sound_laid fl r a.sound o }

linked_of : (fl : List ℕ) (entry : ℕ) → SoundFloor fl → entry < (parts_of fl).edges → linkable (transition (parts_of fl) entry) ≡ true
linked_of fl entry a i = plain_linkable _ (a.sound.borders.transitions.each entry i)

pub sound_lawful : Lawful area_floor SoundFloor
sound_lawful = area_lawful SoundFloor (λ fl a. a.bytes) (λ fl a. right_of fl a.sound) linked_of laid

-- demand 3 for every sound floor, every journal and every run of calls
pub demand3_sound : (opening journal : List ℕ) → SoundFloor opening → (cs : List Call)
    → Demand3 area_floor SoundFloor opening (length journal) (run area_floor cs (lent opening journal 0)) (plain_run area_floor opening (length journal) cs [])
demand3_sound opening journal a cs = demand3 area_floor opening (length journal) SoundFloor sound_lawful a journal refl cs

-- ---- the same in the reader's words

-- what the reader accepts once, with whatever work memory, is sound
pub read_sound : (fl : List ℕ) (work : ℕ) → Bytes fl → (reader_verdict fl work).number ≡ 0 → SoundFloor fl
read_sound fl work y z = record { bytes = y; sound = accepted_sound fl work z }

-- the sound floors and the accepted ones are the same
pub sound_read : (fl : List ℕ) → SoundFloor fl → AcceptedFloor fl
sound_read fl a = record { bytes = a.bytes; read = λ work l. sound_accepted fl work l a.sound }

pub accepted_read : (fl : List ℕ) → AcceptedFloor fl → SoundFloor fl
accepted_read fl a = read_sound fl work_size a.bytes (ap (λ (v : Answer). v.number) (a.read work_size (omega arith)))

pub accepted_lawful : Lawful area_floor AcceptedFloor
accepted_lawful =
    area_lawful AcceptedFloor (λ fl a. a.bytes) (λ fl a. right_of fl (accepted_read fl a).sound)
    (λ fl entry a i. linked_of fl entry (accepted_read fl a) i)
    (λ fl r a o. sound_read (lay area_floor fl r) (laid fl r (accepted_read fl a) o))

-- DEMAND 3 for every floor that the reader accepts, every journal and every run of calls: the floor that is left is one that the reader
-- accepts
pub demand3_accepted : (opening journal : List ℕ) (work : ℕ) → Bytes opening → (reader_verdict opening work).number ≡ 0 → (cs : List Call)
    → Demand3 area_floor AcceptedFloor opening (length journal) (run area_floor cs (lent opening journal 0)) (plain_run area_floor opening (length journal) cs [])
demand3_accepted opening journal work y z cs =
    demand3 area_floor opening (length journal) AcceptedFloor accepted_lawful (sound_read opening (read_sound opening work y z)) journal refl cs

-- the reader's verdict on the floor that is left, with any work memory that is enough
pub edited_accepted : (opening journal : List ℕ) (work : ℕ) → Bytes opening → (reader_verdict opening work).number ≡ 0 → (cs : List Call)
    → (room : ℕ) → work_size ≤ room → reader_verdict (run area_floor cs (lent opening journal 0)).floor room ≡ accepted
edited_accepted opening journal work y z cs room l = (demand3_accepted opening journal work y z cs).accepted.read room l
