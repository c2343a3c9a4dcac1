-- What mending knows from step to step: after the rules, and after the rings and the notes. Assumes nothing.
use Prim.Native.Nat.{ℕ, ◌+◌, ◌%◌, ◌<◌, ◌≤◌}
use native.Mathlib.Omega.{arith}
use mathlib.Core.Path.{◌≡◌, sym, ap, subst, ◌∙◌}
use mathlib.Core.List.{List}
use lib.ListN.{length, get_or}
use lib.Seq.{get_or-take}
use Rattle.verdict.specs.Verdict.{◌then◌}
use Rattle.verdict.specs.Memory.{work_size}
use Rattle.verdict.proofs.Verdict.{passed}
use Rattle.wire.specs.Bytes.{u16_at}
use Rattle.tables.specs.Parts.{parts_of}
use Rattle.fixed.specs.Written.{numbers_of}
use Rattle.fixed.specs.declared.Numbers.{Numbers}
use Rattle.mesh.specs.Faces.{rule8}
use Rattle.mesh.proofs.Plain.{all_cornered}
use Rattle.pairs.specs.Halves.{rule15}
use Rattle.floor.specs.Groups.{rules1to15}
use Rattle.floor.proofs.Meaning.{Early, early_met}
use Rattle.corners.specs.Corners.{relinked, recornered}
use Rattle.corners.specs.Memory.{SameTop, Mapped, mates_at}
use Rattle.mates.specs.Steps as mates
use Rattle.rings.specs.Rings.{edge_list, end_list}
use Rattle.follow.specs.Memory.{mark, edge_place, edges_in, ends_in}
use Rattle.follow.specs.Ready.{web_in, Ready}
use Rattle.follow.proofs.Numbers.{length_edges, edges_same, ends_same}
use Rattle.kept.specs.Notes.{SameBelow, AllNoted}
use Rattle.seams.specs.Mended.{mended}
use Rattle.seams.proofs.Order.{run_met}
use Rattle.mending.specs.Worked.{Worked}

-- ---- after the rules

pub early_of : (b : List ℕ) → (rules1to15 b).number ≡ 0 → Early b
unfolding rules1to15
early_of b z = early_met b (passed _ _ z).0

pub ready_of : (b w : List ℕ) → Early b → work_size ≤ length w → (rule8 (recornered (parts_of b)) then rule15 (recornered (parts_of b))).number ≡ 0 → mates.Ready (parts_of b) w → Ready b w
ready_of b w e long z r =
    let k = passed _ _ z in
    record {
      right = e.header;
      cornered = e.mesh.cornered;
      mended = all_cornered (recornered (parts_of b)) k.0;
      apart = run_met (recornered (parts_of b)) k.1;
      long = long;
      mapped = r.mapped;
      mated = r.mated;
    }

-- ---- after the rings and the notes

below_at : (v w : List ℕ) (at : ℕ) → at + 2 ≤ mates_at → SameBelow v w → u16_at v at ≡ u16_at w at
unfolding u16_at
below_at v w at l e =
    let byte : (i : ℕ) → i < mates_at → get_or v i 0 ≡ get_or w i 0 = λ i m. sym (get_or-take mates_at v i 0 m) ∙ ap (λ (x : List ℕ). get_or x i 0) e ∙ get_or-take mates_at w i 0 m in
    rw (byte at (omega arith), byte (at + 1) (omega arith))

module _ (b w v : List ℕ) (e : ℕ) (few : e ≤ 12288) (below : SameBelow v w) where
  same_edge : (i : ℕ) → i < e → u16_at v (edge_place i) ≡ u16_at w (edge_place i)
  same_edge i l = below_at v w (edge_place i) (omega arith) below

  pub worked_of : Ready b w → edges_in w e ≡ edge_list (web_in b) → ends_in w e ≡ end_list (web_in b) → length v ≡ length w → SameTop v w → AllNoted (parts_of b) v → Worked b v e
  worked_of r edges ends long same notes = record {
    right = r.right;
    cornered = r.cornered;
    mended = r.mended;
    apart = r.apart;
    long = omega (arith, r.long);
    mapped = subst (Mapped (parts_of b)) (sym same) r.mapped;
    noted = notes;
    edges = edges_same w v e (λ i l. ap (λ (x : ℕ). x % mark) (same_edge i l)) ∙ edges;
    ends = ends_same w v e same_edge ∙ ends;
    few = few;
  }

pub edge_number : (b w : List ℕ) (e : ℕ) → edges_in w e ≡ edge_list (web_in b) → e ≡ length (edge_list (web_in b))
edge_number b w e q = sym (length_edges w e) ∙ ap length q

-- the mended floor's counts
pub counts_of : (b : List ℕ) (n : Numbers) (e r : ℕ) → n ≡ numbers_of (parts_of b) → e ≡ length (edge_list (web_in b)) → r ≡ length (end_list (web_in b))
    → record { vertices = n.vertices; faces = n.faces; nodes = n.nodes; root = n.root; adjacency = n.adjacency; edges = e; perimeters = r } ≡ numbers_of (mended (parts_of b))
unfolding numbers_of mended relinked
counts_of b n e r q f g = rw (q, f, g)
