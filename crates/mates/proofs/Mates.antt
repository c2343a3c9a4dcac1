-- What is kept of half-edges: by what the search for the opposite way found, of none, of one more, and of all. Assumes nothing.
use Prim.Native.Nat.{ℕ, ◌+◌, ◌<◌, ◌≤◌}
use native.Mathlib.Omega.{arith}
use native.Mathlib.Decide.{ℕ_discrete}
use mathlib.Core.Path.{◌≡◌, refl, sym, subst}
use mathlib.Core.Bool.{true}
use mathlib.Core.Logic.{inl}
use mathlib.Core.List.{List}
use lib.ListN.{length}
use Rattle.std.specs.Prelude.{Option, Some, None, unwrap_or}
use Rattle.verdict.specs.Memory.{work_size}
use Rattle.verdict.proofs.Bools.{clash, decided}
use Rattle.wire.specs.Bytes.{u16_at, put_u16}
use Rattle.wire.proofs.Short.{u16_here, u16_other, drop_put_u16}
use Rattle.chains.specs.Chains.{one_more, Chained, Found}
use Rattle.chains.proofs.Chains.{chained_aside}
use Rattle.chains.proofs.Walk.{at_some}
use Rattle.tables.specs.Parts.{Parts}
use Rattle.pairs.specs.Halves.{halves, from, to, runs}
use Rattle.pairs.specs.Plain.{Opposite, Apart}
use Rattle.pairs.proofs.Paired.{runs_true, true_runs, partner_only, border_of, border_to}
use Rattle.corners.specs.Memory.{map_at, top, SameTop, mate_place, loose, Mated}
use Rattle.mates.specs.Keys.{run_chains}
use Rattle.mates.specs.Steps.{IsMate, MatedTo}

-- what the code's search for the opposite way found
pub opposite_found : (q : Parts) (h a b n g : ℕ) → a ≡ from q h → b ≡ to q h → n ≡ halves q → Found (runs q b a) n g
    → Found (runs q (to q h) (from q h)) (halves q) g
opposite_found q h a b n g e f m i = rw (e, f, m) at i

module _ (q : Parts) (few : halves q ≤ 12288) (h : ℕ) (b : h < halves q) where
  -- the one that runs the opposite way is the partner, for no other does; where none does, it is a border
  pub mate_kept : (o : Option ℕ) → Apart q → Found (runs q (to q h) (from q h)) (halves q) (one_more o) → IsMate q h (unwrap_or o loose)
  mate_kept (Some g) apart i =
      let s = at_some (Some g) g refl in
      let r = runs_true q (to q h) (from q h) g (subst (λ (j : ℕ). runs q (to q h) (from q h) j ≡ true) s.1 (i.holds s.0)) in
      let o : Opposite q g h = record { there = r.0; back = r.1 } in
      let l : g < halves q = omega (arith, i.within) in
      record {
        paired = λ e. sym (partner_only q apart g h l o);
        alone = λ e. absurd ((border_of q h e).alone.none g l o);
        small = omega (arith, l, few);
      }
  mate_kept None apart i = record {
    paired = λ e.
        clash (border_to q h (record { inside = b; alone = record { none = λ k l o. clash (true_runs q (to q h) (from q h) k o.there o.back) (i.none (omega arith) k l) } })) e;
    alone = λ e. omega arith;
    small = omega arith;
  }

-- ---- in the memory

pub mated_all : (q : Parts) (w : List ℕ) (s : ℕ) → halves q ≤ s → MatedTo q w s → Mated q w
mated_all q w s l m = record { partners = λ h b. (m.at h (omega arith)).paired; borders = λ h b. (m.at h (omega arith)).alone }

module _ (w y : List ℕ) (h m : ℕ) (few : h < 12288) (e : y ≡ put_u16 w (mate_place h) m) where
  pub mated_more : (q : Parts) → work_size ≤ length w → IsMate q h m → MatedTo q w h → MatedTo q y (h + 1)
  mated_more q long k i = record { at = λ u l. rw e (here u l) }
    where
      here : (u : ℕ) → u < h + 1 → IsMate q u (u16_at (put_u16 w (mate_place h) m) (mate_place u))
      here u l =
          decided (ℕ_discrete u h)
          (λ z. subst (λ (x : ℕ). IsMate q x (u16_at (put_u16 w (mate_place h) m) (mate_place x))) (sym z)
          (subst (λ (x : ℕ). IsMate q h x) (sym (u16_here w (mate_place h) m (omega arith) k.small)) k))
          (λ z. subst (λ (x : ℕ). IsMate q u x) (sym (u16_other w (mate_place h) m (mate_place u) (inl (omega arith)))) (i.at u (omega arith)))

  -- the chains lie before what is kept, and the map behind it
  pub chains_mate : (key : ℕ → ℕ) (s : ℕ) → s ≤ 12288 → Chained run_chains key w s → Chained run_chains key y s
  chains_mate key s l c = subst (λ (t : List ℕ). Chained run_chains key t s) (sym e) (chained_aside key run_chains w s (mate_place h) m (omega arith) c)

  pub top_mate : SameTop y w
  unfolding top
  top_mate = rw e (drop_put_u16 map_at w (mate_place h) m (omega arith))
