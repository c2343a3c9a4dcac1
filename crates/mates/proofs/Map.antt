-- The map of vertices in the work memory: of no vertex, of one more, and of all; what lies past the work memory stays. Assumes nothing.
use Prim.Native.Nat.{ℕ, ◌+◌, ◌*◌, ◌<◌, ◌≤◌}
use native.Mathlib.Omega.{arith}
use native.Mathlib.Decide.{ℕ_discrete}
use mathlib.Core.Path.{◌≡◌, sym, ap, subst, ◌∙◌}
use mathlib.Core.Logic.{inl}
use mathlib.Core.List.{List}
use lib.ListN.{length}
use Rattle.verdict.specs.Memory.{work_size, cleared_to, past, SamePast}
use Rattle.verdict.proofs.Bools.{decided}
use Rattle.verdict.proofs.Memory.{drop_cleared}
use Rattle.wire.specs.Bytes.{u16_at, put_u16}
use Rattle.wire.proofs.Short.{length_put_u16, u16_here, u16_other, drop_put_u16}
use Rattle.chains.specs.Chains.{with_last}
use Rattle.chains.proofs.Chains.{drop_last, chained_none, chained_as, chained_aside}
use Rattle.tables.specs.Parts.{Parts}
use Rattle.mesh.specs.Mesh.{Finite}
use Rattle.corners.specs.Corners.{lowest_same}
use Rattle.corners.specs.Memory.{map_at, top, SameTop}
use Rattle.corners.proofs.Corners.{top_at, lowest_le}
use Rattle.mates.specs.Keys.{point_chains, point_key}
use Rattle.mates.specs.Steps.{MappedTo}

pub past_cleared : (w y : List ℕ) → work_size ≤ length w → y ≡ cleared_to (2 * point_chains) w → SamePast y w
unfolding past
past_cleared w y l e = rw e (drop_cleared work_size (2 * point_chains) w (omega arith) (omega arith))

module _ (p : Parts) where
  pub mapped_none : (w y : List ℕ) → y ≡ cleared_to (2 * point_chains) w → MappedTo p y 0
  mapped_none w y e = rw e (record { chained = chained_none (point_key p) point_chains w; at = λ v l. absurd (omega arith) })

  -- vertex v mapped to m, then put last in chain k
  module _ (w y : List ℕ) (v m k : ℕ) (few : v < 4096) (long : work_size ≤ length w) (e : m ≡ lowest_same p v) (small : k < point_chains)
      (q : y ≡ with_last point_chains (put_u16 w (map_at + 2 * v) m) k v) where
    same_top : SameTop y (put_u16 w (map_at + 2 * v) m)
    unfolding top
    same_top = rw q (drop_last map_at point_chains (put_u16 w (map_at + 2 * v) m) k v small (omega arith))

    mapped_past : SamePast y w
    unfolding past
    mapped_past =
        rw q (drop_last work_size point_chains (put_u16 w (map_at + 2 * v) m) k v small (omega arith))
        ∙ drop_put_u16 work_size w (map_at + 2 * v) m (omega arith)

    mapped_more : m < 65536 → k ≡ point_key p v → MappedTo p w v → MappedTo p y (v + 1)
    mapped_more b j i = record {
      chained = chained_as (point_key p) point_chains (put_u16 w (map_at + 2 * v) m) y v k small (omega arith)
          (omega (arith, length_put_u16 w (map_at + 2 * v) m)) (chained_aside (point_key p) point_chains w v (map_at + 2 * v) m (omega arith) i.chained) j q;
      at = λ u l. ap (λ (t : List ℕ). u16_at t (2 * u)) same_top ∙ sym (top_at (put_u16 w (map_at + 2 * v) m) (2 * u)) ∙ read u l;
    }
      where
        read : (u : ℕ) → u < v + 1 → u16_at (put_u16 w (map_at + 2 * v) m) (map_at + 2 * u) ≡ lowest_same p u
        read u l =
            decided (ℕ_discrete u v)
            (λ z. subst (λ (x : ℕ). u16_at (put_u16 w (map_at + 2 * v) m) (map_at + 2 * x) ≡ lowest_same p x) (sym z) (u16_here w (map_at + 2 * v) m (omega arith) b ∙ e))
            (λ z. u16_other w (map_at + 2 * v) m (map_at + 2 * u) (inl (omega arith)) ∙ top_at w (2 * u) ∙ i.at u (omega arith))

  -- as the code does it
  pub mapped_step : (w x y : List ℕ) (v m k : ℕ) → Finite p → p.vertices ≤ 4096 → v < p.vertices → work_size ≤ length w → m ≡ lowest_same p v
      → (k ≡ point_key p v) × (k < point_chains) → x ≡ put_u16 w (map_at + 2 * v) m → y ≡ with_last point_chains x k v → MappedTo p w v
      → MappedTo p y (v + 1) × SamePast y w
  mapped_step w x y v m k f few l long e j a b i =
      let q : y ≡ with_last point_chains (put_u16 w (map_at + 2 * v) m) k v = cc in
      let n : v < 4096 = omega arith in
      (mapped_more w y v m k n long e j.1 q (omega (arith, lowest_le p f v l)) j.0 i, mapped_past w y v m k n long e j.1 q)
