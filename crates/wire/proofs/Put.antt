-- The laws of `put`: length, reading back, other places, writing again, and that two writes that share no byte may change places.
-- Assumes nothing.
use mathlib.Core.Path.{◌≡◌, refl, sym, ap, ◌∙◌}
use mathlib.Core.Logic.{◌⊎◌, inl, inr}
use Prim.Native.Nat.{ℕ, zero, suc, ◌+◌, ◌≤◌, ◌<◌}
use mathlib.Core.List.{List, [], ◌∷◌, ◌++◌}
use native.Mathlib.Omega.{arith}
use native.Mathlib.Nat.{suc-add, add-suc, add-zero}
use lib.ListN.{length, get_or, set, length-set, take, drop}
use lib.Seq.{set-set, set_comm, get_or-set_same, get_or-set_other, sets, sets-eq}
use Rattle.wire.specs.Bytes.{put, Bytes}

pub length_put : (vs b : List ℕ) (at : ℕ) → length (put b at vs) ≡ length b
unfolding put
length_put [] b at = refl
length_put (v ∷ vs) b at = length_put vs (set b at v) (suc at) ∙ length-set b at v

-- a byte below the place, above what was written, and elsewhere
pub put_below : (vs b : List ℕ) (at i : ℕ) → i < at → get_or (put b at vs) i 0 ≡ get_or b i 0
unfolding put
put_below [] b at i h = refl
put_below (v ∷ vs) b at i h = put_below vs (set b at v) (suc at) i (omega arith) ∙ get_or-set_other b at i v 0 (λ e. omega arith)

pub put_above : (vs b : List ℕ) (at i : ℕ) → at + length vs ≤ i → get_or (put b at vs) i 0 ≡ get_or b i 0
unfolding put
put_above [] b at i h = refl
put_above (v ∷ vs) b at i h =
    put_above vs (set b at v) (suc at) i (omega (arith, suc-add at (length vs), add-suc at (length vs)))
    ∙ get_or-set_other b at i v 0 (λ e. omega (arith, add-suc at (length vs)))

pub put_other : (vs b : List ℕ) (at i : ℕ) → (i < at) ⊎ (at + length vs ≤ i) → get_or (put b at vs) i 0 ≡ get_or b i 0
put_other vs b at i (inl h) = put_below vs b at i h
put_other vs b at i (inr h) = put_above vs b at i h

-- a byte that was written
pub put_in : (vs b : List ℕ) (at i : ℕ) → i < length vs → at + i < length b → get_or (put b at vs) (at + i) 0 ≡ get_or vs i 0
unfolding put
put_in [] b at i h l = absurd (let z : ◌<◌ i 0 = h in omega arith)
put_in (v ∷ vs) b at zero h l = rw add-zero (put_below vs (set b at v) (suc at) at (omega arith) ∙ get_or-set_same b at v 0 (omega arith))
put_in (v ∷ vs) b at (suc i) h l =
    rw (add-suc, ← suc-add) (put_in vs (set b at v) (suc at) i (omega arith) (rw length-set (omega (arith, suc-add at i, add-suc at i))))

-- one store below a write may come first
pub set_put : (vs b : List ℕ) (at i v : ℕ) → i < at → set (put b at vs) i v ≡ put (set b i v) at vs
unfolding put
set_put [] b at i v h = refl
set_put (w ∷ vs) b at i v h =
    set_put vs (set b at w) (suc at) i v (omega arith) ∙ ap (λ (l : List ℕ). put l (suc at) vs) (set_comm b at i w v (λ e. omega arith))

-- of two writes of one length at one place the later one counts
pub put_put : (vs ws b : List ℕ) (at : ℕ) → length vs ≡ length ws → put (put b at vs) at ws ≡ put b at ws
unfolding put
put_put [] [] b at e = refl
put_put [] (w ∷ ws) b at e = absurd (let z : ◌≡◌ {A = ℕ} 0 (suc (length ws)) = e in omega arith)
put_put (v ∷ vs) [] b at e = absurd (let z : ◌≡◌ {A = ℕ} (suc (length vs)) 0 = e in omega arith)
put_put (v ∷ vs) (w ∷ ws) b at e =
    ap (λ (l : List ℕ). put l (suc at) ws) (set_put vs (set b at v) (suc at) at w (omega arith) ∙ ap (λ (l : List ℕ). put l (suc at) vs) (set-set b at v w))
    ∙ put_put vs ws (set b at w) (suc at) (omega arith)

-- two writes that share no place may change places
pub put_comm : (vs ws b : List ℕ) (at by : ℕ) → at + length vs ≤ by → put (put b at vs) by ws ≡ put (put b by ws) at vs
unfolding put
put_comm [] ws b at by h = refl
put_comm (v ∷ vs) ws b at by h =
    put_comm vs ws (set b at v) (suc at) by (omega (arith, suc-add at (length vs), add-suc at (length vs)))
    ∙ ap (λ (l : List ℕ). put l (suc at) vs) (sym (set_put ws b by at v (omega (arith, add-suc at (length vs)))))

-- a write in two parts
pub put_append : (vs ws b : List ℕ) (at : ℕ) → put b at (vs ++ ws) ≡ put (put b at vs) (at + length vs) ws
unfolding put
put_append [] ws b at = rw add-zero
put_append (v ∷ vs) ws b at = rw (add-suc, ← suc-add) (put_append vs ws (set b at v) (suc at))

-- where there is room, a write is what stands before it, the bytes, and what stands behind them
put_sets : (vs b : List ℕ) (at : ℕ) → put b at vs ≡ sets b at vs
unfolding put
put_sets [] b at = refl
put_sets (v ∷ vs) b at = put_sets vs (set b at v) (suc at)

pub put_is : (vs b : List ℕ) (at : ℕ) → at + length vs ≤ length b → put b at vs ≡ take at b ++ vs ++ drop (at + length vs) b
put_is vs b at h = put_sets vs b at ∙ sets-eq vs b at h

-- ---- bytes stay bytes

pub bytes_set : (b : List ℕ) (at v : ℕ) → Bytes b → v < 256 → Bytes (set b at v)
bytes_set b at v h l = record { byte = by b at h.byte }
  where
    by : (b : List ℕ) (at : ℕ) → ((i : ℕ) → get_or b i 0 < 256) → (i : ℕ) → get_or (set b at v) i 0 < 256
    by [] at f i = f i
    by (x ∷ b) zero f zero = l
    by (x ∷ b) zero f (suc i) = f (suc i)
    by (x ∷ b) (suc at) f zero = f zero
    by (x ∷ b) (suc at) f (suc i) = by b at (λ j. f (suc j)) i

pub bytes_put : (vs b : List ℕ) (at : ℕ) → Bytes b → Bytes vs → Bytes (put b at vs)
unfolding put
bytes_put [] b at h k = h
bytes_put (v ∷ vs) b at h k = bytes_put vs (set b at v) (suc at) (bytes_set b at v h (k.byte 0)) (record { byte = λ i. k.byte (suc i) })
