-- The laws of numbers of four bytes: there and back, elsewhere, and the old number written back. Assumes nothing.
use mathlib.Core.Path.{◌≡◌, refl, sym, ◌∙◌}
use mathlib.Core.Logic.{◌⊎◌, inl, inr}
use Prim.Native.Nat.{ℕ, zero, suc, ◌+◌, ◌*◌, ◌/◌, ◌%◌, ◌≤◌, ◌<◌}
use mathlib.Core.List.{List, [], ◌∷◌, ◌++◌}
use native.Mathlib.Omega.{arith}
use native.Mathlib.Nat.{add-zero, add_assoc}
use native.Mathlib.Numerals.{add-one, add-two, add-three}
use lib.ListN.{length, get_or, set}
use lib.Seq.{set-get_or, get_or-append-add}
use Rattle.wire.specs.Bytes.{u32_at, u32_bytes, put, put_u32, Bytes}
use Rattle.wire.proofs.Put.{length_put, put_other, put_in, bytes_put}

-- four bytes as code stores them, one by one
pub four_stores : (b : List ℕ) (at x y z t : ℕ) → set (set (set (set b at x) (at + 1) y) (at + 2) z) (at + 3) t ≡ put b at (x ∷ y ∷ z ∷ t ∷ [])
unfolding put
four_stores b at x y z t = simp (add-one, add-two, add-three)

pub stores : (b : List ℕ) (at w : ℕ)
    → set (set (set (set b at (w % 256)) (at + 1) (w / 256 % 256)) (at + 2) (w / 256 / 256 % 256)) (at + 3) (w / 256 / 256 / 256 % 256) ≡ put_u32 b at w
unfolding u32_bytes
stores b at w = four_stores b at (w % 256) (w / 256 % 256) (w / 256 / 256 % 256) (w / 256 / 256 / 256 % 256)

pub length_u32 : (w : ℕ) → length (u32_bytes w) ≡ 4
unfolding u32_bytes
length_u32 w = refl

pub bytes_u32 : (w : ℕ) → Bytes (u32_bytes w)
unfolding u32_bytes
bytes_u32 w = record { byte = by }
  where
    by : (i : ℕ) → get_or (w % 256 ∷ w / 256 % 256 ∷ w / 256 / 256 % 256 ∷ w / 256 / 256 / 256 % 256 ∷ []) i 0 < 256
    by zero = omega arith
    by (suc zero) = omega arith
    by (suc (suc zero)) = omega arith
    by (suc (suc (suc zero))) = omega arith
    by (suc (suc (suc (suc i)))) = omega arith

-- ---- reading

-- four bytes that are the same make the same number
pub u32_same : (b d : List ℕ) (at from : ℕ) → ((i : ℕ) → i < 4 → get_or b (at + i) 0 ≡ get_or d (from + i) 0) → u32_at b at ≡ u32_at d from
unfolding u32_at
u32_same b d at from h =
    let h0 : get_or b at 0 ≡ get_or d from 0 = simp add-zero at (h 0 (omega arith)) in
    rw (h0, h 1 (omega arith), h 2 (omega arith), h 3 (omega arith))

-- past what stands before
pub u32_past : (pre b : List ℕ) (at : ℕ) → u32_at (pre ++ b) (length pre + at) ≡ u32_at b at
u32_past pre b at = u32_same (pre ++ b) b (length pre + at) at (λ i l. rw (add_assoc (length pre) at i) (get_or-append-add pre b (at + i) 0))

pub u32_small : (b : List ℕ) → Bytes b → (at : ℕ) → u32_at b at < 4294967296
unfolding u32_at
u32_small b h at = omega (arith, h.byte at, h.byte (at + 1), h.byte (at + 2), h.byte (at + 3))

-- a number is made of its bytes
pub spelled : (w : ℕ) → w < 4294967296 → w % 256 + 256 * (w / 256 % 256 + 256 * (w / 256 / 256 % 256 + 256 * (w / 256 / 256 / 256 % 256))) ≡ w
spelled w k = omega arith

-- and the bytes are those of the number that they make
pub unspelled : (a b c d : ℕ) → a < 256 → b < 256 → c < 256 → d < 256 → u32_bytes (a + 256 * (b + 256 * (c + 256 * d))) ≡ a ∷ b ∷ c ∷ d ∷ []
unfolding u32_bytes
unspelled a b c d ha hb hc hd =
    let n : ℕ = a + 256 * (b + 256 * (c + 256 * d)) in
    let d1 : n / 256 ≡ b + 256 * (c + 256 * d) = omega arith in
    let d2 : (b + 256 * (c + 256 * d)) / 256 ≡ c + 256 * d = omega arith in
    let d3 : (c + 256 * d) / 256 ≡ d = omega arith in
    let e0 : n % 256 ≡ a = omega arith in
    let e1 : (b + 256 * (c + 256 * d)) % 256 ≡ b = omega arith in
    let e2 : (c + 256 * d) % 256 ≡ c = omega arith in
    let e3 : d % 256 ≡ d = omega arith in
    simp (d1, d2, d3, e0, e1, e2, e3)

-- ---- writing

pub length_put_u32 : (b : List ℕ) (at w : ℕ) → length (put_u32 b at w) ≡ length b
length_put_u32 b at w = length_put (u32_bytes w) b at

-- a byte elsewhere, and a number elsewhere
pub byte_other : (b : List ℕ) (at w i : ℕ) → (i < at) ⊎ (at + 4 ≤ i) → get_or (put_u32 b at w) i 0 ≡ get_or b i 0
byte_other b at w i h = put_other (u32_bytes w) b at i (rw (length_u32 w) h)

pub u32_other : (b : List ℕ) (at w i : ℕ) → (i + 4 ≤ at) ⊎ (at + 4 ≤ i) → u32_at (put_u32 b at w) i ≡ u32_at b i
u32_other b at w i (inl h) = u32_same (put_u32 b at w) b i i (λ j l. byte_other b at w (i + j) (inl (omega arith)))
u32_other b at w i (inr h) = u32_same (put_u32 b at w) b i i (λ j l. byte_other b at w (i + j) (inr (omega arith)))

-- the number itself, read back
pub u32_here : (b : List ℕ) (at w : ℕ) → at + 4 ≤ length b → w < 4294967296 → u32_at (put_u32 b at w) at ≡ w
unfolding u32_at u32_bytes
u32_here b at w h k =
    let v : List ℕ = w % 256 ∷ w / 256 % 256 ∷ w / 256 / 256 % 256 ∷ w / 256 / 256 / 256 % 256 ∷ [] in
    let e0 : get_or (put b at v) at 0 ≡ w % 256 = rw add-zero at (put_in v b at 0 (omega arith) (omega arith)) in
    rw (
      e0,
      put_in v b at 1 (omega arith) (omega arith),
      put_in v b at 2 (omega arith) (omega arith),
      put_in v b at 3 (omega arith) (omega arith),
    )
    (spelled w k)

-- the old number written back restores the bytes
pub put_back : (b : List ℕ) (at : ℕ) → Bytes b → put_u32 b at (u32_at b at) ≡ b
unfolding u32_at
put_back b at h =
    rw (unspelled (get_or b at 0) (get_or b (at + 1) 0) (get_or b (at + 2) 0) (get_or b (at + 3) 0) (h.byte at) (h.byte (at + 1)) (h.byte (at + 2)) (h.byte (at + 3)))
    (sym (four_stores b at (get_or b at 0) (get_or b (at + 1) 0) (get_or b (at + 2) 0) (get_or b (at + 3) 0)) ∙ simp set-get_or)

pub bytes_put_u32 : (b : List ℕ) (at w : ℕ) → Bytes b → Bytes (put_u32 b at w)
bytes_put_u32 b at w h = bytes_put (u32_bytes w) b at h (bytes_u32 w)
