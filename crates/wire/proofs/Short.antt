-- The laws of numbers of two bytes: there and back, elsewhere, and what lies past a place. Assumes nothing.
use mathlib.Core.Path.{◌≡◌, refl, sym, ap, ◌∙◌}
use mathlib.Core.Logic.{◌⊎◌, inl, inr}
use Prim.Native.Nat.{ℕ, ◌+◌, ◌/◌, ◌%◌, ◌≤◌, ◌<◌}
use mathlib.Core.List.{List, [], ◌∷◌}
use native.Mathlib.Omega.{arith}
use native.Mathlib.Nat.{add-zero}
use native.Mathlib.Numerals.{add-one}
use lib.ListN.{length, get_or, set, take, drop}
use lib.Seq.{get_or-drop, drop-set-lt, take-set-le}
use Rattle.wire.specs.Bytes.{u16_at, u16_bytes, put, put_u16}
use Rattle.wire.proofs.Put.{length_put, put_other, put_in}

-- two bytes as code stores them, one by one
pub two_stores : (b : List ℕ) (at w : ℕ) → set (set b at (w % 256)) (at + 1) (w / 256 % 256) ≡ put_u16 b at w
unfolding u16_bytes put
two_stores b at w = simp add-one

pub length_u16 : (w : ℕ) → length (u16_bytes w) ≡ 2
unfolding u16_bytes
length_u16 w = refl

pub length_put_u16 : (b : List ℕ) (at w : ℕ) → length (put_u16 b at w) ≡ length b
length_put_u16 b at w = length_put (u16_bytes w) b at

-- the number itself, read back
pub u16_here : (b : List ℕ) (at w : ℕ) → at + 2 ≤ length b → w < 65536 → u16_at (put_u16 b at w) at ≡ w
unfolding u16_at u16_bytes
u16_here b at w h k =
    let v : List ℕ = w % 256 ∷ w / 256 % 256 ∷ [] in
    let low : get_or (put b at v) at 0 ≡ w % 256 = rw add-zero at (put_in v b at 0 (omega arith) (omega arith)) in
    rw (low, put_in v b at 1 (omega arith) (omega arith)) (omega arith)

-- a number elsewhere
pub u16_other : (b : List ℕ) (at w i : ℕ) → (i + 2 ≤ at) ⊎ (at + 2 ≤ i) → u16_at (put_u16 b at w) i ≡ u16_at b i
unfolding u16_at
u16_other b at w i h = rw (byte i (low h), byte (i + 1) (high h))
  where
    byte : (j : ℕ) → (j < at) ⊎ (at + 2 ≤ j) → get_or (put_u16 b at w) j 0 ≡ get_or b j 0
    byte j q = put_other (u16_bytes w) b at j (rw (length_u16 w) q)

    low : (i + 2 ≤ at) ⊎ (at + 2 ≤ i) → (i < at) ⊎ (at + 2 ≤ i)
    low (inl q) = inl (omega arith)
    low (inr q) = inr q

    high : (i + 2 ≤ at) ⊎ (at + 2 ≤ i) → (i + 1 < at) ⊎ (at + 2 ≤ i + 1)
    high (inl q) = inl (omega arith)
    high (inr q) = inr (omega arith)

-- what lies past a place behind the number is kept
pub drop_put_u16 : (n : ℕ) (b : List ℕ) (at w : ℕ) → at + 2 ≤ n → drop n (put_u16 b at w) ≡ drop n b
drop_put_u16 n b at w h =
    ap (drop n) (sym (two_stores b at w)) ∙ drop-set-lt n (set b at (w % 256)) (at + 1) (w / 256 % 256) (omega arith)
    ∙ drop-set-lt n b at (w % 256) (omega arith)

-- what lies before the number is kept
pub take_put_u16 : (n : ℕ) (b : List ℕ) (at w : ℕ) → n ≤ at → take n (put_u16 b at w) ≡ take n b
take_put_u16 n b at w h =
    ap (take n) (sym (two_stores b at w)) ∙ take-set-le n (set b at (w % 256)) (at + 1) (w / 256 % 256) (omega arith)
    ∙ take-set-le n b at (w % 256) h

-- a number past a place, read in what lies past it
pub u16_drop : (n : ℕ) (b : List ℕ) (at : ℕ) → u16_at b (n + at) ≡ u16_at (drop n b) at
unfolding u16_at
u16_drop n b at =
    let e : n + at + 1 ≡ n + (at + 1) = omega arith in
    rw (get_or-drop n b at 0, get_or-drop n b (at + 1) 0, e)
