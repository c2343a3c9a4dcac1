-- Printers, one after the other; a dry run; and what a printer leaves. Assumes nothing.
use mathlib.Core.Path.{◌≡◌, refl, sym, ap, ◌∙◌}
use mathlib.Core.List.{List, [], ◌∷◌, ◌++◌}
use Prim.Native.Nat.{ℕ, suc, ◌+◌, ◌*◌, ◌<◌, ◌≤◌}
use native.Mathlib.Nat.{add-zero}
use native.Mathlib.Omega.{arith}
use lib.ListN.{length, take, drop, set, get_or, length-append}
use lib.Seq.{take-suc, take_all}
use native.Mathlib.Numerals.{add-one}
use Rattle.wire.specs.Bytes.{put}
use Rattle.wire.proofs.Put.{length_put, put_append, put_is}
use Rattle.printer.specs.Write.{Wrote}

pub wrote_none : (l : List ℕ) (i : ℕ) → Wrote l l i i []
unfolding put
wrote_none l i = record { next = sym (add-zero i); holds = refl }

pub wrote_then : {a b c : List ℕ} {i j k : ℕ} {xs ys : List ℕ} → Wrote a b i j xs → Wrote b c j k ys → Wrote a c i k (xs ++ ys)
wrote_then {a} {b} {c} {i} {j} {k} {xs} {ys} p q = record {
  next = omega (arith, p.next, q.next, length-append xs ys);
  holds = q.holds ∙ rw (p.holds, p.next) (sym (put_append xs ys a i));
}

-- a printer keeps the length
pub wrote_long : {a b : List ℕ} {i j : ℕ} {xs : List ℕ} → Wrote a b i j xs → length b ≡ length a
wrote_long {a} {b} {i} {j} {xs} p = ap length p.holds ∙ length_put xs a i

-- one byte, with room and without
pub wrote_byte : (l : List ℕ) (i b : ℕ) → Wrote l (set l i b) i (i + 1) (b ∷ [])
unfolding put
wrote_byte l i b = record { next = refl; holds = refl }

-- the bytes of a word, one by one
module _ {a b : List ℕ} {at e : ℕ} (w : List ℕ) (i : ℕ) (p : Wrote a b at e (take i w)) (h : i < length w) where
  pub wrote_more : {c : List ℕ} {k x : ℕ} → Wrote b c e k (x ∷ []) → x ≡ get_or w i 0 → Wrote a c at k (take (i + 1) w)
  wrote_more {c} {k} {x} q z = rw (add-one i, take-suc w i 0 h, ← z) (wrote_then p q)

pub wrote_all : {a b : List ℕ} {at e : ℕ} (w : List ℕ) (i : ℕ) → Wrote a b at e (take i w) → length w ≤ i → Wrote a b at e w
wrote_all w i p h = rw (take_all i w h) at p

-- nothing is written where there is no room: the end alone is told
pub dry : (i : ℕ) (xs : List ℕ) → put [] i xs ≡ []
unfolding put
dry i [] = refl
dry i (x ∷ xs) = dry (suc i) xs

pub dry_run : {part : List ℕ} {i j : ℕ} {xs : List ℕ} → Wrote [] part i j xs → part ≡ []
dry_run {part} {i} {j} {xs} p = p.holds ∙ dry i xs

-- where there is room: the bytes, and what stood behind them
pub wrote_whole : {a b : List ℕ} {j : ℕ} {xs : List ℕ} → Wrote a b 0 j xs → length xs ≤ length a → b ≡ xs ++ drop (length xs) a
wrote_whole {a} {b} {j} {xs} p h =
    let k : 0 + length xs ≡ length xs = omega arith in
    p.holds ∙ put_is xs a 0 (omega arith) ∙ rw k

-- the bytes that were written, said in another way
pub wrote_is : {a b : List ℕ} {i j : ℕ} {xs : List ℕ} (ys : List ℕ) → Wrote a b i j xs → xs ≡ ys → Wrote a b i j ys
wrote_is ys w e = rw e at w

-- a printer that puts n things one after the other, at most `per` bytes each, has put the first j, which are these bytes
pub record Printing (old new : List ℕ) (at e per j n : ℕ) (bytes : List ℕ) : Type 0 where
  pub few : j ≤ n
  pub bound : e ≤ at + per * j
  pub wrote : Wrote old new at e bytes
