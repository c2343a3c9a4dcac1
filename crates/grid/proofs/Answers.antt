-- Laws of the answers: what a branch of the code has shown, as its answer; and an answer read off. Assumes nothing.
use Prim.Native.Nat.{ℕ, ◌≤◌}
use mathlib.Core.Path.{◌≡◌, refl, sym, subst, ◌∙◌}
use native.Mathlib.Nat.{le_trans, le_of_eq}
use mathlib.Core.Bool.{Bool, true, false, cond}
use lib.IntN.{ℤ, pos, nat_abs}
use lib.Ieee.{binary32, of_bits}
use lib.Dec.{leb}
use borrow.Author.Tests.{leb-true}
use Rattle.std.specs.Prelude.{Option, Some, None, is_some, IfSome, unwrap_or, option_map}
use Rattle.std.specs.Bool.{then_some}
use Rattle.std.proofs.lemmas.Option.{cond_some}
use Rattle.wire.specs.Signed.{Within}
use Rattle.wire.proofs.Signed.{abs_neg}
use Rattle.grid.specs.Grid.{signed, on_grid, size64, scaled, within, may_nudge, nudge_bits}
use Rattle.grid.specs.Answers.{size_at, scaled_at, nudged_at}
use Rattle.grid.proofs.Patterns.{scaled_bits}
use Rattle.grid.proofs.Grid.{on_small}

-- there is a value exactly where the test says so
is_some_cond : {A : Type 0} (t : Bool) (x : A) → is_some (cond t (Some x) None) ≡ t
is_some_cond true x = refl
is_some_cond false x = refl

-- ---- what a branch of the code has shown, as its answer
pub size_on : (b n : ℕ) → (on_grid (of_bits binary32 b) ≡ true) × (size64 (of_bits binary32 b) ≡ n) → size_at b ≡ Some n
unfolding size_at
size_on b n h = simp (h.0, h.1)

pub size_off : (b : ℕ) → on_grid (of_bits binary32 b) ≡ false → size_at b ≡ None
unfolding size_at
size_off b h = simp h

-- a size that a test lets through
pub size_by : (b : ℕ) (t : Bool) (n : ℕ) → (t ≡ true → (on_grid (of_bits binary32 b) ≡ true) × (size64 (of_bits binary32 b) ≡ n)) → (t ≡ false → on_grid (of_bits binary32 b) ≡ false) → then_some t n ≡ size_at b
size_by b true n on off = sym (size_on b n (on refl))
size_by b false n on off = sym (size_off b (off refl))

-- and one that it does not
pub size_no : (b : ℕ) (t : Bool) (n : ℕ) → t ≡ false → on_grid (of_bits binary32 b) ≡ false → then_some t n ≡ size_at b
size_no b t n e off = rw e (sym (size_off b off))

-- ---- what size_of answers, read off
pub size_some : (b : ℕ) → is_some (size_at b) ≡ on_grid (of_bits binary32 b)
unfolding size_at
size_some b = is_some_cond _ _

-- a size is at most 65,536
pub size_small : (b n : ℕ) → size_at b ≡ Some n → n ≤ 65536
unfolding size_at
size_small b n e = let h = cond_some _ _ _ e in subst (λ (k : ℕ). k ≤ 65536) h.1 (rw h.0 at (on_small (of_bits binary32 b)))

-- ---- what scaled_of answers: the size with the sign
pub scaled_is : (b : ℕ) → scaled_at b ≡ option_map (signed (leb 2147483648 b)) (size_at b)
unfolding scaled_at size_at
scaled_is b = simp scaled_bits (inside (on_grid (of_bits binary32 b)) (leb 2147483648 b) (size64 (of_bits binary32 b)))
  where
    inside : (t s : Bool) (k : ℕ) → cond t (Some (signed s k)) None ≡ option_map (signed s) (cond t (Some k) None)
    inside true s k = refl
    inside false s k = refl

pub scaled_none : (b : ℕ) → size_at b ≡ None → scaled_at b ≡ None
scaled_none b e = rw (scaled_is b, e)

pub scaled_some : (b n : ℕ) (s : Bool) → size_at b ≡ Some n → leb 2147483648 b ≡ s → scaled_at b ≡ Some (signed s n)
scaled_some b n s e t = rw (scaled_is b, e, t)

pub on_is : (b : ℕ) → is_some (scaled_at b) ≡ on_grid (of_bits binary32 b)
unfolding scaled_at
on_is b = is_some_cond _ _

-- on the grid it is the scaled number
pub v_on : (b : ℕ) → on_grid (of_bits binary32 b) ≡ true → scaled_at b ≡ Some (scaled (of_bits binary32 b))
unfolding scaled_at
v_on b h = simp h

pub v_is : (b : ℕ) (z : ℤ) → scaled_at b ≡ Some z → z ≡ scaled (of_bits binary32 b)
unfolding scaled_at
v_is b z e = sym (cond_some _ _ _ e).1

-- which is small
pub v_small : (b : ℕ) (z : ℤ) → scaled_at b ≡ Some z → Within 65536 z
v_small b z e = go (leb 2147483648 b) (size_at b) (size_small b) (sym (scaled_is b) ∙ e)
  where
    abs : (s : Bool) (n : ℕ) → nat_abs (signed s n) ≡ n
    abs true n = abs_neg (pos n)
    abs false n = refl

    go : (s : Bool) (o : Option ℕ) → ((n : ℕ) → o ≡ Some n → n ≤ 65536) → option_map (signed s) o ≡ Some z → Within 65536 z
    go s None h k = absurd (cc)
    go s (Some n) h k = let q : signed s n ≡ z = cc in subst (λ (v : ℤ). Within 65536 v) q (record { le = le_trans (le_of_eq (abs s n)) (h n refl) })

-- ---- what nudge answers
pub nudge_yes : (b : ℕ) (n : ℤ) (r : ℕ) → may_nudge b n ≡ true → r ≡ nudge_bits b n → nudged_at b n ≡ Some r
unfolding nudged_at
nudge_yes b n r h e = simp (h, e)

pub nudge_no : (b : ℕ) (n : ℤ) → may_nudge b n ≡ false → nudged_at b n ≡ None
unfolding nudged_at
nudge_no b n h = simp h

-- the bits that were worked out where a test says that the nudge may be made
pub nudged_by : (b : ℕ) (n : ℤ) (t : Bool) (o : Option ℕ) → t ≡ may_nudge b n → is_some o ≡ t → IfSome o (λ r. r ≡ nudge_bits b n) → o ≡ nudged_at b n
nudged_by b n t None h e k = sym (nudge_no b n (sym h ∙ sym e))
nudged_by b n t (Some r) h e k = sym (nudge_yes b n r (sym h ∙ sym e) k)

pub ok_is : (b : ℕ) (n : ℤ) → is_some (nudged_at b n) ≡ may_nudge b n
unfolding nudged_at
ok_is b n = is_some_cond _ _

-- the bits after it where it may be made, and otherwise the old ones where a caller takes those
pub bits_moved : (b : ℕ) (n : ℤ) (d : ℕ) → may_nudge b n ≡ true → unwrap_or (nudged_at b n) d ≡ nudge_bits b n
bits_moved b n d h = rw (nudge_yes b n (nudge_bits b n) h refl)

pub bits_kept : (b : ℕ) (n : ℤ) → may_nudge b n ≡ false → unwrap_or (nudged_at b n) b ≡ b
bits_kept b n h = rw (nudge_no b n h)

-- what is_within answers, as a bound
pub within_bound : (k : ℕ) (z : ℤ) → within k z ≡ true → Within k z
within_bound k z h = record { le = leb-true (nat_abs z) k h }
