-- The laws of 22 and 23: 22 is symmetric and transitive, and each lets through a 32-bit word only; and a step's two widths. Assumes nothing.
use mathlib.Core.Path.{◌≡◌, refl, sym, ap, ◌∙◌}
use mathlib.Core.Bool.{Bool, true, false, not, cond, ◌&&◌}
use Prim.Native.Nat.{ℕ, suc, ◌-◌, ◌≤◌, ◌<◌}
use native.Mathlib.Omega.{arith}
use native.Mathlib.Decide.{dec_lt}
use lib.IntN.{ℤ, pos, negsuc, nat_abs, pred_ℤ, ◌-ℤ◌, pred_ℤ-+ℤ, +ℤ_idl}
use lib.Signed.{lt_z, non_neg}
use lib.Dec.{T, leb}
use mir.Syntax.{w32}
use mir.Val.{SFits}
use borrow.Author.Tests.{ltb-true, ltb-false, lt-ltb, le-ltb, leb-true, le-leb, lt-leb, eqb-true, eq-eqb, ne_eqb}
use Rattle.verdict.proofs.Bools.{and_true, and_no, decided, test, clash}
use Rattle.mesh.specs.Faces.{walkable}
use Rattle.laying.specs.Allowed.{permitted, linkable, may_link, transition_word}

-- 22: neither material is over 22, and both are walkable or neither is
pub permitted_small : (old new : ℕ) → permitted old new ≡ true → (old ≤ 22) × (new ≤ 22)
unfolding permitted
permitted_small old new e =
    let p = and_true (leb old 22) (leb new 22) (and_true (leb old 22 && leb new 22) (cond (walkable old) (walkable new) (not (walkable new))) e).0 in
    (leb-true old 22 p.0, leb-true new 22 p.1)

pub permitted_same : (old new : ℕ) → permitted old new ≡ true → walkable old ≡ walkable new
unfolding permitted
permitted_same old new e = by (walkable old) (walkable new) (and_true (leb old 22 && leb new 22) (cond (walkable old) (walkable new) (not (walkable new))) e).1
  where
    by : (a b : Bool) → cond a b (not b) ≡ true → a ≡ b
    by true true h = refl
    by true false h = clash h refl
    by false true h = clash h refl
    by false false h = refl

pub same_permitted : (old new : ℕ) → old ≤ 22 → new ≤ 22 → walkable old ≡ walkable new → permitted old new ≡ true
unfolding permitted
same_permitted old new a b e = rw (le-leb old 22 a, le-leb new 22 b, e) (by (walkable new))
  where
    by : (b : Bool) → cond b b (not b) ≡ true
    by true = refl
    by false = refl

pub permitted_sym : (old new : ℕ) → permitted old new ≡ true → permitted new old ≡ true
permitted_sym old new e = let s = permitted_small old new e in same_permitted new old s.1 s.0 (sym (permitted_same old new e))

-- and transitive
pub permitted_through : (old mid new : ℕ) → permitted old mid ≡ true → permitted mid new ≡ true → permitted old new ≡ true
permitted_through old mid new p q =
    same_permitted old new (permitted_small old mid p).0 (permitted_small mid new q).1 (permitted_same old mid p ∙ permitted_same mid new q)

-- test by test
pub permitted_old : (old new : ℕ) → 22 < old → permitted old new ≡ false
unfolding permitted
permitted_old old new h = rw (lt-leb old 22 h)

pub permitted_new : (old new : ℕ) → 22 < new → permitted old new ≡ false
unfolding permitted
permitted_new old new h = rw (lt-leb new 22 h, and_no (leb old 22))

pub permitted_by : (old new : ℕ) → old ≤ 22 → new ≤ 22 → permitted old new ≡ cond (walkable old) (walkable new) (not (walkable new))
unfolding permitted
permitted_by old new a b = rw (le-leb old 22 a, le-leb new 22 b)

-- 23: of the number and of its bits
pub link_word : (t : ℤ) → may_link t ≡ true → linkable (transition_word t) ≡ true
unfolding may_link linkable transition_word
link_word (pos n) e = rw e
link_word (negsuc n) e = rw (eqb-true n 0 e)

pub linkable_small : (w : ℕ) → linkable w ≡ true → w < 4294967296
unfolding linkable
linkable_small w e = test (leb w 63) (λ h. omega (arith, leb-true w 63 h)) (λ h. omega (arith, eqb-true w 4294967295 (rw h at e)))

-- different transitions have different bits
pub transition_only : (t u : ℤ) → may_link t ≡ true → may_link u ≡ true → transition_word t ≡ transition_word u → t ≡ u
unfolding may_link transition_word
transition_only (pos n) (pos m) p q e = ap pos e
transition_only (pos n) (negsuc m) p q e = absurd (omega (arith, leb-true n 63 p, eqb-true m 0 q))
transition_only (negsuc n) (pos m) p q e = absurd (omega (arith, eqb-true n 0 p, leb-true m 63 q))
transition_only (negsuc n) (negsuc m) p q e = ap negsuc (eqb-true n 0 p ∙ sym (eqb-true m 0 q))

-- as the code tests it
pub link_low : (t : ℤ) → lt_z t (negsuc 0) ≡ true → may_link t ≡ false
unfolding may_link
link_low (pos n) e = clash e refl
link_low (negsuc n) e = ne_eqb n 0 (λ z. omega (arith, ltb-true 0 n e))

pub link_high : (t : ℤ) → lt_z t (negsuc 0) ≡ false → lt_z t (pos 64) ≡ may_link t
unfolding may_link
link_high (pos n) e = decided (dec_lt n 64) (λ l. rw (lt-ltb n 64 l, le-leb n 63 (omega arith))) (λ l. rw (le-ltb n 64 (omega arith), lt-leb n 63 (omega arith)))
link_high (negsuc n) e = sym (eq-eqb n 0 (omega (arith, ltb-false 0 n e)))

-- how far a negative transition is below -1, and its bits
pub record Below (t : ℤ) : Type 0 where
  pub far : ℕ
  pub is : negsuc 0 -ℤ t ≡ pos far
  pub fits : SFits w32 (pos far)
  pub word : 4294967295 - far ≡ transition_word t

pub below : (t : ℤ) → SFits w32 t → lt_z t (pos 0) ≡ true → Below t
unfolding transition_word
below (pos n) h e = absurd (omega (arith, ltb-true n 0 e))
below (negsuc n) h e = record { far = n; is = pred_ℤ-+ℤ (pos 0) (pos (suc n)) ∙ ap pred_ℤ (+ℤ_idl (pos (suc n))); fits = record { sfits = h.sfits }; word = refl }

pub word_high : (t : ℤ) → lt_z t (pos 0) ≡ false → (T (non_neg t)) × (nat_abs t ≡ transition_word t)
unfolding transition_word
word_high (pos n) e = (tt, refl)
word_high (negsuc n) e = clash refl e
