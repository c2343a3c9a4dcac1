-- Names: what stands in one, lower case, and when two are the same. Assumes nothing.
use mathlib.Core.Path.{◌≡◌, refl, sym, ap, ◌∙◌}
use mathlib.Core.Bool.{Bool, true, false, ◌&&◌}
use mathlib.Core.List.{List, [], ◌∷◌}
use Prim.Native.Nat.{ℕ, ◌+◌, ◌≤◌, ◌<◌}
use native.Mathlib.Numerals.{add-one}
use native.Mathlib.Omega.{arith}
use lib.Dec.{eqb, leb}
use lib.ListN.{length, get_or, drop, drop_of_length-le}
use lib.Seq.{drop-cons}
use borrow.Author.Tests.{eq-eqb, eqb-true, leb-true, le-leb}
use Rattle.std.specs.List.{list_all, zip}
use Rattle.std.specs.Str.{bytes_eq}
use Rattle.verdict.proofs.Bools.{clash, test, same_test, and_true}
use Rattle.letters.specs.Class.{within, name_byte}
use Rattle.text.specs.Scan.{run}
use Rattle.names.specs.Name.{same, is_name, same_name}
use Rattle.letters.specs.Case.{lower, lowered}
use Rattle.letters.proofs.CaseLaws.{name_lower, name_raised, length_lowered, lowered_at, lowered_again}
use Rattle.text.proofs.RunLaws.{run_at, run_of, all_is_whole}

-- ---- the same bytes

pub same_refl : (s : List ℕ) → same s s ≡ true
unfolding same
same_refl [] = refl
same_refl (a ∷ s) = rw (eq-eqb a a refl) (same_refl s)

pub same_true : (s t : List ℕ) → same s t ≡ true → s ≡ t
unfolding same
same_true [] [] e = refl
same_true [] (b ∷ t) e = clash e refl
same_true (a ∷ s) [] e = clash e refl
same_true (a ∷ s) (b ∷ t) e = let h = and_true (eqb a b) (same s t) e in rw (eqb-true a b h.0, same_true s t h.1)

pub same_unlike : (s t : List ℕ) → (length s ≡ length t → ⊥) → same s t ≡ false
same_unlike s t h = test (same s t) (λ e. absurd (h (ap length (same_true s t e)))) (λ e. e)

-- for a cursor
pub same_turn : (a b : List ℕ) (i : ℕ) → i < length a → i < length b → same (drop i a) (drop i b) ≡ (eqb (get_or a i 0) (get_or b i 0) && same (drop (i + 1) a) (drop (i + 1) b))
unfolding same
same_turn a b i h k = rw (drop-cons a i 0 h, drop-cons b i 0 k, add-one)

pub same_end : (a b : List ℕ) (i : ℕ) → length a ≤ i → length b ≤ i → same (drop i a) (drop i b) ≡ true
unfolding same
same_end a b i h k = rw (drop_of_length-le a h, drop_of_length-le b k)

-- as `==` says it
pub same_is_eq : (s t : List ℕ) → bytes_eq s t ≡ same s t
unfolding same
same_is_eq [] [] = refl
same_is_eq [] (b ∷ t) = refl
same_is_eq (a ∷ s) [] = refl
same_is_eq (a ∷ s) (b ∷ t) = rw (same_is_eq s t)

-- ---- a name

module _ (w : List ℕ) (e : is_name w ≡ true) where
  pub name_long : (1 ≤ length w) × (length w ≤ 16)
  unfolding is_name
  name_long =
      let h = and_true (within 1 16 (length w)) (eqb (run name_byte w) (length w)) e in
      let k = and_true (leb 1 (length w)) (leb (length w) 16) h.0 in
      (leb-true 1 (length w) k.0, leb-true (length w) 16 k.1)

  pub name_all : run name_byte w ≡ length w
  unfolding is_name
  name_all = eqb-true (run name_byte w) (length w) (and_true (within 1 16 (length w)) (eqb (run name_byte w) (length w)) e).1

  -- it has no byte but letters, digits and underscores
  pub name_clean : (i : ℕ) → i < length w → name_byte (get_or w i 0) ≡ true
  name_clean i l = run_at name_byte w i (omega (arith, name_all))

-- nothing more is asked of a name
pub name_of : (w : List ℕ) → 1 ≤ length w → length w ≤ 16 → ((i : ℕ) → i < length w → name_byte (get_or w i 0) ≡ true) → is_name w ≡ true
unfolding is_name
name_of w l m f = rw (le-leb 1 (length w) l, le-leb (length w) 16 m) (eq-eqb (run name_byte w) (length w) (run_of name_byte w f))

-- at the values that the code has in hand
pub name_not : (w : List ℕ) → within 1 16 (length w) ≡ false → false ≡ is_name w
unfolding is_name
name_not w h = rw h

pub name_by : (w : List ℕ) (r : Bool) → within 1 16 (length w) ≡ true → r ≡ list_all name_byte w → r ≡ is_name w
unfolding is_name
name_by w r h e = e ∙ rw (h, all_is_whole name_byte w)

-- a name in lower case is a name
pub name_lowered : (w : List ℕ) → is_name w ≡ true → is_name (lowered w) ≡ true
name_lowered w e =
    let h = name_long w e in
    name_of (lowered w) (omega (arith, length_lowered w)) (omega (arith, length_lowered w))
    (λ i l. rw (lowered_at w i) (name_lower (get_or w i 0) (name_clean w e i (omega (arith, length_lowered w)))))

-- what is a name in lower case is a name
pub lowered_name : (w : List ℕ) → is_name (lowered w) ≡ true → is_name w ≡ true
lowered_name w e =
    let h = name_long (lowered w) e in
    name_of w (omega (arith, length_lowered w)) (omega (arith, length_lowered w))
    (λ i l. name_raised (get_or w i 0) (rw (← lowered_at w i) (name_clean (lowered w) e i (omega (arith, length_lowered w)))))

-- ---- the same name

pub same_name_lowered : (a b : List ℕ) → same_name (lowered a) b ≡ same_name a b
unfolding same_name
same_name_lowered a b = rw (lowered_again a)

pub same_name_refl : (a : List ℕ) → same_name a a ≡ true
unfolding same_name
same_name_refl a = same_refl (lowered a)

pub same_name_true : (a b : List ℕ) → same_name a b ≡ true → lowered a ≡ lowered b
unfolding same_name
same_name_true a b e = same_true (lowered a) (lowered b) e

-- what is the same as a name is one
pub same_name_name : (a b : List ℕ) → same_name a b ≡ true → is_name b ≡ true → is_name a ≡ true
same_name_name a b e n = lowered_name a (rw (same_name_true a b e) (name_lowered b n))

pub same_name_sym : (a b : List ℕ) → same_name a b ≡ same_name b a
unfolding same_name
same_name_sym a b =
    same_test (same (lowered a) (lowered b)) (same (lowered b) (lowered a))
    (λ e. rw (same_true (lowered a) (lowered b) e) (same_refl (lowered b))) (λ e. rw (same_true (lowered b) (lowered a) e) (same_refl (lowered a)))

pub same_name_unlike : (a b : List ℕ) → (length a ≡ length b → ⊥) → same_name a b ≡ false
unfolding same_name
same_name_unlike a b h = same_unlike (lowered a) (lowered b) (λ e. h (sym (length_lowered a) ∙ e ∙ length_lowered b))

pub same_name_turn : (a b : List ℕ) (i : ℕ) → i < length a → i < length b → same_name (drop i a) (drop i b) ≡ (eqb (lower (get_or a i 0)) (lower (get_or b i 0)) && same_name (drop (i + 1) a) (drop (i + 1) b))
unfolding same_name same lowered
same_name_turn a b i h k = rw (drop-cons a i 0 h, drop-cons b i 0 k, add-one)

pub same_name_end : (a b : List ℕ) (i : ℕ) → length a ≤ i → length b ≤ i → same_name (drop i a) (drop i b) ≡ true
unfolding same_name same lowered
same_name_end a b i h k = rw (drop_of_length-le a h, drop_of_length-le b k)

-- names of one length are the same where the bytes in each place are
pub same_name_pairs : (a b : List ℕ) → length a ≡ length b → list_all (λ (p : ℕ × ℕ). eqb (lower p.0) (lower p.1)) (zip a b) ≡ same_name a b
unfolding same_name same lowered
same_name_pairs [] [] e = refl
same_name_pairs [] (y ∷ b) e = absurd (omega arith)
same_name_pairs (x ∷ a) [] e = absurd (omega arith)
same_name_pairs (x ∷ a) (y ∷ b) e = rw (same_name_pairs a b (omega arith))
