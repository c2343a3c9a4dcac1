-- Rules 31 and 32, at the values that the code has in hand, and what they tell of a text. Assumes nothing.
use mathlib.Core.Path.{◌≡◌, ap, ◌∙◌}
use mathlib.Core.Bool.{true, false, not}
use mathlib.Core.List.{List}
use Prim.Native.Nat.{ℕ, ◌+◌, ◌≤◌, ◌<◌}
use native.Mathlib.Omega.{arith}
use lib.Dec.{eqb, ltb}
use lib.ListN.{length, get_or, get_or-eq_default}
use borrow.Author.Tests.{eq-eqb, ne_eqb, ltb-false, le-ltb, not-true, not-false}
use Rattle.verdict.specs.declared.Answer.{Answer}
use Rattle.verdict.specs.Verdict.{rule, rule_of_each, ◌then◌, accepted}
use Rattle.verdict.specs.Lowest.{lowest}
use Rattle.verdict.proofs.Verdict.{passed, unbroken, met, each_met, each_passes, then_both}
use Rattle.verdict.proofs.Bools.{or_false, and_false, and_true}
use Rattle.letters.specs.Class.{class_of, is_refused, is_end, is_return}
use Rattle.text.specs.Scan.{run, apart}
use Rattle.text.specs.Sound.{bad_at, rule31, rule32, rules31to32}
use Rattle.text.proofs.RunLaws.{run_at}
use Rattle.letters.proofs.ClassLaws.{calm, nought_no_end}

-- ---- one byte

module _ (s : List ℕ) (i k : ℕ) (e : k ≡ class_of (get_or s i 0)) where
  pub bad_refused : k ≡ 0 → true ≡ bad_at s i
  unfolding bad_at is_refused is_return
  bad_refused z = rw (← e, eq-eqb k 0 z)

  pub bad_plain : (k ≡ 0 → ⊥) → (k ≡ 8 → ⊥) → false ≡ bad_at s i
  unfolding bad_at is_refused is_return
  bad_plain n m = rw (← e, ne_eqb k 0 n, ne_eqb k 8 m)

  pub bad_return : (j : ℕ) → k ≡ 8 → j ≡ class_of (get_or s (i + 1) 0) → not (eqb j 7) ≡ bad_at s i
  unfolding bad_at is_refused is_return is_end
  bad_return j m f = rw (← e, ← f, ne_eqb k 0 (λ z. omega arith), eq-eqb k 8 m)

  pub bad_last : k ≡ 8 → length s ≤ i + 1 → true ≡ bad_at s i
  unfolding bad_at is_refused is_return
  bad_last m l = rw (← e, ne_eqb k 0 (λ z. omega arith), eq-eqb k 8 m, get_or-eq_default s 0 l, nought_no_end)

-- ---- the verdict

pub sound_by : (s : List ℕ) (i : ℕ) (r : Answer) → length s ≤ 65536 → i ≡ lowest (length s) (bad_at s) → r ≡ rule 32 (ltb i (length s)) i → r ≡ rules31to32 s
unfolding rules31to32 rule31 rule32 rule_of_each rule ◌then◌
sound_by s i r h e f = f ∙ rw (e, le-ltb 65536 (length s) h)

-- ---- what it tells

module _ (s : List ℕ) (z : (rules31to32 s).number ≡ 0) where
  pub sound_length : length s ≤ 65536
  unfolding rules31to32 rule31
  sound_length = ltb-false 65536 (length s) (unbroken 30 (ltb 65536 (length s)) 0 (passed (rule31 s) (rule32 s) z).0)

  pub sound_at : (i : ℕ) → i < length s → bad_at s i ≡ false
  unfolding rules31to32 rule32
  sound_at = each_met 31 (length s) (bad_at s) (λ i. i) (passed (rule31 s) (rule32 s) z).1

  -- no byte is refused
  pub sound_known : (i : ℕ) → i < length s → apart is_refused (get_or s i 0) ≡ true
  unfolding bad_at
  sound_known i l = ap not (or_false (is_refused (get_or s i 0)) _ (sound_at i l)).0

  -- no CR stands but before LF
  pub sound_return : (i : ℕ) → i < length s → is_return (get_or s i 0) ≡ true → is_end (get_or s (i + 1) 0) ≡ true
  unfolding bad_at
  sound_return i l e = not-false (is_end (get_or s (i + 1) 0)) (and_false (is_return (get_or s i 0)) _ (or_false (is_refused (get_or s i 0)) _ (sound_at i l)).1 e)

-- a text of bytes that are neither refused nor CR
calm_fine : (s : List ℕ) (i : ℕ) → calm (get_or s i 0) ≡ true → bad_at s i ≡ false
unfolding bad_at calm
calm_fine s i e =
    let h = and_true (not (is_refused (get_or s i 0))) (not (is_return (get_or s i 0))) e in
    rw (not-true (is_refused (get_or s i 0)) h.0, not-true (is_return (get_or s i 0)) h.1)

pub calm_sound : (s : List ℕ) → run calm s ≡ length s → length s ≤ 65536 → rules31to32 s ≡ accepted
unfolding rules31to32 rule31 rule32
calm_sound s e h =
    then_both (rw (le-ltb 65536 (length s) h) (met 31 0))
    (each_passes 32 (length s) (bad_at s) (λ i. i) (λ i l. calm_fine s i (run_at calm s i (omega arith))))
