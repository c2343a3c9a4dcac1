-- Rings joined to one list: the run of each lies between two ends, and is a closed chain there. Assumes nothing.
use Prim.Native.Nat.{ℕ, zero, suc, ◌+◌, ◌-◌, ◌<◌, ◌≤◌}
use native.Mathlib.Omega.{arith}
use native.Mathlib.Nat.{le_of_suc-le-suc, not-suc-le-zero}
use mathlib.Core.Path.{◌≡◌, refl, sym, ap, ◌∙◌}
use mathlib.Core.List.{List, [], ◌∷◌}
use lib.ListN.{length, get_or, length-append, get_or-append}
use lib.Seq.{get_or-append-add}
use Rattle.wire.specs.Words.{joined}
use Rattle.rings.specs.Rings.{Web, ends_from}
use Rattle.rings.specs.Plain.{Chain, Ring, EachRing}

-- where run j starts, if the first starts at s and they end at es
unfoldable pub start_from : ℕ → List ℕ → ℕ → ℕ
start_from s es zero = s
start_from s es (suc j) = get_or es j 0

start_more : (s t : ℕ) (es : List ℕ) (j : ℕ) → start_from s (t ∷ es) (suc j) ≡ start_from t es j
unfolding start_from
start_more s t es zero = refl
start_more s t es (suc j) = refl

-- the last end is where all are at an end
pub ends_full : (s : ℕ) (rs : List (List ℕ)) → start_from s (ends_from s rs) (length (ends_from s rs)) ≡ s + length (joined rs)
unfolding ends_from joined start_from
ends_full s [] = omega arith
ends_full s (r ∷ rs) =
    let t = s + length r in
    start_more s t (ends_from t rs) (length (ends_from t rs)) ∙ ends_full t rs ∙ omega (arith, length-append r (joined rs))

module _ (w : Web) where
  -- ---- a chain, entry by entry

  pub chain_first : (a b : ℕ) (r : List ℕ) → 0 < length r → Chain w a r b → w.from (get_or r 0 0) ≡ a
  unfolding Chain
  chain_first a b [] lt c = absurd (not-suc-le-zero lt)
  chain_first a b (h ∷ r) lt c = c.0

  chain_step : (a b : ℕ) (r : List ℕ) (i : ℕ) → suc i < length r → Chain w a r b → w.to (get_or r i 0) ≡ w.from (get_or r (suc i) 0)
  unfolding Chain
  chain_step a b [] i lt c = absurd (not-suc-le-zero lt)
  chain_step a b (h ∷ r) zero lt c = sym (chain_first (w.to h) b r (le_of_suc-le-suc lt) c.1)
  chain_step a b (h ∷ r) (suc i) lt c = chain_step (w.to h) b r i (le_of_suc-le-suc lt) c.1

  chain_last : (a b : ℕ) (r : List ℕ) (i : ℕ) → suc i ≡ length r → Chain w a r b → w.to (get_or r i 0) ≡ b
  unfolding Chain
  chain_last a b [] i e c = absurd (omega arith)
  chain_last a b (h ∷ []) zero e c = c.1
  chain_last a b (h ∷ g ∷ r) zero e c = absurd (omega arith)
  chain_last a b (h ∷ r) (suc i) e c = chain_last (w.to h) b r i (omega arith) c.1

  -- ---- a run of entries

  -- each entry of the run from s up to t ends where the next starts, the last where the first starts
  pub record ClosedRun (entry : ℕ → ℕ) (s t : ℕ) : Type 0 where
    pub step : (i : ℕ) → s ≤ i → i + 1 < t → w.to (entry i) ≡ w.from (entry (i + 1))
    pub last : (i : ℕ) → s ≤ i → i + 1 ≡ t → w.to (entry i) ≡ w.from (entry s)

  ring_run : (entry : ℕ → ℕ) (s : ℕ) (r : List ℕ) → Ring w r → ((i : ℕ) → i < length r → entry (s + i) ≡ get_or r i 0) → ClosedRun entry s (s + length r)
  ring_run entry s r c same = record {
    step = λ i l b.
        ap w.to (at i (i - s) (omega arith) (omega arith)) ∙
        chain_step (w.from (get_or r 0 0)) (w.from (get_or r 0 0)) r (i - s) (omega arith) c.closed ∙
        ap w.from (sym (at (i + 1) (suc (i - s)) (omega arith) (omega arith)));
    last = λ i l b.
        ap w.to (at i (i - s) (omega arith) (omega arith)) ∙
        chain_last (w.from (get_or r 0 0)) (w.from (get_or r 0 0)) r (i - s) (omega arith) c.closed ∙
        ap w.from (sym (at s 0 (omega arith) c.some));
  }
    where
      at : (i k : ℕ) → i ≡ s + k → k < length r → entry i ≡ get_or r k 0
      at i k e lt = ap entry e ∙ same k lt

  pub record RightRun (entry : ℕ → ℕ) (n s t : ℕ) : Type 0 where
    pub rises : s < t
    pub ends : t ≤ n
    pub chain : ClosedRun entry s t

  pub runs_right : (entry : ℕ → ℕ) (s : ℕ) (rs : List (List ℕ)) → EachRing w rs → ((i : ℕ) → i < length (joined rs) → entry (s + i) ≡ get_or (joined rs) i 0)
      → (j : ℕ) → j < length (ends_from s rs) → RightRun entry (s + length (joined rs)) (start_from s (ends_from s rs) j) (get_or (ends_from s rs) j 0)
  unfolding EachRing joined ends_from start_from
  runs_right entry s [] c same j lt = absurd (not-suc-le-zero lt)
  runs_right entry s (r ∷ rs) c same zero lt =
      let e = length-append r (joined rs) in
      record {
        rises = omega (arith, c.0.some);
        ends = omega arith;
        chain = ring_run entry s r c.0 (λ i l. same i (omega arith) ∙ get_or-append r (joined rs) 0 i l);
      }
  runs_right entry s (r ∷ rs) c same (suc j) lt =
      let t = s + length r in
      let e = length-append r (joined rs) in
      let rest : (i : ℕ) → i < length (joined rs) → entry (t + i) ≡ get_or (joined rs) i 0 =
      λ i l. ap entry (omega arith) ∙ same (length r + i) (omega arith) ∙ get_or-append-add r (joined rs) i 0 in
      let ih = runs_right entry t rs c.1 rest j (le_of_suc-le-suc lt) in
      rw (start_more s t (ends_from t rs) j) (record { rises = ih.rises; ends = omega (arith, ih.ends); chain = ih.chain })
