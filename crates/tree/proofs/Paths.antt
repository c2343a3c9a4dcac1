-- `ends` and `deep` against paths: how often n stands in `ends` is how many paths lead to n. Assumes nothing.
use Prim.Native.Nat.{ℕ, zero, suc, ◌+◌, ◌<◌, ◌≤◌}
use native.Mathlib.Omega.{arith}
use native.Mathlib.Decide.{dec_lt}
use mathlib.Core.Path.{◌≡◌, refl, sym, ap, subst, ◌∙◌}
use mathlib.Core.Bool.{Bool, true, false, cond}
use mathlib.Core.List.{List, [], ◌∷◌}
use mathlib.Core.Option.{none, some}
use lib.ListN.{length}
use lib.Dec.{eqb}
use borrow.Author.Tests.{eq-eqb, eqb-true}
use Rattle.verdict.specs.Lists.{bit, times}
use Rattle.verdict.proofs.Bools.{clash, test, decided}
use Rattle.verdict.proofs.Lists.{bit_same, bit_le, times_append}
use Rattle.nodes.specs.Nodes.{Nodes}
use Rattle.tree.specs.Tree.{ends, deep}
use Rattle.tree.specs.Plain.{follow}
use Rattle.tree.proofs.Deep.{Kids, ends_leaf, ends_inner, deep_leaf, deep_inner, shallow_kids}

pub none_some : {A : Type 0} {n : ℕ} → none ≡ some n → A
none_some {A} {n} e = absurd (let z : ◌≡◌ {A = ℕ} 0 1 = cc in omega arith)

pub some_same : (n m : ℕ) → some n ≡ some m → n ≡ m
some_same n m e = cc

abbrev pub kid : Nodes → Bool → ℕ → ℕ
kid t s n = cond s (t.left n) (t.right n)

tail_same : {a b : Bool} {p q : List Bool} → a ∷ p ≡ b ∷ q → p ≡ q
tail_same e = cc

nil_cons : {A : Type 0} {s : Bool} {p : List Bool} → [] ≡ s ∷ p → A
nil_cons {A} {s} {p} e = absurd (let z : ◌≡◌ {A = ℕ} 0 1 = cc in omega arith)

heads : {A : Type 0} {p q : List Bool} → true ∷ p ≡ false ∷ q → A
heads {A} {p} {q} e = let z : true ≡ false = cc in clash refl z

module _ (t : Nodes) where
  -- a step is taken from an inner node only
  pub step : (s : Bool) (p : List Bool) (n m : ℕ) → follow t (s ∷ p) n ≡ some m → (t.inner n ≡ true) × (follow t p (kid t s n) ≡ some m)
  unfolding follow
  step s p n m e = test (t.inner n) (λ y. (y, rw y at e)) (λ y. none_some (rw y at e))

  pub unstep : (s : Bool) (p : List Bool) (n m : ℕ) → t.inner n ≡ true → follow t p (kid t s n) ≡ some m → follow t (s ∷ p) n ≡ some m
  unfolding follow
  unstep s p n m y e = rw y e

  pub times_inner : (d n m : ℕ) → t.inner n ≡ true → times m (ends t (suc d) n) ≡ bit (eqb n m) + (times m (ends t d (t.left n)) + times m (ends t d (t.right n)))
  unfolding times
  times_inner d n m y = rw (ends_inner t d n y) (ap (λ (k : ℕ). bit (eqb n m) + k) (times_append m (ends t d (t.left n)) (ends t d (t.right n))))

  pub times_leaf : (d n m : ℕ) → t.inner n ≡ false → times m (ends t (suc d) n) ≡ bit (eqb n m)
  unfolding times
  times_leaf d n m y = rw (ends_leaf t d n y) (omega arith)

  pub times_start : (n m : ℕ) → times m (ends t 0 n) ≡ bit (eqb n m)
  unfolding times ends
  times_start n m = omega arith

  pub times_self : (d n : ℕ) → 1 ≤ times n (ends t d n)
  times_self zero n = omega (arith, times_start n n, bit_same n)
  times_self (suc d) n = test (t.inner n) (λ y. omega (arith, times_inner d n n y, bit_same n)) (λ y. omega (arith, times_leaf d n n y, bit_same n))

  side : (s : Bool) (d n m : ℕ) → 1 ≤ times m (ends t d (kid t s n)) → 1 ≤ times m (ends t d (t.left n)) + times m (ends t d (t.right n))
  side true d n m i = omega arith
  side false d n m i = omega arith

  -- a path of at most d steps from n to m: m stands in `ends`
  pub reach : (d n m : ℕ) (p : List Bool) → follow t p n ≡ some m → length p ≤ d → 1 ≤ times m (ends t d n)
  unfolding follow
  reach d n m [] e h = subst (λ (k : ℕ). 1 ≤ times k (ends t d n)) (some_same n m e) (times_self d n)
  reach zero n m (s ∷ p) e h = absurd (omega arith)
  reach (suc d) n m (s ∷ p) e h =
      let (y, e') = step s p n m e in
      let ih = reach d (kid t s n) m p e' (omega arith) in
      omega (arith, times_inner d n m y, side s d n m ih)

  -- m stands in `ends`: a path leads there
  pub found : (d n m : ℕ) → 1 ≤ times m (ends t d n) → (p : List Bool) × (follow t p n ≡ some m) × (length p ≤ d)
  unfolding follow
  found zero n m h =
      test (eqb n m) (λ y. ([], ap some (eqb-true n m y), omega arith)) (λ y. absurd (omega (arith, times_start n m, ap bit y)))
  found (suc d) n m h =
      let l = found d (t.left n) m in
      let r = found d (t.right n) m in
      test (eqb n m)
      (λ y. ([], ap some (eqb-true n m y), omega arith))
      (λ y. test (t.inner n)
      (λ i. decided (dec_lt 0 (times m (ends t d (t.left n))))
      (λ z. let (p, e, b) = l z in (true ∷ p, unstep true p n m i e, omega arith))
      (λ z. let (p, e, b) = r (omega (arith, times_inner d n m i, ap bit y)) in (false ∷ p, unstep false p n m i e, omega arith)))
      (λ i. absurd (omega (arith, times_leaf d n m i, ap bit y))))

  turned : (d n m : ℕ) (s : Bool) (p : List Bool) → follow t [] n ≡ some m → follow t (s ∷ p) n ≡ some m → length (s ∷ p) ≤ d → times m (ends t d n) ≤ 1 → ⊥
  unfolding follow
  turned zero n m s p e f h one = omega arith
  turned (suc d) n m s p e f h one =
      let (y, f') = step s p n m f in
      let b : bit (eqb n m) ≡ 1 = ap bit (eq-eqb n m (some_same n m e)) in
      omega (arith, times_inner d n m y, side s d n m (reach d (kid t s n) m p f' (omega arith)))

  forked : (d n m : ℕ) (p q : List Bool) → follow t (true ∷ p) n ≡ some m → follow t (false ∷ q) n ≡ some m → length p ≤ d → length q ≤ d → times m (ends t (suc d) n) ≤ 1 → ⊥
  forked d n m p q e f hp hq h =
      let (y, e') = step true p n m e in
      let (z, f') = step false q n m f in
      omega (arith, times_inner d n m y, reach d (t.left n) m p e' hp, reach d (t.right n) m q f' hq)

  -- m stands in `ends` at most once: no two paths lead there
  pub unique : (d n m : ℕ) (p q : List Bool) → follow t p n ≡ some m → follow t q n ≡ some m → length p ≤ d → length q ≤ d → times m (ends t d n) ≤ 1 → p ≡ q
  unique d n m [] [] e f hp hq h = refl
  unique d n m [] (u ∷ q) e f hp hq h = absurd (turned d n m u q e f hq h)
  unique d n m (s ∷ p) [] e f hp hq h = absurd (turned d n m s p f e hp h)
  unique zero n m (s ∷ p) (u ∷ q) e f hp hq h = absurd (omega arith)
  unique (suc d) n m (true ∷ p) (true ∷ q) e f hp hq h =
      ap (λ (k : List Bool). true ∷ k) (unique d (t.left n) m p q (step true p n m e).1 (step true q n m f).1 (omega arith) (omega arith) (omega (arith, times_inner d n m (step true p n m e).0)))
  unique (suc d) n m (false ∷ p) (false ∷ q) e f hp hq h =
      ap (λ (k : List Bool). false ∷ k) (unique d (t.right n) m p q (step false p n m e).1 (step false q n m f).1 (omega arith) (omega arith) (omega (arith, times_inner d n m (step false p n m e).0)))
  unique (suc d) n m (true ∷ p) (false ∷ q) e f hp hq h = absurd (forked d n m p q e f (omega arith) (omega arith) h)
  unique (suc d) n m (false ∷ p) (true ∷ q) e f hp hq h = absurd (forked d n m q p f e (omega arith) (omega arith) h)

  -- and the other way round
  pub few : (d n m : ℕ) → ((p q : List Bool) → follow t p n ≡ some m → follow t q n ≡ some m → length p ≤ d → length q ≤ d → p ≡ q) → times m (ends t d n) ≤ 1
  unfolding follow
  few zero n m h = omega (arith, times_start n m, bit_le (eqb n m))
  few (suc d) n m h =
      let L = times m (ends t d (t.left n)) in
      let R = times m (ends t d (t.right n)) in
      let l = few d (t.left n) m in
      let r = few d (t.right n) m in
      test (t.inner n)
      (λ y.
      let l' = l (λ p q e f hp hq. tail_same (h (true ∷ p) (true ∷ q) (unstep true p n m y e) (unstep true q n m y f) (omega arith) (omega arith))) in
      let r' = r (λ p q e f hp hq. tail_same (h (false ∷ p) (false ∷ q) (unstep false p n m y e) (unstep false q n m y f) (omega arith) (omega arith))) in
      test (eqb n m)
      (λ z.
      let a : ¬ (1 ≤ L) = λ k. let (p, e, b) = found d (t.left n) m k in nil_cons (h [] (true ∷ p) (ap some (eqb-true n m z)) (unstep true p n m y e) (omega arith) (omega arith)) in
      let c : ¬ (1 ≤ R) = λ k. let (p, e, b) = found d (t.right n) m k in nil_cons (h [] (false ∷ p) (ap some (eqb-true n m z)) (unstep false p n m y e) (omega arith) (omega arith)) in
      omega (arith, times_inner d n m y, bit_le (eqb n m)))
      (λ z. decided (dec_lt 0 L)
      (λ k.
      let a : ¬ (1 ≤ R) = λ j.
      (let (p, e, b) = found d (t.left n) m k in
      let (q, f, g) = found d (t.right n) m j in
      heads (h (true ∷ p) (false ∷ q) (unstep true p n m y e) (unstep false q n m y f) (omega arith) (omega arith))) in
      omega (arith, times_inner d n m y, ap bit z))
      (λ k. omega (arith, times_inner d n m y, ap bit z))))
      (λ y. omega (arith, times_leaf d n m y, bit_le (eqb n m)))

  deep_start : (n : ℕ) → deep t 0 n ≡ t.inner n
  unfolding deep
  deep_start n = refl

  shallow_kid : (s : Bool) (d n : ℕ) → t.inner n ≡ true → deep t (suc d) n ≡ false → deep t d (kid t s n) ≡ false
  shallow_kid true d n y h = (shallow_kids t d n y h).0
  shallow_kid false d n y h = (shallow_kids t d n y h).1

  -- no path is longer than d
  pub short : (d n m : ℕ) (p : List Bool) → deep t d n ≡ false → follow t p n ≡ some m → length p ≤ d
  short d n m [] h e = omega arith
  short zero n m (s ∷ p) h e = clash (step s p n m e).0 (sym (deep_start n) ∙ h)
  short (suc d) n m (s ∷ p) h e =
      let (y, e') = step s p n m e in
      let ih = short d (kid t s n) m p (shallow_kid s d n y h) e' in omega arith

  pub shallow : (d n : ℕ) → ((p : List Bool) (m : ℕ) → follow t p n ≡ some m → length p ≤ d) → deep t d n ≡ false
  unfolding follow
  shallow zero n h = rw (deep_start n) (test (t.inner n) (λ y. absurd (omega (arith, h (true ∷ []) (t.left n) (rw y)))) (λ y. y))
  shallow (suc d) n h =
      let l = shallow d (t.left n) in
      let r = shallow d (t.right n) in
      test (t.inner n)
      (λ y.
      let l' = l (λ p m e. let k = h (true ∷ p) m (unstep true p n m y e) in omega arith) in
      let r' = r (λ p m e. let k = h (false ∷ p) m (unstep false p n m y e) in omega arith) in
      deep_inner t d n y ∙ simp (l', r'))
      (λ y. deep_leaf t d n y)

  -- a path from a node of the table ends at one
  pub follow_below : (N : ℕ) → Kids t N → (p : List Bool) (n m : ℕ) → n < N → follow t p n ≡ some m → m < N
  unfolding follow Kids
  follow_below N kids [] n m lt e = subst (λ (k : ℕ). k < N) (some_same n m e) lt
  follow_below N kids (true ∷ p) n m lt e = let (y, e') = step true p n m e in follow_below N kids p (t.left n) m (kids n lt y).0 e'
  follow_below N kids (false ∷ p) n m lt e = let (y, e') = step false p n m e in follow_below N kids p (t.right n) m (kids n lt y).1 e'
