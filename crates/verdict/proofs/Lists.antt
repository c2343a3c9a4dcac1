-- Laws of lists: a test that is computed over one, `map`, `times`, and of `tally`. Assumes nothing.
use Prim.Native.Nat.{ℕ, zero, suc, ◌+◌, ◌<◌, ◌≤◌}
use native.Mathlib.Omega.{arith}
use native.Mathlib.Nat.{eq-or-lt_of_le, le_of_suc-le-suc, not-suc-le-zero}
use native.Mathlib.Decide.{dec_lt}
use mathlib.Core.Path.{◌≡◌, refl, ap, ap₂, ◌∙◌}
use mathlib.Core.Logic.{⊎_elim}
use mathlib.Core.Bool.{Bool, true, false, ◌&&◌}
use mathlib.Core.List.{List, [], ◌∷◌, ◌++◌, map}
use lib.Dec.{T, eqb, ltb}
use lib.ListN.{length, get_or}
use borrow.Author.Tests.{eq-eqb, ne_eqb, ltb-true}
use Rattle.verdict.specs.Lists.{bit, times, tally, Only}
use Rattle.verdict.proofs.Bools.{clash, test, decided, T_true, true_T, and_true}

-- ---- a test that is computed over a whole list holds of each entry

abbrev pub every : {A : Type 0} → (A → Bool) → List A → Bool
every f [] = true
every f (x ∷ xs) = f x && every f xs

pub every_at : {A : Type 0} (f : A → Bool) (d : A) (xs : List A) → T (every f xs) → (k : ℕ) → k < length xs → T (f (get_or xs k d))
every_at f d [] t k h = absurd (not-suc-le-zero h)
every_at f d (x ∷ xs) t zero h = true_T (f x) (and_true (f x) (every f xs) (T_true (f x && every f xs) t)).0
every_at f d (x ∷ xs) t (suc k) h =
    every_at f d xs (true_T (every f xs) (and_true (f x) (every f xs) (T_true (f x && every f xs) t)).1) k (le_of_suc-le-suc h)

-- ---- a list made by a function, entry by entry

pub map_at_lem : {A B : Type 0} (f : A → B) (d : A) (e : B) (l : List A) (k : ℕ) → k < length l → get_or (map f l) k e ≡ f (get_or l k d)
map_at_lem f d e [] k h = absurd (not-suc-le-zero h)
map_at_lem f d e (x ∷ l) zero h = refl
map_at_lem f d e (x ∷ l) (suc k) h = map_at_lem f d e l k (le_of_suc-le-suc h)

pub map_same : {A B : Type 0} (f g : A → B) (d : A) (l : List A) → ((k : ℕ) → k < length l → f (get_or l k d) ≡ g (get_or l k d)) → map f l ≡ map g l
map_same f g d [] h = refl
map_same f g d (x ∷ l) h = rw (h 0 (omega arith), map_same f g d l (λ k m. h (suc k) (omega arith)))

-- ---- bits

pub bit_le : (b : Bool) → bit b ≤ 1
bit_le true = omega arith
bit_le false = omega arith

pub bit_same : (x : ℕ) → bit (eqb x x) ≡ 1
bit_same x = ap bit (eq-eqb x x refl)

-- ---- how often a number stands in a list

pub times_append : (k : ℕ) (a b : List ℕ) → times k (a ++ b) ≡ times k a + times k b
unfolding times
times_append k [] b = omega arith
times_append k (x ∷ a) b = let ih = times_append k a b in omega arith

-- no number from m on stands in l
unfoldable pub NoneFrom : ℕ → List ℕ → Type 0
NoneFrom m l = (k : ℕ) → m ≤ k → times k l ≡ 0

pub none_head : (m x : ℕ) (l : List ℕ) → NoneFrom m (x ∷ l) → ¬ (m ≤ x)
unfolding NoneFrom times
none_head m x l h le = let e = h x le in let b = bit_same x in omega arith

pub none_tail : (m x : ℕ) (l : List ℕ) → NoneFrom m (x ∷ l) → NoneFrom m l
unfolding NoneFrom times
none_tail m x l h k le = let e = h k le in omega arith

pub none_nil : (m : ℕ) → NoneFrom m []
unfolding NoneFrom times
none_nil m k le = refl

pub none_more : (m n : ℕ) (l : List ℕ) → m ≤ n → NoneFrom m l → NoneFrom n l
unfolding NoneFrom
none_more m n l le h k lk = h k (omega arith)

pub none_cons : (m x : ℕ) (l : List ℕ) → x < m → NoneFrom m l → NoneFrom m (x ∷ l)
unfolding NoneFrom times
none_cons m x l lt h k le = let e = h k le in let b = ap bit (ne_eqb x k (λ q. omega arith)) in omega arith

pub none_append : (m : ℕ) (a b : List ℕ) → NoneFrom m a → NoneFrom m b → NoneFrom m (a ++ b)
unfolding NoneFrom
none_append m a b ha hb k le = let e = ha k le in let f = hb k le in let g = times_append k a b in omega arith

-- by a computed test over the list
pub none_every : (m : ℕ) (l : List ℕ) → T (every (λ x. ltb x m) l) → NoneFrom m l
none_every m [] t = none_nil m
none_every m (x ∷ l) t =
    let h = and_true (ltb x m) (every (λ y. ltb y m) l) (T_true _ t) in
    none_cons m x l (ltb-true x m h.0) (none_every m l (true_T _ h.1))

-- ---- how many numbers pass a test

pub tally_same : (n : ℕ) (p q : ℕ → Bool) → ((k : ℕ) → k < n → p k ≡ q k) → tally n p ≡ tally n q
unfolding tally
tally_same zero p q h = refl
tally_same (suc n) p q h = ap₂ (λ (a : Bool) (b : ℕ). bit a + b) (h n (omega arith)) (tally_same n p q (λ k l. h k (omega arith)))

pub tally_within : (n : ℕ) (p : ℕ → Bool) → tally n p ≤ n
unfolding tally
tally_within zero p = omega arith
tally_within (suc n) p = omega (arith, bit_le (p n), tally_within n p)

pub tally_none : (n : ℕ) (p : ℕ → Bool) → tally n p ≡ 0 → (k : ℕ) → k < n → p k ≡ false
unfolding tally
tally_none zero p e k h = absurd (omega arith)
tally_none (suc n) p e k h =
    ⊎_elim (λ (q : k ≡ n). rw q (test (p n) (λ y. absurd (omega (arith, ap bit y))) (λ y. y))) (λ (l : k < n). tally_none n p (omega arith) k l) (eq-or-lt_of_le (le_of_suc-le-suc h))

pub none_tally : (n : ℕ) (p : ℕ → Bool) → ((k : ℕ) → k < n → p k ≡ false) → tally n p ≡ 0
unfolding tally
none_tally zero p h = refl
none_tally (suc n) p h = let e = none_tally n p (λ k l. h k (omega arith)) in omega (arith, ap bit (h n (omega arith)))

-- a tally of one is "exactly one", both ways
pub tally_one : (n : ℕ) (p : ℕ → Bool) → tally n p ≡ 1 → Only n p
unfolding tally
tally_one zero p e = absurd (omega arith)
tally_one (suc n) p e =
    let rest = tally_one n p in
    test (p n)
    (λ y.
    let none = tally_none n p (omega (arith, ap bit y)) in
    record {
      it = n;
      under = omega arith;
      passes = y;
      only = λ m l q. ⊎_elim (λ (z : m ≡ n). z) (λ (z : m < n). clash q (none m z)) (eq-or-lt_of_le (le_of_suc-le-suc l));
    })
    (λ y.
    let r = rest (omega (arith, ap bit y)) in
    record {
      it = r.it;
      under = omega arith;
      passes = r.passes;
      only = λ m l q. ⊎_elim (λ (z : m ≡ n). clash q (ap p z ∙ y)) (λ (z : m < n). r.only m z q) (eq-or-lt_of_le (le_of_suc-le-suc l));
    })

pub one_tally : (n : ℕ) (p : ℕ → Bool) → Only n p → tally n p ≡ 1
unfolding tally
one_tally zero p o = absurd (omega (arith, o.under))
one_tally (suc n) p o =
    let rest = one_tally n p in
    test (p n)
    (λ y.
    let e = o.only n (omega arith) y in
    let none = none_tally n p (λ k l. test (p k) (λ z. absurd (omega (arith, o.only k (omega arith) z))) (λ z. z)) in
    omega (arith, ap bit y))
    (λ y.
    let lower : o.it < n = ⊎_elim (λ (z : o.it ≡ n). clash o.passes (ap p z ∙ y)) (λ (z : o.it < n). z) (eq-or-lt_of_le (le_of_suc-le-suc o.under)) in
    let r = rest (record { it = o.it; under = lower; passes = o.passes; only = λ m l q. o.only m (omega arith) q }) in
    omega (arith, ap bit y))

-- a number is left out, and those above it move down by one
pub tally_without : (n i : ℕ) (p q : ℕ → Bool) → i ≤ n → ((k : ℕ) → k < i → q k ≡ p k) → ((k : ℕ) → i ≤ k → k < n → q k ≡ p (suc k))
    → tally (suc n) p ≡ bit (p i) + tally n q
unfolding tally
tally_without zero i p q l below above = let e : i ≡ 0 = omega arith in rw e
tally_without (suc n) i p q l below above =
    decided (dec_lt n i)
    (λ h.
    let e : i ≡ suc n = omega arith in
    rw (e, tally_same (suc n) q p (λ k m. below k (omega arith))))
    (λ h.
    let ih = tally_without n i p q (omega arith) below (λ k x y. above k x (omega arith)) in
    let e : bit (q n) ≡ bit (p (suc n)) = ap bit (above n (omega arith) (omega arith)) in
    omega arith)

-- every number passes one of two tests and not the other
pub tally_both : (n : ℕ) (p q : ℕ → Bool) → ((k : ℕ) → k < n → bit (p k) + bit (q k) ≡ 1) → tally n p + tally n q ≡ n
unfolding tally
tally_both zero p q h = refl
tally_both (suc n) p q h = omega (arith, h n (omega arith), tally_both n p q (λ k l. h k (omega arith)))
