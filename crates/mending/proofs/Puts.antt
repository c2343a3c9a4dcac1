-- Words and records put one behind another: what stands there, and where the next one goes. Assumes nothing.
use Prim.Native.Nat.{ℕ, zero, suc, ◌+◌, ◌*◌, ◌<◌, ◌≤◌}
use native.Mathlib.Omega.{arith}
use native.Mathlib.Numerals.{add-one}
use native.Mathlib.Nat.{suc-mul}
use native.Mathlib.Decide.{ℕ_discrete}
use mathlib.Core.Path.{◌≡◌, refl, sym, ap, subst, ◌∙◌}
use mathlib.Core.Bool.{Bool, true, false, cond}
use mathlib.Core.List.{List, [], ◌∷◌, ◌++◌, append-nil}
use lib.ListN.{length, get_or, take, length-append}
use lib.Seq.{take-suc, take_all, length-take-le}
use denote.Ref.{Bor}
use denote.Param.Members.{Mut}
use Rattle.std.specs.declared.ops.Range.{Range}
use Rattle.std.specs.declared.iter.Filter.{Filter}
use Rattle.std.specs.Fn.{CalledAt}
use Rattle.std.specs.Iterator.{Drains}
use Rattle.std.specs.Iterator.Adapters.{filter_source, filter_callee, filter_steps}
use Rattle.std.specs.List.{filter, range_with_len}
use Rattle.std.proofs.iter.Yields.{nat_range_steps}
use Rattle.std.proofs.lemmas.Iterator.{YieldsList-from_range}
use Rattle.std.proofs.lemmas.Iterator.Consumers.{YieldsList-at, YieldsList-from_filter, count_from_yields_List}
use Rattle.std.proofs.lemmas.List.{map-id}
use Rattle.std.proofs.lemmas.List.FromFn.{filter_of_map_range_with_len_more}
use Rattle.verdict.proofs.Bools.{decided, test}
use Rattle.wire.specs.Bytes.{u32_bytes, put, put_u32}
use Rattle.wire.specs.Words.{bytes_of}
use Rattle.wire.proofs.Put.{put_append, length_put}
use Rattle.wire.proofs.Runs.{bytes_append, length_bytes}
use Rattle.seams.specs.Mended.{each}
use Rattle.seams.proofs.Lists.{each_none, each_more}

-- what is put behind a list goes on with it
pub put_more : (o l r : List ℕ) (at : ℕ) {out new : List ℕ} {here : ℕ} → out ≡ put o at l → here ≡ at + length l → new ≡ put out here r → new ≡ put o at (l ++ r)
put_more o l r at e h n = rw (n, h, e) (sym (put_append l r o at))

-- ---- words

pub word_more : (o l : List ℕ) (at w : ℕ) {out new : List ℕ} {here : ℕ}
    → out ≡ put o at (bytes_of l) → here ≡ at + 4 * length l → new ≡ put_u32 out here w → new ≡ put o at (bytes_of (l ++ (w ∷ [])))
word_more o l at w e h n =
    rw (bytes_append l (w ∷ []), one) (put_more o (bytes_of l) (u32_bytes w) at e (omega (arith, length_bytes l)) n)
  where
    one : bytes_of (w ∷ []) ≡ u32_bytes w
    one = unfold bytes_of in append-nil (u32_bytes w)

-- the first words of a table: none, one more, all
module _ (o ws : List ℕ) (at : ℕ) where
  pub none_put : o ≡ put o at (bytes_of (take 0 ws))
  unfolding put bytes_of
  none_put = refl

  pub one_put : (i w : ℕ) {out new : List ℕ} → i < length ws → w ≡ get_or ws i 0
      → out ≡ put o at (bytes_of (take i ws)) → new ≡ put_u32 out (at + 4 * i) w → new ≡ put o at (bytes_of (take (i + 1) ws))
  one_put i w l g e n =
      rw (add-one i, take-suc ws i 0 l, ← g) (word_more o (take i ws) at w e (ap (λ (k : ℕ). at + 4 * k) (sym (length-take-le i ws (omega arith)))) n)

  pub all_put : (i : ℕ) {out : List ℕ} → length ws ≤ i → out ≡ put o at (bytes_of (take i ws)) → out ≡ put o at (bytes_of ws)
  all_put i l e = e ∙ ap (λ (x : List ℕ). put o at (bytes_of x)) (take_all i ws l)

-- memory in which bytes were put is as long as it was
pub put_long : (o l : List ℕ) (at : ℕ) {out : List ℕ} → out ≡ put o at l → length out ≡ length o
put_long o l at e = rw e (length_put l o at)

-- ---- records, for those numbers that pass a test

each_within : (f : ℕ → List ℕ) (i n : ℕ) → i ≤ n → length (each i f) ≤ length (each n f)
unfolding each
each_within f i zero l = let e : i ≡ 0 = omega arith in rw e (omega arith)
each_within f i (suc n) l =
    decided (ℕ_discrete i (suc n)) (λ e. rw e (omega arith))
    (λ ne. omega (arith, length-append (each n f) (f n), each_within f i n (omega arith)))

module _ (t : ℕ → Bool) (r : ℕ → List ℕ) where
  abbrev pub listed : ℕ → List ℕ
  listed n = each n (λ i. cond (t i) (r i) [])

  pub listed_yes : (i : ℕ) → t i ≡ true → listed (i + 1) ≡ listed i ++ r i
  listed_yes i y = each_more (λ j. cond (t j) (r j) []) i ∙ ap (λ (b : Bool). listed i ++ cond b (r i) []) y

  pub listed_no : (i : ℕ) → t i ≡ false → listed (i + 1) ≡ listed i
  listed_no i y = each_more (λ j. cond (t j) (r j) []) i ∙ ap (λ (b : Bool). listed i ++ cond b (r i) []) y ∙ append-nil (listed i)

  pub length_none : length (listed 0) ≡ 0
  length_none = ap length (each_none (λ i. cond (t i) (r i) []))

-- what is listed of the first i is put from `at` on, and the next record goes to `here`
pub record Listed (t : ℕ → Bool) (r : ℕ → List ℕ) (o : List ℕ) (at : ℕ) (list : List ℕ) (here i : ℕ) : Type 0 where
  pub bytes : list ≡ put o at (listed t r i)
  pub next : here ≡ at + length (listed t r i)

-- each record is k bytes long
module _ (t : ℕ → Bool) (r : ℕ → List ℕ) (k : ℕ) (long : (i : ℕ) → length (r i) ≡ k) where
  pub length_yes : (i : ℕ) → t i ≡ true → length (listed t r i) + k ≡ length (listed t r (i + 1))
  length_yes i y = rw (listed_yes t r i y) (omega (arith, length-append (listed t r i) (r i), long i))

  pub length_no : (i : ℕ) → t i ≡ false → length (listed t r i) ≡ length (listed t r (i + 1))
  length_no i y = ap length (sym (listed_no t r i y))

  pub listed_few : (n : ℕ) → length (listed t r n) ≤ n * k
  unfolding each
  listed_few zero = omega arith
  listed_few (suc n) =
      test (t n)
      (λ y. omega (arith, rw add-one at (length_yes n y), listed_few n, suc-mul n k))
      (λ y. omega (arith, rw add-one at (length_no n y), listed_few n, suc-mul n k))

  -- they are as long as k for each number that passes, counted by `(0..n).filter(..).count()`
  listed_long_of : (n : ℕ) → length (filter t (range_with_len 0 n)) * k ≡ length (listed t r n)
  listed_long_of zero = omega (arith, length_none t r)
  listed_long_of (suc n) =
      let e : n + 1 ≡ suc n = omega arith in
      let more : filter t (range_with_len 0 (n + 1)) ≡ filter t (range_with_len 0 n) ++ cond (t n) (n ∷ []) [] = simp map-id at (filter_of_map_range_with_len_more t (λ x. x) 0 n n (omega arith)) in
      subst (λ (m : ℕ). length (filter t (range_with_len 0 m)) * k ≡ length (listed t r m)) e
      (rw (more, length-append (filter t (range_with_len 0 n)) (cond (t n) (n ∷ []) []))
      (test (t n)
      (λ y. rw y (omega (arith, length_yes n y, listed_long_of n)))
      (λ y. rw y (omega (arith, length_no n y, listed_long_of n)))))

  pub listed_counted : {F : Type 0} {g : Mut F (Bor ℕ × Unit {0}) Bool} (n : ℕ) (s : Filter (Range ℕ) F) (c : ℕ) (f : F)
      → (xs : List ℕ) × Drains (filter_steps nat_range_steps g) s xs × (c ≡ length xs) → filter_source s ≡ record { start = 0; end = n } → filter_callee s ≡ f
      → ((x : ℕ) (b : Bool) (q : F) → CalledAt g f x b q → (q ≡ f) × (b ≡ t x)) → c * k ≡ length (listed t r n)
  listed_counted {g = g} n s c f ran from by does =
      rw (count_from_yields_List s c ran (YieldsList-from_filter g t (YieldsList-at from (YieldsList-from_range 0 n n refl (omega arith))) by does)) (listed_long_of n)

  -- none, one more or not
  module _ (o : List ℕ) (at : ℕ) where
    pub listed_start : Listed t r o at o at 0
    listed_start = record {
      bytes = rw (each_none (λ i. cond (t i) (r i) [])) (unfold put in refl);
      next = rw (each_none (λ i. cond (t i) (r i) [])) (omega arith);
    }

    pub listed_put : (i : ℕ) {list new : List ℕ} {here there : ℕ} → Listed t r o at list here i → t i ≡ true → new ≡ put list here (r i) → there ≡ here + k → Listed t r o at new there (i + 1)
    listed_put i a y n e = record {
      bytes = rw (listed_yes t r i y) (put_more o (listed t r i) (r i) at a.bytes a.next n);
      next = omega (arith, length_yes i y, a.next);
    }

    pub listed_left : (i : ℕ) {list new : List ℕ} {here there : ℕ} → Listed t r o at list here i → t i ≡ false → new ≡ list → there ≡ here → Listed t r o at new there (i + 1)
    listed_left i a y n e = record { bytes = n ∙ a.bytes ∙ ap (put o at) (sym (listed_no t r i y)); next = omega (arith, length_no i y, a.next) }

    -- there is room for the record of number i, if there is for all
    pub listed_room : (i n : ℕ) {list : List ℕ} {here : ℕ} → Listed t r o at list here i → i < n → t i ≡ true → at + length (listed t r n) ≤ length o → here + k ≤ length list
    listed_room i n a l y h =
        omega (arith, put_long o (listed t r i) at a.bytes, a.next, length_yes i y, each_within (λ j. cond (t j) (r j) []) (i + 1) n (omega arith))
