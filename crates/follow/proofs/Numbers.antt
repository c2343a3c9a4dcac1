-- The memory's numbers by their places: heads, edges and what is kept of half-edges; one put, and all others as they were. Assumes nothing.
use Prim.Native.Nat.{ℕ, zero, suc, ◌+◌, ◌*◌, ◌%◌, ◌<◌, ◌≤◌}
use native.Mathlib.Omega.{arith}
use native.Mathlib.Decide.{dec_lt}
use native.Mathlib.Numerals.{add-one}
use mathlib.Core.Path.{◌≡◌, refl, sym, ap, ap₂, ◌∙◌}
use mathlib.Core.Logic.{inl, inr}
use mathlib.Core.Bool.{cond}
use mathlib.Core.List.{List, [], ◌∷◌, ◌++◌, append-nil}
use lib.ListN.{length, drop, length-append}
use lib.Seq.{drop-drop}
use lib.Dec.{leb}
use borrow.Author.Tests.{le-leb, lt-leb}
use Rattle.verdict.proofs.Bools.{decided}
use Rattle.wire.specs.Bytes.{u16_at, put_u16}
use Rattle.wire.proofs.Short.{u16_other, drop_put_u16, u16_drop}
use Rattle.corners.specs.Memory.{mates_at, mate_place, top, SameTop}
use Rattle.follow.specs.Memory.{head_place, edge_place, mark, edges_in, ends_in, mates, SameMates}

-- ---- a number of its own kind put elsewhere

pub head_other : (m : List ℕ) (v x u : ℕ) → (u ≡ v → ⊥) → u16_at (put_u16 m (head_place v) x) (head_place u) ≡ u16_at m (head_place u)
head_other m v x u ne = u16_other m (head_place v) x (head_place u) (decided (dec_lt u v) (λ l. inl (omega arith)) (λ l. inr (omega arith)))

pub edge_other : (m : List ℕ) (i x j : ℕ) → (j ≡ i → ⊥) → u16_at (put_u16 m (edge_place i) x) (edge_place j) ≡ u16_at m (edge_place j)
edge_other m i x j ne = u16_other m (edge_place i) x (edge_place j) (decided (dec_lt j i) (λ l. inl (omega arith)) (λ l. inr (omega arith)))

pub mate_other : (m : List ℕ) (h x g : ℕ) → (g ≡ h → ⊥) → u16_at (put_u16 m (mate_place h) x) (mate_place g) ≡ u16_at m (mate_place g)
mate_other m h x g ne = u16_other m (mate_place h) x (mate_place g) (decided (dec_lt g h) (λ l. inl (omega arith)) (λ l. inr (omega arith)))

-- ---- edges and ends

pub length_edges : (m : List ℕ) (n : ℕ) → length (edges_in m n) ≡ n
unfolding edges_in
length_edges m zero = refl
length_edges m (suc n) = omega (arith, length-append (edges_in m n) (u16_at m (edge_place n) % mark ∷ []), length_edges m n)

pub edges_same : (m k : List ℕ) (n : ℕ) → ((i : ℕ) → i < n → u16_at k (edge_place i) % mark ≡ u16_at m (edge_place i) % mark) → edges_in k n ≡ edges_in m n
unfolding edges_in
edges_same m k zero h = refl
edges_same m k (suc n) h = ap₂ (λ (l : List ℕ) (x : ℕ). l ++ (x ∷ [])) (edges_same m k n (λ i b. h i (omega arith))) (h n (omega arith))

pub edges_more : (m : List ℕ) (n : ℕ) → edges_in m (n + 1) ≡ edges_in m n ++ (u16_at m (edge_place n) % mark ∷ [])
unfolding edges_in
edges_more m n = rw add-one

pub ends_same : (m k : List ℕ) (n : ℕ) → ((i : ℕ) → i < n → u16_at k (edge_place i) ≡ u16_at m (edge_place i)) → ends_in k n ≡ ends_in m n
unfolding ends_in
ends_same m k zero h = refl
ends_same m k (suc n) h =
    ap₂ (λ (l : List ℕ) (x : ℕ). l ++ cond (leb mark x) (suc n ∷ []) []) (ends_same m k n (λ i b. h i (omega arith))) (h n (omega arith))

pub ends_plain : (m : List ℕ) (n : ℕ) → u16_at m (edge_place n) < mark → ends_in m (n + 1) ≡ ends_in m n
unfolding ends_in
ends_plain m n l = rw (add-one, lt-leb mark (u16_at m (edge_place n)) l) (append-nil (ends_in m n))

pub ends_mark : (m : List ℕ) (n : ℕ) → mark ≤ u16_at m (edge_place n) → ends_in m (n + 1) ≡ ends_in m n ++ ((n + 1) ∷ [])
unfolding ends_in
ends_mark m n l = rw (add-one, le-leb mark (u16_at m (edge_place n)) l)

-- ---- what is kept of half-edges, and past it

pub mates_put : (m : List ℕ) (at x : ℕ) → at + 2 ≤ mates_at → SameMates (put_u16 m at x) m
unfolding mates
mates_put m at x l = drop_put_u16 mates_at m at x l

mate_in : (m : List ℕ) (h : ℕ) → u16_at (mates m) (2 * h) ≡ u16_at m (mate_place h)
unfolding mates
mate_in m h = sym (u16_drop mates_at m (2 * h))

pub mate_same : (m k : List ℕ) (h : ℕ) → SameMates k m → u16_at k (mate_place h) ≡ u16_at m (mate_place h)
mate_same m k h e = sym (mate_in k h) ∙ ap (λ (l : List ℕ). u16_at l (2 * h)) e ∙ mate_in m h

pub top_same : (m k : List ℕ) → SameMates k m → SameTop k m
unfolding mates top
top_same m k e = sym (drop-drop 24576 mates_at k) ∙ ap (drop 24576) e ∙ drop-drop 24576 mates_at m
