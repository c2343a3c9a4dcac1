-- What is asked for gives: few half-edges and low corners, balance; and it still holds of a memory with the same map and as much known. Assumes nothing.
use Prim.Native.Nat.{ℕ, ◌+◌, ◌/◌, ◌%◌, ◌<◌, ◌≤◌}
use native.Mathlib.Omega.{arith}
use native.Mathlib.Decide.{ℕ_discrete}
use mathlib.Core.Path.{◌≡◌, refl, sym, ap, subst, ◌∙◌}
use mathlib.Core.Bool.{true}
use mathlib.Core.List.{List}
use lib.ListN.{length}
use Rattle.verdict.specs.Memory.{work_size}
use Rattle.verdict.proofs.Bools.{clash, decided}
use Rattle.wire.specs.Bytes.{put_u16}
use Rattle.wire.proofs.Short.{length_put_u16, u16_here, drop_put_u16}
use Rattle.tables.specs.Header.{RightHeader}
use Rattle.tables.specs.Parts.{Parts, parts_of}
use Rattle.tables.proofs.Reading.{sized_of}
use Rattle.mesh.specs.Mesh.{Cornered}
use Rattle.pairs.specs.Halves.{halves, from, to, border}
use Rattle.rings.specs.Walk.{Balanced}
use Rattle.rings.proofs.Afresh.{balanced}
use Rattle.corners.specs.Corners.{relinked, recornered}
use Rattle.corners.proofs.Corners.{as_many}
use Rattle.corners.specs.Memory.{map_at, top, SameTop, mate_place, loose, Mapped, Mated}
use Rattle.follow.specs.Memory.{most_vertices, most_halves, head_place, mates, SameMates}
use Rattle.follow.specs.Ready.{web_in, Ready}
use Rattle.follow.specs.Steps.{Small}
use Rattle.follow.proofs.Numbers.{mates_put, mate_other, mate_same, top_same}

-- changed corners change no count
counts : (p : Parts) → ((recornered p).vertices ≡ p.vertices) × ((recornered p).faces ≡ p.faces) × ((recornered p).adjacency ≡ p.adjacency)
unfolding recornered relinked
counts p = (refl, refl, refl)

module _ (b m : List ℕ) (r : Ready b m) where
  pub small_of : Small (web_in b)
  unfolding from to
  small_of =
      let s = sized_of b r.right in
      let n = counts (parts_of b) in
      let low : (f e : ℕ) → f < (recornered (parts_of b)).adjacency → e < 3 → _ = λ f e l k. r.mended.under f e (omega (arith, s.adjacency, n.1, n.2)) k in
      record {
        few = omega (arith, s.adjacency, s.faces, n.2);
        start = λ h l. omega (arith, low (h / 3) (h % 3) (omega arith) (omega arith), s.vertices, n.0);
        finish = λ h l. omega (arith, low (h / 3) ((h % 3 + 1) % 3) (omega arith) (omega arith), s.vertices, n.0);
      }

  pub balanced_of : Balanced (web_in b)
  balanced_of = balanced (recornered (parts_of b)) r.apart

  -- what the functions of changed corners ask for
  pub asked_ends : (h : ℕ) → h < (web_in b).halves → (RightHeader b × Cornered (parts_of b) × (h < halves (parts_of b))) × ((work_size ≤ length m) × Mapped (parts_of b) (top m))
  asked_ends h l = ((r.right, r.cornered, omega (arith, as_many (parts_of b))), (r.long, r.mapped))

  pub asked_border : (h : ℕ) → h < (web_in b).halves → (RightHeader b × (h < halves (parts_of b))) × ((work_size ≤ length m) × Mated (recornered (parts_of b)) m)
  asked_border h l = ((r.right, omega (arith, as_many (parts_of b))), (r.long, r.mated))

  -- the memory afterwards
  pub ready_after : (k : List ℕ) → length k ≡ length m → SameTop k m → Mated (recornered (parts_of b)) k → Ready b k
  ready_after k e t a = record {
    right = r.right;
    cornered = r.cornered;
    mended = r.mended;
    apart = r.apart;
    long = omega (arith, r.long);
    mapped = subst (Mapped (parts_of b)) (sym t) r.mapped;
    mated = a;
  }

  pub ready_same : (k : List ℕ) → length k ≡ length m → SameMates k m → Ready b k
  ready_same k e s =
      ready_after k e (top_same m k s) (record {
        partners = λ h l y. mate_same m k h s ∙ r.mated.partners h l y;
        borders = λ h l y. rw (mate_same m k h s) (r.mated.borders h l y);
      })

-- a border's number put
mated_put : (q : Parts) (m : List ℕ) (h x : ℕ) → h < halves q → halves q ≤ most_halves → work_size ≤ length m → border q h ≡ true → loose ≤ x → x < 65536
    → Mated q m → Mated q (put_u16 m (mate_place h) x)
mated_put q m h x lt few long is big small a = record {
  partners = λ g l y. mate_other m h x g (λ (e : g ≡ h). clash (subst (λ (j : ℕ). border q j ≡ true) (sym e) is) y) ∙ a.partners g l y;
  borders = λ g l y.
      decided (ℕ_discrete g h)
      (λ (e : g ≡ h). rw (e, u16_here m (mate_place h) x (omega arith) small) big)
      (λ (e : g ≡ h → ⊥). rw (mate_other m h x g e) (a.borders g l y));
}

-- a border put before the chain of its vertex: as the code makes it
pub ready_chained : (b m k₁ k₂ : List ℕ) (h a x : ℕ) → Ready b m → h < (web_in b).halves → (web_in b).border h ≡ true → a < most_vertices → x ≤ most_halves
    → k₁ ≡ put_u16 m (mate_place h) (loose + x) → k₂ ≡ put_u16 k₁ (head_place a) h → Ready b k₂ × SameTop k₂ m
unfolding top
ready_chained b m k₁ k₂ h a x r lt is low few e₁ e₂ =
    let small = small_of b m r in
    let l₁ : length k₁ ≡ length m = ap length e₁ ∙ length_put_u16 m (mate_place h) (loose + x) in
    let l₂ : length k₂ ≡ length k₁ = ap length e₂ ∙ length_put_u16 k₁ (head_place a) h in
    let t₁ : SameTop k₁ m = ap top e₁ ∙ drop_put_u16 map_at m (mate_place h) (loose + x) (omega (arith, small.few)) in
    let s₂ : SameMates k₂ k₁ = ap mates e₂ ∙ mates_put k₁ (head_place a) h (omega arith) in
    let mated = mated_put (recornered (parts_of b)) m h (loose + x) lt small.few r.long is (omega arith) (omega arith) r.mated in
    let r₁ = ready_after b m r k₁ l₁ t₁ (subst (Mated (recornered (parts_of b))) (sym e₁) mated) in
    (ready_same b k₁ r₁ k₂ l₂ s₂, top_same k₁ k₂ s₂ ∙ t₁)
