-- One ring in the memory: what holds whenever the loop's test is reached, and a law for each place of the loop. Assumes nothing.
use Prim.Native.Nat.{ℕ, ◌+◌, ◌<◌, ◌≤◌}
use native.Mathlib.Omega.{arith}
use mathlib.Core.Path.{◌≡◌, refl, sym, ap, subst, ◌∙◌}
use mathlib.Core.Bool.{true, false}
use mathlib.Core.List.{List, [], ◌∷◌, ◌++◌}
use lib.ListN.{length}
use lib.Dec.{eqb}
use Rattle.verdict.proofs.Lowest.{lowest_only}
use Rattle.rings.specs.Rings.{Web, first, onward, unused, next_ring}
use Rattle.rings.specs.Heads.{InOrder, AtHead}
use Rattle.rings.specs.Walk.{left}
use Rattle.rings.specs.Turns.{Going}
use Rattle.rings.proofs.Unused.{left_more}
use Rattle.rings.proofs.Heads.{first_head, free}
use Rattle.rings.proofs.Turns.{Turn, going_more, going_done, between_start}
use Rattle.follow.specs.Memory.{most_vertices, head_in, edges_in, ends_in, SameMates}
use Rattle.follow.specs.Steps.{Small, Held, Due, Unmarked, Stepped, Rung, Passed}
use Rattle.follow.proofs.Numbers.{length_edges}

-- there is room for the border that is due
due_of : (w : Web) (m : List ℕ) (n h : ℕ) → Small w → Held w m (edges_in m n) → InOrder w (edges_in m n) → AtHead w (edges_in m n) h
    → left w (edges_in m n) + length (edges_in m n) ≤ w.halves → Due w m n h
due_of w m n h small held o a r =
    let l = edges_in m n in
    let k = left_more w l h a.inside (free w l h a) in
    record { held = held; order = o; head = a; room = omega (arith, length_edges m n, small.few) }

-- whenever the loop's test is reached: m is the memory where the loop began, k the memory now
pub record Loop (w : Web) (m k : List ℕ) (i v c n : ℕ) : Type 0 where
  pub going : Going w v c (edges_in k n) (edges_in m i ++ next_ring w (edges_in m i))
  pub held : Held w k (edges_in k n)
  pub ends : ends_in k n ≡ ends_in m (i + 1)
  pub last : Unmarked k n
  pub same : SameMates k m
  pub low : c < most_vertices
  pub long : length k ≡ length m

module _ (w : Web) (small : Small w) where
  module _ (m : List ℕ) (i j h : ℕ) (p : Passed w m i j h) (lt : h < w.halves) (e : unused w (edges_in m i) h ≡ true) where
    -- the half-edge is the lowest border that is left
    pub first_is : h ≡ first w (edges_in m i)
    unfolding first
    first_is = sym (lowest_only (unused w (edges_in m i)) w.halves h (record { within = omega arith; holds = λ q. e; before = p.used }))

    inside : first w (edges_in m i) < w.halves
    inside = subst (λ (x : ℕ). x < w.halves) first_is lt

    -- the first step
    pub first_due : Due w m i h
    first_due =
        due_of w m i h small p.held p.between.order (subst (AtHead w (edges_in m i)) (sym first_is) (first_head w (edges_in m i) inside)) p.between.room

    pub loop_first : (k : List ℕ) (v c : ℕ) → Stepped w m k i h → v ≡ w.from h → c ≡ w.to h → Loop w k k i v c (i + 1)
    loop_first k v c s ev ec =
        let l = edges_in m i in
        let start = between_start w l (ends_in m i) p.between inside in
        let here : Going w (w.from h) (w.to h) (l ++ (h ∷ [])) (l ++ next_ring w l) =
        subst (λ (x : ℕ). Going w (w.from x) (w.to x) (l ++ (x ∷ [])) (l ++ next_ring w l)) (sym first_is) start in
        record {
          going = rw (ev, ec, s.list, s.before) here;
          held = s.held;
          ends = refl;
          last = s.last;
          same = refl;
          low = rw ec (small.finish h lt);
          long = refl;
        }

  module _ (m k : List ℕ) (i v c n : ℕ) (r : Loop w m k i v c n) where
    turn : eqb c v ≡ false → Turn w v c (edges_in k n) (edges_in m i ++ next_ring w (edges_in m i))
    turn y = going_more w v c (edges_in k n) (edges_in m i ++ next_ring w (edges_in m i)) r.going y

    head_is : (g : ℕ) → g ≡ head_in k c → g ≡ onward w (edges_in k n) c
    head_is g e = e ∙ r.held.heads c r.low

    -- a turn's step
    pub loop_turn : eqb c v ≡ false → (g : ℕ) → g ≡ head_in k c → Due w k n g
    loop_turn y g e =
        let t = turn y in
        due_of w k n g small r.held r.going.order (subst (AtHead w (edges_in k n)) (sym (head_is g e)) t.head) r.going.room

    -- and what it leaves
    pub loop_next : eqb c v ≡ false → (g d : ℕ) (p : List ℕ) → g ≡ head_in k c → Stepped w k p n g → d ≡ w.to g → length p ≡ length k
        → Loop w m p i v d (n + 1) × (left w (edges_in p (n + 1)) < left w (edges_in k n))
    loop_next y g d p e s ed long =
        let t = turn y in
        let whole = edges_in m i ++ next_ring w (edges_in m i) in
        let l = edges_in k n in
        let eg = sym (head_is g e) in
        let inside : g < w.halves = subst (λ (x : ℕ). x < w.halves) eg t.inside in
        let more : Going w v (w.to g) (l ++ (g ∷ [])) whole = subst (λ (x : ℕ). Going w v (w.to x) (l ++ (x ∷ [])) whole) eg t.more in
        let fewer : left w l ≡ left w (l ++ (g ∷ [])) + 1 = subst (λ (x : ℕ). left w l ≡ left w (l ++ (x ∷ [])) + 1) eg t.fewer in (
          record {
            going = rw (ed, s.list) more;
            held = s.held;
            ends = s.ends ∙ r.ends;
            last = s.last;
            same = s.same ∙ r.same;
            low = rw ed (small.finish g inside);
            long = long ∙ r.long;
          },
          omega (arith, ap (left w) s.list),
        )

    -- the way out
    pub loop_done : (m₀ : List ℕ) (h : ℕ) → c ≡ v → Stepped w m₀ m i h → Rung w m₀ k i n
    loop_done m₀ h e s =
        let whole = edges_in m i ++ next_ring w (edges_in m i) in
        let done = going_done w v c (edges_in k n) whole r.going e in
        record {
          list = done ∙ ap (λ (l : List ℕ). l ++ next_ring w l) s.before;
          ends = r.ends ∙ s.ends;
          last = r.last;
          held = r.held;
          order = r.going.order;
          within = omega (arith, r.going.room, length_edges k n, small.few);
          same = r.same ∙ s.same;
        }
