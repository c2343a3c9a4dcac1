-- Two floors with the same half-edges, adjacency, edges and perimeters, whatever else differs: all that rules 15 to 19 say of one but 18 they say
-- of the other. Assumes nothing.
use Prim.Native.Nat.{ℕ, zero, suc, ◌+◌}
use native.Mathlib.Omega.{arith}
use mathlib.Core.Path.{◌≡◌, refl, sym, ap, subst, ◌∙◌}
use Rattle.tables.specs.Parts.{Parts, adjacent_to, edge_of, loop_end}
use Rattle.pairs.specs.Halves.{from, to}
use Rattle.pairs.specs.Plain.{Opposite, Alone, Apart, Paired, Border}
use Rattle.border.specs.Loops.{loop_start}
use Rattle.border.specs.Plain.{OneEntry, Bordered, Linked, ClosedChain, Looped, SoundBorders}

pub record SameBorders (p q : Parts) : Type 0 where
  pub adjacency : q.adjacency ≡ p.adjacency
  pub edges : q.edges ≡ p.edges
  pub perimeters : q.perimeters ≡ p.perimeters
  pub starts : (h : ℕ) → from q h ≡ from p h
  pub stops : (h : ℕ) → to q h ≡ to p h
  pub adjacent : (h : ℕ) → adjacent_to q h ≡ adjacent_to p h
  pub edge : (i : ℕ) → edge_of q i ≡ edge_of p i
  pub end : (j : ℕ) → loop_end q j ≡ loop_end p j

back : (p q : Parts) → SameBorders p q → SameBorders q p
back p q s = record {
  adjacency = sym s.adjacency;
  edges = sym s.edges;
  perimeters = sym s.perimeters;
  starts = λ h. sym (s.starts h);
  stops = λ h. sym (s.stops h);
  adjacent = λ h. sym (s.adjacent h);
  edge = λ i. sym (s.edge i);
  end = λ j. sym (s.end j);
}

-- ---- 15 and 16

opposite : (p q : Parts) → SameBorders p q → (g h : ℕ) → Opposite p g h → Opposite q g h
opposite p q s g h a = record { there = s.starts g ∙ a.there ∙ sym (s.stops h); back = s.stops g ∙ a.back ∙ sym (s.starts h) }

alone : (p q : Parts) → SameBorders p q → (h : ℕ) → Alone p h → Alone q h
alone p q s h a = record { none = λ g l o. a.none g (omega (arith, s.adjacency)) (opposite q p (back p q s) g h o) }

border : (p q : Parts) → SameBorders p q → (h : ℕ) → Border p h → Border q h
border p q s h a = record { inside = omega (arith, a.inside, s.adjacency); alone = alone p q s h a.alone }

module _ (p q : Parts) (s : SameBorders p q) where
  apart : Apart p → Apart q
  apart a = record {
    same = λ g h l m e f. a.same g h (omega (arith, s.adjacency)) (omega (arith, s.adjacency)) (sym (s.starts g) ∙ e ∙ s.starts h) (sym (s.stops g) ∙ f ∙ s.stops h);
  }

  paired : Paired p → Paired q
  paired a = record {
    apart = apart a.apart;
    linked = λ g h l m o. s.adjacent h ∙ a.linked g h (omega (arith, s.adjacency)) (omega (arith, s.adjacency)) (opposite q p (back p q s) g h o);
    alone = λ h l o. s.adjacent h ∙ a.alone h (omega (arith, s.adjacency)) (alone q p (back p q s) h o);
  }

  -- ---- 17

  entry : (h : ℕ) → OneEntry p h → OneEntry q h
  entry h o = record {
    at = o.at;
    below = omega (arith, o.below, s.edges);
    here = s.edge o.at ∙ o.here;
    only = λ i l e. o.only i (omega (arith, s.edges)) (sym (s.edge i) ∙ e);
  }

  bordered : Bordered p → Bordered q
  bordered a = record {
    borders = λ i l. subst (Border q) (sym (s.edge i)) (border p q s (edge_of p i) (a.borders i (omega (arith, s.edges))));
    once = λ h k. entry h (a.once h (border q p (back p q s) h k));
  }

  -- ---- 19

  edge_stops : (i : ℕ) → to q (edge_of q i) ≡ to p (edge_of p i)
  edge_stops i = ap (to q) (s.edge i) ∙ s.stops (edge_of p i)

  edge_starts : (i : ℕ) → from q (edge_of q i) ≡ from p (edge_of p i)
  edge_starts i = ap (from q) (s.edge i) ∙ s.starts (edge_of p i)

  chain : (t u : ℕ) → ClosedChain p t u → ClosedChain q t u
  chain t u a = record {
    step = λ i l m. edge_stops i ∙ a.step i l m ∙ sym (edge_starts (i + 1));
    last = λ i l m. edge_stops i ∙ a.last i l m ∙ sym (edge_starts t);
  }

  loop_start_lem : (j : ℕ) → loop_start q j ≡ loop_start p j
  unfolding loop_start
  loop_start_lem zero = refl
  loop_start_lem (suc j) = s.end j

  looped : Looped p → Looped q
  looped a = record {
    rising = λ j l. rw (loop_start_lem j, s.end j) (a.rising j (omega (arith, s.perimeters)));
    within = λ j l. omega (arith, s.end j, s.edges, a.within j (omega (arith, s.perimeters)));
    closed = λ j l. rw (loop_start_lem j, s.end j) (chain (loop_start p j) (loop_end p j) (a.closed j (omega (arith, s.perimeters))));
    full = ap (loop_start q) s.perimeters ∙ loop_start_lem p.perimeters ∙ a.full ∙ sym s.edges;
  }

  -- 18 reads the transitions, which are the other floor's own
  pub borders_same : SoundBorders p → Linked q → SoundBorders q
  borders_same a l = record { paired = paired a.paired; bordered = bordered a.bordered; transitions = l; looped = looped a.looped }
