-- The rings depend on the half-edges alone: two webs that agree on these have the same edge list and ends, and so have two floors'
-- parts with the same corners in walkable faces, whatever their other tables hold. Assumes nothing.
use Prim.Native.Nat.{ℕ, zero, suc, ◌+◌, ◌*◌, ◌/◌, ◌%◌, ◌<◌, ◌≤◌}
use native.Mathlib.Omega.{arith}
use native.Mathlib.Decide.{dec_lt}
use mathlib.Core.Path.{◌≡◌, refl, sym, ap, ap₂, ◌∙◌}
use mathlib.Core.Bool.{Bool, not, ◌&&◌}
use mathlib.Core.List.{List, [], ◌∷◌, ◌++◌}
use lib.Dec.{eqb, ltb}
use Rattle.verdict.specs.Lowest.{lowest}
use Rattle.verdict.specs.Lists.{times}
use Rattle.verdict.proofs.Bools.{test, decided}
use Rattle.verdict.proofs.Lowest.{lowest_same_lem}
use Rattle.wire.specs.Words.{joined}
use Rattle.tables.specs.Parts.{Parts, corner}
use Rattle.pairs.specs.Halves.{halves, from, to, runs, partner, border}
use Rattle.pairs.specs.Plain.{Apart}
use Rattle.rings.specs.Rings.{Web, unused, unused_at, first, onward, ring, next_ring, rings, ends_from, all_rings, edge_list, end_list}
use Rattle.rings.specs.Afresh.{web_of}
use Rattle.rings.specs.Walk.{Balanced, Good, Even}
use Rattle.rings.proofs.Walk.{State, state_first, state_more, walk, ring_more, rings_done, rings_more, within}
use Rattle.rings.proofs.Complete.{even_none, good_none}
use Rattle.rings.proofs.Afresh.{balanced}

-- the same half-edges: as many, the same borders, each from and to the same vertices
pub record Alike (w u : Web) : Type 0 where
  pub size : w.halves ≡ u.halves
  pub border : (h : ℕ) → h < w.halves → w.border h ≡ u.border h
  pub from : (h : ℕ) → h < w.halves → w.from h ≡ u.from h
  pub to : (h : ℕ) → h < w.halves → w.to h ≡ u.to h

module _ (w u : Web) (k : Alike w u) where
  unused_same : (l : List ℕ) (h : ℕ) → h < w.halves → unused w l h ≡ unused u l h
  unfolding unused
  unused_same l h b = ap (λ (t : Bool). t && eqb (times h l) 0) (k.border h b)

  first_same : (l : List ℕ) → first w l ≡ first u l
  unfolding first
  first_same l = lowest_same_lem w.halves (unused w l) (unused u l) (unused_same l) ∙ ap (λ (n : ℕ). lowest n (unused u l)) k.size

  onward_same : (l : List ℕ) (v : ℕ) → onward w l v ≡ onward u l v
  unfolding onward unused_at
  onward_same l v =
      lowest_same_lem w.halves (unused_at w l v) (unused_at u l v)
      (λ h b. ap₂ (λ (a : Bool) (c : ℕ). a && eqb c v) (unused_same l h b) (k.from h b)) ∙ ap (λ (n : ℕ). lowest n (unused_at u l v)) k.size

  ring_same : (v d : ℕ) (l : List ℕ) (h : ℕ) → State w v h l → ring w v d l h ≡ ring u v d l h
  unfolding ring
  ring_same v zero l h s = refl
  ring_same v (suc d) l h s =
      let used = l ++ (h ∷ []) in
      let e = k.to h s.inside in
      test (eqb (w.to h) v)
      (λ y. rw (y, ← e, y))
      (λ y.
      let ih = ring_same v d used (onward w used (w.to h)) (state_more w v h l s y).0 in
      let on : onward w used (w.to h) ≡ onward u used (u.to h) = onward_same used (w.to h) ∙ ap (onward u used) e in
      ring_more w v d l h y ∙ ap (λ (r : List ℕ). h ∷ r) (ih ∙ ap (ring u v d used) on) ∙ sym (ring_more u v d l h (rw (← e) y)))

  rings_same : (d : ℕ) (l : List ℕ) → Even w l → Good w l → rings w d l ≡ rings u d l
  unfolding rings next_ring
  rings_same zero l e g = refl
  rings_same (suc d) l e g =
      let h = first w l in
      let one = ring w (w.from h) w.halves l h in
      decided (dec_lt h w.halves)
      (λ b.
      let s = state_first w l e g b in
      let j = walk w (w.from h) w.halves l h s (within w l) in
      let same : one ≡ next_ring u l =
      ring_same (w.from h) w.halves l h s ∙ ap₂ (λ (v n : ℕ). ring u v n l h) (k.from h b ∙ ap u.from (first_same l)) k.size ∙
      ap (ring u (u.from (first u l)) u.halves l) (first_same l) in
      let in-u : first u l < u.halves = rw (← first_same l, ← k.size) b in
      rings_more w d l b ∙
      ap₂ (λ (r : List ℕ) (rs : List (List ℕ)). r ∷ rs) same (rings_same d (l ++ one) j.even j.good ∙ ap (λ (r : List ℕ). rings u d (l ++ r)) same) ∙
      sym (rings_more u d l in-u))
      (λ b.
      let out-u : u.halves ≤ first u l = rw (← first_same l, ← k.size) (omega arith) in
      rings_done w d l (omega arith) ∙ sym (rings_done u d l out-u))

  pub all_same : Balanced w → all_rings w ≡ all_rings u
  unfolding all_rings
  all_same b = rings_same w.halves [] (even_none w b) (good_none w b) ∙ ap (λ (n : ℕ). rings u n []) k.size

-- ---- parts with the same corners

module _ (p q : Parts) (size : p.adjacency ≡ q.adjacency) (same : (f e : ℕ) → f < p.adjacency → e < 3 → corner p f e ≡ corner q f e) where
  from_same : (h : ℕ) → h < halves p → from p h ≡ from q h
  unfolding from
  from_same h b = same (h / 3) (h % 3) (omega arith) (omega arith)

  to_same : (h : ℕ) → h < halves p → to p h ≡ to q h
  unfolding to
  to_same h b = same (h / 3) ((h % 3 + 1) % 3) (omega arith) (omega arith)

  runs_same : (a c h : ℕ) → h < halves p → runs p a c h ≡ runs q a c h
  unfolding runs
  runs_same a c h b = ap₂ (λ (x y : ℕ). eqb x a && eqb y c) (from_same h b) (to_same h b)

  partner_same : (h : ℕ) → h < halves p → partner p h ≡ partner q h
  unfolding partner
  partner_same h b =
      lowest_same_lem (halves p) (runs p (to p h) (from p h)) (runs q (to p h) (from p h)) (runs_same (to p h) (from p h)) ∙
      ap₂ (λ (x y : ℕ). lowest (halves p) (runs q x y)) (to_same h b) (from_same h b) ∙
      ap (λ (n : ℕ). lowest (3 * n) (runs q (to q h) (from q h))) size

  border_same : (h : ℕ) → h < halves p → border p h ≡ border q h
  unfolding border
  border_same h b = ap₂ (λ (n g : ℕ). ltb h (3 * n) && not (ltb g (3 * n))) size (partner_same h b)

  alike : Alike (web_of p) (web_of q)
  alike = record { size = ap (λ (n : ℕ). 3 * n) size; border = border_same; from = from_same; to = to_same }

  pub again : Apart p → (edge_list (web_of p) ≡ edge_list (web_of q)) × (end_list (web_of p) ≡ end_list (web_of q))
  unfolding edge_list end_list
  again r = let e = all_same (web_of p) (web_of q) alike (balanced p r) in (ap joined e, ap (ends_from 0) e)
