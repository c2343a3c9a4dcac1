-- Edges and perimeters worked out afresh are right: where no two half-edges run the same way, parts with such tables meet rules 16, 17
-- and 19, and with transitions that rule 18 allows all of 15 to 19. Assumes nothing.
use Prim.Native.Nat.{ℕ, zero, suc, ◌+◌, ◌<◌, ◌≤◌}
use native.Mathlib.Omega.{arith}
use mathlib.Core.Path.{◌≡◌, refl, sym, ap, subst, ◌∙◌}
use mathlib.Core.List.{List}
use lib.ListN.{length, get_or}
use Rattle.verdict.specs.Lists.{bit}
use Rattle.verdict.specs.Verdict.{accepted}
use Rattle.verdict.proofs.Bools.{test}
use Rattle.wire.specs.Words.{joined}
use Rattle.tables.specs.Parts.{Parts, edge_of, loop_end}
use Rattle.pairs.specs.Halves.{border, rules15to16}
use Rattle.pairs.specs.Plain.{Apart, Paired}
use Rattle.pairs.proofs.Halves.{border_in}
use Rattle.pairs.proofs.Paired.{border_of, border_to, partner_some, partner_only, alone_none, pairing_some, pairing_no}
use Rattle.border.specs.Loops.{loop_start, rules17to19}
use Rattle.border.specs.Plain.{Bordered, Linked, Looped, SoundBorders}
use Rattle.border.proofs.Sound.{sound_borders}
use Rattle.rings.specs.Rings.{edge_list, end_list, all_rings, ends_from}
use Rattle.rings.specs.Afresh.{web_of, Afresh}
use Rattle.rings.specs.Walk.{Balanced}
use Rattle.rings.proofs.Balance.{balance}
use Rattle.rings.proofs.Complete.{all_rings_lem, each_once}
use Rattle.rings.proofs.Places.{stands, one_place}
use Rattle.rings.proofs.Runs.{start_from, ends_full, RightRun, runs_right}

module _ (p : Parts) (r : Apart p) where
  pub balanced : Balanced (web_of p)
  balanced = record { inside = border_in p; even = balance p r }

  module _ (a : Afresh p) where
    -- ---- 16

    pub paired_afresh : Paired p
    paired_afresh = record {
      apart = r;
      linked = λ g h bg bh o. a.adjacent h bh ∙ pairing_some p h (partner_some p g h bg o) ∙ partner_only p r g h bg o;
      alone = λ h b n. a.adjacent h b ∙ pairing_no p h (alone_none p h n);
    }

    -- ---- 17

    listed : List ℕ
    listed = edge_list (web_of p)

    pub bordered_afresh : Bordered p
    unfolding listed
    bordered_afresh = record {
      borders = λ i l.
          test (border p (edge_of p i)) (border_of p (edge_of p i))
          (λ y. absurd (omega (arith, ap bit y, each_once (web_of p) balanced (edge_of p i), stands listed i (edge_of p i) (omega (arith, a.edges)) (sym (a.edge i l)))));
      once = λ h b.
          let o = one_place listed h (each_once (web_of p) balanced h ∙ ap bit (border_to p h b)) in
          let below : o.at < p.edges = omega (arith, o.below, a.edges) in
          record {
            at = o.at;
            below = below;
            here = a.edge o.at below ∙ o.here;
            only = λ i l e. o.only i (omega (arith, a.edges)) (sym (a.edge i l) ∙ e);
          };
    }

    -- ---- 19

    start_is : (j : ℕ) → j ≤ p.perimeters → loop_start p j ≡ start_from 0 (end_list (web_of p)) j
    unfolding loop_start start_from
    start_is zero l = refl
    start_is (suc j) l = a.loop j l

    total : (n : ℕ) → 0 + n ≡ n
    total n = omega arith

    run : (j : ℕ) → j < p.perimeters → RightRun (web_of p) (edge_of p) p.edges (loop_start p j) (loop_end p j)
    unfolding end_list edge_list
    run j l =
        let rs = all_rings (web_of p) in
        let n : 0 + length (joined rs) ≡ p.edges = total (length (joined rs)) ∙ sym a.edges in
        let k = runs_right (web_of p) (edge_of p) 0 rs (all_rings_lem (web_of p) balanced)
        (λ i b. ap (edge_of p) (total i) ∙ a.edge i (omega (arith, a.edges))) j (omega (arith, a.perimeters)) in
        rw (start_is j (omega arith), a.loop j l)
        (subst (λ (m : ℕ). RightRun (web_of p) (edge_of p) m (start_from 0 (ends_from 0 rs) j) (get_or (ends_from 0 rs) j 0)) n k)

    pub looped_afresh : Looped p
    unfolding end_list edge_list
    looped_afresh = record {
      rising = λ j l. (run j l).rises;
      within = λ j l. (run j l).ends;
      closed = λ j l. let c = (run j l).chain in record { step = c.step; last = c.last };
      full =
          start_is p.perimeters (omega arith) ∙ ap (start_from 0 (end_list (web_of p))) a.perimeters ∙ ends_full 0 (all_rings (web_of p)) ∙
          total (length (joined (all_rings (web_of p)))) ∙ sym a.edges;
    }

    -- ---- 15 to 19

    pub sound_afresh : Linked p → SoundBorders p
    sound_afresh t = record { paired = paired_afresh; bordered = bordered_afresh; transitions = t; looped = looped_afresh }

    pub accepted_afresh : Linked p → (rules15to16 p ≡ accepted) × (rules17to19 p ≡ accepted)
    accepted_afresh t = sound_borders p (sound_afresh t)
