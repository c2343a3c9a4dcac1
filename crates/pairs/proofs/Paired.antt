-- 15 and 16 and their plain statements: partners, borders, neighbours paired. Assumes nothing.
use mathlib.Core.Path.{◌≡◌, sym, ap, subst, ◌∙◌}
use mathlib.Core.Bool.{true, false, not}
use Prim.Native.Nat.{ℕ, ◌<◌, ◌≤◌}
use native.Mathlib.Omega.{arith}
use native.Mathlib.Decide.{dec_lt}
use lib.Dec.{eqb, ltb}
use borrow.Author.Tests.{lt-ltb, le-ltb, eq-eqb, ltb-true, ltb-false, eqb-true, not-true}
use Rattle.verdict.specs.Lowest.{lowest}
use Rattle.verdict.specs.Verdict.{accepted}
use Rattle.verdict.proofs.Bools.{clash, test, decided, and_true, true_and, not_of_true, not_of_false}
use Rattle.verdict.proofs.Lowest.{lowest_is, none_under, under_none}
use Rattle.verdict.proofs.Verdict.{each_passes, then_both}
use Rattle.tables.specs.Parts.{none32, Parts, adjacent_to}
use Rattle.pairs.specs.Halves.{halves, from, to, runs, repeats, partner, border, pairing, wrong_adjacent, rule15, rule16, rules15to16, RightPairs}
use Rattle.pairs.specs.Plain.{Opposite, Alone, Apart, Paired, Border}
use Rattle.pairs.proofs.Halves.{own_run, pairing_right}

module _ (p : Parts) where
  pub runs_true : (a b h : ℕ) → runs p a b h ≡ true → (from p h ≡ a) × (to p h ≡ b)
  unfolding runs
  runs_true a b h e =
      let q = and_true (eqb (from p h) a) (eqb (to p h) b) e in (eqb-true (from p h) a q.0, eqb-true (to p h) b q.1)

  pub true_runs : (a b h : ℕ) → from p h ≡ a → to p h ≡ b → runs p a b h ≡ true
  unfolding runs
  true_runs a b h e f = true_and (eqb (from p h) a) (eqb (to p h) b) (eq-eqb (from p h) a e) (eq-eqb (to p h) b f)

  -- ---- the definition of the partner is the wording: there is one, and it is opposite; or there is none

  pub partner_found : (h : ℕ) → partner p h < halves p → Opposite p (partner p h) h
  unfolding partner
  partner_found h l =
      let t = runs p (to p h) (from p h) in
      let q = runs_true (to p h) (from p h) (lowest (halves p) t) ((lowest_is t (halves p)).holds l) in
      record { there = q.0; back = q.1 }

  pub partner_none : (h : ℕ) → halves p ≤ partner p h → Alone p h
  unfolding partner
  partner_none h l =
      record { none = λ g b o. clash (true_runs (to p h) (from p h) g o.there o.back) ((lowest_is (runs p (to p h) (from p h)) (halves p)).before g (omega arith)) }

  pub partner_some : (g h : ℕ) → g < halves p → Opposite p g h → partner p h < halves p
  partner_some g h b o =
      decided (dec_lt (partner p h) (halves p)) (λ l. l) (λ l. absurd ((partner_none h (omega arith)).none g b o))

  pub alone_none : (h : ℕ) → Alone p h → halves p ≤ partner p h
  alone_none h n =
      decided (dec_lt (partner p h) (halves p)) (λ l. absurd (n.none (partner p h) l (partner_found h l))) (λ l. omega arith)

  pub opposite_back : (g h : ℕ) → Opposite p g h → Opposite p h g
  opposite_back g h o = record { there = sym o.back; back = sym o.there }

  -- ---- 15

  pub apart_of : ((h : ℕ) → h < halves p → repeats p h ≡ false) → Apart p
  unfolding repeats
  apart_of f = record {
    same = λ g h bg bh e t.
        decided (dec_lt g h) (λ l. absurd (below g h l bh e t))
        (λ m. decided (dec_lt h g) (λ l. absurd (below h g l bg (sym e) (sym t))) (λ n. omega arith));
  }
    where
      below : (g h : ℕ) → g < h → h < halves p → from p g ≡ from p h → to p g ≡ to p h → ⊥
      below g h l b e t = clash (true_runs (from p h) (to p h) g e t) (none_under (runs p (from p h) (to p h)) h (f h b) g l)

  pub apart_to : Apart p → (h : ℕ) → h < halves p → repeats p h ≡ false
  unfolding repeats
  apart_to a h b =
      under_none (runs p (from p h) (to p h)) h
      (λ g l. test (runs p (from p h) (to p h) g)
      (λ y.
      let q = runs_true (from p h) (to p h) g y in
      let e : g ≡ h = a.same g h (omega arith) b q.0 q.1 in
      absurd (omega arith))
      (λ y. y))

  pub apart_met : Apart p → rule15 p ≡ accepted
  unfolding rule15
  apart_met a = each_passes 15 (halves p) (repeats p) (λ h. h) (apart_to a)

  -- the partner is the only one, and its partner is the half-edge itself
  pub partner_only : Apart p → (g h : ℕ) → g < halves p → Opposite p g h → partner p h ≡ g
  partner_only a g h b o =
      let l = partner_some g h b o in
      let q = partner_found h l in
      a.same (partner p h) g l b (q.there ∙ sym o.there) (q.back ∙ sym o.back)

  pub partner_twice : Apart p → (h : ℕ) → h < halves p → partner p h < halves p → partner p (partner p h) ≡ h
  partner_twice a h b l = partner_only a h (partner p h) b (opposite_back (partner p h) h (partner_found h l))

  -- a half-edge whose ends differ is not its own partner
  pub partner_other : (h : ℕ) → h < halves p → (from p h ≡ to p h → ⊥) → partner p h ≡ h → ⊥
  partner_other h b differ e = differ (subst (λ (g : ℕ). from p g ≡ to p h) e (partner_found h (omega arith)).there)

  -- ---- a border, in plain words

  pub border_of : (h : ℕ) → border p h ≡ true → Border p h
  unfolding border
  border_of h e =
      let q = and_true (ltb h (halves p)) (not (ltb (partner p h) (halves p))) e in
      record {
        inside = ltb-true h (halves p) q.0;
        alone = partner_none h (ltb-false (partner p h) (halves p) (not-true (ltb (partner p h) (halves p)) q.1));
      }

  pub border_to : (h : ℕ) → Border p h → border p h ≡ true
  unfolding border
  border_to h b =
      true_and (ltb h (halves p)) (not (ltb (partner p h) (halves p))) (lt-ltb h (halves p) b.inside)
      (not_of_false (ltb (partner p h) (halves p)) (le-ltb (partner p h) (halves p) (alone_none h b.alone)))

  -- a half-edge that is no border has a partner
  pub partner_in : (h : ℕ) → h < halves p → border p h ≡ false → partner p h < halves p
  partner_in h l y =
      decided (dec_lt (partner p h) (halves p)) (λ i. i) (λ i. clash (border_to h (record { inside = l; alone = partner_none h (omega arith) })) y)

  -- ---- 16: what the adjacency entry should be

  pub pairing_some : (h : ℕ) → partner p h < halves p → pairing p h ≡ partner p h
  unfolding pairing
  pairing_some h l = rw (lt-ltb (partner p h) (halves p) l)

  pub pairing_no : (h : ℕ) → halves p ≤ partner p h → pairing p h ≡ none32
  unfolding pairing
  pairing_no h l = rw (le-ltb (partner p h) (halves p) l)

  -- rules 15 and 16 are unbroken exactly if the neighbours are paired
  pub paired_of : RightPairs p → Paired p
  paired_of z =
      let a = apart_of (own_run p z) in
      record {
        apart = a;
        linked = λ g h bg bh o. pairing_right p z h bh ∙ pairing_some h (partner_some g h bg o) ∙ partner_only a g h bg o;
        alone = λ h b n. pairing_right p z h b ∙ pairing_no h (alone_none h n);
      }

  entry_right : Paired p → (h : ℕ) → h < halves p → adjacent_to p h ≡ pairing p h
  entry_right q h b =
      decided (dec_lt (partner p h) (halves p)) (λ l. q.linked (partner p h) h l b (partner_found h l) ∙ sym (pairing_some h l))
      (λ l. q.alone h b (partner_none h (omega arith)) ∙ sym (pairing_no h (omega arith)))

  not_wrong : Paired p → (h : ℕ) → h < halves p → wrong_adjacent p h ≡ false
  unfolding wrong_adjacent
  not_wrong q h b = not_of_true (eqb (adjacent_to p h) (pairing p h)) (eq-eqb (adjacent_to p h) (pairing p h) (entry_right q h b))

  pub paired_to : Paired p → rules15to16 p ≡ accepted
  unfolding rules15to16 rule16
  paired_to q = then_both (apart_met q.apart) (each_passes 16 (halves p) (wrong_adjacent p) (λ h. h) (not_wrong q))

  -- the adjacency entries are an involution: a neighbour's neighbour is the half-edge itself
  pub adjacent_twice : Paired p → (h : ℕ) → h < halves p → adjacent_to p h < none32 → (adjacent_to p h < halves p) × (adjacent_to p (adjacent_to p h) ≡ h)
  adjacent_twice q h b l =
      decided (dec_lt (partner p h) (halves p))
      (λ s.
      let o = partner_found h s in
      let e : adjacent_to p h ≡ partner p h = q.linked (partner p h) h s b o in
      (omega arith, ap (adjacent_to p) e ∙ q.linked h (partner p h) b s (opposite_back (partner p h) h o)))
      (λ s. absurd (omega (arith, q.alone h b (partner_none h (omega arith)))))

  -- the adjacency entry is -1 exactly at borders
  pub entry_border : p.adjacency ≤ 4096 → Paired p → (h : ℕ) → h < halves p → adjacent_to p h ≡ none32 → Border p h
  entry_border few q h b e = record { inside = b; alone = record { none = λ g l o. absurd (omega (arith, q.linked g h l b o)) } }

  pub border_entry : Paired p → (h : ℕ) → Border p h → adjacent_to p h ≡ none32
  border_entry q h b = q.alone h b.inside b.alone
