-- Laws of old edge entries: what is valid, and a half-edge's entries counted one by one are what the transition that it keeps goes by.
-- Assumes nothing.
use Prim.Native.Nat.{ℕ, zero, suc, ◌+◌, ◌-◌, ◌<◌, ◌≤◌}
use native.Mathlib.Omega.{arith}
use native.Mathlib.Decide.{dec_lt, ℕ_discrete}
use mathlib.Core.Path.{◌≡◌, refl, sym, ap, ◌∙◌}
use mathlib.Core.Logic.{◌⊎◌, inl, inr, ⊎_elim}
use mathlib.Core.Bool.{Bool, true, false, not, cond}
use lib.Dec.{eqb, ltb, leb}
use borrow.Author.Tests.{ltb-true, leb-true, eqb-true, eq-eqb, ne_eqb, le-leb, lt-leb, le-ltb, lt-ltb, not-true, not-false}
use Rattle.verdict.specs.Lowest.{lowest}
use Rattle.verdict.specs.Lists.{tally}
use Rattle.verdict.proofs.Bools.{clash, test, decided, and_true, true_and, and_no}
use Rattle.verdict.proofs.Lowest.{lowest_is, lowest_hit, lowest_all, any_more, some_under, found_under}
use Rattle.verdict.proofs.Lists.{tally_none, tally_one, one_tally}
use Rattle.tables.specs.Parts.{none32, Parts, edge_of, transition}
use Rattle.pairs.specs.Halves.{halves, border}
use Rattle.border.specs.Loops.{wrong_transition}
use Rattle.kept.specs.Kept.{valid_entry, entry_of, leads_of, kept_by, led_by, kept, led, lost}
use Rattle.kept.specs.Notes.{code_of, several, code_by}

-- a transition's code
pub code_of_none : (t : ℕ) → t ≡ none32 → code_of t ≡ 1
unfolding code_of
code_of_none t e = rw (eq-eqb t none32 e)

pub code_of_some : (t : ℕ) → t ≤ 63 → code_of t ≡ t + 2
unfolding code_of
code_of_some t l = rw (ne_eqb t none32 (λ (e : t ≡ none32). omega arith))

module _ (p : Parts) where
  -- a transition that 18 allows
  pub allowed : (i : ℕ) → wrong_transition p i ≡ false → (transition p i ≤ 63) ⊎ (transition p i ≡ none32)
  unfolding wrong_transition
  allowed i e =
      decided (dec_lt 63 (transition p i))
      (λ l. inr (eqb-true _ _ (not-false (eqb (transition p i) none32) (rw (lt-ltb 63 (transition p i) l) at e)))) (λ l. inl (omega arith))

  pub valid_parts : (i : ℕ) → valid_entry p i ≡ true → (edge_of p i < halves p) × ((transition p i ≤ 63) ⊎ (transition p i ≡ none32))
  unfolding valid_entry
  valid_parts i e =
      let q = and_true (ltb (edge_of p i) (halves p)) (not (wrong_transition p i)) e in
      (ltb-true (edge_of p i) (halves p) q.0, allowed i (not-true (wrong_transition p i) q.1))

  -- by the numbers that code reads
  pub valid_read : (i h n : ℕ) (w : Bool) → h ≡ edge_of p i → n ≡ halves p → w ≡ wrong_transition p i → h < n → not w ≡ valid_entry p i
  unfolding valid_entry
  valid_read i h n w e f g l = rw (← e, ← f, ← g, lt-ltb h n l)

  pub invalid_read : (i h n : ℕ) → h ≡ edge_of p i → n ≡ halves p → n ≤ h → false ≡ valid_entry p i
  unfolding valid_entry
  invalid_read i h n e f l = rw (← e, ← f, le-ltb h n l)

  -- it is an entry of the half-edge that it names, and of no other
  pub entry_own : (i : ℕ) → valid_entry p i ≡ true → entry_of p (edge_of p i) i ≡ true
  unfolding entry_of
  entry_own i e = true_and (valid_entry p i) (eqb (edge_of p i) (edge_of p i)) e (eq-eqb (edge_of p i) (edge_of p i) refl)

  pub entry_other : (i h : ℕ) → (edge_of p i ≡ h → ⊥) → entry_of p h i ≡ false
  unfolding entry_of
  entry_other i h ne = rw (ne_eqb (edge_of p i) h ne) (and_no (valid_entry p i))

  pub entry_invalid : (i h : ℕ) → valid_entry p i ≡ false → entry_of p h i ≡ false
  unfolding entry_of
  entry_invalid i h e = rw e

  pub entry_valid : (i h : ℕ) → entry_of p h i ≡ true → (valid_entry p i ≡ true) × (edge_of p i ≡ h)
  unfolding entry_of
  entry_valid i h e = let q = and_true (valid_entry p i) (eqb (edge_of p i) h) e in (q.0, eqb-true _ _ q.1)

  -- ---- one entry more

  module _ (h n : ℕ) where
    pub led_none : entry_of p h n ≡ false → led_by p (suc n) h ≡ led_by p n h
    unfolding led_by leads_of
    led_none e = any_more (leads_of p h) n (unfold leads_of in rw e)

    pub led_yes : entry_of p h n ≡ true → transition p n ≤ 63 → led_by p (suc n) h ≡ true
    unfolding led_by leads_of
    led_yes e l = some_under (leads_of p h) (suc n) n (omega arith) (unfold leads_of in rw (e, le-leb (transition p n) 63 l))

    pub led_no : 63 < transition p n → led_by p (suc n) h ≡ led_by p n h
    unfolding led_by leads_of
    led_no l = any_more (leads_of p h) n (unfold leads_of in rw (lt-leb (transition p n) 63 l) (and_no (entry_of p h n)))

    pub code_none : entry_of p h n ≡ false → code_by p (suc n) h ≡ code_by p n h
    unfolding code_by
    code_none e = rw e

    pub code_more : entry_of p h n ≡ true → code_by p (suc n) h ≡ cond (eqb (code_by p n h) 0) (code_of (transition p n)) several
    unfolding code_by
    code_more e = rw e

  -- ---- the code tells the number of entries, and of one its transition

  record Coded (h n c : ℕ) : Type 0 where
    none : tally n (entry_of p h) ≡ 0 → c ≡ 0
    one : tally n (entry_of p h) ≡ 1 → c ≡ code_of (transition p (lowest n (entry_of p h)))
    more : 1 < tally n (entry_of p h) → c ≡ several

  module _ (h n : ℕ) where
    tally_no : entry_of p h n ≡ false → tally (suc n) (entry_of p h) ≡ tally n (entry_of p h)
    unfolding tally
    tally_no e = rw e (omega arith)

    tally_yes : entry_of p h n ≡ true → tally (suc n) (entry_of p h) ≡ suc (tally n (entry_of p h))
    unfolding tally
    tally_yes e = rw e (omega arith)

    -- the one entry is the lowest, and stays so
    lowest_in : tally n (entry_of p h) ≡ 1 → lowest n (entry_of p h) < n
    lowest_in e =
        let o = tally_one n (entry_of p h) e in
        decided (dec_lt (lowest n (entry_of p h)) n) (λ l. l) (λ l. clash o.passes ((lowest_is (entry_of p h) n).before o.it (omega (arith, o.under, (lowest_is (entry_of p h) n).within))))

    lowest_stays : tally n (entry_of p h) ≡ 1 → lowest (suc n) (entry_of p h) ≡ lowest n (entry_of p h)
    unfolding lowest
    lowest_stays e = rw (lt-ltb (lowest n (entry_of p h)) n (unfold lowest in lowest_in e))

    lowest_here : entry_of p h n ≡ true → tally n (entry_of p h) ≡ 0 → lowest (suc n) (entry_of p h) ≡ n
    lowest_here e z = lowest_hit (entry_of p h) n (suc n) (lowest_all (entry_of p h) n (tally_none n (entry_of p h) z)) e (omega arith)

  code_some : (t c : ℕ) → c ≡ code_of t → c ≡ 0 → ⊥
  unfolding code_of
  code_some t c = test (eqb t none32) (λ y. rw y (λ e f. omega arith)) (λ y. rw y (λ e f. omega arith))

  coded : (h n : ℕ) → Coded h n (code_by p n h)
  coded h zero = record { none = λ e. unfold code_by in refl; one = λ e. absurd (unfold tally in omega (arith, e)); more = λ l. absurd (unfold tally in omega (arith, l)) }
  coded h (suc n) = test (entry_of p h n) (hit (coded h n)) (miss (coded h n))
    where
      miss : Coded h n (code_by p n h) → entry_of p h n ≡ false → Coded h (suc n) (code_by p (suc n) h)
      miss i e =
          let c = code_none h n e in
          let t = tally_no h n e in
          record {
            none = λ z. c ∙ i.none (sym t ∙ z);
            one = λ z. c ∙ i.one (sym t ∙ z) ∙ ap (λ (k : ℕ). code_of (transition p k)) (sym (lowest_stays h n (sym t ∙ z)));
            more = λ l. c ∙ i.more (omega arith);
          }

      some : Coded h n (code_by p n h) → 0 < tally n (entry_of p h) → code_by p n h ≡ 0 → ⊥
      some i l z =
          decided (ℕ_discrete (tally n (entry_of p h)) 1) (λ o. code_some _ _ (i.one o) z) (λ o. omega (arith, i.more (omega arith)))

      hit : Coded h n (code_by p n h) → entry_of p h n ≡ true → Coded h (suc n) (code_by p (suc n) h)
      hit i e =
          let c = code_more h n e in
          let t = tally_yes h n e in
          record {
            none = λ z. absurd (omega arith);
            one = λ z.
                let none : tally n (entry_of p h) ≡ 0 = omega arith in
                c ∙ rw (i.none none) (ap (λ (k : ℕ). code_of (transition p k)) (sym (lowest_here h n e none)));
            more = λ l. c ∙ rw (ne_eqb (code_by p n h) 0 (some i (omega arith)));
          }

  -- ---- what the code of all entries tells

  module _ (h n : ℕ) where
    kept_at : tally n (entry_of p h) ≡ 1 → kept_by p n h ≡ transition p (lowest n (entry_of p h))
    unfolding kept_by
    kept_at e = rw e

    kept_not : (tally n (entry_of p h) ≡ 1 → ⊥) → kept_by p n h ≡ none32
    unfolding kept_by
    kept_not ne = rw (ne_eqb (tally n (entry_of p h)) 1 ne)

    -- its one valid entry
    pub kept_only : (i : ℕ) → i < n → entry_of p h i ≡ true → ((k : ℕ) → k < n → entry_of p h k ≡ true → k ≡ i) → kept_by p n h ≡ transition p i
    kept_only i l y only =
        let e = one_tally n (entry_of p h) (record { it = i; under = l; passes = y; only = only }) in
        kept_at e ∙ ap (transition p) (only (lowest n (entry_of p h)) (lowest_in h n e) ((lowest_is (entry_of p h) n).holds (lowest_in h n e)))

    -- where a transition of 0 or more is kept, it is that of every valid entry there is
    pub kept_entry : (i : ℕ) → i < n → entry_of p h i ≡ true → kept_by p n h ≤ 63 → kept_by p n h ≡ transition p i
    kept_entry i l y k =
        decided (ℕ_discrete (tally n (entry_of p h)) 1)
        (λ e. let o = tally_one n (entry_of p h) e in kept_only i l y (λ j m z. o.only j m z ∙ sym (o.only i l y)))
        (λ ne. absurd (omega (arith, kept_not ne)))

    -- none, one that is kept with a transition or with -1, or several: what the code and what is kept are
    pub data Tells : Type 0 where
      nothing : code_by p n h ≡ 0 → kept_by p n h ≡ none32 → Tells
      shut : code_by p n h ≡ 1 → kept_by p n h ≡ none32 → Tells
      leads : code_by p n h ≡ kept_by p n h + 2 → kept_by p n h ≤ 63 → Tells
      many : code_by p n h ≡ several → kept_by p n h ≡ none32 → Tells

    pub tells : Tells
    tells =
        let i = coded h n in
        let c = tally n (entry_of p h) in
        decided (ℕ_discrete c 1)
        (λ e.
        let at = lowest n (entry_of p h) in
        let k = kept_at e in
        let v = entry_valid at h ((lowest_is (entry_of p h) n).holds (lowest_in h n e)) in
        ⊎_elim (λ l. leads (i.one e ∙ code_of_some (transition p at) l ∙ ap (λ (x : ℕ). x + 2) (sym k)) (omega arith)) (λ z. shut (i.one e ∙ code_of_none (transition p at) z) (k ∙ z)) (valid_parts at v.0).1)
        (λ e. decided (dec_lt 1 c) (λ l. many (i.more l) (kept_not e)) (λ l. nothing (i.none (omega arith)) (kept_not e)))

    pub code_most : code_by p n h ≤ several
    code_most = by tells
      where
        by : Tells → code_by p n h ≤ several
        by (nothing e k) = omega arith
        by (shut e k) = omega arith
        by (leads e k) = omega arith
        by (many e k) = omega arith

    -- what is kept, read from the code
    pub kept_low : code_by p n h < 2 → none32 ≡ kept_by p n h
    kept_low l = by tells
      where
        by : Tells → none32 ≡ kept_by p n h
        by (nothing e k) = sym k
        by (shut e k) = sym k
        by (leads e k) = absurd (omega arith)
        by (many e k) = absurd (omega arith)

    pub kept_lone : 2 ≤ code_by p n h → (code_by p n h ≡ several → ⊥) → code_by p n h - 2 ≡ kept_by p n h
    kept_lone l ne = by tells
      where
        by : Tells → code_by p n h - 2 ≡ kept_by p n h
        by (nothing e k) = absurd (omega arith)
        by (shut e k) = absurd (omega arith)
        by (leads e k) = omega arith
        by (many e k) = absurd (ne e)

    pub several_none : code_by p n h ≡ several → kept_by p n h ≡ none32
    several_none z = by tells
      where
        by : Tells → kept_by p n h ≡ none32
        by (nothing e k) = k
        by (shut e k) = k
        by (leads e k) = absurd (omega arith)
        by (many e k) = k

    -- a transition of 0 or more that was there is kept, or there are several entries
    pub led_told : led_by p n h ≡ true → (kept_by p n h ≤ 63) ⊎ (code_by p n h ≡ several)
    unfolding led_by leads_of
    led_told e =
        let f = found_under (leads_of p h) n e in
        let i = lowest n (leads_of p h) in
        let l = and_true (entry_of p h i) (leb (transition p i) 63) (unfold leads_of in f.1) in
        decided (ℕ_discrete (tally n (entry_of p h)) 1)
        (λ one.
        let o = tally_one n (entry_of p h) one in
        let at = lowest n (entry_of p h) in
        let same : at ≡ i = o.only at (lowest_in h n one) ((lowest_is (entry_of p h) n).holds (lowest_in h n one)) ∙ sym (o.only i f.0 l.0) in
        inl (rw (kept_at one, same) (leb-true (transition p i) 63 l.1)))
        (λ ne. decided (dec_lt 1 (tally n (entry_of p h))) (λ m. inr ((coded h n).more m)) (λ m. clash l.0 (tally_none n (entry_of p h) (omega arith) i f.0)))

  -- ---- what is lost

  module _ (q : Parts) (h : ℕ) where
    pub lost_none : led p h ≡ false → false ≡ lost p q h
    unfolding lost
    lost_none e = rw e

    pub lost_inside : led p h ≡ true → border q h ≡ false → true ≡ lost p q h
    unfolding lost
    lost_inside e f = rw (e, f)

    pub lost_several : led p h ≡ true → border q h ≡ true → eqb (code_by p p.edges h) several ≡ lost p q h
    unfolding lost
    lost_several e f =
        ⊎_elim
        (λ (l : kept p h ≤ 63).
        let ne : code_by p p.edges h ≡ several → ⊥ = λ z. (let k = several_none h p.edges z in omega arith) in
        rw (e, f, le-leb (kept p h) 63 l, ne_eqb (code_by p p.edges h) several ne))
        (λ (z : code_by p p.edges h ≡ several).
        let k : 63 < kept p h = omega (arith, several_none h p.edges z) in
        rw (e, f, lt-leb (kept p h) 63 k, eq-eqb (code_by p p.edges h) several z)) (led_told h p.edges e)
