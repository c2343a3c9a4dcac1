-- A mended floor mended again: the same parts, and nothing in the list. Assumes nothing.
use Prim.Native.Nat.{ℕ, ◌+◌, ◌*◌, ◌/◌, ◌%◌, ◌<◌, ◌≤◌}
use native.Mathlib.Omega.{arith}
use mathlib.Core.Path.{◌≡◌, refl, sym, ap, subst, ◌∙◌}
use mathlib.Core.Logic.{◌⊎◌, inl, inr}
use mathlib.Core.Bool.{true, false, not, cond, ◌&&◌}
use mathlib.Core.List.{List, [], ◌∷◌, map}
use lib.ListN.{length, get_or}
use Rattle.wire.specs.Words.{joined}
use lib.Dec.{eqb, ltb, leb}
use borrow.Author.Tests.{lt-ltb, le-leb, le-ltb, eq-eqb, leb-true}
use Rattle.verdict.specs.Lowest.{lowest}
use Rattle.verdict.specs.Lists.{bit}
use Rattle.verdict.proofs.Bools.{test, and_true, true_and, and_no, not_of_true, not_of_false}
use Rattle.verdict.proofs.Lowest.{found_under}
use Rattle.verdict.proofs.Lists.{map_same}
use Rattle.tables.specs.Parts.{none32, Parts, table_of, word_of, edge_of, transition}
use Rattle.tables.specs.Fixed.{Whole}
use Rattle.mesh.specs.Mesh.{Cornered, Meshed}
use Rattle.pairs.specs.Halves.{halves, from, to, runs, partner, border, pairing}
use Rattle.pairs.specs.Plain.{Apart}
use Rattle.pairs.proofs.Halves.{border_in}
use Rattle.border.specs.Loops.{wrong_transition}
use Rattle.corners.specs.Corners.{level, same_point, lowest_same, relinked, mended_corners, recornered}
use Rattle.corners.proofs.Corners.{lowest_own, mended_word}
use Rattle.rings.specs.Rings.{Web, edge_list, end_list}
use Rattle.rings.specs.Afresh.{web_of}
use Rattle.rings.proofs.Afresh.{balanced}
use Rattle.rings.proofs.Complete.{each_once}
use Rattle.rings.proofs.Places.{OnePlace, one_place}
use Rattle.kept.specs.Kept.{valid_entry, entry_of, leads_of, led_by, kept, led, lost}
use Rattle.kept.proofs.Entries.{entry_valid, kept_only}
use Rattle.seams.specs.Mended.{adjacency_of, entries_for, mended}
use Rattle.seams.specs.Changes.{old_corner, new_corner, changed, corner_record, lost_record, corner_changes, lost_changes, changes}
use Rattle.seams.proofs.Lists.{each_empty}
use Rattle.seams.proofs.Result.{q, m, L, D, fits, edge_count, edge_at, transition_at, kept_allowed, edge_border}

map_id : (l : List ℕ) → map (λ x. x) l ≡ l
map_id [] = refl
map_id (x ∷ l) = ap (λ (r : List ℕ). x ∷ r) (map_id l)

relinked_alike : (p : Parts) {cs cs' js js' es es' ds ds' : List ℕ} {E E' P P' : ℕ} → cs ≡ cs' → js ≡ js' → E ≡ E' → es ≡ es' → P ≡ P' → ds ≡ ds'
    → relinked p cs js E es P ds ≡ relinked p cs' js' E' es' P' ds'
relinked_alike p e1 e2 e3 e4 e5 e6 = rw (e1, e2, e3, e4, e5, e6)

is_relinked : (p : Parts) → let u = recornered p in
    mended p ≡ relinked p (mended_corners p) (adjacency_of u) (length (edge_list (web_of u))) (entries_for p (edge_list (web_of u))) (length (end_list (web_of u))) (end_list (web_of u))
unfolding mended
is_relinked p = refl

module _ (p : Parts) (w : Whole p) (mesh : Meshed p) (c : Cornered (recornered p)) (a : Apart (recornered p)) where
  old_under : (j : ℕ) → j < 3 * p.faces → get_or (table_of p 1) j 0 < p.vertices
  old_under j l =
      let e : j / 3 * 3 + j % 3 ≡ j = omega arith in
      subst (λ (k : ℕ). get_or (table_of p 1) k 0 < p.vertices) e (unfold word_of in mesh.cornered.under (j / 3) (j % 3) (omega arith) (omega arith))

  -- ---- corners are the lowest already

  lowest_same_as : (v : ℕ) → lowest_same (m p) v ≡ lowest_same p v
  unfolding mended relinked word_of lowest_same same_point level
  lowest_same_as v = refl

  -- corner j of the mended floor is its own lowest
  own_lowest : (j : ℕ) → j < 3 * p.faces → lowest_same (m p) (get_or (mended_corners p) j 0) ≡ get_or (mended_corners p) j 0
  own_lowest j l =
      let e = mended_word p w.fit j l in
      lowest_same_as (get_or (mended_corners p) j 0) ∙ ap (lowest_same p) e ∙ lowest_own p mesh.finite (get_or (table_of p 1) j 0) (old_under j l) ∙ sym e

  table_mended : table_of (m p) 1 ≡ mended_corners p
  unfolding mended relinked
  table_mended = refl

  corners_twice : mended_corners (m p) ≡ mended_corners p
  unfolding mended_corners
  corners_twice =
      ap (map (lowest_same (m p))) table_mended
      ∙ map_same (lowest_same (m p)) (λ x. x) 0 (mended_corners p) (λ k l. own_lowest k (omega (arith, (fits p w mesh c a).corners)))
      ∙ map_id (mended_corners p)

  -- so the half-edges are those that were worked out
  again_is : recornered (m p) ≡ relinked (m p) (mended_corners p) (table_of (m p) 6) (m p).edges (table_of (m p) 7) (m p).perimeters (table_of (m p) 8)
  unfolding recornered
  again_is = ap (λ (cs : List ℕ). relinked (m p) cs (table_of (m p) 6) (m p).edges (table_of (m p) 7) (m p).perimeters (table_of (m p) 8)) corners_twice

  web_twice : web_of (recornered (m p)) ≡ web_of (q p)
  web_twice = ap web_of again_is ∙ (unfold mended recornered relinked word_of from to runs partner border in refl)

  -- 8 and 15 of the corners changed again
  pub cornered_again : Cornered (recornered (m p))
  cornered_again = rw again_is (unfold mended recornered relinked word_of in record { under = c.under; three = c.three })

  pub apart_again : Apart (recornered (m p))
  apart_again = rw again_is (unfold mended recornered relinked word_of from to in record { same = a.same })

  adjacency_twice : adjacency_of (recornered (m p)) ≡ adjacency_of (q p)
  adjacency_twice = ap adjacency_of again_is ∙ (unfold adjacency_of mended recornered relinked word_of from to runs partner pairing in refl)

  -- ---- each border has one entry, which is valid: what it has it keeps

  abbrev edge : ℕ → ℕ
  edge i = get_or (L p w mesh c a) i 0

  place_of : (i : ℕ) → i < length (L p w mesh c a) → OnePlace (L p w mesh c a) (edge i)
  place_of i l = one_place (L p w mesh c a) (edge i) (each_once (web_of (q p)) (balanced (q p) a) (edge i) ∙ ap bit (edge_border p w mesh c a i l))

  valid_mended : (i : ℕ) → i < length (L p w mesh c a) → valid_entry (m p) i ≡ true
  unfolding valid_entry wrong_transition
  valid_mended i l =
      let h = edge i in
      let inside : edge_of (m p) i < halves (m p) = rw (edge_at p w mesh c a i l) (unfold mended recornered relinked in border_in (q p) h (edge_border p w mesh c a i l)) in
      let t = transition (m p) i in
      true_and (ltb (edge_of (m p) i) (halves (m p))) (not (ltb 63 t && not (eqb t none32))) (lt-ltb (edge_of (m p) i) (halves (m p)) inside)
      (not_of_false (ltb 63 t && not (eqb t none32)) (rw (transition_at p w mesh c a i l) (right (kept p h) (kept_allowed p w mesh c a h))))
    where
      right : (t : ℕ) → (t ≤ 63) ⊎ (t ≡ none32) → (ltb 63 t && not (eqb t none32)) ≡ false
      right t (inl k) = rw (le-ltb 63 t k)
      right t (inr e) = rw (eq-eqb t none32 e) (and_no (ltb 63 t))

  own_entry : (i : ℕ) → i < length (L p w mesh c a) → entry_of (m p) (edge i) i ≡ true
  unfolding entry_of
  own_entry i l = true_and (valid_entry (m p) i) (eqb (edge_of (m p) i) (edge i)) (valid_mended i l) (eq-eqb (edge_of (m p) i) (edge i) (edge_at p w mesh c a i l))

  only_entry : (i : ℕ) → i < length (L p w mesh c a) → (k : ℕ) → k < (m p).edges → entry_of (m p) (edge i) k ≡ true → k ≡ i
  only_entry i l k b e =
      let o = place_of i l in
      let b2 : k < length (L p w mesh c a) = rw (← edge_count p w mesh c a) b in
      o.only k b2 (sym (edge_at p w mesh c a k b2) ∙ (entry_valid (m p) k (edge i) e).1) ∙ sym (o.only i l refl)

  kept_mended : (i : ℕ) → i < length (L p w mesh c a) → kept (m p) (edge i) ≡ transition (m p) i
  kept_mended i l = kept_only (m p) (edge i) (m p).edges i (rw (edge_count p w mesh c a) l) (own_entry i l) (only_entry i l)

  kept_twice : (i : ℕ) → i < length (L p w mesh c a) → kept (m p) (edge i) ≡ kept p (edge i)
  kept_twice i l = kept_mended i l ∙ transition_at p w mesh c a i l

  entries_twice : entries_for (m p) (edge_list (web_of (recornered (m p)))) ≡ entries_for p (L p w mesh c a)
  unfolding entries_for
  entries_twice =
      ap (λ (u : Web). entries_for (m p) (edge_list u)) web_twice
      ∙ ap joined (map_same (λ h. h ∷ kept (m p) h ∷ []) (λ h. h ∷ kept p h ∷ []) 0 (L p w mesh c a) (λ i l. ap (λ (t : ℕ). edge i ∷ t ∷ []) (kept_twice i l)))

  -- ---- the same parts

  -- what is worked out afresh of it is what it has
  same_again : mended (m p) ≡ relinked (m p) (mended_corners p) (adjacency_of (q p)) (length (L p w mesh c a)) (entries_for p (L p w mesh c a)) (length (D p w mesh c a)) (D p w mesh c a)
  same_again =
      let e1 : length (edge_list (web_of (recornered (m p)))) ≡ length (L p w mesh c a) = ap (λ (u : Web). length (edge_list u)) web_twice in
      let e2 : length (end_list (web_of (recornered (m p)))) ≡ length (D p w mesh c a) = ap (λ (u : Web). length (end_list u)) web_twice in
      is_relinked (m p) ∙ relinked_alike (m p) corners_twice adjacency_twice e1 entries_twice e2 (ap end_list web_twice)

  own_relinked : relinked (m p) (mended_corners p) (adjacency_of (q p)) (length (L p w mesh c a)) (entries_for p (L p w mesh c a)) (length (D p w mesh c a)) (D p w mesh c a) ≡ m p
  unfolding mended relinked
  own_relinked = refl

  pub mended_twice : mended (m p) ≡ m p
  mended_twice = same_again ∙ own_relinked

  -- ---- nothing in the list

  corner_stays : (j : ℕ) → j < 3 * p.faces → changed (m p) j ≡ false
  unfolding changed
  corner_stays j l = not_of_true (eqb (new_corner (m p) j) (old_corner (m p) j)) (eq-eqb (new_corner (m p) j) (old_corner (m p) j) (rw table_mended (own_lowest j l)))

  -- a half-edge with an entry that leads somewhere is a border, and keeps it
  leads_kept : (h i : ℕ) → i < (m p).edges → leads_of (m p) h i ≡ true → (border (recornered (m p)) h ≡ true) × (kept (m p) h ≤ 63)
  unfolding leads_of
  leads_kept h i l y =
      let k = and_true (entry_of (m p) h i) (leb (transition (m p) i) 63) y in
      let l2 : i < length (L p w mesh c a) = rw (← edge_count p w mesh c a) l in
      let e : edge i ≡ h = sym (edge_at p w mesh c a i l2) ∙ (entry_valid (m p) i h k.0).1 in
      let b : border (recornered (m p)) (edge i) ≡ true = ap (λ (u : Web). u.border (edge i)) web_twice ∙ edge_border p w mesh c a i l2 in
      (subst (λ (g : ℕ). border (recornered (m p)) g ≡ true) e b, subst (λ (g : ℕ). kept (m p) g ≤ 63) e (rw (kept_mended i l2) (leb-true (transition (m p) i) 63 k.1)))

  none_lost : (h : ℕ) → lost (m p) (recornered (m p)) h ≡ false
  unfolding lost led_by
  none_lost h =
      test (led (m p) h)
      (λ y.
      let f = found_under (leads_of (m p) h) (m p).edges y in
      let k = leads_kept h (lowest (m p).edges (leads_of (m p) h)) f.0 f.1 in
      rw (y, k.0, le-leb (kept (m p) h) 63 k.1))
      (λ y. rw y)

  pub no_changes : changes (m p) ≡ []
  unfolding changes corner_changes lost_changes
  no_changes =
      rw (
        each_empty (λ j. cond (changed (m p) j) (corner_record (m p) j) []) (3 * (m p).faces) (λ j l. rw (corner_stays j (unfold mended relinked in l))),
        each_empty (λ h. cond (lost (m p) (recornered (m p)) h) (lost_record h) []) (halves (m p)) (λ h l. rw (none_lost h)),
      )
