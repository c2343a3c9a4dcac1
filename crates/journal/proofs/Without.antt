-- A list with one record more, and with one record taken out: which record stands where, and how many each bench holds. Assumes nothing.
use mathlib.Core.Path.{◌≡◌, ap, ◌∙◌}
use Prim.Native.Nat.{ℕ, suc, ◌+◌, ◌-◌, ◌≤◌, ◌<◌}
use mathlib.Core.List.{List, [], ◌∷◌, ◌++◌}
use native.Mathlib.Omega.{arith}
use native.Mathlib.Numerals.{add-one}
use lib.ListN.{length, get_or, take, drop, length-append, length-drop, get_or-append}
use lib.Seq.{length-take-le, get_or-take, get_or-drop, get_or-append-add, get_or-append_seam}
use Rattle.verdict.specs.Lists.{bit, tally}
use Rattle.verdict.proofs.Lists.{tally_same, tally_without, tally_both}
use Rattle.record.specs.declared.Rec.{Rec}
use Rattle.record.specs.Record.{nothing}
use Rattle.holding.specs.Held.{listed, is_of, held, other}
use Rattle.holding.proofs.Owners.{one_owner}
use Rattle.journal.specs.Plain.{held_by, without}

-- ---- one record more

module _ (rs : List Rec) (r : Rec) where
  pub length_more : length (rs ++ (r ∷ [])) ≡ suc (length rs)
  length_more = length-append rs (r ∷ []) ∙ add-one (length rs)

  pub listed_more : (i : ℕ) → i < length rs → listed (rs ++ (r ∷ [])) i ≡ listed rs i
  listed_more i l = get_or-append rs (r ∷ []) nothing i l

  pub listed_last : listed (rs ++ (r ∷ [])) (length rs) ≡ r
  listed_last = get_or-append_seam rs r [] nothing

  pub held_more : (bench : ℕ) → held_by bench (rs ++ (r ∷ [])) ≡ bit (is_of bench r) + held_by bench rs
  unfolding held tally
  held_more bench =
      rw (length_more, listed_last, tally_same (length rs) (λ i. is_of bench (listed (rs ++ (r ∷ [])) i)) (λ i. is_of bench (listed rs i)) (λ i l. ap (is_of bench) (listed_more i l)))

-- ---- one record taken out

module _ (rs : List Rec) (i : ℕ) (l : i < length rs) where
  pub length_without : suc (length (without i rs)) ≡ length rs
  unfolding without
  length_without = omega (arith, length-append (take i rs) (drop (suc i) rs), length-take-le i rs (omega arith), length-drop (suc i) rs)

  pub listed_below : (k : ℕ) → k < i → listed (without i rs) k ≡ listed rs k
  unfolding without
  listed_below k h = get_or-append (take i rs) (drop (suc i) rs) nothing k (omega (arith, length-take-le i rs (omega arith))) ∙ get_or-take i rs k nothing h

  pub listed_above : (k : ℕ) → i ≤ k → listed (without i rs) k ≡ listed rs (suc k)
  unfolding without
  listed_above k h =
      let e : k ≡ length (take i rs) + (k - i) = omega (arith, length-take-le i rs (omega arith)) in
      let g : suc i + (k - i) ≡ suc k = omega arith in
      ap (λ (n : ℕ). get_or (take i rs ++ drop (suc i) rs) n nothing) e
      ∙ get_or-append-add (take i rs) (drop (suc i) rs) (k - i) nothing ∙ get_or-drop (suc i) rs (k - i) nothing ∙ ap (λ (n : ℕ). get_or rs n nothing) g

  pub held_without : (bench : ℕ) → held_by bench rs ≡ bit (is_of bench (listed rs i)) + held_by bench (without i rs)
  unfolding held
  held_without bench =
      rw (← length_without)
      (tally_without (length (without i rs)) i (λ k. is_of bench (listed rs k)) (λ k. is_of bench (listed (without i rs) k)) (omega (arith, length_without))
      (λ k h. ap (is_of bench) (listed_below k h)) (λ k h m. ap (is_of bench) (listed_above k h)))

-- where every record is one of the two benches', they hold all records between them
pub held_all : (rs : List Rec) (bench : ℕ) → bench ≤ 1 → ((i : ℕ) → i < length rs → (listed rs i).bench ≤ 1) → held_by bench rs + held_by (other bench) rs ≡ length rs
unfolding held
held_all rs bench b o =
    tally_both (length rs) (λ i. is_of bench (listed rs i)) (λ i. is_of (other bench) (listed rs i)) (λ i l. one_owner bench (listed rs i) b (o i l))
