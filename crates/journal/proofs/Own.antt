-- EACH BENCH HAS A STACK OF ITS OWN: its edit puts a record on it, its undo takes the last one off, and no call of another bench touches
-- it. Assumes nothing.
use mathlib.Core.Path.{◌≡◌, refl, sym, ap, ◌∙◌}
use mathlib.Core.Bool.{true, false}
use Prim.Native.Nat.{ℕ, zero, suc, ◌+◌, ◌<◌}
use mathlib.Core.List.{List, [], ◌∷◌, ◌++◌, append-nil}
use native.Mathlib.Omega.{arith}
use native.Mathlib.Decide.{ℕ_discrete}
use lib.Dec.{ltb}
use lib.ListN.{length, take, drop, length-drop}
use lib.Seq.{split_at, get_or-drop}
use borrow.Author.Tests.{eq-eqb, ne_eqb, eqb-true}
use Rattle.verdict.proofs.Bools.{test, decided}
use Rattle.record.specs.declared.Rec.{Rec}
use Rattle.record.specs.Record.{nothing}
use Rattle.laying.specs.Kind.{Kind}
use Rattle.journal.specs.Wish.{Edit, wish_of}
use Rattle.holding.specs.Held.{listed, is_of}
use Rattle.journal.specs.Step.{record_of}
use Rattle.journal.specs.Calls.{Call, edit, undo, put_back}
use Rattle.journal.specs.Plain.{floor_of, latest_in, without, plain_undo_rules, plain_undo, plain_unwind, plain_verdict, plain_step}
use Rattle.journal.specs.Own.{own_of, bench_of, OwnStack}
use Rattle.journal.proofs.Could.{UndoMet, undo_met, latest_is}
use Rattle.journal.proofs.Sessions.{undo_passed}

module _ (bench : ℕ) where
  pub own_append : (xs ys : List Rec) → own_of bench (xs ++ ys) ≡ own_of bench xs ++ own_of bench ys
  unfolding own_of
  own_append [] ys = refl
  own_append (x ∷ xs) ys = test (is_of bench x) (λ e. rw (e, own_append xs ys)) (λ e. rw (e, own_append xs ys))

  own_none : (ys : List Rec) → ((j : ℕ) → j < length ys → is_of bench (listed ys j) ≡ false) → own_of bench ys ≡ []
  unfolding own_of
  own_none [] h = refl
  own_none (y ∷ ys) h = rw (h 0 (omega arith)) (own_none ys (λ j l. h (suc j) (omega arith)))

  own_skip : (r : Rec) (ys : List Rec) → is_of bench r ≡ false → own_of bench (r ∷ ys) ≡ own_of bench ys
  unfolding own_of
  own_skip r ys e = rw e

  own_one : (r : Rec) (ys : List Rec) → is_of bench r ≡ true → own_of bench (r ∷ ys) ≡ r ∷ own_of bench ys
  unfolding own_of
  own_one r ys e = rw e

  -- a record of its own at the end, and one that is not its own
  pub own_more : (rs : List Rec) (r : Rec) → is_of bench r ≡ true → own_of bench (rs ++ (r ∷ [])) ≡ own_of bench rs ++ (r ∷ [])
  own_more rs r e = own_append rs (r ∷ []) ∙ ap (λ (l : List Rec). own_of bench rs ++ l) (own_one r [] e ∙ ap (λ (l : List Rec). r ∷ l) (own_none [] (λ j l. absurd (omega arith))))

  pub more_other : (rs : List Rec) (r : Rec) → is_of bench r ≡ false → own_of bench (rs ++ (r ∷ [])) ≡ own_of bench rs
  more_other rs r e = own_append rs (r ∷ []) ∙ rw (own_skip r [] e, own_none [] (λ j l. absurd (omega arith))) (append-nil (own_of bench rs))

  module _ (rs : List Rec) (i : ℕ) (l : i < length rs) where
    split : rs ≡ take i rs ++ listed rs i ∷ drop (suc i) rs
    split = split_at rs i nothing l

    -- a record that is not its own, taken out
    pub without_other : is_of bench (listed rs i) ≡ false → own_of bench (without i rs) ≡ own_of bench rs
    unfolding without
    without_other e =
        own_append (take i rs) (drop (suc i) rs) ∙ ap (λ (x : List Rec). own_of bench (take i rs) ++ x) (sym (own_skip (listed rs i) (drop (suc i) rs) e))
        ∙ sym (own_append (take i rs) (listed rs i ∷ drop (suc i) rs)) ∙ ap (own_of bench) (sym split)

    -- its latest, taken out
    pub without_last : is_of bench (listed rs i) ≡ true → ((j : ℕ) → i < j → j < length rs → is_of bench (listed rs j) ≡ false) → own_of bench rs ≡ own_of bench (without i rs) ++ (listed rs i ∷ [])
    unfolding without
    without_last e h =
        let none : own_of bench (drop (suc i) rs) ≡ [] = own_none (drop (suc i) rs) (λ j m. rw (get_or-drop (suc i) rs j nothing) (h (suc i + j) (omega arith) (omega (arith, length-drop (suc i) rs)))) in
        let rest : own_of bench (take i rs ++ drop (suc i) rs) ≡ own_of bench (take i rs) = own_append (take i rs) (drop (suc i) rs) ∙ rw none (append-nil (own_of bench (take i rs))) in
        ap (own_of bench) split ∙ own_append (take i rs) (listed rs i ∷ drop (suc i) rs) ∙ ap (λ (x : List Rec). own_of bench (take i rs) ++ x) (own_one (listed rs i) (drop (suc i) rs) e ∙ ap (λ (x : List Rec). listed rs i ∷ x) none)
        ∙ ap (λ (x : List Rec). x ++ (listed rs i ∷ [])) (sym rest)

  -- UNDO takes off the last record of its own
  pub own_undo : (rs : List Rec) → UndoMet bench rs → own_of bench rs ≡ own_of bench (plain_undo bench rs) ++ (listed rs (latest_in bench rs) ∷ [])
  own_undo rs m = let h = latest_is bench rs m.some in without_last rs (latest_in bench rs) h.under h.holds h.above

-- CALLS OF ANOTHER BENCH leave it as it is
module _ (x bench : ℕ) (other : bench ≡ x → ⊥) where
  -- what is the one's is not the other's
  not_own : (r : Rec) → r.bench ≡ bench → is_of x r ≡ false
  unfolding is_of
  not_own r e = ne_eqb r.bench x (λ z. other (sym e ∙ z))

  undo_other : (rs : List Rec) → UndoMet bench rs → own_of x (plain_undo bench rs) ≡ own_of x rs
  undo_other rs m =
      let h = latest_is bench rs m.some in
      without_other x rs (latest_in bench rs) h.under (not_own (listed rs (latest_in bench rs)) (unfold is_of in eqb-true _ bench h.holds))

  unwind_other : (n : ℕ) (rs : List Rec) → own_of x (plain_unwind bench n rs) ≡ own_of x rs
  unfolding plain_unwind
  unwind_other zero rs = refl
  unwind_other (suc n) rs =
      decided (ℕ_discrete (plain_undo_rules bench rs).number 0)
      (λ z. rw (eq-eqb _ 0 z) (unwind_other n (plain_undo bench rs) ∙ undo_other rs (undo_met bench rs z)))
      (λ z. rw (ne_eqb _ 0 z))

module _ (K : Kind) (opening : List ℕ) (room : ℕ) (rs : List Rec) where
  -- the record that an edit adds
  abbrev added : ℕ → Edit → Rec
  added bench e = record_of K bench (floor_of K opening rs) (wish_of e)

  edit_adds : (bench : ℕ) (e : Edit) → (plain_verdict K opening room (edit bench e) rs).number ≡ 0
      → own_of bench (plain_step K opening room (edit bench e) rs) ≡ own_of bench rs ++ (added bench e ∷ [])
  unfolding plain_step is_of
  edit_adds bench e z = rw (eq-eqb _ 0 z) (own_more bench rs (added bench e) (eq-eqb bench bench refl))

  undo_takes : (bench : ℕ) → (plain_verdict K opening room (undo bench) rs).number ≡ 0
      → own_of bench rs ≡ own_of bench (plain_step K opening room (undo bench) rs) ++ (listed rs (latest_in bench rs) ∷ [])
  unfolding plain_step
  undo_takes bench z = rw (eq-eqb _ 0 z) (own_undo bench rs (undo_met bench rs (undo_passed K opening room bench rs z).1))

  untouched : (x : ℕ) (c : Call) → (bench_of c ≡ x → ⊥) → own_of x (plain_step K opening room c rs) ≡ own_of x rs
  unfolding plain_step
  untouched x (edit bench e) n =
      decided (ℕ_discrete (plain_verdict K opening room (edit bench e) rs).number 0)
      (λ z. rw (eq-eqb _ 0 z) (more_other x rs (added bench e) (not_own x bench n (added bench e) refl)))
      (λ z. rw (ne_eqb _ 0 z))
  untouched x (undo bench) n =
      decided (ℕ_discrete (plain_verdict K opening room (undo bench) rs).number 0)
      (λ z. rw (eq-eqb _ 0 z) (undo_other x bench n rs (undo_met bench rs (undo_passed K opening room bench rs z).1)))
      (λ z. rw (ne_eqb _ 0 z))
  untouched x (put_back bench) n = test (ltb 1 bench) (λ e. rw e) (λ e. rw e (unwind_other x bench n (length rs) rs))

  pub own_stack : OwnStack K opening room rs
  own_stack = record { edit_adds = edit_adds; undo_takes = undo_takes; untouched = untouched }
