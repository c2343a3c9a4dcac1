-- Which numbers the plain list cannot answer, and so no call of such a run: 1 to 6, 27 and 28; and 25 where the journal is not full for
-- the bench. Assumes nothing.
use mathlib.Core.Path.{◌≡◌, refl}
use mathlib.Core.Logic.{◌⊎◌, inl, inr}
use mathlib.Core.Bool.{Bool, true, false}
use Prim.Native.Nat.{ℕ, ◌+◌, ◌≤◌, ◌<◌}
use mathlib.Core.List.{List}
use native.Mathlib.Omega.{arith}
use native.Mathlib.Decide.{ℕ_discrete}
use lib.ListN.{length}
use borrow.Author.Tests.{eq-eqb, ne_eqb}
use Rattle.verdict.specs.Verdict.{rule, ◌then◌}
use Rattle.verdict.specs.declared.Answer.{Answer}
use Rattle.verdict.proofs.Bools.{clash, decided}
use Rattle.verdict.proofs.Verdict.{then_next, then_stop}
use Rattle.record.specs.declared.Rec.{Rec}
use Rattle.laying.specs.Kind.{Kind}
use Rattle.journal.specs.Wish.{Edit, paint, link, nudge, wish_of}
use Rattle.journal.specs.Step.{rule45, rule21, edit_rules, full}
use Rattle.journal.specs.Calls.{Call, edit, undo, put_back}
use Rattle.journal.specs.Plain.{held_by, plain_undo_rules, plain_put_back, plain_end, plain_verdict}
use Rattle.journal.proofs.Steps.{bench_met}

-- no tag is over 3, so an edit's own rule is at most 24
tag_most : (e : Edit) → (wish_of e).tag ≤ 3
tag_most (paint face material) = omega arith
tag_most (link entry t) = omega arith
tag_most (nudge place n) = omega arith

module _ (n : ℕ) (some : 0 < n) where
  -- a verdict with another number
  abbrev Not : Answer → Type 0
  Not a = a.number ≡ n → ⊥

  rule_not : (r : ℕ) (t : Bool) (p : ℕ) → (t ≡ true → r ≡ n → ⊥) → Not (rule r t p)
  unfolding rule
  rule_not r true p h = h refl
  rule_not r false p h = λ e. omega arith

  then_not : (a b : Answer) → Not a → (a.number ≡ 0 → Not b) → Not (a then b)
  then_not a b h k = decided (ℕ_discrete a.number 0) (λ z. rw (then_next a b z) (k z)) (λ z. rw (then_stop a z b) h)

  owner_not : (bench f : ℕ) → (45 ≡ n → ⊥) → Not (rule45 bench f)
  unfolding rule45
  owner_not bench f h = rule_not 45 _ f (λ t. h)

  edit_not : (K : Kind) (e : Edit) (fl : List ℕ) (is_full : Bool) → (n < 21) ⊎ (24 < n) → (is_full ≡ true → 25 ≡ n → ⊥) → Not (edit_rules K (wish_of e) fl is_full)
  unfolding edit_rules rule21
  edit_not K e fl is_full far h =
      then_not _ _ (then_not _ _ (rule_not 21 _ _ (λ t z. apart 21 (omega arith) (omega arith) far z))
      (λ y. rule_not (21 + (wish_of e).tag) _ _ (λ t z. apart (21 + (wish_of e).tag) (omega arith) (omega (arith, tag_most e)) far z))) (λ y. rule_not 25 is_full _ h)
    where
      apart : (m : ℕ) → 21 ≤ m → m ≤ 24 → (n < 21) ⊎ (24 < n) → m ≡ n → ⊥
      apart m a b (inl l) z = omega arith
      apart m a b (inr l) z = omega arith

-- WHAT NEVER COMES: 1 to 20, 27 and 28
pub plain_never : (K : Kind) (opening : List ℕ) (room : ℕ) (c : Call) (rs : List Rec) (n : ℕ) → 0 < n → (n ≤ 20) ⊎ ((n ≡ 27) ⊎ (n ≡ 28))
    → (plain_verdict K opening room c rs).number ≡ n → ⊥
plain_never K opening room c rs n some far = by c
  where
    differs : (m : ℕ) → (21 ≤ m) → (m ≡ 27 → ⊥) → (m ≡ 28 → ⊥) → (n ≤ 20) ⊎ ((n ≡ 27) ⊎ (n ≡ 28)) → m ≡ n → ⊥
    differs m l a b (inl h) z = omega arith
    differs m l a b (inr (inl h)) z = a (omega arith)
    differs m l a b (inr (inr h)) z = b (omega arith)

    beyond : (n ≤ 20) ⊎ ((n ≡ 27) ⊎ (n ≡ 28)) → (n < 21) ⊎ (24 < n)
    beyond (inl h) = inl (omega arith)
    beyond (inr (inl h)) = inr (omega arith)
    beyond (inr (inr h)) = inr (omega arith)

    owner : (bench : ℕ) → Not n some (rule45 bench (length rs))
    owner bench = owner_not n some bench (length rs) (differs 45 (omega arith) (λ z. omega arith) (λ z. omega arith) far)

    out : (bench : ℕ) (qs : List Rec) → Not n some (plain_undo_rules bench qs)
    out bench qs =
        unfold plain_undo_rules in
        then_not n some _ _ (rule_not n some 26 _ _ (λ t. differs 26 (omega arith) (λ z. omega arith) (λ z. omega arith) far))
        (λ y. rule_not n some 43 _ _ (λ t. differs 43 (omega arith) (λ z. omega arith) (λ z. omega arith) far))

    ends : (a : Answer) → Not n some a → Not n some (plain_end a)
    ends a h =
        unfold plain_end in
        decided (ℕ_discrete a.number 26) (λ z. rw (eq-eqb a.number 26 z) (λ e. omega arith)) (λ z. rw (ne_eqb a.number 26 z) h)

    by : (c : Call) → Not n some (plain_verdict K opening room c rs)
    by (edit bench e) =
        unfold plain_verdict in
        then_not n some _ _ (owner bench) (λ y. edit_not n some K e _ _ (beyond far) (λ t. differs 25 (omega arith) (λ z. omega arith) (λ z. omega arith) far))
    by (undo bench) = unfold plain_verdict in then_not n some _ _ (owner bench) (λ y. out bench rs)
    by (put_back bench) = unfold plain_verdict in then_not n some _ _ (owner bench) (λ y. ends _ (out bench (plain_put_back bench rs)))

-- 25 is answered only where it is full
pub plain_not_full : (K : Kind) (opening : List ℕ) (room bench : ℕ) (e : Edit) (rs : List Rec) → (bench ≤ 1 → full room (length rs) (held_by bench rs) ≡ false)
    → (plain_verdict K opening room (edit bench e) rs).number ≡ 25 → ⊥
unfolding plain_verdict
plain_not_full K opening room bench e rs free =
    then_not 25 (omega arith) _ _ (owner_not 25 (omega arith) bench (length rs) (λ z. omega arith))
    (λ y. edit_not 25 (omega arith) K e _ _ (inr (omega arith)) (λ t z. clash t (free (bench_met bench (length rs) y))))
