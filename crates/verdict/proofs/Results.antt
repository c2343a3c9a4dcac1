-- The laws of verdicts that are told as results: how `?` asks rules in order. Assumes nothing.
use mathlib.Core.Path.{◌≡◌, refl, sym, ap, subst, ◌∙◌}
use mathlib.Core.Bool.{Bool, true, false, cond}
use mathlib.Core.List.{List}
use lib.ListN.{length}
use Prim.Native.Nat.{ℕ, ◌<◌, ◌≤◌}
use native.Mathlib.Omega.{arith}
use Rattle.std.specs.declared.option.Option.{Option}
use Rattle.std.specs.declared.option.Option.TheVariants.{None, Some}
use Rattle.std.specs.declared.result.Result.{Result}
use Rattle.std.specs.declared.result.Result.TheVariants.{Ok, Err}
use Rattle.verdict.specs.declared.Answer.{Answer}
use Rattle.verdict.specs.declared.Refusal.{Refusal}
use Rattle.verdict.specs.declared.Form.{Form}
use Rattle.verdict.specs.declared.Refused.{Refused}
use Rattle.verdict.specs.declared.Refusal.TheVariants.{Length, FirstBytes, WorldCoords, Count, TableOutside, TablesShare, NotFinite, Corner, Material, WalkableFirst, NodeCount, NodeKind, OneTree, Box, RunsTwice, Adjacency, EdgeEntry, Transition, Perimeter, WorkMemory, NoSuchPlace, Paint, Link, Nudge, JournalFull, NoStep, Record, Session, PointBeyond, VertexOffGrid, TextLength, TextByte, TextLine, Name, TextNumber, TextCount, NameTwice, TextEnds, UnknownRoom, OutputShort, NoCaption, LinkNowhere, Blocked, Bench, HasTree}
use lib.Dec.{ltb}
use borrow.Author.Tests.{lt-ltb, le-ltb, ltb-true, ltb-false}
use Rattle.std.specs.Prelude.{IfSome}
use Rattle.std.specs.Option.{option_map}
use Rattle.verdict.specs.Lowest.{lowest, first, any_under}
use Rattle.verdict.specs.Verdict.{refused, accepted, rule, rule_of_each, ◌then◌}
use Rattle.verdict.specs.Refusals.{number_of, verdict_of, rule_at}
use Rattle.verdict.proofs.Lowest.{lowest_within}
use Rattle.verdict.specs.Output.{over, no_form, form_answer, form_memory}
use Rattle.verdict.proofs.Output.{form_refused, form_written}
use Rattle.verdict.proofs.Verdict.{then_next, then_stop}

-- no refusal has the number 0
pub number_positive : (r : Refusal) → 0 < number_of r
number_positive Length = omega arith
number_positive FirstBytes = omega arith
number_positive WorldCoords = omega arith
number_positive Count = omega arith
number_positive TableOutside = omega arith
number_positive TablesShare = omega arith
number_positive NotFinite = omega arith
number_positive Corner = omega arith
number_positive Material = omega arith
number_positive WalkableFirst = omega arith
number_positive NodeCount = omega arith
number_positive NodeKind = omega arith
number_positive OneTree = omega arith
number_positive Box = omega arith
number_positive RunsTwice = omega arith
number_positive Adjacency = omega arith
number_positive EdgeEntry = omega arith
number_positive Transition = omega arith
number_positive Perimeter = omega arith
number_positive WorkMemory = omega arith
number_positive NoSuchPlace = omega arith
number_positive Paint = omega arith
number_positive Link = omega arith
number_positive Nudge = omega arith
number_positive JournalFull = omega arith
number_positive NoStep = omega arith
number_positive Record = omega arith
number_positive Session = omega arith
number_positive PointBeyond = omega arith
number_positive VertexOffGrid = omega arith
number_positive TextLength = omega arith
number_positive TextByte = omega arith
number_positive TextLine = omega arith
number_positive Name = omega arith
number_positive TextNumber = omega arith
number_positive TextCount = omega arith
number_positive NameTwice = omega arith
number_positive TextEnds = omega arith
number_positive UnknownRoom = omega arith
number_positive OutputShort = omega arith
number_positive NoCaption = omega arith
number_positive LinkNowhere = omega arith
number_positive Blocked = omega arith
number_positive Bench = omega arith
number_positive HasTree = omega arith

-- a refusal that a rule gives is the answer of that rule and all behind it
pub here : (r : Refused) {a : Answer} (b : Answer) → refused (number_of r.refusal) r.place ≡ a → refused (number_of r.refusal) r.place ≡ (a then b)
here r {a} b e = e ∙ sym (then_stop a (λ z. absurd (omega (arith, number_positive r.refusal, ap (λ (q : Answer). q.number) e, z))) b)

-- behind a rule that is met the answer is that of the next
pub past : {a b x : Answer} → accepted ≡ a → x ≡ b → x ≡ (a then b)
past {a} {b} o e = e ∙ sym (then_next a b (sym (ap (λ (q : Answer). q.number) o)))

-- what is met has the number 0
pub accepts : {a : Answer} → accepted ≡ a → a.number ≡ 0
accepts e = ap (λ (q : Answer). q.number) (sym e)

-- behind the last rule nothing more is asked
pub last : {A : Type 0} {a : Answer} (v : Result A Refused) → verdict_of v ≡ a → verdict_of v ≡ (a then accepted)
last (Ok x) e = past e refl
last (Err r) e = here r accepted e

-- a rule of a comparison, by how that turned out
pub broken_less : (n i j place : ℕ) → i < j → refused n place ≡ rule n (ltb i j) place
unfolding rule
broken_less n i j place l = rw (lt-ltb i j l) refl

pub met_less : (n i j place : ℕ) → j ≤ i → accepted ≡ rule n (ltb i j) place
unfolding rule
met_less n i j place l = rw (le-ltb i j l) refl

-- a rule that is met is not broken
pub unbroken_by : (n : ℕ) (t : Bool) (p : ℕ) → 0 < n → accepted ≡ rule n t p → t ≡ false
unfolding rule
unbroken_by n true p l e = absurd (omega (arith, l, ap (λ (q : Answer). q.number) e))
unbroken_by n false p l e = refl

pub nothing_at : (n : ℕ) (o : Option ℕ) → 0 < n → accepted ≡ rule_at n o → o ≡ None
nothing_at n None l e = refl
nothing_at n (Some k) l e = absurd (omega (arith, l, ap (λ (q : Answer). q.number) e))

-- ---- a rule that n things in order are to meet, by the first that does not

-- where that one is the place, and where its place is a number by f
pub each_by_first : (r n : ℕ) (p : ℕ → Bool) → rule_at r (first n p) ≡ rule_of_each r n p (λ k. k)
unfolding first rule_of_each rule any_under
each_by_first r n p = by (ltb (lowest n p) n)
  where
    by : (t : Bool) → rule_at r (cond t (Some (lowest n p)) None) ≡ cond t (refused r (lowest n p)) accepted
    by true = refl
    by false = refl

pub each_by_place : (r n : ℕ) (p : ℕ → Bool) (f : ℕ → ℕ) → rule_at r (option_map f (first n p)) ≡ rule_of_each r n p f
unfolding first rule_of_each rule any_under
each_by_place r n p f = by (ltb (lowest n p) n)
  where
    by : (t : Bool) → rule_at r (option_map f (cond t (Some (lowest n p)) None)) ≡ cond t (refused r (f (lowest n p))) accepted
    by true = refl
    by false = refl

-- what was found, and that nothing was: as the number that `lowest` gives
pub some_lowest : (n : ℕ) (p : ℕ → Bool) (k : ℕ) → Some k ≡ first n p → (k ≡ lowest n p) × (k < n)
unfolding first any_under
some_lowest n p k e = by (ltb (lowest n p) n) refl e
  where
    by : (t : Bool) → ltb (lowest n p) n ≡ t → Some k ≡ cond t (Some (lowest n p)) None → (k ≡ lowest n p) × (k < n)
    by true q o = let h : k ≡ lowest n p = cc in (h, omega (arith, h, ltb-true (lowest n p) n q))
    by false q o = absurd cc

pub none_lowest : (n : ℕ) (p : ℕ → Bool) → None ≡ first n p → lowest n p ≡ n
unfolding first any_under
none_lowest n p e = by (ltb (lowest n p) n) refl e
  where
    by : (t : Bool) → ltb (lowest n p) n ≡ t → None ≡ cond t (Some (lowest n p)) None → lowest n p ≡ n
    by true q o = absurd cc
    by false q o = omega (arith, ltb-false (lowest n p) n q, lowest_within p (lowest n p) n refl)

-- and the other way round: what a loop has to show, and where f tells the place of what was found
pub found_first : (n : ℕ) (p : ℕ → Bool) (k : ℕ) → k ≡ lowest n p → k < n → Some k ≡ first n p
unfolding first any_under
found_first n p k e l = rw (← e, lt-ltb k n l) refl

pub no_first : (n : ℕ) (p : ℕ → Bool) → lowest n p ≡ n → None ≡ first n p
unfolding first any_under
no_first n p e = rw (e, le-ltb n n (omega arith)) refl

pub found_place : (n : ℕ) (p : ℕ → Bool) (f : ℕ → ℕ) (k : ℕ) → k ≡ lowest n p → k < n → Some (f k) ≡ option_map f (first n p)
unfolding first any_under
found_place n p f k e l = rw (← e, lt-ltb k n l) refl

pub no_place : (n : ℕ) (p : ℕ → Bool) (f : ℕ → ℕ) → lowest n p ≡ n → None ≡ option_map f (first n p)
unfolding first any_under
no_place n p f e = rw (e, le-ltb n n (omega arith)) refl

-- what is found lies under n
pub first_under : (n m : ℕ) (p : ℕ → Bool) (o : Option ℕ) → o ≡ first n p → n ≤ m → IfSome o (λ k. k < m)
unfolding first any_under
first_under n m p o e h = subst (λ (q : Option ℕ). IfSome q (λ k. k < m)) (sym e) (by (ltb (lowest n p) n) refl)
  where
    by : (t : Bool) → ltb (lowest n p) n ≡ t → IfSome (cond t (Some (lowest n p)) None) (λ k. k < m)
    by true q = omega (arith, ltb-true (lowest n p) n q)
    by false q = tt

pub place_under : (n m : ℕ) (p : ℕ → Bool) (f : ℕ → ℕ) (o : Option ℕ) → o ≡ option_map f (first n p) → ((k : ℕ) → k < n → f k < m) → IfSome o (λ k. k < m)
unfolding first any_under
place_under n m p f o e h = subst (λ (q : Option ℕ). IfSome q (λ k. k < m)) (sym e) (by (ltb (lowest n p) n) refl)
  where
    by : (t : Bool) → ltb (lowest n p) n ≡ t → IfSome (option_map f (cond t (Some (lowest n p)) None)) (λ k. k < m)
    by true q = h (lowest n p) (ltb-true (lowest n p) n q)
    by false q = tt

-- ---- a rewriting that is refused, and one that wrote its form

module _ {a : Answer} (form o : List ℕ) where
  pub refused_answer : (r : Refused) → refused (number_of r.refusal) r.place ≡ a → no_form (number_of r.refusal) r.place ≡ form_answer a form
  refused_answer r e =
      (form_refused (refused (number_of r.refusal) r.place) form o (λ z. absurd (omega (arith, number_positive r.refusal, z)))).0
      ∙ ap (λ (v : Answer). form_answer v form) e

  pub refused_memory : (r : Refused) → refused (number_of r.refusal) r.place ≡ a → o ≡ form_memory a form o
  refused_memory r e =
      (form_refused (refused (number_of r.refusal) r.place) form o (λ z. absurd (omega (arith, number_positive r.refusal, z)))).1
      ∙ ap (λ (v : Answer). form_memory v form o) e

  pub written_answer : (n : ℕ) → accepted ≡ a → n ≡ length form → (◌≡◌ {A = Form} (record { number = 0; place = 0; length = n }) (form_answer a form))
  written_answer n e l = (form_written accepted form o n refl refl l).0 ∙ ap (λ (v : Answer). form_answer v form) e

  pub written_memory : accepted ≡ a → over form o ≡ form_memory a form o
  written_memory e = (form_written accepted form o (length form) refl refl refl).1 ∙ ap (λ (v : Answer). form_memory v form o) e
