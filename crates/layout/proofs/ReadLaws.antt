-- Reading line by line, and what every layout that was read is: right entries, no two rooms of one name, no two doors, at most 64 of a kind.
-- Assumes nothing.
use mathlib.Core.Path.{◌≡◌, refl, sym, ap, ◌∙◌}
use mathlib.Core.Bool.{true, false}
use mathlib.Core.List.{List, [], ◌∷◌}
use Prim.Native.Nat.{ℕ, suc, ◌≤◌}
use native.Mathlib.Omega.{arith}
use lib.Dec.{eqb}
use lib.ListN.{length}
use borrow.Author.Tests.{eqb-true, eqb-false, eq-eqb, ne_eqb}
use Rattle.verdict.specs.Verdict.{accepted}
use Rattle.verdict.proofs.Bools.{test}
use Rattle.verdict.proofs.Verdict.{then_next, then_stop, Proper, then_proper, rule_proper, each_proper}
use Rattle.text.proofs.ReadingLaws.{read_next, read_stop, read_end}
use Rattle.text.specs.Sound.{rules31to32, rule31, rule32}
use Rattle.text.specs.Reading.{Line}
use Rattle.layout.specs.Grammar.{Typed, nothing, State, start, Reading, stopped, names_of, doors_of, fault, next, finish, layout_grammar, read_from}
use Rattle.layout.specs.Layout.{grammar, layout_verdict, layout_of}
use Rattle.verdict.proofs.Each.{Each}
use Rattle.layout.proofs.ApartLaws.{Apart}
use Rattle.layout.specs.Plain.{IsEntry}
use Rattle.layout.proofs.GoodLaws.{Good, good_start, good_next}

-- ---- what was read

pub record GoodTyped (t : Typed) : Type 0 where
  pub rooms : Each (IsEntry 2 t.rooms) t.rooms
  pub tracks : Each (IsEntry 3 t.rooms) t.tracks
  pub obstacles : Each (IsEntry 4 t.rooms) t.obstacles
  pub hooks : Each (IsEntry 5 t.rooms) t.hooks
  pub apart : Apart (names_of t.rooms)
  pub doors : Apart (doors_of t.hooks)
  pub few_rooms : length t.rooms ≤ 64
  pub few_tracks : length t.tracks ≤ 64
  pub few_obstacles : length t.obstacles ≤ 64
  pub few_hooks : length t.hooks ≤ 64

pub good_typed : (st : State) → Good st → GoodTyped st.typed
good_typed st g = record {
  rooms = g.rooms;
  tracks = g.tracks;
  obstacles = g.obstacles;
  hooks = g.hooks;
  apart = g.apart;
  doors = g.doors;
  few_rooms = g.slot2.few;
  few_tracks = g.slot3.few;
  few_obstacles = g.slot4.few;
  few_hooks = g.slot5.few;
}

pub good_nothing : GoodTyped nothing
good_nothing = good_typed start good_start

-- an accepted reading has place 0, and a refused one no entries
pub record Sane (r : Reading) : Type 0 where
  pub typed : GoodTyped r.typed
  pub at_0 : r.verdict.number ≡ 0 → r.verdict ≡ accepted
  pub none : (r.verdict.number ≡ 0 → ⊥) → r.typed ≡ nothing

sane_stopped : (f n : ℕ) → (f ≡ 0 → ⊥) → Sane (stopped f n)
sane_stopped f n h = record { typed = good_nothing; at_0 = λ z. absurd (h z); none = λ z. refl }

pub read_sane : (ls : List Line) (n : ℕ) (st : State) → Good st → Sane (read_from n st ls)
unfolding finish
read_sane [] n st g =
    test (eqb st.sect 6)
    (λ (h : eqb st.sect 6 ≡ true). rw (read_end layout_grammar n st, h) (record { typed = good_typed st g; at_0 = λ z. refl; none = λ z. absurd (z refl) }))
    (λ (h : eqb st.sect 6 ≡ false). rw (read_end layout_grammar n st, h) (sane_stopped 38 n (λ z. omega arith)))
read_sane (l ∷ ls) n st g =
    let rest : fault st l ≡ 0 → Sane (read_from (suc n) (next st l) ls) = λ e. read_sane ls (suc n) (next st l) (good_next st l g e) in
    test (eqb (fault st l) 0)
    (λ (h : eqb (fault st l) 0 ≡ true). let e = eqb-true (fault st l) 0 h in rw (read_next layout_grammar n st l ls e) (rest e))
    (λ (h : eqb (fault st l) 0 ≡ false). let e = eqb-false (fault st l) 0 h in rw (read_stop layout_grammar n st l ls e) (sane_stopped (fault st l) (suc n) e))

pub grammar_sane : (s : List ℕ) → Sane (grammar s)
unfolding grammar
grammar_sane s = read_sane _ 0 start good_start

-- the entries of every text are right, and none on refusal
pub layout_good : (s : List ℕ) → GoodTyped (layout_of s)
unfolding layout_of
layout_good s =
    test (eqb (layout_verdict s).number 0) (λ (h : eqb (layout_verdict s).number 0 ≡ true). rw h (grammar_sane s).typed)
    (λ (h : eqb (layout_verdict s).number 0 ≡ false). rw h good_nothing)

pub layout_accepted : (s : List ℕ) → (layout_verdict s).number ≡ 0 → layout_of s ≡ (grammar s).typed
unfolding layout_of
layout_accepted s z = rw (eq-eqb (layout_verdict s).number 0 z)

pub layout_refused : (s : List ℕ) → ((layout_verdict s).number ≡ 0 → ⊥) → layout_of s ≡ nothing
unfolding layout_of
layout_refused s z = rw (ne_eqb (layout_verdict s).number 0 z)

-- ---- the verdict, by what was found

pub sound_proper : (s : List ℕ) → Proper (rules31to32 s)
unfolding rules31to32 rule31 rule32
sound_proper s = then_proper _ _ (rule_proper 30 _ 0) (each_proper 31 _ _ _)

pub verdict_proper : (s : List ℕ) → Proper (layout_verdict s)
unfolding layout_verdict
verdict_proper s = then_proper _ _ (sound_proper s) (record { at_0 = (grammar_sane s).at_0 })

pub verdict_unsound : (s : List ℕ) → ((rules31to32 s).number ≡ 0 → ⊥) → layout_verdict s ≡ rules31to32 s
unfolding layout_verdict
verdict_unsound s z = then_stop (rules31to32 s) z (grammar s).verdict

pub verdict_sound : (s : List ℕ) → (rules31to32 s).number ≡ 0 → layout_verdict s ≡ (grammar s).verdict
unfolding layout_verdict
verdict_sound s z = then_next (rules31to32 s) (grammar s).verdict z

-- what the grammar found is what the layout has, where rules 31 and 32 accept
pub layout_sound : (s : List ℕ) → (rules31to32 s).number ≡ 0 → layout_of s ≡ (grammar s).typed
layout_sound s z =
    test (eqb (layout_verdict s).number 0) (λ (h : eqb (layout_verdict s).number 0 ≡ true). layout_accepted s (eqb-true _ 0 h))
    (λ (h : eqb (layout_verdict s).number 0 ≡ false).
    let e : (layout_verdict s).number ≡ 0 → ⊥ = eqb-false _ 0 h in
    layout_refused s e ∙ sym ((grammar_sane s).none (λ q. e (ap (λ a. a.number) (verdict_sound s z) ∙ q))))
