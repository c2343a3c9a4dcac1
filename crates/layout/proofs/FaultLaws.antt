-- The faults of an entry and of a line, at the values that the code has in hand. Assumes nothing.
use mathlib.Core.Path.{◌≡◌, refl, sym, ap, ◌∙◌}
use mathlib.Core.Bool.{Bool, true, false, cond, not}
use mathlib.Core.List.{List, [], ◌∷◌}
use Prim.Native.Nat.{ℕ, ◌≤◌, ◌<◌}
use native.Mathlib.Omega.{arith}
use lib.ListN.{length, drop}
use borrow.Author.Tests.{eq-eqb, ne_eqb, lt-ltb, le-ltb, not-false}
use Rattle.text.specs.Scan.{words}
use Rattle.names.specs.Name.{is_name}
use Rattle.text.specs.Reading.{Word, Line, nth}
use Rattle.layout.specs.Grammar.{Typed, State, opens, names_in, entry_long, numbers, door_fault, hook_fault, name_fault, open_fault, entry_fault, fault, names_of, doors_of, known, known_but}
use Rattle.layout.proofs.ApartLaws.{length_names, length_doors}
use Rattle.layout.proofs.GoodLaws.{first_none}
use Rattle.layout.proofs.HeldLaws.{known_all}

-- ---- a hook

known_is : (w : Word) (names : List Word) (k t : Bool) → length names ≤ 64 → k ≡ known_but 64 w names → k ≡ t → known w names ≡ t
known_is w names k t few ek et = sym (known_all w names few) ∙ sym ek ∙ et

pub door_34 : (hooks : List Line) (w : Word) → is_name w ≡ false → 34 ≡ door_fault hooks w
unfolding door_fault
door_34 hooks w e = rw e

pub door_known : (hooks : List Line) (w : Word) (k t : Bool) → is_name w ≡ true → length hooks ≤ 64 → k ≡ known_but 64 w (doors_of hooks) → k ≡ t → ◌≡◌ {A = ℕ} (cond t 37 0) (door_fault hooks w)
unfolding door_fault
door_known hooks w k t e few ek et =
    let z : known w (doors_of hooks) ≡ t = known_is w (doors_of hooks) k t (omega (arith, length_doors hooks)) ek et in
    rw (e, z)

module _ (t : Typed) (l : Line) (u : Word) (eu : u ≡ nth l 0) (k : Bool) (few : length t.rooms ≤ 64) (ek : k ≡ known_but 64 u (names_of t.rooms)) where
  room_is : (q : Bool) → k ≡ q → known (nth l 0) (names_of t.rooms) ≡ q
  room_is q e = rw (← eu) (known_is u (names_of t.rooms) k q (omega (arith, length_names t.rooms)) ek e)

  pub hook_39 : k ≡ false → 39 ≡ hook_fault t l
  unfolding hook_fault
  hook_39 e = rw (room_is false e)

  pub hook_door : k ≡ true → (v : Word) (hs : List Line) (g : ℕ) → v ≡ nth l 1 → hs ≡ t.hooks → g ≡ door_fault hs v → g ≡ hook_fault t l
  unfolding hook_fault
  hook_door e v hs g ev eh eg = rw (room_is true e, ← ev, ← eh) eg

-- ---- the names of an entry

module _ (st : State) (l : Line) (u : Word) (eu : u ≡ nth l 0) (r : Bool) (er : r ≡ is_name u) where
  name_is : (t : Bool) → r ≡ t → is_name (nth l 0) ≡ t
  name_is t e = rw (← eu) (sym er ∙ e)

  pub name_34 : r ≡ false → 34 ≡ name_fault st l
  unfolding name_fault
  name_34 e = rw (name_is false e)

  pub name_hook : r ≡ true → st.sect ≡ 5 → (f : ℕ) → f ≡ hook_fault st.typed l → f ≡ name_fault st l
  unfolding name_fault
  name_hook e h f ef = rw (name_is true e, eq-eqb st.sect 5 h) ef

  pub name_right : r ≡ true → (st.sect ≡ 5 → ⊥) → 0 ≡ name_fault st l
  unfolding name_fault
  name_right e n = rw (name_is true e, ne_eqb st.sect 5 n)

-- the first word is a name where the names have no fault
pub first_named : (st : State) (l : Line) (u : Word) (f : ℕ) → u ≡ nth l 0 → f ≡ name_fault st l → f ≡ 0 → is_name u ≡ true
unfolding name_fault
first_named st l u f eu ef z = rw eu (not-false _ (first_none (not (is_name (nth l 0))) 33 _ (sym ef ∙ z)).0)

-- ---- an entry

module _ (st : State) (l : Line) (m : ℕ) (em : m ≡ length l) (r : Bool) (er : r ≡ entry_long st.sect m) where
  long_is : (q : Bool) → r ≡ q → entry_long st.sect (length l) ≡ q
  long_is q e = rw (← em) (sym er ∙ e)

  pub entry_33 : r ≡ false → 33 ≡ entry_fault st l
  unfolding entry_fault
  entry_33 e = rw (long_is false e)

  module _ (e : r ≡ true) (f : ℕ) (ef : f ≡ name_fault st l) where
    pub entry_named : (f ≡ 0 → ⊥) → f ≡ entry_fault st l
    unfolding entry_fault
    entry_named n = rw (long_is true e, ← ef, ne_eqb f 0 n)

    module _ (z : f ≡ 0) (k : ℕ) (ek : k ≡ names_in st.sect) (q : Bool) (eq : q ≡ numbers (drop k l)) where
      numbers_is : (t : Bool) → q ≡ t → numbers (drop (names_in st.sect) l) ≡ t
      numbers_is t h = rw (← ek) (sym eq ∙ h)

      pub entry_35 : q ≡ false → 35 ≡ entry_fault st l
      unfolding entry_fault
      entry_35 h = rw (long_is true e, ← ef, eq-eqb f 0 z, numbers_is false h)

      pub entry_other : q ≡ true → (st.sect ≡ 2 → ⊥) → 0 ≡ entry_fault st l
      unfolding entry_fault
      entry_other h n = rw (long_is true e, ← ef, eq-eqb f 0 z, numbers_is true h, ne_eqb st.sect 2 n)

      pub entry_room : (u : Word) (b t : Bool) → q ≡ true → st.sect ≡ 2 → u ≡ nth l 0 → length st.typed.rooms ≤ 64 → b ≡ known_but 64 u (names_of st.typed.rooms) → b ≡ t → ◌≡◌ {A = ℕ} (cond t 37 0) (entry_fault st l)
      unfolding entry_fault
      entry_room u b t h two eu few eb et =
          let y : known (nth l 0) (names_of st.typed.rooms) ≡ t = room_is st.typed l u eu b few eb t et in
          rw (long_is true e, ← ef, eq-eqb f 0 z, numbers_is true h, eq-eqb st.sect 2 two, y)

-- ---- a line

module _ (st : State) (l : List ℕ) (m : ℕ) (em : m ≡ length (words l)) where
  blank : (ws : Line) → length ws ≡ 0 → 0 ≡ fault st ws
  unfolding fault
  blank [] e = refl
  blank (w ∷ ws) e = absurd (omega arith)

  pub fault_blank : m ≡ 0 → 0 ≡ fault st (words l)
  fault_blank z = blank (words l) (sym em ∙ z)

  entry : (ws : Line) (r : ℕ) → (length ws ≡ 0 → ⊥) → 0 < st.left → r ≡ entry_fault st ws → r ≡ fault st ws
  unfolding fault
  entry [] r n h e = absurd (n refl)
  entry (w ∷ ws) r n h e = rw (lt-ltb 0 st.left h) e

  pub fault_entry : (r : ℕ) → (m ≡ 0 → ⊥) → 0 < st.left → r ≡ entry_fault st (words l) → r ≡ fault st (words l)
  fault_entry r n h e = entry (words l) r (λ z. n (em ∙ z)) h e

  open' : (ws : Line) (u : Word) (k r : ℕ) → (length ws ≡ 0 → ⊥) → st.left ≤ 0 → u ≡ nth ws 0 → k ≡ opens st.sect u → r ≡ open_fault k ws → r ≡ fault st ws
  unfolding fault
  open' [] u k r n h eu ek e = absurd (n refl)
  open' (w ∷ ws) u k r n h eu ek e = let z : opens st.sect w ≡ k = sym (ek ∙ ap (opens st.sect) eu) in rw (le-ltb 0 st.left h, z) e

  pub fault_open : (u : Word) (k r : ℕ) → (m ≡ 0 → ⊥) → st.left ≤ 0 → u ≡ nth (words l) 0 → k ≡ opens st.sect u → r ≡ open_fault k (words l) → r ≡ fault st (words l)
  fault_open u k r n h eu ek e = open' (words l) u k r (λ z. n (em ∙ z)) h eu ek e
