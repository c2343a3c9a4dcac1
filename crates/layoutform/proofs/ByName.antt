-- An entry with the new name where it has the old one: past the last room there is no old name and nothing is changed, and of rooms the one
-- that has room i's name is room i. Assumes nothing.
use mathlib.Core.Path.{◌≡◌, refl, ◌∙◌}
use mathlib.Core.Bool.{true, false}
use mathlib.Core.List.{List, [], ◌∷◌, map}
use Prim.Native.Nat.{ℕ, zero, suc, ◌≤◌, ◌<◌}
use native.Mathlib.Omega.{arith}
use native.Mathlib.Decide.{dec_lt}
use lib.ListN.{length, get_or, length-map, get_or-eq_default}
use borrow.Author.Tests.{eq-eqb}
use Rattle.verdict.proofs.Bools.{clash, test, decided}
use Rattle.verdict.proofs.Each.{Each}
use Rattle.names.specs.Name.{same, is_name, same_name}
use Rattle.letters.specs.Case.{lowered}
use Rattle.names.proofs.NameLaws.{name_long, same_name_sym}
use Rattle.text.specs.Reading.{Word}
use Rattle.layout.proofs.ApartLaws.{Apart}
use Rattle.layoutform.specs.Form.{Entry}
use Rattle.layoutform.specs.Rewrite.{named, renamed_at, name_in, renamed_from}
use Rattle.layoutform.proofs.PartLaws.{part_names, GoodEntry}

pub names_are : (es : List Entry) (i : ℕ) → name_in es i ≡ get_or (part_names es) i []
unfolding name_in part_names
names_are es i = refl

pub name_past : (es : List Entry) (i : ℕ) → length es ≤ i → name_in es i ≡ []
unfolding name_in
name_past es i l = get_or-eq_default (map (λ (e : Entry). e.name) es) [] (omega (arith, length-map es (λ (e : Entry). e.name)))

-- ---- a name is the same as itself, and as no empty word

same_same : (s : List ℕ) → same s s ≡ true
unfolding same
same_same [] = refl
same_same (b ∷ s) = rw (eq-eqb b b refl, same_same s)

pub same_self : (w : Word) → same_name w w ≡ true
unfolding same_name
same_self w = same_same (lowered w)

pub no_name : (w : Word) → is_name w ≡ true → same_name w [] ≡ true → ⊥
unfolding same_name lowered
no_name [] n e = omega (arith, (name_long [] n).0)
no_name (b ∷ w) n e = clash e (unfold same in refl)

pub not_none : (w : Word) → is_name w ≡ true → same_name w [] ≡ false
not_none w n = test (same_name w []) (λ (e : same_name w [] ≡ true). absurd (no_name w n e)) (λ (e : same_name w [] ≡ false). e)

-- ---- an entry

pub from_same : (old w : Word) (e : Entry) → same_name e.name old ≡ true → renamed_from old w e ≡ named w e
unfolding renamed_from
from_same old w e h = rw h

pub from_other : (old w : Word) (e : Entry) → same_name e.name old ≡ false → renamed_from old w e ≡ e
unfolding renamed_from named
from_other old w e h = rw h

-- without an old name none is changed
module _ (k : ℕ) (rooms : List Word) (w : Word) where
  pub from_none : (es : List Entry) → Each (GoodEntry k rooms) es → map (renamed_from [] w) es ≡ es
  from_none [] g = refl
  from_none (e ∷ es) (g, gs) = rw (from_other [] w e (not_none e.name g.name.name), from_none es gs)

-- ---- rooms

apart_tail : (n : Word) (ns : List Word) → Apart (n ∷ ns) → Apart ns
apart_tail n ns a = record { other = λ i j l m. a.other (suc i) (suc j) (omega arith) (omega arith) }

-- none behind the first has its name
behind_not : (n w : Word) (es : List Entry) → ((j : ℕ) → j < length (part_names es) → same_name (get_or (part_names es) j []) n ≡ false) → map (renamed_from n w) es ≡ es
unfolding part_names
behind_not n w [] h = refl
behind_not n w (e ∷ es) h =
    rw (from_other n w e (h zero (omega arith)), behind_not n w es (λ j l. h (suc j) (omega arith)))

-- the first has not the name of one behind it, and not that of none
first_not : (e : Entry) (es : List Entry) (i : ℕ) → is_name e.name ≡ true → Apart (e.name ∷ part_names es) → same_name e.name (name_in es i) ≡ false
first_not e es i n a =
    decided (dec_lt i (length (part_names es)))
    (λ (l : i < length (part_names es)). rw (names_are es i) (same_name_sym e.name (get_or (part_names es) i []) ∙ a.other zero (suc i) (omega arith) (omega arith)))
    (λ (l : i < length (part_names es) → ⊥). rw (names_are es i, get_or-eq_default (part_names es) [] {n = i} (omega arith)) (not_none e.name n))

-- the law: by the name of room i it is room i that is changed
pub by_name : (k : ℕ) (rooms : List Word) (es : List Entry) → Each (GoodEntry k rooms) es → Apart (part_names es) → (i : ℕ) (w : Word) → map (renamed_from (name_in es i) w) es ≡ renamed_at es i w
unfolding part_names name_in renamed_at
by_name k rooms [] g a i w = refl
by_name k rooms (e ∷ es) (g, gs) a zero w =
    rw (from_same e.name w e (same_self e.name), behind_not e.name w es (λ j l. a.other zero (suc j) (omega arith) (omega arith)))
by_name k rooms (e ∷ es) (g, gs) a (suc i) w =
    let z : same_name e.name (name_in es i) ≡ false = first_not e es i g.name.name a in
    rw (from_other (name_in es i) w e z, by_name k rooms es gs (apart_tail e.name (part_names es) a) i w)
