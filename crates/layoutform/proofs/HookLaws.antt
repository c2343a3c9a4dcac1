-- What a room's new name does to the hooks: those of that room get it, no door and no number changes, and every hook hangs on the room that
-- it hung on. Assumes nothing.
use mathlib.Core.Path.{◌≡◌, refl, sym, ap, ◌∙◌}
use mathlib.Core.Logic.{◌≢◌}
use mathlib.Core.Bool.{true, false, cond}
use mathlib.Core.List.{List, []}
use Prim.Native.Nat.{ℕ, ◌<◌}
use native.Mathlib.Omega.{arith}
use native.Mathlib.Decide.{ℕ_discrete, dec_lt}
use lib.ListN.{length, get_or, set, length-map}
use lib.Seq.{get_or-set_same, get_or-set_other}
use borrow.Author.Tests.{ltb-true}
use Rattle.verdict.proofs.Bools.{clash, test, decided}
use Rattle.verdict.proofs.Lists.{map_at_lem}
use Rattle.verdict.proofs.Each.{each_at}
use Rattle.names.specs.Name.{same_name}
use Rattle.letters.specs.Case.{lowered}
use Rattle.names.proofs.NameLaws.{same_true, same_name_sym}
use Rattle.text.specs.Reading.{Word}
use Rattle.layout.specs.Grammar.{known_but}
use Rattle.layout.proofs.ApartLaws.{Apart}
use Rattle.rooms.specs.Rooms.{room_names}
use Rattle.layoutform.specs.Form.{Entry, LayoutParts, parts_of}
use Rattle.layoutform.specs.Rewrite.{named, renamed_at, name_in, renamed_from, renamed, rename_verdict}
use Rattle.layoutform.proofs.PartLaws.{part_names, Among, GoodEntry, parts_good}
use Rattle.layoutform.proofs.ByName.{names_are, same_self, from_same, from_other}
use Rattle.layoutform.proofs.RenameLaws.{renamed_names_lem, but_not, but_lowered, names_of_parts, renames}

-- ---- hook j

module _ (p : LayoutParts) (i : ℕ) (w : Word) (j : ℕ) (d : Entry) (l : j < length p.hooks) where
  hook_is : get_or (renamed p i w).hooks j d ≡ renamed_from (name_in p.rooms i) (lowered w) (get_or p.hooks j d)
  unfolding renamed
  hook_is = map_at_lem (renamed_from (name_in p.rooms i) (lowered w)) d d p.hooks j l

  -- of room i it has the new name, and its own door and numbers ..
  pub hook_here : same_name (get_or p.hooks j d).name (name_in p.rooms i) ≡ true → get_or (renamed p i w).hooks j d ≡ named (lowered w) (get_or p.hooks j d)
  hook_here e = hook_is ∙ from_same _ _ _ e

  -- .. and every other hook is what it was
  pub hook_other : same_name (get_or p.hooks j d).name (name_in p.rooms i) ≡ false → get_or (renamed p i w).hooks j d ≡ get_or p.hooks j d
  hook_other e = hook_is ∙ from_other _ _ _ e

-- ---- the room that it hangs on

-- two words that are the same name are so beside every third
same_beside : (a b c : Word) → same_name a b ≡ true → same_name a c ≡ same_name b c
unfolding same_name
same_beside a b c e = rw (same_true (lowered a) (lowered b) e)

-- names, one of them changed for a name that no other has; a word that is one of them, and what becomes of it
module _ (names : List Word) (i : ℕ) (w : Word) (l : i < length names) (apart : Apart names) (new : known_but i w names ≡ false) (v : Word) (a : Among names v) where
  -- no other name is that of room i
  unlike : (j : ℕ) → j < length names → j ≢ i → same_name (get_or names i []) (get_or names j []) ≡ false
  unlike j m n =
      decided (dec_lt j i) (λ (h : j < i). apart.other j i h l)
      (λ (h : j < i → ⊥). same_name_sym _ _ ∙ apart.other i j (decided (ℕ_discrete j i) (λ (e : j ≡ i). absurd (n e)) (λ (e : j ≡ i → ⊥). omega arith)) m)

  -- the word is not the new name where it is not room i's
  not_new : same_name v (get_or names i []) ≡ false → same_name v w ≡ false
  not_new e =
      same_beside v (get_or names a.at []) w a.same ∙ same_name_sym _ w
      ∙ but_not names i w new a.at a.inside (λ q. clash (rw q at a.same) e)

  hangs : (j : ℕ) → j < length names → same_name (cond (same_name v (get_or names i [])) w v) (get_or (set names i w) j []) ≡ same_name v (get_or names j [])
  hangs j m =
      test (same_name v (get_or names i []))
      (λ (e : same_name v (get_or names i []) ≡ true).
      decided (ℕ_discrete j i) (λ (q : j ≡ i). rw (q, e, get_or-set_same names i w [] l) (same_self w))
      (λ (n : j ≡ i → ⊥). rw (e, get_or-set_other names i j w [] n) (but_not names i w new j m n ∙ sym (unlike j m n) ∙ sym (same_beside v (get_or names i []) (get_or names j []) e))))
      (λ (e : same_name v (get_or names i []) ≡ false).
      decided (ℕ_discrete j i) (λ (q : j ≡ i). rw (q, e, get_or-set_same names i w [] l) (not_new e))
      (λ (n : j ≡ i → ⊥). rw (e, get_or-set_other names i j w [] n)))

names_long : (es : List Entry) → length (part_names es) ≡ length es
unfolding part_names
names_long es = length-map es (λ (e : Entry). e.name)

-- the law: renamed or not, hook a is one of room j's exactly if it was before
pub hooks_hang : (s : List ℕ) (i : ℕ) (w : Word) (room : ℕ) → (rename_verdict s i w room).number ≡ 0 → (a j : ℕ) (d : Entry) → a < length (parts_of s).hooks → j < length (parts_of s).rooms
    → same_name (get_or (renamed (parts_of s) i w).hooks a d).name (name_in (renamed (parts_of s) i w).rooms j) ≡ same_name (get_or (parts_of s).hooks a d).name (name_in (parts_of s).rooms j)
unfolding renamed renamed_from named
hooks_hang s i w room z a j d h m =
    let r = (renames s i w room z).named in
    let rs = (parts_of s).rooms in
    let ns = part_names rs in
    let many : length ns ≡ length (room_names s) = ap length (names_of_parts s) ∙ length-map (room_names s) lowered in
    let l : i < length ns = omega (arith, ltb-true i (length (room_names s)) r.within) in
    let new : known_but i (lowered w) ns ≡ false = rw (names_of_parts s) (but_lowered (room_names s) i w ∙ r.new) in
    let e = get_or (parts_of s).hooks a d in
    let g : GoodEntry 5 ns e = each_at (GoodEntry 5 ns) d (parts_of s).hooks (parts_good s).hooks a h in
    rw (map_at_lem (renamed_from (name_in rs i) (lowered w)) d d (parts_of s).hooks a h, names_are (renamed_at rs i (lowered w)) j, renamed_names_lem rs i (lowered w), names_are rs i, names_are rs j)
    (hangs ns i (lowered w) l (parts_good s).apart new e.name (g.hook refl) j (omega (arith, names_long rs)))
