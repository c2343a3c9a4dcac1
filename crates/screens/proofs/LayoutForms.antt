-- A layout's fixed form and its form with another name for room j differ in no line but those that hold the name; and the form of a layout
-- that is alike but for the name of room j is the first one's with that name. Assumes nothing.
use mathlib.Core.Path.{◌≡◌, refl, sym, ap, ◌∙◌}
use mathlib.Core.Logic.{inl, inr}
use mathlib.Core.Bool.{true, false}
use mathlib.Core.List.{List, [], ◌∷◌, map}
use Prim.Native.Nat.{ℕ, zero, suc}
use lib.ListN.{length, get_or, length-map}
use Rattle.verdict.proofs.Bools.{test}
use Rattle.verdict.proofs.Each.{Each}
use Rattle.letters.specs.Case.{lowered}
use Rattle.names.specs.Name.{same_name}
use Rattle.names.proofs.NameLaws.{same_name_true}
use Rattle.number.specs.Number.{plain}
use Rattle.text.specs.Reading.{Word, Line}
use Rattle.layout.specs.Grammar.{roomcount, trackcount, obstaclecount, doorhookcount, donelayout}
use Rattle.rooms.specs.Rooms.{room_names, name_verdict}
use Rattle.caption.specs.Caption.{room_name}
use Rattle.layoutform.specs.Form.{Entry, LayoutParts, parts_of, entry_line, section, form, form_text}
use Rattle.layoutform.specs.Rewrite.{named, renamed_at, name_in, renamed_from, renamed, renamed_form}
use Rattle.layoutform.proofs.PartLaws.{GoodEntry, GoodParts, parts_good}
use Rattle.layoutform.proofs.FormTrip.{form_plain}
use Rattle.layoutform.proofs.ByName.{names_are, from_same, from_other}
use Rattle.layoutform.proofs.RenameLaws.{renamed_long, names, names_of_parts, renamed_good}
use Rattle.screens.specs.Alike.{Alongside, AlikeLayouts}
use Rattle.screens.specs.Shown.{SameBut}
use Rattle.screens.specs.Screens.{form_name}
use Rattle.screens.proofs.LineLaws.{SameWords, alongside_append, alongside_same, begin_apart, written_same}

-- ---- the lines of entries

-- an entry with its own name
pub named_self : (e : Entry) → named e.name e ≡ e
unfolding named
named_self e = refl

-- an entry's line begins with its name
line_named : (w : Word) (e : Entry) → SameWords e.name w (entry_line e) (entry_line (named w e))
unfolding entry_line named
line_named w e = inr (begin_apart e.name w _ _ refl)

same_lines : (a b : Word) (ls : List Line) → Alongside (SameWords a b) ls ls
same_lines a b ls = alongside_same (SameWords a b) (λ l. inl refl) ls ls refl

-- rooms, of which one has another name
rooms_apart : (es : List Entry) (j : ℕ) (w : Word) → Alongside (SameWords (name_in es j) w) (map entry_line es) (map entry_line (renamed_at es j w))
unfolding renamed_at name_in
rooms_apart [] j w = tt
rooms_apart (e ∷ es) zero w = (line_named w e, same_lines e.name w (map entry_line es))
rooms_apart (e ∷ es) (suc j) w = (inl refl, rooms_apart es j w)

-- the name of a room in the parts is in lower case
pub small_name : (k : ℕ) (rooms : List Word) (es : List Entry) → Each (GoodEntry k rooms) es → (j : ℕ) → lowered (name_in es j) ≡ name_in es j
unfolding name_in
small_name k rooms [] g j = unfold lowered in refl
small_name k rooms (e ∷ es) (g, gs) zero = g.name.small
small_name k rooms (e ∷ es) (g, gs) (suc j) = small_name k rooms es gs j

-- hooks, of which those of one room have another name
module _ (rooms : List Word) (old w : Word) (small : lowered old ≡ old) where
  hook_apart : (e : Entry) → GoodEntry 5 rooms e → SameWords old w (entry_line e) (entry_line (renamed_from old w e))
  hook_apart e g =
      test (same_name e.name old)
      (λ (h : same_name e.name old ≡ true).
      let n : e.name ≡ old = sym g.name.small ∙ same_name_true e.name old h ∙ small in
      rw (from_same old w e h, ← n) (line_named w e))
      (λ (h : same_name e.name old ≡ false). rw (from_other old w e h) (inl refl))

  hooks_apart : (es : List Entry) → Each (GoodEntry 5 rooms) es → Alongside (SameWords old w) (map entry_line es) (map entry_line (map (renamed_from old w) es))
  hooks_apart [] g = tt
  hooks_apart (e ∷ es) (g, gs) = (hook_apart e g, hooks_apart es gs)

-- a section: its count, and its entries
section_apart : (a b key : Word) (es fs : List Entry) → length es ≡ length fs → Alongside (SameWords a b) (map entry_line es) (map entry_line fs) → Alongside (SameWords a b) (section key es) (section key fs)
unfolding section
section_apart a b key es fs e h = (inl (ap (λ (n : ℕ). key ∷ plain n ∷ []) e), h)

-- ---- forms

module _ (p : LayoutParts) (g : GoodParts p) (j : ℕ) (n : Word) where
  abbrev old : Word
  old = name_in p.rooms j

  abbrev new : Word
  new = lowered n

  -- the lines of words of the two forms
  pub form_apart : Alongside (SameWords old new) (form p) (form (renamed p j n))
  unfolding form renamed
  form_apart =
      let R = SameWords old new in
      let rs = p.rooms in
      let hs = p.hooks in
      let ks = map (renamed_from old new) hs in
      let small = small_name 2 _ rs g.rooms j in (
        inl refl,
        alongside_append R (section roomcount rs) (section roomcount (renamed_at rs j new)) _ _ (section_apart old new roomcount rs (renamed_at rs j new) (sym (renamed_long rs j new)) (rooms_apart rs j new))
            (alongside_append R (section trackcount p.tracks) (section trackcount p.tracks) _ _ (same_lines old new (section trackcount p.tracks))
            (alongside_append R (section obstaclecount p.obstacles) (section obstaclecount p.obstacles) _ _ (same_lines old new (section obstaclecount p.obstacles))
            (alongside_append R (section doorhookcount hs) (section doorhookcount ks) _ _ (section_apart old new doorhookcount hs ks (sym (length-map hs (renamed_from old new))) (hooks_apart _ old new small hs g.hooks))
            (same_lines old new ((donelayout ∷ []) ∷ []))))),
      )

  -- the two texts
  pub texts_apart : (q : LayoutParts) → q ≡ renamed p j n → GoodParts q → SameBut old new (form_text p) (form_text q)
  unfolding form_text
  texts_apart q e h = written_same old new (form p) (form q) (form_plain p g) (form_plain q h) (rw e form_apart)

-- ---- two layouts, and a typed name

-- a list made by a function, entry by entry, past the last too
pub map_past : {A B : Type 0} (f : A → B) (d : A) (xs : List A) (k : ℕ) → get_or (map f xs) k (f d) ≡ f (get_or xs k d)
map_past f d [] k = refl
map_past f d (x ∷ xs) zero = refl
map_past f d (x ∷ xs) (suc k) = map_past f d xs k

-- the name of room j in the parts is its typed name in lower case
pub name_in_parts : (s : List ℕ) (j : ℕ) → name_in (parts_of s).rooms j ≡ form_name s j
unfolding room_name lowered
name_in_parts s j = names_are (parts_of s).rooms j ∙ ap (λ (ns : List Word). get_or ns j []) (names_of_parts s) ∙ map_past lowered [] (room_names s) j

-- the second's form is the first's, rewritten with the second's name
pub form_with_name : (j : ℕ) (v w : List ℕ) → AlikeLayouts j v w → form_text (parts_of w) ≡ renamed_form v j (room_name w j)
form_with_name j v w a = ap form_text a.parts

pub form_texts_alike : (j : ℕ) (v w : List ℕ) → AlikeLayouts j v w → SameBut (form_name v j) (form_name w j) (form_text (parts_of v)) (form_text (parts_of w))
form_texts_alike j v w a = rw (← name_in_parts v j) (texts_apart (parts_of v) (parts_good v) j (room_name w j) (parts_of w) a.parts (parts_good w))

-- a layout's form with a typed name has as many lines as the plain one, and differs from it in no line but those that hold the name
pub renamed_text_alike : (s : List ℕ) (i : ℕ) (w : Word) → (name_verdict s i w).number ≡ 0 → SameBut (form_name s i) (lowered w) (form_text (parts_of s)) (renamed_form s i w)
renamed_text_alike s i w z =
    let n = names s i w z in
    rw (← name_in_parts s i) (texts_apart (parts_of s) (parts_good s) i w (renamed (parts_of s) i w) refl (renamed_good s i w n.name n.new))
