-- Area floors as a kind: what is left to show for a lawful kind, once the reader says what "accepted" is. Assumes nothing.
use mathlib.Core.Path.{◌≡◌, refl, ap, ◌∙◌}
use mathlib.Core.Bool.{true}
use Prim.Native.Nat.{ℕ, ◌+◌, ◌*◌, ◌<◌}
use mathlib.Core.List.{List}
use native.Mathlib.Omega.{arith}
use lib.ListN.{get_or}
use lib.IntN.{ℤ}
use lib.Ieee.{binary32, of_bits}
use Rattle.wire.specs.Bytes.{u32_at, Bytes}
use Rattle.tables.specs.Header.{RightHeader}
use Rattle.tables.specs.Parts.{parts_of, material, transition, with_word, with_float}
use Rattle.tables.proofs.Reading.{word_of_lem, float_is}
use Rattle.tables.proofs.Writing.{put_parts, float_parts}
use Rattle.grid.specs.Grid.{on_grid, may_nudge, nudge_bits}
use Rattle.grid.proofs.Grid.{grid_on}
use Rattle.grid.proofs.Nudges.{may, nudge_on, nudge_lt}
use Rattle.record.specs.declared.Rec.{Rec}
use Rattle.laying.specs.Allowed.{permitted, linkable}
use Rattle.laying.specs.Kind.{lay}
use Rattle.laying.specs.Area.{area_count, area_field, area_allowed, area_floor}
use Rattle.laying.proofs.Allowed.{permitted_small, permitted_sym, link_word, linkable_small}
use Rattle.laying.proofs.Area.{by_tag, paint_place, link_place, nudge_place, paint_in, link_in, area_fields}
use Rattle.journal.specs.Wish.{Edit, paint, link, nudge, wish_of, paint_wish, link_wish, nudge_wish}
use Rattle.journal.specs.Lawful.{Fits, Granted, Lawful}

-- ---- the four bytes as words of the floor's parts

pub material_at : (fl : List ℕ) (face : ℕ) → face < (parts_of fl).faces → material (parts_of fl) face ≡ u32_at fl (area_field fl 1 face)
material_at fl face l = word_of_lem fl 2 (omega arith) face l 0 (omega arith) ∙ ap (u32_at fl) (paint_place fl 1 face refl)

pub transition_at : (fl : List ℕ) (entry : ℕ) → entry < (parts_of fl).edges → transition (parts_of fl) entry ≡ u32_at fl (area_field fl 2 entry)
transition_at fl entry l = word_of_lem fl 7 (omega arith) entry l 1 (omega arith) ∙ ap (u32_at fl) (link_place fl 2 entry refl)

pub float_at : (fl : List ℕ) (place : ℕ) → place < 12 → get_or (parts_of fl).floats place 0 ≡ u32_at fl (area_field fl 3 place)
float_at fl place l = float_is fl place (omega arith) ∙ ap (u32_at fl) (nudge_place fl 3 place (λ e. omega arith) (λ e. omega arith))

-- THE THREE WAYS of a record that fits: one word of the parts is set, and that word is permitted, a transition, or on the grid. What
-- each of them keeps, laying on keeps
pub fits_ways : {C : Type 0} (fl : List ℕ) (r : Rec) → RightHeader fl → Fits area_floor fl r
    → ((face word : ℕ) → face < (parts_of fl).faces → word < 4294967296 → permitted (material (parts_of fl) face) word ≡ true
    → parts_of (lay area_floor fl r) ≡ with_word (parts_of fl) 2 face word → C)
    → ((entry word : ℕ) → entry < (parts_of fl).edges → word < 4294967296 → linkable word ≡ true
    → parts_of (lay area_floor fl r) ≡ with_word (parts_of fl) 7 (2 * entry + 1) word → C)
    → ((place word : ℕ) → place < 12 → word < 4294967296 → on_grid (of_bits binary32 word) ≡ true
    → parts_of (lay area_floor fl r) ≡ with_float (parts_of fl) place word → C)
    → C
unfolding lay area_field area_allowed
fits_ways fl r right o p l n =
    by_tag fl r.tag r.place o.inside
    (λ e i. p r.place r.new i o.word (rw (material_at fl r.place i, rw e at o.same) (rw e at o.kind))
    (rw e (put_parts fl right 2 (omega arith) r.place (paint_in fl r.place i) r.new o.word)))
    (λ e i. l r.place r.new i o.word (rw e at o.kind)
    (rw e (put_parts fl right 7 (omega arith) (2 * r.place + 1) (link_in fl r.place i) r.new o.word)))
    (λ e i. n r.place r.new i o.word (rw e at o.kind) (rw e (float_parts fl right r.place (omega arith) r.new o.word)))

-- ---- the three edits

-- 24: the old value is on the grid, and so is the new one
pub nudge_from : (old : ℕ) (n : ℤ) → may_nudge old n ≡ true → on_grid (of_bits binary32 old) ≡ true
nudge_from old n e = grid_on (may old n e).on

pub nudge_to : (old : ℕ) (n : ℤ) → may_nudge old n ≡ true → on_grid (of_bits binary32 (nudge_bits old n)) ≡ true
nudge_to old n e = grid_on (nudge_on old n (may old n e))

pub area_paints : (fl : List ℕ) (face material : ℕ) → Granted area_floor fl (paint_wish face material)
unfolding area_allowed
area_paints fl face material inside may = record { kind = may; back = permitted_sym _ material may; word = omega (arith, permitted_small _ material may) }

pub area_links : (fl : List ℕ) (entry : ℕ) (t : ℤ) → linkable (u32_at fl (area_field fl 2 entry)) ≡ true → Granted area_floor fl (link_wish entry t)
unfolding area_allowed
area_links fl entry t old inside may = record { kind = link_word t may; back = old; word = linkable_small _ (link_word t may) }

pub area_nudges : (fl : List ℕ) (place : ℕ) (n : ℤ) → Granted area_floor fl (nudge_wish place n)
unfolding area_allowed
area_nudges fl place n inside may = record { kind = nudge_to _ n may; back = nudge_from _ n may; word = nudge_lt _ n }

-- ---- the kind is lawful for every notion of "accepted" that gives bytes, a right header and transitions from -1 to 63 (rule 18), and
-- that a record which fits keeps
pub area_lawful : (A : List ℕ → Type 0)
    → ((fl : List ℕ) → A fl → Bytes fl)
    → ((fl : List ℕ) → A fl → RightHeader fl)
    → ((fl : List ℕ) (entry : ℕ) → A fl → entry < (parts_of fl).edges → linkable (transition (parts_of fl) entry) ≡ true)
    → ((fl : List ℕ) (r : Rec) → A fl → Fits area_floor fl r → A (lay area_floor fl r))
    → Lawful area_floor A
unfolding area_count
area_lawful A bytes right linked keeps = record { fields = area_fields; bytes = bytes; right = right; keeps = keeps; edits = edits }
  where
    edits : (fl : List ℕ) (e : Edit) → A fl → Granted area_floor fl (wish_of e)
    edits fl (paint face material) a = area_paints fl face material
    edits fl (link entry t) a = λ i. area_links fl entry t (rw (transition_at fl entry i) at (linked fl entry a i)) i
    edits fl (nudge place n) a = area_nudges fl place n
