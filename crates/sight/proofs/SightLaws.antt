-- Visibility against a layout, case by case: its verdict and its rows where the layout is refused, where rules 31 and 32 refuse, and where
-- the grammar speaks; and what the rows of every text are. Assumes nothing.
use mathlib.Core.Path.{◌≡◌, sym, ap, ◌∙◌}
use mathlib.Core.Bool.{true, false}
use mathlib.Core.List.{List, []}
use Prim.Native.Nat.{ℕ, ◌^◌, ◌≤◌, ◌<◌}
use native.Mathlib.Omega.{arith}
use lib.Dec.{eqb}
use lib.ListN.{length, get_or}
use lib.Pow.{pow_mono}
use borrow.Author.Tests.{eqb-true, eqb-false, eq-eqb, ne_eqb}
use Rattle.verdict.specs.declared.Answer.{Answer}
use Rattle.verdict.proofs.Bools.{test}
use Rattle.verdict.proofs.Verdict.{passed, then_next, then_stop, Proper, then_proper}
use Rattle.names.specs.Name.{is_name}
use Rattle.text.specs.Sound.{rules31to32}
use Rattle.layout.specs.Layout.{layout_verdict, layout_of}
use Rattle.rooms.specs.Rooms.{room_names}
use Rattle.verdict.proofs.Each.{each_at}
use Rattle.layout.proofs.ApartLaws.{Apart, length_names, names_at}
use Rattle.layout.specs.Plain.{IsEntry}
use Rattle.layout.proofs.ReadLaws.{layout_good, sound_proper, verdict_proper}
use Rattle.sight.specs.Rows.{no_rows}
use Rattle.sight.specs.Sight.{grammar, sight_verdict, rows_of, sight_of}
use Rattle.sight.specs.Code.{as_read}
use Rattle.sight.proofs.RowsGood.{GoodRows, good_no_rows, Sane, grammar_sane}

-- ---- the names of a layout's rooms: at most 64, names, no two the same

pub few_names : (layout : List ℕ) → length (room_names layout) ≤ 64
unfolding room_names
few_names layout = omega (arith, length_names (layout_of layout).rooms, (layout_good layout).few_rooms)

pub names_apart : (layout : List ℕ) → Apart (room_names layout)
unfolding room_names
names_apart layout = (layout_good layout).apart

pub names_right : (layout : List ℕ) (j : ℕ) → j < length (room_names layout) → is_name (get_or (room_names layout) j []) ≡ true
unfolding room_names
names_right layout j l =
    let m : j < length (layout_of layout).rooms = omega (arith, length_names (layout_of layout).rooms) in
    rw (names_at (layout_of layout).rooms j m) (each_at (IsEntry 2 (layout_of layout).rooms) [] (layout_of layout).rooms (layout_good layout).rooms j m).name

module _ (layout s : List ℕ) where
  names_sane : Sane (length (room_names layout)) (grammar (room_names layout) s)
  names_sane = grammar_sane (room_names layout) s

  -- ---- the verdict

  -- the layout's refusal comes first ..
  pub sight_no_layout : ((layout_verdict layout).number ≡ 0 → ⊥) → sight_verdict layout s ≡ layout_verdict layout
  unfolding sight_verdict
  sight_no_layout z =
      rw (then_stop (layout_verdict layout) z (rules31to32 s)) (then_stop (layout_verdict layout) z (grammar (room_names layout) s).verdict)

  -- .. then rules 31 and 32 ..
  pub sight_unsound : (layout_verdict layout).number ≡ 0 → ((rules31to32 s).number ≡ 0 → ⊥) → sight_verdict layout s ≡ rules31to32 s
  unfolding sight_verdict
  sight_unsound a z = rw (then_next (layout_verdict layout) (rules31to32 s) a) (then_stop (rules31to32 s) z (grammar (room_names layout) s).verdict)

  -- .. then the grammar
  pub sight_sound : (layout_verdict layout).number ≡ 0 → (rules31to32 s).number ≡ 0 → sight_verdict layout s ≡ (grammar (room_names layout) s).verdict
  unfolding sight_verdict
  sight_sound a z = rw (then_next (layout_verdict layout) (rules31to32 s) a) (then_next (rules31to32 s) (grammar (room_names layout) s).verdict z)

  -- what is accepted is accepted by each of the three
  pub sight_passed : (sight_verdict layout s).number ≡ 0 → ((layout_verdict layout).number ≡ 0) × (((rules31to32 s).number ≡ 0) × ((grammar (room_names layout) s).verdict.number ≡ 0))
  unfolding sight_verdict
  sight_passed z =
      let a = passed _ _ z in
      let b = passed _ _ a.0 in
      (b.0, (b.1, a.1))

  -- an accepting verdict has place 0
  pub sight_proper : Proper (sight_verdict layout s)
  unfolding sight_verdict
  sight_proper = then_proper _ _ (then_proper _ _ (verdict_proper layout) (sound_proper s)) (record { at_0 = names_sane.at_0 })

  -- ---- the rows

  pub rows_accepted : (sight_verdict layout s).number ≡ 0 → rows_of layout s ≡ (grammar (room_names layout) s).rows
  unfolding rows_of
  rows_accepted z = rw (eq-eqb (sight_verdict layout s).number 0 z)

  -- all 0 on refusal
  pub rows_refused : ((sight_verdict layout s).number ≡ 0 → ⊥) → rows_of layout s ≡ no_rows
  unfolding rows_of
  rows_refused z = rw (ne_eqb (sight_verdict layout s).number 0 z)

  pub rows_no_layout : ((layout_verdict layout).number ≡ 0 → ⊥) → rows_of layout s ≡ no_rows
  rows_no_layout z = rows_refused (λ q. z (sight_passed q).0)

  pub rows_unsound : ((rules31to32 s).number ≡ 0 → ⊥) → rows_of layout s ≡ no_rows
  rows_unsound z = rows_refused (λ q. z (sight_passed q).1.0)

  -- what the grammar found, where the layout and rules 31 and 32 accept
  pub rows_sound : (layout_verdict layout).number ≡ 0 → (rules31to32 s).number ≡ 0 → rows_of layout s ≡ (grammar (room_names layout) s).rows
  rows_sound a z =
      test (eqb (sight_verdict layout s).number 0) (λ (h : eqb (sight_verdict layout s).number 0 ≡ true). rows_accepted (eqb-true _ 0 h))
      (λ (h : eqb (sight_verdict layout s).number 0 ≡ false).
      let e : (sight_verdict layout s).number ≡ 0 → ⊥ = eqb-false _ 0 h in
      rows_refused e ∙ sym (names_sane.none (λ q. e (ap (λ (v : Answer). v.number) (sight_sound a z) ∙ q))))

  -- the rows of every text are right: 64 of them, no mark past the layout's rooms
  pub rows_good : GoodRows (length (room_names layout)) (rows_of layout s)
  rows_good =
      test (eqb (sight_verdict layout s).number 0) (λ (h : eqb (sight_verdict layout s).number 0 ≡ true). rw (rows_accepted (eqb-true _ 0 h)) names_sane.rows)
      (λ (h : eqb (sight_verdict layout s).number 0 ≡ false). rw (rows_refused (eqb-false _ 0 h)) (good_no_rows (length (room_names layout))))

  -- a room that the layout has not sees nothing
  pub no_room : (room : ℕ) → length (room_names layout) ≤ room → get_or (rows_of layout s) room 0 ≡ 0
  no_room room l = rows_good.past room l

  -- every row has 64 marks
  pub row_fits : (room : ℕ) → get_or (rows_of layout s) room 0 < 2 ^ 64
  row_fits room = omega (arith, rows_good.fits room, pow_mono (few_names layout))

  -- ---- the two together

  pub sight_of_no_layout : ((layout_verdict layout).number ≡ 0 → ⊥) → sight_of layout s ≡ record { number = (layout_verdict layout).number; place = (layout_verdict layout).place; rows = no_rows }
  unfolding sight_of
  sight_of_no_layout z = rw (sight_no_layout z, rows_no_layout z)

  pub sight_of_unsound : (layout_verdict layout).number ≡ 0 → ((rules31to32 s).number ≡ 0 → ⊥) → sight_of layout s ≡ record { number = (rules31to32 s).number; place = (rules31to32 s).place; rows = no_rows }
  unfolding sight_of
  sight_of_unsound a z = rw (sight_unsound a z, rows_unsound z)

  pub sight_of_sound : (layout_verdict layout).number ≡ 0 → (rules31to32 s).number ≡ 0 → sight_of layout s ≡ as_read (grammar (room_names layout) s)
  unfolding sight_of as_read
  sight_of_sound a z = rw (sight_sound a z, rows_sound a z)
