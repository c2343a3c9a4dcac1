-- What the calls answer, case by case. Assumes nothing.
use mathlib.Core.Path.{◌≡◌, sym, ap, ◌∙◌}
use mathlib.Core.List.{List}
use Prim.Native.Nat.{ℕ}
use native.Mathlib.Omega.{arith}
use lib.Count.{ones}
use lib.ListN.{get_or}
use Rattle.verdict.specs.declared.Answer.{Answer}
use Rattle.std.specs.declared.result.Result.{Result}
use Rattle.std.specs.declared.result.Result.TheVariants.{Ok, Err}
use Rattle.verdict.specs.declared.Refused.{Refused}
use Rattle.verdict.specs.Verdict.{accepted, refused}
use Rattle.verdict.specs.Refusals.{number_of, verdict_of}
use Rattle.verdict.proofs.Results.{accepts, number_positive}
use Rattle.text.specs.Sound.{rules31to32}
use Rattle.layout.specs.Layout.{layout_verdict}
use Rattle.layout.specs.Starts.{Told, layout_read}
use Rattle.rooms.proofs.RoomLaws.{names_are}
use Rattle.sight.specs.declared.Row.{Row}
use Rattle.sight.specs.Sight.{ToldSight, grammar, sight_verdict, sight_of, row_answer}
use Rattle.sight.specs.Code.{as_read, no_sight, told_sight, kept_names}
use Rattle.sight.proofs.SightLaws.{sight_of_no_layout, sight_of_unsound, sight_of_sound}
use Rattle.sight.proofs.RowsGood.{no_row}

-- ---- a room's row

pub row_told : (layout s : List ℕ) (room : ℕ) (v : ToldSight) → v ≡ sight_of layout s → ◌≡◌ {A = Row} (record { number = v.number; place = v.place; row = get_or v.rows room 0; seen = ones (get_or v.rows room 0) }) (row_answer layout s room)
unfolding row_answer sight_of
row_told layout s room v e = rw e

pub no_row_told : (layout s : List ℕ) (room : ℕ) (r : Refused) → told_sight (Err r) ≡ sight_of layout s → ◌≡◌ {A = Row} (record { number = number_of r.refusal; place = r.place; row = 0; seen = 0 }) (row_answer layout s room)
unfolding ones no_sight
no_row_told layout s room r e =
    ap (λ (m : ℕ). record { number = number_of r.refusal; place = r.place; row = m; seen = ones m }) (sym (no_row room)) ∙ row_told layout s room (told_sight (Err r)) e

-- ---- by what was read of the layout

module _ (layout s : List ℕ) where
  pub unread : (r : Refused) → refused (number_of r.refusal) r.place ≡ layout_verdict layout → told_sight (Err r) ≡ sight_of layout s
  unfolding no_sight
  unread r a =
      let e : layout_verdict layout ≡ refused (number_of r.refusal) r.place = sym a in
      sym (sight_of_no_layout layout s (λ z. absurd (omega (arith, number_positive r.refusal, ap (λ (v : Answer). v.number) a, z))) ∙ rw e)

  pub unsound : (r : Refused) → accepted ≡ layout_verdict layout → refused (number_of r.refusal) r.place ≡ rules31to32 s → told_sight (Err r) ≡ sight_of layout s
  unfolding no_sight
  unsound r y a =
      let e : rules31to32 s ≡ refused (number_of r.refusal) r.place = sym a in
      sym (sight_of_unsound layout s (accepts y) (λ z. absurd (omega (arith, number_positive r.refusal, ap (λ (v : Answer). v.number) a, z))) ∙ rw e)

  pub sound : (r : Told) (w : ToldSight) → r ≡ layout_read layout → accepted ≡ layout_verdict layout → accepted ≡ rules31to32 s → w ≡ as_read (grammar (kept_names layout r.starts r.rooms) s) → w ≡ sight_of layout s
  sound r w a y e h = h ∙ rw (names_are layout r a) (sym (sight_of_sound layout s (accepts y) (accepts e)))

  -- ---- the verdict of what is told

  pub sight_told : (v : Result (List ℕ) Refused) → told_sight v ≡ sight_of layout s → verdict_of v ≡ sight_verdict layout s
  unfolding sight_of no_sight
  sight_told (Ok rows) e = ap (λ (t : ToldSight). refused t.number t.place) e
  sight_told (Err r) e = ap (λ (t : ToldSight). refused t.number t.place) e
