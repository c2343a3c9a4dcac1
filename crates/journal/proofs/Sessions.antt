-- What an edit and an undo that the plain list does not refuse have, for every lawful kind of floor. Assumes nothing.
use mathlib.Core.Path.{◌≡◌, refl}
use Prim.Native.Nat.{ℕ, ◌≤◌, ◌<◌}
use mathlib.Core.List.{List}
use native.Mathlib.Numerals.{lt_of_le_of_ne}
use lib.ListN.{length}
use Rattle.verdict.proofs.Verdict.{passed}
use Rattle.record.specs.declared.Rec.{Rec}
use Rattle.laying.specs.Kind.{Kind, lay}
use Rattle.journal.specs.Wish.{Wish, Edit, wish_of}
use Rattle.journal.specs.Lawful.{Lawful, Fits}
use Rattle.journal.specs.Step.{fit_in, half, rule45, record_of, full}
use Rattle.journal.specs.Calls.{edit, undo}
use Rattle.journal.specs.Plain.{floor_of, held_by, plain_undo_rules, plain_verdict}
use Rattle.journal.proofs.Replays.{chain_keeps}
use Rattle.journal.proofs.Could.{Could, few}
use Rattle.journal.proofs.Steps.{bench_met, edit_met, full_free}

-- what an undo that is not refused has
pub undo_passed : (K : Kind) (opening : List ℕ) (room bench : ℕ) (rs : List Rec) → (plain_verdict K opening room (undo bench) rs).number ≡ 0
    → ((rule45 bench (length rs)).number ≡ 0) × ((plain_undo_rules bench rs).number ≡ 0)
unfolding plain_verdict
undo_passed K opening room bench rs z = passed (rule45 bench (length rs)) (plain_undo_rules bench rs) z

module _ (K : Kind) (opening : List ℕ) (room : ℕ) (A : List ℕ → Type 0) (L : Lawful K A) (acc : A opening) where
  -- its floor is A
  pub good : (rs : List Rec) → Could K opening (fit_in room) rs → A (floor_of K opening rs)
  good rs k = chain_keeps (lay K) (Fits K) A L.keeps rs opening k.chain acc

  -- what an edit that is not refused has
  pub record Made (bench : ℕ) (w : Wish) (rs : List Rec) : Type 0 where
    pub owner : bench ≤ 1
    pub half : held_by bench rs < half room
    pub space : length rs < fit_in room
    pub fits : Fits K (floor_of K opening rs) (record_of K bench (floor_of K opening rs) w)

  pub edit_made : (bench : ℕ) (e : Edit) (rs : List Rec) → Could K opening (fit_in room) rs → (plain_verdict K opening room (edit bench e) rs).number ≡ 0 → Made bench (wish_of e) rs
  unfolding plain_verdict
  edit_made bench e rs k z =
      let p = passed (rule45 bench (length rs)) _ z in
      let m = edit_met K (wish_of e) (floor_of K opening rs) (full room (length rs) (held_by bench rs)) p.1 in
      let g = L.edits (floor_of K opening rs) e (good rs k) m.inside m.may in
      let free = full_free room (length rs) (held_by bench rs) m.free in
      record {
        owner = bench_met bench (length rs) p.0;
        half = free.0;
        space = lt_of_le_of_ne (few K opening (fit_in room) rs k) free.1;
        fits = record { len = refl; inside = m.inside; same = refl; kind = g.kind; back = g.back; word = g.word };
      }
