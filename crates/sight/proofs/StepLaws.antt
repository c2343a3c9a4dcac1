-- Behind a line: where the reader is, and the rows. Assumes nothing.
use mathlib.Core.Path.{◌≡◌, refl}
use mathlib.Core.List.{List, [], ◌∷◌}
use Prim.Native.Nat.{ℕ, ◌-◌, ◌≤◌, ◌<◌}
use native.Mathlib.Omega.{arith}
use lib.ListN.{length, get_or, set}
use borrow.Author.Tests.{lt-ltb, le-ltb}
use Rattle.number.specs.Count.{value}
use Rattle.text.specs.Reading.{Word, Line, nth}
use Rattle.sight.specs.declared.Looking.{Looking}
use Rattle.sight.specs.Rows.{with_mark}
use Rattle.sight.specs.Grammar.{moved_to, rows_behind}

module _ (c : Looking) (room : ℕ) where
  pub moved_blank : (l : Line) → length l ≡ 0 → c ≡ moved_to c room l
  unfolding moved_to
  moved_blank [] e = refl
  moved_blank (w ∷ ws) e = absurd (omega arith)

  pub moved_seen : (l : Line) → (length l ≡ 0 → ⊥) → 0 < c.left → ◌≡◌ {A = Looking} (record { observer = c.observer; left = c.left - 1; told = c.told }) (moved_to c room l)
  unfolding moved_to
  moved_seen [] e h = absurd (e refl)
  moved_seen (w ∷ ws) e h = rw (lt-ltb 0 c.left h)

  pub moved_observer : (l : Line) (u : Word) (n t : ℕ) → (length l ≡ 0 → ⊥) → c.left ≤ 0 → u ≡ nth l 1 → n ≡ value 0 u → t ≡ with_mark c.told room → ◌≡◌ {A = Looking} (record { observer = room; left = n; told = t }) (moved_to c room l)
  unfolding moved_to
  moved_observer [] u n t e h eu en et = absurd (e refl)
  moved_observer (w ∷ ws) u n t e h eu en et = rw (le-ltb 0 c.left h, en, eu, et)

module _ (rows : List ℕ) (c : Looking) (room : ℕ) where
  pub rows_blank : (l : Line) → length l ≡ 0 → rows ≡ rows_behind rows c room l
  unfolding rows_behind
  rows_blank [] e = refl
  rows_blank (w ∷ ws) e = absurd (omega arith)

  pub rows_kept : (l : Line) → (length l ≡ 0 → ⊥) → c.left ≡ 0 → rows ≡ rows_behind rows c room l
  unfolding rows_behind
  rows_kept [] e h = refl
  rows_kept (w ∷ ws) e h = rw (le-ltb 0 c.left (omega arith))

  pub rows_marked : (l : Line) (row : ℕ) → (length l ≡ 0 → ⊥) → (c.left ≡ 0 → ⊥) → row ≡ with_mark (get_or rows c.observer 0) room → set rows c.observer row ≡ rows_behind rows c room l
  unfolding rows_behind
  rows_marked [] row e h er = absurd (e refl)
  rows_marked (w ∷ ws) row e h er = rw (lt-ltb 0 c.left (omega arith), er)
