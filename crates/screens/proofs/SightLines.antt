-- The lines of two fixed forms of visibility, with the same rows and other names, alongside each other. Assumes nothing.
use mathlib.Core.Path.{◌≡◌}
use mathlib.Core.Bool.{Bool, true, false, cond}
use mathlib.Core.List.{List, [], ◌∷◌, map, map-append}
use Prim.Native.Nat.{ℕ, zero, suc, ◌≤◌, ◌<◌}
use native.Mathlib.Omega.{arith}
use lib.Count.{ones}
use lib.ListN.{length, get_or}
use Rattle.number.specs.Number.{plain}
use Rattle.text.specs.Written.{spaced}
use Rattle.text.specs.Reading.{Word}
use Rattle.sight.specs.Rows.{sees}
use Rattle.sightform.specs.Form.{seen_to, seen_line, room_lines, lines_to}
use Rattle.screens.specs.Alike.{Alongside}
use Rattle.screens.proofs.LineLaws.{alongside_append}

module _ (R : List ℕ → List ℕ → Type 0) (ns ms : List Word) (long : length ns ≡ length ms) (head : (i n : ℕ) → i < length ns → R (spaced (get_or ns i [] ∷ plain n ∷ [])) (spaced (get_or ms i [] ∷ plain n ∷ []))) (seen : (i : ℕ) → i < length ns → R (seen_line (get_or ns i [])) (seen_line (get_or ms i []))) where
  piece : (row i : ℕ) → i < length ns → Alongside R (map seen_line (cond (sees row i) (get_or ns i [] ∷ []) [])) (map seen_line (cond (sees row i) (get_or ms i [] ∷ []) []))
  piece row i l = go (sees row i)
    where
      go : (b : Bool) → Alongside R (map seen_line (cond b (get_or ns i [] ∷ []) [])) (map seen_line (cond b (get_or ms i [] ∷ []) []))
      go true = (seen i l, tt)
      go false = tt

  -- the seen rooms
  seen_alongside : (row i : ℕ) → i ≤ length ns → Alongside R (map seen_line (seen_to ns row i)) (map seen_line (seen_to ms row i))
  unfolding seen_to
  seen_alongside row zero l = tt
  seen_alongside row (suc i) l =
      rw (map-append seen_line (seen_to ns row i) (cond (sees row i) (get_or ns i [] ∷ []) []), map-append seen_line (seen_to ms row i) (cond (sees row i) (get_or ms i [] ∷ []) []))
      (alongside_append R (map seen_line (seen_to ns row i)) (map seen_line (seen_to ms row i)) _ _ (seen_alongside row i (omega arith)) (piece row i l))

  -- the lines of the first k rooms
  pub lines_alongside : (rows : List ℕ) (k : ℕ) → k ≤ length ns → Alongside R (lines_to ns rows k) (lines_to ms rows k)
  unfolding lines_to room_lines
  lines_alongside rows zero l = tt
  lines_alongside rows (suc k) l =
      alongside_append R (lines_to ns rows k) (lines_to ms rows k) _ _ (lines_alongside rows k (omega arith))
      (head k (ones (get_or rows k 0)) l, rw (← long) (seen_alongside (get_or rows k 0) (length ns) (omega arith)))
