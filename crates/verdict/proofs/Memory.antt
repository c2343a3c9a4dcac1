-- Laws of the work memory: what clearing and marking leave. Assumes nothing.
use Prim.Native.Nat.{ℕ, zero, suc, ◌+◌, ◌<◌, ◌≤◌}
use native.Mathlib.Omega.{arith}
use native.Mathlib.Numerals.{add-one}
use mathlib.Core.Path.{◌≡◌, refl, sym, ap, ◌∙◌}
use mathlib.Core.List.{List, [], ◌∷◌}
use lib.ListN.{length, get_or, set, drop, replicate, length-append, length-replicate, length-drop, get_or-replicate, get_or-append}
use lib.Seq.{drop-set-lt}
use borrow.Author.Fill.{fill_none, fill_more}
use Rattle.verdict.specs.Memory.{work_size, cleared_to, past, SamePast, is_marked, marked}
use Rattle.verdict.proofs.Bools.{test}
use Rattle.verdict.proofs.Lists.{NoneFrom, none_head, none_tail}

pub cleared_none : (w : List ℕ) → w ≡ cleared_to 0 w
unfolding cleared_to
cleared_none w = fill_none w 0

pub cleared_more : (n : ℕ) (w : List ℕ) → n < length w → set (cleared_to n w) n 0 ≡ cleared_to (n + 1) w
unfolding cleared_to
cleared_more n w h = fill_more n 0 w h

module _ (n : ℕ) (w : List ℕ) where
  pub length_cleared : n ≤ length w → length (cleared_to n w) ≡ length w
  unfolding cleared_to
  length_cleared h = simp (length-append, length-replicate, length-drop) (omega arith)

  pub get_d_cleared : (k : ℕ) → k < n → get_or (cleared_to n w) k 0 ≡ 0
  unfolding cleared_to
  get_d_cleared k h = get_or-append (replicate n 0) (drop n w) 0 k (simp length-replicate h) ∙ get_or-replicate n k 0 0 h

  -- clearing forgets what was there
  cleared_same : (v : List ℕ) → drop n v ≡ drop n w → cleared_to n v ≡ cleared_to n w
  unfolding cleared_to
  cleared_same v e = rw e

-- the work memory cleared: only what lies past it counts
pub cleared_past : (v w : List ℕ) → SamePast v w → cleared_to work_size v ≡ cleared_to work_size w
unfolding past
cleared_past v w e = cleared_same work_size w v e

-- ---- what lies past a place stays: where fewer bytes than that are cleared, and where numbers below it are marked

pub drop_cleared : (n m : ℕ) (w : List ℕ) → m ≤ n → m ≤ length w → drop n (cleared_to m w) ≡ drop n w
drop_cleared n zero w l h = ap (drop n) (sym (cleared_none w))
drop_cleared n (suc m) w l h =
    ap (drop n) (sym (rw add-one at (cleared_more m w (omega arith)))) ∙ drop-set-lt n (cleared_to m w) m 0 (omega arith)
    ∙ drop_cleared n m w (omega arith) (omega arith)

pub drop_marked : (n : ℕ) (l w : List ℕ) → NoneFrom n l → drop n (marked l w) ≡ drop n w
unfolding marked
drop_marked n [] w h = refl
drop_marked n (x ∷ l) w h =
    let ih = drop_marked n l (set w x 1) (none_tail n x l h) in
    test (is_marked w x) (λ y. rw y) (λ y. rw y (ih ∙ drop-set-lt n w x 1 (omega (arith, none_head n x l h))))
