-- The records of the list of changes, put part by part, and how long the list can be. Assumes nothing.
use Prim.Native.Nat.{ℕ, ◌+◌, ◌*◌, ◌≤◌}
use native.Mathlib.Omega.{arith}
use native.Mathlib.Numerals.{add-one}
use mathlib.Core.Path.{◌≡◌, refl, sym, ap, ◌∙◌}
use mathlib.Core.Bool.{Bool}
use mathlib.Core.List.{List, [], ◌∷◌, ◌++◌}
use lib.ListN.{length, set, length-append}
use Rattle.verdict.specs.Output.{over}
use Rattle.verdict.proofs.Output.{over_none}
use Rattle.wire.specs.Bytes.{u16_bytes, u32_bytes, put, put_u16, put_u32}
use Rattle.wire.proofs.Numbers.{length_u32}
use Rattle.tables.specs.Parts.{Parts}
use Rattle.fixed.proofs.Parted.{over_put}
use Rattle.corners.specs.Corners.{recornered}
use Rattle.kept.specs.Kept.{lost}
use Rattle.pairs.specs.Halves.{halves}
use Rattle.seams.specs.Changes.{old_corner, new_corner, changed, corner_record, lost_record, corner_changes, lost_changes, changes}
use Rattle.mending.proofs.Puts.{put_more, listed, listed_few}

-- whether a half-edge's transition is lost
abbrev pub gone : Parts → ℕ → Bool
gone p = lost p (recornered p)

-- ---- a record, part by part

pub tag_put : (o : List ℕ) (at tag size : ℕ) {new : List ℕ} → new ≡ put_u16 (set o at tag) (at + 1) size → new ≡ put o at (tag ∷ u16_bytes size)
unfolding put
tag_put o at tag size e = rw (add-one at) at e

-- a record's tag and the length of what follows
abbrev head : ℕ → ℕ → List ℕ
head tag size = tag ∷ u16_bytes size

head_long : (tag size : ℕ) → length (head tag size) ≡ 3
unfolding u16_bytes
head_long tag size = refl

pub lost_put : (o : List ℕ) (at h : ℕ) {a b : List ℕ} → a ≡ put o at (2 ∷ u16_bytes 4) → b ≡ put_u32 a (at + 3) h → b ≡ put o at (lost_record h)
unfolding lost_record
lost_put o at h e f = put_more o (head 2 4) (u32_bytes h) at e (omega (arith, head_long 2 4)) f

pub corner_put : (p : Parts) (o : List ℕ) (at j : ℕ) {a b c d : List ℕ} {x y : ℕ} → a ≡ put o at (1 ∷ u16_bytes 12) → b ≡ put_u32 a (at + 3) j
    → c ≡ put_u32 b (at + 7) x → d ≡ put_u32 c (at + 11) y → x ≡ old_corner p j → y ≡ new_corner p j → d ≡ put o at (corner_record p j)
unfolding corner_record
corner_put p o at j {a} {b} {c} {d} {x} {y} e f g i u v =
    put_more o (head 1 12) (u32_bytes j ++ (u32_bytes x ++ u32_bytes y)) at e (omega (arith, head_long 1 12))
    (put_more a (u32_bytes j) (u32_bytes x ++ u32_bytes y) (at + 3) f (omega (arith, length_u32 j))
    (put_more b (u32_bytes x) (u32_bytes y) (at + 7) g (omega (arith, length_u32 x)) i))
    ∙ ap (λ (n : ℕ). put o at (head 1 12 ++ (u32_bytes j ++ (u32_bytes n ++ u32_bytes y)))) u
    ∙ ap (λ (n : ℕ). put o at (head 1 12 ++ (u32_bytes j ++ (u32_bytes (old_corner p j) ++ u32_bytes n)))) v

-- ---- how long they are

pub corner_long : (p : Parts) (j : ℕ) → length (corner_record p j) ≡ 15
unfolding corner_record u16_bytes u32_bytes
corner_long p j = refl

pub lost_long : (h : ℕ) → length (lost_record h) ≡ 7
unfolding lost_record u16_bytes u32_bytes
lost_long h = refl

-- ---- the list

module _ (p : Parts) where
  pub corners_listed : (n : ℕ) → 3 * p.faces ≡ n → corner_changes p ≡ listed (changed p) (corner_record p) n
  unfolding corner_changes
  corners_listed n e = ap (listed (changed p) (corner_record p)) e

  pub lost_listed : (n : ℕ) → halves p ≡ n → lost_changes p ≡ listed (gone p) lost_record n
  unfolding lost_changes
  lost_listed n e = ap (listed (gone p) lost_record) e

  pub corners_few : p.faces ≤ 4096 → length (corner_changes p) ≤ 184320
  corners_few l = omega (arith, ap length (corners_listed (3 * p.faces) refl), listed_few (changed p) (corner_record p) 15 (corner_long p) (3 * p.faces))

  pub lost_few : halves p ≤ 12288 → length (lost_changes p) ≤ 86016
  lost_few l = omega (arith, ap length (lost_listed (halves p) refl), listed_few (gone p) lost_record 7 lost_long (halves p))

  -- as code counts them, to the last
  pub corners_total : (j : ℕ) {total : ℕ} → 3 * p.faces ≡ j → p.faces ≤ 4096 → total ≡ length (listed (changed p) (corner_record p) j) → (total ≡ length (corner_changes p)) × (total ≤ 184320)
  corners_total j n l e = let is = e ∙ ap length (sym (corners_listed j n)) in (is, omega (arith, is, corners_few l))

  pub lost_total : (h : ℕ) {total : ℕ} → halves p ≡ h → halves p ≤ 12288 → total ≡ length (listed (gone p) lost_record h) → (total ≡ length (lost_changes p)) × (total ≤ 86016)
  lost_total h n l e = let is = e ∙ ap length (sym (lost_listed h n)) in (is, omega (arith, is, lost_few l))

  pub changes_long : length (changes p) ≡ length (corner_changes p) + length (lost_changes p)
  unfolding changes
  changes_long = length-append (corner_changes p) (lost_changes p)

  -- the corners, and the transitions behind them
  pub list_put : (o : List ℕ) {a b : List ℕ} {at : ℕ} → length (changes p) ≤ length o
      → at ≡ length (corner_changes p) → a ≡ put o 0 (corner_changes p) → b ≡ put a at (lost_changes p) → b ≡ over (changes p) o
  list_put o l n e f =
      put_more o (corner_changes p) (lost_changes p) 0 e (omega arith) f
      ∙ (unfold changes in ap (λ (x : List ℕ). put x 0 (changes p)) (over_none o) ∙ over_put [] o (changes p) 0 refl (omega arith))
