-- Words written one after another, and a range's nodes written left subtree, right subtree, parent. Assumes nothing.
use Prim.Native.Nat.{ℕ, suc, ◌+◌, ◌*◌, ◌-◌, ◌/◌, ◌≤◌}
use native.Mathlib.Omega.{arith}
use native.Mathlib.Decide.{dec_lt}
use mathlib.Core.Path.{◌≡◌, refl, sym, ap, ap₂, ◌∙◌}
use mathlib.Core.List.{List, [], ◌∷◌, ◌++◌, append-nil}
use lib.ListN.{length}
use borrow.Author.Tests.{eq-eqb, ne_eqb}
use Rattle.verdict.proofs.Bools.{decided}
use Rattle.wire.specs.Bytes.{u32_bytes, put, put_u32}
use Rattle.wire.specs.Words.{bytes_of}
use Rattle.wire.proofs.Put.{put_append, put_comm}
use Rattle.wire.proofs.Runs.{length_bytes, bytes_append}
use Rattle.tables.specs.Parts.{Parts}
use Rattle.boxes.specs.declared.Box.{Box}
use Rattle.planting.specs.Boxes.{around, face_box, range_box}
use Rattle.planting.specs.Planting.{leaf_words, inner_words, range_words, tree_words}
use Rattle.planting.proofs.Ranges.{most, most_12, box_one, box_two, words_one, words_two, half_some, half_most, rest_most, length_inner, length_range, box_more, words_more}

-- a run, and another right behind it
pub put_run : (o : List ℕ) {o₁ o₂ : List ℕ} (at place : ℕ) (ws vs : List ℕ) → o₁ ≡ put o at (bytes_of ws) → place ≡ at + 4 * length ws → o₂ ≡ put o₁ place (bytes_of vs)
    → o₂ ≡ put o at (bytes_of (ws ++ vs))
put_run o at place ws vs e f g =
    g
    ∙ (ap (λ (x : List ℕ). put x place (bytes_of vs)) e
    ∙ (ap (λ (n : ℕ). put (put o at (bytes_of ws)) n (bytes_of vs)) (omega (arith, length_bytes ws))
    ∙ (sym (put_append (bytes_of ws) (bytes_of vs) o at) ∙ ap (put o at) (sym (bytes_append ws vs)))))

-- one word is a run
put_one : (o : List ℕ) (at w : ℕ) → put_u32 o at w ≡ put o at (bytes_of (w ∷ []))
unfolding bytes_of
put_one o at w = ap (put o at) (sym (append-nil (u32_bytes w)))

pub three_words : (o : List ℕ) {o₁ o₂ o₃ : List ℕ} (at a b c : ℕ) → o₁ ≡ put_u32 o at a → o₂ ≡ put_u32 o₁ (at + 4) b → o₃ ≡ put_u32 o₂ (at + 8) c
    → o₃ ≡ put o at (bytes_of (a ∷ b ∷ c ∷ []))
three_words o at a b c e f g =
    put_run o at (at + 8) (a ∷ b ∷ []) (c ∷ [])
    (put_run o at (at + 4) (a ∷ []) (b ∷ []) (e ∙ put_one o at a) (omega arith) (f ∙ put_one _ (at + 4) b)) (omega arith) (g ∙ put_one _ (at + 8) c)

pub five_words : (o : List ℕ) {o₁ o₂ o₃ o₄ o₅ : List ℕ} (at a b c d e : ℕ) → o₁ ≡ put_u32 o at a → o₂ ≡ put_u32 o₁ (at + 4) b → o₃ ≡ put_u32 o₂ (at + 8) c
    → o₄ ≡ put_u32 o₃ (at + 12) d → o₅ ≡ put_u32 o₄ (at + 16) e → o₅ ≡ put o at (bytes_of (a ∷ b ∷ c ∷ d ∷ e ∷ []))
five_words o at a b c d e e₁ e₂ e₃ e₄ e₅ =
    put_run o at (at + 16) (a ∷ b ∷ c ∷ d ∷ []) (e ∷ [])
    (put_run o at (at + 12) (a ∷ b ∷ c ∷ []) (d ∷ []) (three_words o at a b c e₁ e₂ e₃) (omega arith) (e₄ ∙ put_one _ (at + 12) d))
    (omega arith) (e₅ ∙ put_one _ (at + 16) e)

-- ---- a range's nodes

module _ (p : Parts) where
  -- one halving of as many as are allowed
  box_level : (d from n : ℕ) → 2 ≤ n → n ≤ most (suc d) → range_box p (suc d) from n ≡ around (range_box p (suc d) from (n / 2)) (range_box p (suc d) (from + n / 2) (n - n / 2))
  unfolding most
  box_level d from n two m =
      box_two p d from n two
      ∙ ap₂ around (box_more p d (suc d) from (n / 2) (half_most d n m) (omega arith)) (box_more p d (suc d) (from + n / 2) (n - n / 2) (rest_most d n m) (omega arith))

  words_level : (d from n at : ℕ) → 2 ≤ n → n ≤ most (suc d)
      → range_words p (suc d) from n at ≡ inner_words (range_box p (suc d) from n) at (n / 2)
      ++ (range_words p (suc d) from (n / 2) (at + 1) ++ range_words p (suc d) (from + n / 2) (n - n / 2) (at + 2 * (n / 2)))
  unfolding most
  words_level d from n at two m =
      words_two p d from n at two
      ∙ ap (λ (l : List ℕ). inner_words (range_box p (suc d) from n) at (n / 2) ++ l)
      (ap₂ (λ (a b : List ℕ). a ++ b) (words_more p d (suc d) from (n / 2) (at + 1) (half_most d n m) (omega arith))
      (words_more p d (suc d) (from + n / 2) (n - n / 2) (at + 2 * (n / 2)) (rest_most d n m) (omega arith)))

  -- what the recursive function promises: the box, and the memory
  abbrev pub Promised : List ℕ → ℕ → ℕ → ℕ → ℕ → Box → List ℕ → Type 0
  Promised o start from n at b o' = (b ≡ range_box p 12 from n) × (o' ≡ put o (start + 44 * at) (bytes_of (range_words p 12 from n at)))

  pub leaf_written : (o : List ℕ) {o' : List ℕ} (start from n at : ℕ) {b : Box} → n ≤ 1 → b ≡ face_box p from → o' ≡ put o (start + 44 * at) (bytes_of (leaf_words b from))
      → Promised o start from n at b o'
  leaf_written o start from n at l e f = (
    e ∙ sym (box_one p 12 from n l),
    f ∙ ap (λ (ws : List ℕ). put o (start + 44 * at) (bytes_of ws)) (ap (λ (x : Box). leaf_words x from) e ∙ sym (words_one p 12 from n at l)),
  )

  -- left subtree, right subtree, and the parent before them
  range_written : (o : List ℕ) {o₁ o₂ o₃ : List ℕ} (start at h : ℕ) (I L R : List ℕ) → length I ≡ 11 → length L ≡ 11 * (2 * h - 1) → 1 ≤ h
      → o₁ ≡ put o (start + 44 * (at + 1)) (bytes_of L) → o₂ ≡ put o₁ (start + 44 * (at + 2 * h)) (bytes_of R) → o₃ ≡ put o₂ (start + 44 * at) (bytes_of I)
      → o₃ ≡ put o (start + 44 * at) (bytes_of (I ++ (L ++ R)))
  range_written o start at h I L R i l some e f g =
      let both = put_run o (start + 44 * (at + 1)) (start + 44 * (at + 2 * h)) L R e (omega arith) f in
      g
      ∙ (ap (λ (x : List ℕ). put x (start + 44 * at) (bytes_of I)) both
      ∙ (sym (put_comm (bytes_of I) (bytes_of (L ++ R)) o (start + 44 * at) (start + 44 * (at + 1)) (omega (arith, length_bytes I)))
      ∙ put_run o (start + 44 * at) (start + 44 * (at + 1)) I (L ++ R) refl (omega arith) refl))

  box_joined : (from n : ℕ) {lower upper : Box} → 2 ≤ n → n ≤ 4096 → lower ≡ range_box p 12 from (n / 2) → upper ≡ range_box p 12 (from + n / 2) (n - n / 2)
      → around lower upper ≡ range_box p 12 from n
  box_joined from n two few l r = ap₂ around l r ∙ sym (box_level 11 from n two (omega (arith, most_12)))

  pub inner_written : (o : List ℕ) {o₁ o₂ o₃ : List ℕ} (start from n at : ℕ) {lower upper b : Box} → 2 ≤ n → n ≤ 4096
      → Promised o start from (n / 2) (at + 1) lower o₁
      → Promised o₁ start (from + n / 2) (n - n / 2) (at + 2 * (n / 2)) upper o₂
      → b ≡ around lower upper
      → o₃ ≡ put o₂ (start + 44 * at) (bytes_of (inner_words b at (n / 2)))
      → Promised o start from n at b o₃
  inner_written o {o₂ = o₂} start from n at two few l r e f =
      let box : _ ≡ range_box p 12 from n = e ∙ box_joined from n two few l.0 r.0 in
      let half : n / 2 ≤ most 12 = omega (arith, most_12) in (
        box,
        range_written o start at (n / 2) (inner_words (range_box p 12 from n) at (n / 2)) (range_words p 12 from (n / 2) (at + 1)) (range_words p 12 (from + n / 2) (n - n / 2) (at + 2 * (n / 2)))
            (length_inner _ at (n / 2)) (length_range p 12 from (n / 2) (at + 1) (half_some n two) half) (half_some n two)
            l.1 r.1 (f ∙ ap (λ (x : Box). put o₂ (start + 44 * at) (bytes_of (inner_words x at (n / 2)))) box)
            ∙ ap (λ (ws : List ℕ). put o (start + 44 * at) (bytes_of ws)) (sym (words_level 11 from n at two (omega (arith, most_12)))),
      )

-- ---- the whole table

module _ (p : Parts) (few : p.faces ≤ 4096) where
  pub some_words : 1 ≤ p.faces → tree_words p ≡ range_words p 12 0 p.faces 0
  unfolding tree_words
  some_words l = rw (ne_eqb p.faces 0 (λ (e : p.faces ≡ 0). omega arith))

  pub no_words : p.faces ≡ 0 → tree_words p ≡ []
  unfolding tree_words
  no_words e = rw (eq-eqb p.faces 0 e)

  pub tree_length : length (tree_words p) ≡ (2 * p.faces - 1) * 11
  tree_length = decided (dec_lt 0 p.faces)
      (λ l. ap length (some_words l) ∙ (length_range p 12 0 p.faces 0 l (omega (arith, most_12)) ∙ omega arith))
      (λ l. ap length (no_words (omega arith)) ∙ omega arith)

module _ (p : Parts) (o : List ℕ) (start : ℕ) where
  pub tree_none : p.faces ≡ 0 → (start ≡ start + 4 * length (tree_words p)) × (o ≡ put o start (bytes_of (tree_words p)))
  unfolding bytes_of put
  tree_none e = (omega (arith, tree_length p (omega arith)), rw (no_words p (omega arith) e))

  pub tree_some : {o' : List ℕ} (n : ℕ) → n ≡ p.faces → n ≤ 4096 → 1 ≤ n → o' ≡ put o (start + 44 * 0) (bytes_of (range_words p 12 0 n 0))
      → (start + 44 * (2 * n - 1) ≡ start + 4 * length (tree_words p)) × (o' ≡ put o start (bytes_of (tree_words p)))
  tree_some n e few l f =
      let at : start + 44 * 0 ≡ start = omega arith in (
        omega (arith, tree_length p (omega arith)),
        f
            ∙ (ap (λ (i : ℕ). put o i (bytes_of (range_words p 12 0 n 0))) at
            ∙ (ap (λ (i : ℕ). put o start (bytes_of (range_words p 12 0 i 0))) e ∙ ap (λ (ws : List ℕ). put o start (bytes_of ws)) (sym (some_words p (omega arith) (omega arith))))),
      )
