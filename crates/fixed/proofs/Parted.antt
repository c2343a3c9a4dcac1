-- The fixed form, written part by part. Assumes nothing.
use mathlib.Core.Path.{◌≡◌, refl, sym, ap, ◌∙◌}
use mathlib.Core.List.{List, [], ◌∷◌, ◌++◌, append_assoc, append-nil}
use Prim.Native.Nat.{ℕ, zero, suc, ◌+◌, ◌*◌, ◌-◌, ◌≤◌, ◌<◌}
use native.Mathlib.Numerals.{add-one}
use native.Mathlib.Omega.{arith}
use native.Mathlib.Decide.{ℕ_discrete}
use lib.ListN.{length, get_or, set, take, drop, length-append, length-drop, take-append-drop}
use lib.Seq.{take-suc, take_all, take-add, ext_get_or, get_or-take, get_or-drop, length-take-le, drop-drop}
use Rattle.verdict.specs.Output.{over}
use Rattle.verdict.proofs.Bools.{decided}
use Rattle.verdict.proofs.Output.{over_is, over_none, length_over, drop_over, take_over}
use Rattle.wire.specs.Bytes.{u32_at, u32_bytes, put, put_u32, Bytes}
use Rattle.wire.specs.Words.{words_at, bytes_of, joined}
use Rattle.wire.proofs.Put.{put_append, put_is}
use Rattle.wire.proofs.Numbers.{length_u32}
use Rattle.wire.proofs.Runs.{bytes_append, length_bytes, read_spelled, joined_append}
use Rattle.tables.specs.Tables.{table_at, width}
use Rattle.tables.specs.declared.Table.{Table}
use Rattle.tables.specs.Header.{magic, floor_tables, RightHeader}
use Rattle.tables.specs.Parts.{Parts, parts_of, table_of, table_words, count_of, words_in}
use Rattle.tables.specs.Fixed.{start_of, fields_of, form_of, Sized}
use Rattle.tables.proofs.Right.{header_met, header_sound}
use Rattle.tables.proofs.Reading.{sized_of, table_is, count_is, table_inside}
use Rattle.tables.proofs.Floor.{nine, in_words}
use Rattle.tables.proofs.Reform.{start_first, start_more, before_length}
use Rattle.fixed.specs.Written.{numbers_of, count_by, start_by, fields_by, head_by, Few, form_up_to}
use Rattle.fixed.specs.declared.Numbers.{Numbers}

-- ---- bytes put where the written part ends

pub over_put : (done o vs : List ℕ) (at : ℕ) → length done ≡ at → at + length vs ≤ length o → put (over done o) at vs ≡ over (done ++ vs) o
over_put done o vs at e l =
    put_is vs (over done o) at (rw (length_over done o (omega arith)) l)
    ∙ rw (take_over done o at e, drop_over done o at e (length vs)) (over_is (done ++ vs) o (at + length vs) (length-append done vs ∙ omega arith))

-- one byte more of a copy
pub copied_more : (d : List ℕ) (at : ℕ) (s : List ℕ) (from j : ℕ) (e : List ℕ) → e ≡ put d at (take j (drop from s)) → from + j < length s
    → set e (at + j) (get_or s (from + j) 0) ≡ put d at (take (j + 1) (drop from s))
unfolding put
copied_more d at s from j e h l =
    let r = drop from s in
    let short : j < length r = rw (length-drop from s) (omega arith) in
    rw (h, add-one j, take-suc r j 0 short, get_or-drop from s j 0)
    (sym (put_append (take j r) (get_or s (from + j) 0 ∷ []) d at ∙ ap (λ (n : ℕ). put (put d at (take j r)) (at + n) (get_or s (from + j) 0 ∷ [])) (length-take-le j r (omega arith))))

pub sum_more : (n : ℕ) {a b : ℕ} → b ≡ a + n → a ≤ b
sum_more n e = omega arith

-- n bytes from `start`, where the code counts them from one end to the other
pub span_copied : (o : List ℕ) {o₁ : List ℕ} (at : ℕ) (b : List ℕ) (from to start n : ℕ)
    → from ≡ start → to ≡ from + n → o₁ ≡ put o at (take (to - from) (drop from b)) → (at + (to - from) ≡ at + n) × (o₁ ≡ put o at (take n (drop start b)))
span_copied o at b from to start n p q e =
    let d : to - from ≡ n = omega arith in
    (ap (λ (x : ℕ). at + x) d, rw (e, d, p))

-- four numbers, one after another
pub four_words : (o : List ℕ) {o₁ o₂ o₃ o₄ : List ℕ} (at a b c d : ℕ)
    → o₁ ≡ put_u32 o at a → o₂ ≡ put_u32 o₁ (at + 4) b → o₃ ≡ put_u32 o₂ (at + 8) c → o₄ ≡ put_u32 o₃ (at + 12) d → o₄ ≡ put o at (bytes_of (a ∷ b ∷ c ∷ d ∷ []))
unfolding bytes_of
four_words o at a b c d e₁ e₂ e₃ e₄ =
    let B = u32_bytes b ++ (u32_bytes c ++ (u32_bytes d ++ [])) in
    let C = u32_bytes c ++ (u32_bytes d ++ []) in
    rw (e₄, e₃, e₂, e₁)
    (sym (next a B o at (at + 4) refl
    ∙ next b C (put_u32 o at a) (at + 4) (at + 8) (omega arith)
    ∙ next c (u32_bytes d ++ []) (put_u32 (put_u32 o at a) (at + 4) b) (at + 8) (at + 12) (omega arith)
    ∙ ap (put (put_u32 (put_u32 (put_u32 o at a) (at + 4) b) (at + 8) c) (at + 12)) (append-nil (u32_bytes d))))
  where
    next : (w : ℕ) (rest o : List ℕ) (at n : ℕ) → at + 4 ≡ n → put o at (u32_bytes w ++ rest) ≡ put (put_u32 o at w) n rest
    next w rest o at n e = put_append (u32_bytes w) rest o at ∙ ap (λ (m : ℕ). put (put_u32 o at w) m rest) (omega (arith, length_u32 w))

pub four_alike : {a b c d a' b' c' d' : ℕ} → a ≡ a' → b ≡ b' → c ≡ c' → d ≡ d' → a ∷ b ∷ c ∷ d ∷ [] ≡ a' ∷ b' ∷ c' ∷ d' ∷ []
four_alike p q r s = rw (p, q, r, s)

pub put_twice : (o : List ℕ) (i j : ℕ) {o₁ o₂ v w v' w' : List ℕ} → o₁ ≡ put o i (bytes_of v) → o₂ ≡ put o₁ j (bytes_of w) → v ≡ v' → w ≡ w'
    → o₂ ≡ put (put o i (bytes_of v')) j (bytes_of w')
put_twice o i j e₁ e₂ p q = rw (e₂, e₁, p, q)

-- ---- the form, part by part

module _ (p : Parts) (h : Sized p) where
  pub up_length : (k : ℕ) → length (form_up_to p k) ≡ start_of p k
  unfolding form_up_to
  up_length k = omega (arith, length_bytes (1 ∷ (p.floats ++ (fields_of p ++ joined (take k p.tables)))), before_length p h k)

  -- the running position, by the counts
  pub start_by_lem : (k : ℕ) → k ≤ 9 → start_by (numbers_of p) k ≡ start_of p k
  unfolding start_by numbers_of
  start_by_lem zero l = sym (start_first p h)
  start_by_lem (suc k) l =
      let one : k + 1 ≡ suc k = omega arith in
      ap (λ (n : ℕ). n + 4 * (count_of p k * width (table_at floor_tables k))) (unfold numbers_of in start_by_lem k (omega arith)) ∙ sym (start_more p h k (omega arith)) ∙ ap (start_of p) one

  pub few_numbers : Few (numbers_of p)
  unfolding numbers_of
  few_numbers = record { vertices = h.vertices; faces = h.faces; nodes = h.nodes; adjacency = omega (arith, h.adjacency, h.faces); edges = h.edges; perimeters = h.perimeters }

  pub up_all : form_up_to p 9 ≡ form_of p
  unfolding form_up_to form_of
  up_all = rw (take_all 9 p.tables (omega (arith, h.nine_tables)))

  pub up_first : head_by p.floats (numbers_of p) ≡ form_up_to p 0
  unfolding head_by numbers_of form_up_to joined
  up_first =
      rw (start_by_lem 0 (omega arith), start_by_lem 1 (omega arith), start_by_lem 2 (omega arith), start_by_lem 3 (omega arith), start_by_lem 4 (omega arith), start_by_lem 5 (omega arith), start_by_lem 6 (omega arith), start_by_lem 7 (omega arith), start_by_lem 8 (omega arith), append-nil (fields_of p))
      (append_assoc magic (bytes_of (1 ∷ p.floats)) (bytes_of (fields_of p)) ∙ ap (λ (l : List ℕ). magic ++ l) (sym (bytes_append (1 ∷ p.floats) (fields_of p))))

  -- a header made from the parts' own numbers
  pub head_of : (n : Numbers) (o : List ℕ) {o₁ : List ℕ} → n ≡ numbers_of p → o₁ ≡ over (head_by p.floats n) o → o₁ ≡ over (form_up_to p 0) o
  head_of n o e q = q ∙ ap (λ (d : List ℕ). over d o) (ap (head_by p.floats) e ∙ up_first)

  pub up_more : (k : ℕ) → k < 9 → form_up_to p k ++ bytes_of (table_of p k) ≡ form_up_to p (k + 1)
  unfolding form_up_to joined
  up_more k l =
      let x = joined (take k p.tables) in
      let e : joined (take (k + 1) p.tables) ≡ x ++ table_of p k =
      rw (add-one k, take-suc p.tables k [] (omega (arith, h.nine_tables)))
      (joined_append (take k p.tables) (table_of p k ∷ []) ∙ ap (λ (l : List ℕ). x ++ l) (append-nil (table_of p k))) in
      rw (e, append_assoc)
      (ap (λ (l : List ℕ). magic ++ l)
      (sym (bytes_append (1 ∷ (p.floats ++ (fields_of p ++ x))) (table_of p k)) ∙ ap (λ (l : List ℕ). bytes_of (1 ∷ l)) (simp append_assoc)))

part_read : (b : List ℕ) → Bytes b → (at n : ℕ) → (0 < n → at + 4 * n ≤ length b) → take (4 * n) (drop at b) ≡ bytes_of (words_at b at n)
unfolding bytes_of words_at
part_read b y at zero h = refl
part_read b y at (suc n) h = sym (read_spelled b y (suc n) at (h (omega arith)))

-- the running position, in the file's own numbers
module _ (b : List ℕ) (r : RightHeader b) where
  pub start_next : (k : ℕ) → k < 9 → start_of (parts_of b) (k + 1) ≡ start_of (parts_of b) k + 4 * words_in b k
  start_next k l = rw (count_is b k l) at (start_more (parts_of b) (sized_of b r) k l)

  pub table_words_lem : (k : ℕ) → k < 9 → length (table_of (parts_of b) k) ≡ words_in b k
  table_words_lem k l = rw (← count_is b k l) ((sized_of b r).sized k l)

-- by few counts the running position stays under a form's greatest length
pub start_few : (n : Numbers) → Few n → (k : ℕ) → k ≤ 9 → start_by n k ≤ 737372
unfolding start_by
start_few n f k l =
    decided (ℕ_discrete k 9) (λ e. rw e (omega (arith, f)))
    (λ ne. nine (λ j. start_by n j ≤ 737372) (omega (arith, f)) (omega (arith, f)) (omega (arith, f)) (omega (arith, f)) (omega (arith, f)) (omega (arith, f)) (omega (arith, f)) (omega (arith, f)) (omega (arith, f)) k (omega arith))

pub start_by_more : (n : Numbers) (k : ℕ) → k < 9 → start_by n (k + 1) ≡ start_by n k + count_by n k * (table_at floor_tables k).size
unfolding start_by
start_by_more n k l = let one : k + 1 ≡ suc k = omega arith in rw one (ap (λ (m : ℕ). start_by n k + m) (sym (in_words (count_by n k) k l)))

-- the running position past one table more, as the code counts it
pub start_by_past : (n : Numbers) → Few n → (k : ℕ) {at a : ℕ} {t : Table} → k < 9 → at ≡ start_by n k → a ≡ count_by n k → t ≡ table_at floor_tables k
    → (at + a * t.size ≡ start_by n (k + 1)) × (at + a * t.size ≤ 737372)
start_by_past n f k {at} {a} {t} l e p q =
    let is : at + a * t.size ≡ start_by n (k + 1) = rw (e, p, q) (sym (start_by_more n k l)) in
    (is, rw is (start_few n f (k + 1) (omega arith)))

-- no table has more than 12,288 entries
pub count_few : (n : Numbers) → Few n → (k : ℕ) → k < 9 → count_by n k ≤ 12288
count_few n f = nine (λ j. count_by n j ≤ 12288) (omega (arith, f)) (omega (arith, f)) (omega (arith, f)) (omega (arith, f)) (omega (arith, f)) (omega (arith, f)) (omega (arith, f)) (omega (arith, f)) (omega (arith, f))

-- sixteen words in four parts
fields_joined : (h f : List ℕ)
    → (((h ++ bytes_of (take 4 f)) ++ bytes_of (take 4 (drop 4 f))) ++ bytes_of (take 4 (drop 8 f))) ++ bytes_of (drop 12 f) ≡ h ++ bytes_of f
fields_joined h f =
    let A = take 4 f in
    let B = take 4 (drop 4 f) in
    let C = take 4 (drop 8 f) in
    let e8 : drop 4 (drop 4 f) ≡ drop 8 f = drop-drop 4 4 f in
    let e12 : drop 4 (drop 8 f) ≡ drop 12 f = drop-drop 4 8 f in
    let last : C ++ drop 12 f ≡ drop 8 f = ap (λ (x : List ℕ). C ++ x) (sym e12) ∙ take-append-drop 4 (drop 8 f) in
    let more : B ++ (C ++ drop 12 f) ≡ drop 4 f = ap (λ (x : List ℕ). B ++ x) (last ∙ sym e8) ∙ take-append-drop 4 (drop 4 f) in
    let all : A ++ (B ++ (C ++ drop 12 f)) ≡ f = ap (λ (x : List ℕ). A ++ x) more ∙ take-append-drop 4 f in
    simp append_assoc
    (ap (λ (x : List ℕ). h ++ x)
    (ap (λ (x : List ℕ). bytes_of A ++ (bytes_of B ++ x)) (sym (bytes_append C (drop 12 f)))
    ∙ ap (λ (x : List ℕ). bytes_of A ++ x) (sym (bytes_append B (C ++ drop 12 f))) ∙ sym (bytes_append A (B ++ (C ++ drop 12 f))) ∙ ap bytes_of all))

module _ (b : List ℕ) (r : RightHeader b) (y : Bytes b) where
  first_eight : take 8 b ≡ magic
  first_eight =
      let m = header_sound b r in
      let n : length (take 8 b) ≡ 8 = length-take-le 8 b (omega (arith, m.long)) in
      ext_get_or 0 (take 8 b) magic n (λ i l. let q : i < 8 = omega arith in get_or-take 8 b i 0 q ∙ m.word i q)

  -- the first 72 bytes, and a table's bytes
  head_read : take 72 b ≡ magic ++ bytes_of (1 ∷ (parts_of b).floats)
  unfolding parts_of words_at
  head_read =
      take-add 8 64 b ∙ ap (λ (l : List ℕ). l ++ take 64 (drop 8 b)) first_eight
      ∙ ap (λ (l : List ℕ). magic ++ l)
      (sym (read_spelled b y 16 8 (omega (arith, header_met b r))) ∙ ap (λ (w : ℕ). bytes_of (w ∷ words_at b 12 15)) (header_met b r).world)

  pub table_read : (k : ℕ) → k < 9 → take (4 * words_in b k) (drop (u32_at b (table_at floor_tables k).offset) b) ≡ bytes_of (table_of (parts_of b) k)
  unfolding table_words
  table_read k l = rw (table_is b k l) (part_read b y (u32_at b (table_at floor_tables k).offset) (words_in b k) (λ m. (table_inside b r k l m).1))

  -- the header
  pub head_written : (n : Numbers) (o : List ℕ) {o₁ o₂ o₃ : List ℕ} → 136 ≤ length o → let f = fields_by n in
      o₁ ≡ put o 0 (take 72 (drop 0 b))
      → o₂ ≡ put (put o₁ 72 (bytes_of (take 4 f))) 88 (bytes_of (take 4 (drop 4 f)))
      → o₃ ≡ put (put o₂ 104 (bytes_of (take 4 (drop 8 f)))) 120 (bytes_of (drop 12 f))
      → o₃ ≡ over (head_by (parts_of b).floats n) o
  unfolding head_by
  head_written nn o l e₁ e₂ e₃ =
      let f = fields_by nn in
      let A = bytes_of (take 4 f) in
      let B = bytes_of (take 4 (drop 4 f)) in
      let C = bytes_of (take 4 (drop 8 f)) in
      let D = bytes_of (drop 12 f) in
      let H = take 72 b in
      let n : length H ≡ 72 = length-take-le 72 b (omega (arith, (header_met b r).long)) in
      let a : length A ≡ 16 = length_bytes (take 4 f) in
      let c : length B ≡ 16 = length_bytes (take 4 (drop 4 f)) in
      let d : length C ≡ 16 = length_bytes (take 4 (drop 8 f)) in
      let e : length D ≡ 16 = length_bytes (drop 12 f) in
      let m1 : length (H ++ A) ≡ 88 = length-append H A ∙ omega arith in
      let m2 : length ((H ++ A) ++ B) ≡ 104 = length-append (H ++ A) B ∙ omega arith in
      let m3 : length (((H ++ A) ++ B) ++ C) ≡ 120 = length-append ((H ++ A) ++ B) C ∙ omega arith in
      let first : put o 0 H ≡ over H o = ap (λ (x : List ℕ). put x 0 H) (over_none o) ∙ over_put [] o H 0 refl (omega arith) in
      rw (
        e₃,
        e₂,
        e₁,
        first,
        over_put H o A 72 n (omega arith),
        over_put (H ++ A) o B 88 m1 (omega arith),
        over_put ((H ++ A) ++ B) o C 104 m2 (omega arith),
        over_put (((H ++ A) ++ B) ++ C) o D 120 m3 (omega arith),
      )
      (ap (λ (x : List ℕ). over x o) (fields_joined H f ∙ ap (λ (x : List ℕ). x ++ bytes_of f) head_read))
