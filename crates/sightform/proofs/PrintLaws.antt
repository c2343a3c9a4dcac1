-- What the printers write, put together, and how far they come. Assumes nothing.
use mathlib.Core.Path.{◌≡◌, refl, sym, ◌∙◌}
use mathlib.Core.Bool.{Bool, true, false, cond}
use mathlib.Core.List.{List, [], ◌∷◌, ◌++◌, map, map-append, append_assoc, append-nil}
use Prim.Native.Nat.{ℕ, ◌+◌, ◌≤◌, ◌<◌}
use native.Mathlib.Numerals.{add-one}
use native.Mathlib.Omega.{arith}
use native.Mathlib.Decide.{ℕ_discrete}
use lib.Count.{ones}
use lib.Dec.{eqb}
use lib.ListN.{length, get_or, take, length-map, length-set, length-append}
use lib.Seq.{get_or-set_same, get_or-set_other, get_or-take, length-take-le}
use borrow.Author.Tests.{eq-eqb, ne_eqb}
use Rattle.verdict.proofs.Bools.{decided}
use Rattle.verdict.proofs.Lists.{map_at_lem}
use Rattle.letters.specs.Case.{lowered}
use Rattle.number.specs.Number.{plain}
use Rattle.printer.specs.Write.{Wrote}
use Rattle.text.specs.Written.{spaced, after, ended}
use Rattle.text.proofs.WrittenLaws.{ended_append}
use Rattle.text.specs.Reading.{Word}
use Rattle.letters.proofs.CaseLaws.{length_lowered}
use Rattle.printer.proofs.WriteLaws.{wrote_none, wrote_then, wrote_is}
use Rattle.layout.specs.Starts.{KeptEntries, kept_name}
use Rattle.sight.specs.Rows.{sees}
use Rattle.sightform.specs.Form.{seen_to, seen_line, room_lines, lines_to, sight_text}
use Rattle.sightform.specs.Code.{printed_names}
use Rattle.sight.specs.Code.{kept_names}
use Rattle.sight.proofs.FindLaws.{names_long, kept_is}

-- ---- a seen room

-- the name that is printed for room j: the typed one for room i
abbrev pub shown_as : List ℕ → List ℕ → ℕ → Word → ℕ → Word
shown_as s starts i name j = lowered (cond (eqb j i) name (kept_name s starts j))

pub shown_typed : (s starts : List ℕ) (i : ℕ) (name : Word) (j : ℕ) → j ≡ i → lowered name ≡ shown_as s starts i name j
shown_typed s starts i name j e = rw (eq-eqb j i e)

pub shown_own : (s starts : List ℕ) (i : ℕ) (name : Word) (j : ℕ) (u : Word) → (j ≡ i → ⊥) → u ≡ kept_name s starts j → lowered u ≡ shown_as s starts i name j
shown_own s starts i name j u e eu = rw (ne_eqb j i e, eu)

pub line_bytes : (w : Word) → (32 ∷ []) ++ ((32 ∷ []) ++ (w ++ (10 ∷ []))) ≡ ended (seen_line w ∷ [])
unfolding ended seen_line
line_bytes w = refl

-- a room that is seen has its line, another none
pub line_seen : {a b : List ℕ} {at e : ℕ} (w : Word) (t : Bool) → t ≡ true → Wrote a b at e (ended (seen_line w ∷ [])) → Wrote a b at e (ended (map seen_line (cond t (w ∷ []) [])))
line_seen w t e p = wrote_is _ p (rw e)

pub line_unseen : (w : Word) (t : Bool) → t ≡ false → (l : List ℕ) (at : ℕ) → Wrote l l at at (ended (map seen_line (cond t (w ∷ []) [])))
line_unseen w t e l at = wrote_is _ (wrote_none l at) (unfold ended in (rw e))

either_short : (t : Bool) (v w : Word) → length v ≤ 16 → length w ≤ 16 → length (cond t v w) ≤ 16
either_short true v w h k = h
either_short false v w h k = k

pub shown_short : (s starts : List ℕ) (i : ℕ) (name : Word) (j : ℕ) → length name ≤ 16 → length (kept_name s starts j) ≤ 16 → length (shown_as s starts i name j) ≤ 16
shown_short s starts i name j h k = omega (arith, length_lowered (cond (eqb j i) name (kept_name s starts j)), either_short (eqb j i) name (kept_name s starts j) h k)

-- ---- the names that are printed

module _ (s starts : List ℕ) (n i : ℕ) (name : Word) (kept : KeptEntries s starts n) where
  abbrev names : List Word
  names = printed_names s starts n i name

  lowered_long : length (map lowered (kept_names s starts n)) ≡ n
  lowered_long = length-map (kept_names s starts n) lowered ∙ names_long s starts n kept

  pub printed_long : length names ≡ n
  unfolding printed_names
  printed_long = length-set (map lowered (kept_names s starts n)) i (lowered name) ∙ lowered_long

  pub shown : (j : ℕ) → j < n → shown_as s starts i name j ≡ get_or names j []
  unfolding printed_names
  shown j l =
      decided (ℕ_discrete j i)
      (λ (e : j ≡ i). rw (eq-eqb j i e, e) (sym (get_or-set_same (map lowered (kept_names s starts n)) i (lowered name) [] (omega (arith, lowered_long)))))
      (λ (e : j ≡ i → ⊥).
      rw (ne_eqb j i e, get_or-set_other (map lowered (kept_names s starts n)) i j (lowered name) [] e, map_at_lem lowered [] [] (kept_names s starts n) j (omega (arith, names_long s starts n kept)), kept_is s starts n kept j l))

  -- ---- the seen rooms, one after the other

  pub seen_start : (l : List ℕ) (at row : ℕ) → Wrote l l at at (ended (map seen_line (seen_to names row 0)))
  unfolding ended seen_to
  seen_start l at row = wrote_none l at

  pub seen_more : {a b c : List ℕ} {at e k : ℕ} (row j : ℕ) → j < n → Wrote a b at e (ended (map seen_line (seen_to names row j))) → Wrote b c e k (ended (map seen_line (cond (sees row j) (shown_as s starts i name j ∷ []) []))) → Wrote a c at k (ended (map seen_line (seen_to names row (j + 1))))
  unfolding seen_to
  seen_more row j l p q =
      wrote_is _ (wrote_then p q)
      (rw (add-one j, shown j l, map-append seen_line (seen_to names row j) (cond (sees row j) (get_or names j [] ∷ []) []), ended_append (map seen_line (seen_to names row j)) (map seen_line (cond (sees row j) (get_or names j [] ∷ []) []))))

pub seen_done : {a b : List ℕ} {at e : ℕ} (names : List Word) (row j n : ℕ) → j ≡ n → Wrote a b at e (ended (map seen_line (seen_to names row j))) → Wrote a b at e (ended (map seen_line (seen_to names row n)))
seen_done names row j n h p = wrote_is _ p (rw h)

-- a seen room's line is at most 19 bytes long
seen_long : (w : Word) (t : Bool) → length w ≤ 16 → length (ended (map seen_line (cond t (w ∷ []) []))) ≤ 19
unfolding seen_line ended
seen_long w true h = omega (arith, length-append w (10 ∷ []))
seen_long w false h = omega arith

seen_end : {a b : List ℕ} {at e : ℕ} (w : Word) (t : Bool) → length w ≤ 16 → Wrote a b at e (ended (map seen_line (cond t (w ∷ []) []))) → e ≤ at + 19
seen_end w t h q = omega (arith, q.next, seen_long w t h)

pub seen_further : {b c : List ℕ} {e k : ℕ} (s starts : List ℕ) (i : ℕ) (name : Word) (row j : ℕ) → length name ≤ 16 → length (kept_name s starts j) ≤ 16 → Wrote b c e k (ended (map seen_line (cond (sees row j) (shown_as s starts i name j ∷ []) []))) → k ≤ e + 19
seen_further s starts i name row j h m q = seen_end (shown_as s starts i name j) (sees row j) (shown_short s starts i name j h m) q

-- a row among the first n is one of all, and behind the last of them n are passed
pub first_rows : (rows : List ℕ) (n k : ℕ) → n ≤ length rows → k < length (take n rows) → (k < n) × (get_or (take n rows) k 0 ≡ get_or rows k 0)
first_rows rows n k h m = let l : k < n = omega (arith, length-take-le n rows h) in (l, get_or-take n rows k 0 l)

pub rows_done : (rows : List ℕ) (n k : ℕ) → n ≤ length rows → k ≤ n → length (take n rows) ≤ k → k ≡ n
rows_done rows n k h l m = omega (arith, length-take-le n rows h)

-- a room's line, and the rooms that it sees
pub room_bytes : (w p : Word) (rest : List (List ℕ)) → w ++ ((32 ∷ []) ++ (p ++ ((10 ∷ []) ++ ended rest))) ≡ ended (spaced (w ∷ p ∷ []) ∷ rest)
unfolding ended spaced after
room_bytes w p rest = simp (append-nil, append_assoc)

module _ (s starts : List ℕ) (n i : ℕ) (name : Word) (kept : KeptEntries s starts n) where
  -- a room with its count, and the rooms that it sees
  pub room_wrote : {a b c d e f : List ℕ} {at k1 k2 k3 k4 k5 : ℕ} (row k seen : ℕ) → k < n → seen ≡ ones row → Wrote a b at k1 (shown_as s starts i name k) → Wrote b c k1 k2 (32 ∷ []) → Wrote c d k2 k3 (plain seen) → Wrote d e k3 k4 (10 ∷ []) → Wrote e f k4 k5 (ended (map seen_line (seen_to (printed_names s starts n i name) row n))) → Wrote a f at k5 (ended (room_lines (printed_names s starts n i name) k row))
  unfolding room_lines
  room_wrote row k seen l es p q x y z =
      wrote_is _ (wrote_then p (wrote_then q (wrote_then x (wrote_then y z))))
      (room_bytes (shown_as s starts i name k) (plain seen) _ ∙ rw (shown s starts n i name kept k l, es, printed_long s starts n i name kept))

  -- the rooms, one after the other
  pub rooms_start : (l rows : List ℕ) → Wrote l l 0 0 (ended (lines_to (printed_names s starts n i name) rows 0))
  unfolding ended lines_to
  rooms_start l rows = wrote_none l 0

  pub rooms_more : {a b c : List ℕ} {e j : ℕ} (rows : List ℕ) (k row : ℕ) → row ≡ get_or rows k 0 → Wrote a b 0 e (ended (lines_to (printed_names s starts n i name) rows k)) → Wrote b c e j (ended (room_lines (printed_names s starts n i name) k row)) → Wrote a c 0 j (ended (lines_to (printed_names s starts n i name) rows (k + 1)))
  unfolding lines_to
  rooms_more rows k row er p q =
      wrote_is _ (wrote_then p q) (rw (add-one k, er, ended_append (lines_to (printed_names s starts n i name) rows k) (room_lines (printed_names s starts n i name) k (get_or rows k 0))))

  pub rooms_done : {a b : List ℕ} {e : ℕ} (rows : List ℕ) (k : ℕ) → k ≡ n → Wrote a b 0 e (ended (lines_to (printed_names s starts n i name) rows k)) → Wrote a b 0 e (sight_text (printed_names s starts n i name) rows)
  unfolding sight_text
  rooms_done rows k h p = wrote_is _ p (rw (h, printed_long s starts n i name kept))
