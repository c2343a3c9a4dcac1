-- Visibility is accepted exactly where its lines are those that the paper tells, and its marks are those that the lists tell.
-- Assumes nothing.
use mathlib.Core.Path.{◌≡◌, refl, ap, ◌∙◌}
use mathlib.Core.Logic.{◌⊎◌, inl, inr, ◌↔◌}
use mathlib.Core.Bool.{true, false}
use mathlib.Core.List.{List, [], ◌∷◌, map}
use Prim.Native.Nat.{ℕ, zero, suc, ◌≤◌, ◌<◌}
use native.Mathlib.Omega.{arith}
use native.Mathlib.Decide.{ℕ_discrete}
use lib.ListN.{length, get_or, set, length-set}
use lib.Seq.{get_or-set_same, get_or-set_other}
use lib.Pow.{pow_pos}
use Rattle.verdict.specs.Verdict.{accepted}
use Rattle.verdict.proofs.Bools.{clash, decided}
use Rattle.text.specs.Sound.{rules31to32}
use Rattle.text.specs.Written.{word_lines}
use Rattle.text.specs.Reading.{Word, Line, spoken}
use Rattle.layout.specs.Layout.{layout_verdict}
use Rattle.rooms.specs.Rooms.{room_names}
use Rattle.verdict.proofs.Each.{Each}
use Rattle.layout.proofs.ApartLaws.{Apart}
use Rattle.layout.proofs.Accepts.{Full, spoken_full}
use Rattle.sight.specs.Rows.{sees, with_mark, no_rows}
use Rattle.sight.specs.Grammar.{Reading, start}
use Rattle.sight.specs.Sight.{grammar, sight_verdict, rows_of}
use Rattle.sight.specs.Plain.{StandsIn, Once, Observer, Blocks, Spelled, Sees, Marked}
use Rattle.sight.proofs.MarkLaws.{sees_past}
use Rattle.sight.proofs.RowsGood.{no_row, grammar_sane}
use Rattle.sight.proofs.SightLaws.{few_names, names_apart, sight_passed, sight_sound, rows_sound, rows_accepted}
use Rattle.sight.proofs.FreshLaws.{Fresh, marks_of, fresh_once, once_fresh, marks_are}
use Rattle.sight.proofs.BlockLaws.{with, look, Accepts, read_any, accepts_spoken, spoken_accepts, accepts_end, end_accepts, Told, accepts_block, block_accepts}

-- ---- observers, one after the other

abbrev rooms : List Observer → List ℕ
rooms bs = map (λ (b : Observer). b.room) bs

-- the rows behind an observer, and behind all of them
abbrev laid_one : List ℕ → Observer → List ℕ
laid_one rows b = set rows b.room (marks_of (get_or rows b.room 0) b.list)

unfoldable laid : List ℕ → List Observer → List ℕ
laid rows [] = rows
laid rows (b ∷ bs) = laid (laid_one rows b) bs

-- each list in its turn sets marks that are not set yet
abbrev Turns : List ℕ → List Observer → Type 0
Turns rows [] = Unit
Turns rows (b ∷ bs) = ((b.room < length rows) × Fresh (get_or rows b.room 0) b.list) × Turns (laid_one rows b) bs

-- ---- told of what is accepted

record All (names : List Word) (told : ℕ) (rows : List ℕ) (ls : List Line) (u : List ℕ) : Type 0 where
  observers : List Observer
  blocks : Blocks names observers ls
  new : Fresh told (rooms observers)
  turns : Turns rows observers
  are : laid rows observers ≡ u

-- one observer more
all_more : (names : List Word) (told : ℕ) (rows : List ℕ) (ls : List Line) (u : List ℕ) → length names ≤ length rows → (q : Told names told rows ls u) → All names (with_mark told q.observer.room) (laid_one rows q.observer) q.behind u → All names told rows ls u
unfolding laid
all_more names told rows ls u w q r = record {
  observers = q.observer ∷ r.observers;
  blocks = record { first = q.own; rest = q.behind; cut = q.cut; here = q.block; behind = r.blocks };
  new = (q.new, r.new);
  turns = ((omega (arith, q.block.observer.inside), q.fresh), r.turns);
  are = r.are;
}

-- no line, or an observer's and what stands behind its list
all_case : (names : List Word) (o told : ℕ) (rows : List ℕ) (ls : List Line) (u : List ℕ) → length names ≤ length rows → Each Full ls → Accepts names (look o 0 told rows) ls u → ((q : Told names told rows ls u) → All names (with_mark told q.observer.room) (laid_one rows q.observer) q.behind u) → All names told rows ls u
unfolding laid
all_case names o told rows [] u w f h rest = record { observers = []; blocks = refl; new = tt; turns = tt; are = (end_accepts names (look o 0 told rows) u h).1 }
all_case names o told rows (l ∷ ls) u w (f, fs) h rest =
    let q = accepts_block names o told rows l ls u w f fs h in
    all_more names told rows (l ∷ ls) u w q (rest q)

all_told : (k : ℕ) (names : List Word) (o told : ℕ) (rows : List ℕ) (ls : List Line) (u : List ℕ) → length ls ≤ k → length names ≤ length rows → Each Full ls → Accepts names (look o 0 told rows) ls u → All names told rows ls u
all_told zero names o told rows ls u s w f h = all_case names o told rows ls u w f h (λ (q : Told names told rows ls u). absurd (omega (arith, q.shorter)))
all_told (suc k) names o told rows ls u s w f h =
    all_case names o told rows ls u w f h
    (λ (q : Told names told rows ls u).
    let b = q.observer in
    all_told k names b.room (with_mark told b.room) (laid_one rows b) q.behind u (omega (arith, q.shorter)) (rw (length-set rows b.room (marks_of (get_or rows b.room 0) b.list)) w) q.full q.goes_on)

-- ---- read where it is told

all_read : (names : List Word) → Apart names → (bs : List Observer) (o told : ℕ) (rows : List ℕ) (ls : List Line) → length names ≤ length rows → Blocks names bs ls → Fresh told (rooms bs) → Turns rows bs → Accepts names (look o 0 told rows) ls (laid rows bs)
unfolding laid
all_read names a [] o told rows ls w e n t = rw e (accepts_end names o told rows)
all_read names a (b ∷ bs) o told rows ls w c (n, ns) ((i, t), ts) =
    rw c.cut
    (block_accepts names a o told rows b c.first c.rest (laid (laid_one rows b) bs) w c.here n t
    (all_read names a bs b.room (with_mark told b.room) (laid_one rows b) c.rest (rw (length-set rows b.room (marks_of (get_or rows b.room 0) b.list)) w) c.behind ns ts))

-- where each observer stands once and its row is empty, each list has its turn
turns_by : (names : List Word) (bs : List Observer) (rows : List ℕ) (ls : List Line) → length names ≤ length rows → Blocks names bs ls → Once (rooms bs) → ((j k : ℕ) → StandsIn j (rooms bs) → sees (get_or rows j 0) k ≡ false) → Turns rows bs
turns_by names [] rows ls w c o e = tt
turns_by names (b ∷ bs) rows ls w c (o, os) e =
    ((omega (arith, c.here.observer.inside), once_fresh b.list _ c.here.once (λ k i. e b.room k (inl refl))), turns_by names bs (laid_one rows b) c.rest (rw (length-set rows b.room (marks_of (get_or rows b.room 0) b.list)) w) c.behind os still)
  where
    still : (j k : ℕ) → StandsIn j (rooms bs) → sees (get_or (laid_one rows b) j 0) k ≡ false
    still j k i = rw (get_or-set_other rows b.room j (marks_of (get_or rows b.room 0) b.list) 0 (λ z. o (rw z at i))) (e j k (inr i))

-- ---- the marks

one_marks : (rows : List ℕ) (b : Observer) (j k : ℕ) → b.room < length rows → Fresh (get_or rows b.room 0) b.list → sees (get_or (laid_one rows b) j 0) k ≡ true ↔ ((sees (get_or rows j 0) k ≡ true) ⊎ ((j ≡ b.room) × StandsIn k b.list))
one_marks rows b j k i f = decided (ℕ_discrete j b.room) here there
  where
    here : j ≡ b.room → sees (get_or (laid_one rows b) j 0) k ≡ true ↔ ((sees (get_or rows j 0) k ≡ true) ⊎ ((j ≡ b.room) × StandsIn k b.list))
    here z = rw (z, get_or-set_same rows b.room (marks_of (get_or rows b.room 0) b.list) 0 i) (λ e. to ((marks_are b.list _ k f).0 e), λ e. (marks_are b.list _ k f).1 (from e))
      where
        to : (sees (get_or rows b.room 0) k ≡ true) ⊎ StandsIn k b.list → (sees (get_or rows b.room 0) k ≡ true) ⊎ ((b.room ≡ b.room) × StandsIn k b.list)
        to (inl e) = inl e
        to (inr e) = inr (refl, e)

        from : (sees (get_or rows b.room 0) k ≡ true) ⊎ ((b.room ≡ b.room) × StandsIn k b.list) → (sees (get_or rows b.room 0) k ≡ true) ⊎ StandsIn k b.list
        from (inl e) = inl e
        from (inr (q, e)) = inr e

    there : (j ≡ b.room → ⊥) → sees (get_or (laid_one rows b) j 0) k ≡ true ↔ ((sees (get_or rows j 0) k ≡ true) ⊎ ((j ≡ b.room) × StandsIn k b.list))
    there z = rw (get_or-set_other rows b.room j (marks_of (get_or rows b.room 0) b.list) 0 z) (λ e. inl e, only)
      where
        only : (sees (get_or rows j 0) k ≡ true) ⊎ ((j ≡ b.room) × StandsIn k b.list) → sees (get_or rows j 0) k ≡ true
        only (inl e) = e
        only (inr (q, e)) = absurd (z q)

laid_marks : (bs : List Observer) (rows : List ℕ) (j k : ℕ) → Turns rows bs → sees (get_or (laid rows bs) j 0) k ≡ true ↔ ((sees (get_or rows j 0) k ≡ true) ⊎ Sees bs j k)
unfolding laid
laid_marks [] rows j k t = (λ e. inl e, only)
  where
    only : (sees (get_or rows j 0) k ≡ true) ⊎ ⊥ → sees (get_or rows j 0) k ≡ true
    only (inl e) = e
    only (inr i) = absurd i
laid_marks (b ∷ bs) rows j k ((i, f), ts) = (λ e. to ((laid_marks bs (laid_one rows b) j k ts).0 e), λ e. (laid_marks bs (laid_one rows b) j k ts).1 (from e))
  where
    to : (sees (get_or (laid_one rows b) j 0) k ≡ true) ⊎ Sees bs j k → (sees (get_or rows j 0) k ≡ true) ⊎ (((j ≡ b.room) × StandsIn k b.list) ⊎ Sees bs j k)
    to (inl e) = joined ((one_marks rows b j k i f).0 e)
      where
        joined : (sees (get_or rows j 0) k ≡ true) ⊎ ((j ≡ b.room) × StandsIn k b.list) → (sees (get_or rows j 0) k ≡ true) ⊎ (((j ≡ b.room) × StandsIn k b.list) ⊎ Sees bs j k)
        joined (inl h) = inl h
        joined (inr h) = inr (inl h)
    to (inr s) = inr (inr s)

    from : (sees (get_or rows j 0) k ≡ true) ⊎ (((j ≡ b.room) × StandsIn k b.list) ⊎ Sees bs j k) → (sees (get_or (laid_one rows b) j 0) k ≡ true) ⊎ Sees bs j k
    from (inl e) = inl ((one_marks rows b j k i f).1 (inl e))
    from (inr (inl e)) = inl ((one_marks rows b j k i f).1 (inr e))
    from (inr (inr s)) = inr s

-- from rows with no mark
nothing_seen : (j k : ℕ) → sees (get_or no_rows j 0) k ≡ false
nothing_seen j k = rw (no_row j) (sees_past 0 k (pow_pos k))

marked_by : (bs : List Observer) → Turns no_rows bs → Marked bs (laid no_rows bs)
marked_by bs t = record { mark = λ j k. (λ e. to j k ((laid_marks bs no_rows j k t).0 e), λ e. (laid_marks bs no_rows j k t).1 (inr e)) }
  where
    to : (j k : ℕ) → (sees (get_or no_rows j 0) k ≡ true) ⊎ Sees bs j k → Sees bs j k
    to j k (inl e) = clash e (nothing_seen j k)
    to j k (inr s) = s

-- ---- a text

-- accepted visibility has an accepted layout and right bytes, is spelled as the paper tells, and marks what its lists tell ..
pub sight_spelled : (layout s : List ℕ) → (sight_verdict layout s).number ≡ 0 → (((layout_verdict layout).number ≡ 0) × ((rules31to32 s).number ≡ 0)) × ((bs : List Observer) × (Spelled (room_names layout) bs (word_lines s) × Marked bs (rows_of layout s)))
unfolding grammar
sight_spelled layout s z =
    let names = room_names layout in
    let (l, (b, g)) = sight_passed layout s z in
    let v : (grammar names s).verdict ≡ accepted = (grammar_sane names s).at_0 g in
    let e : grammar names s ≡ with (rows_of layout s) = rw (rows_accepted layout s z, ← v) in
    let h : Accepts names start (word_lines s) (rows_of layout s) = λ n. read_any names (word_lines s) 0 n start (rows_of layout s) e in
    let q = all_told (length (spoken (word_lines s))) names 0 0 no_rows (spoken (word_lines s)) (rows_of layout s) (omega arith) (few_names layout) (spoken_full (word_lines s)) (spoken_accepts names (word_lines s) start (rows_of layout s) h) in
    ((l, b), (q.observers, (record { blocks = q.blocks; once = fresh_once (rooms q.observers) 0 q.new }, rw q.are at (marked_by q.observers q.turns))))

-- .. and a text of right bytes that is spelled so, of a layout that is accepted, is accepted and marks what its lists tell
pub spelled_sight : (layout s : List ℕ) (bs : List Observer) → (layout_verdict layout).number ≡ 0 → (rules31to32 s).number ≡ 0 → Spelled (room_names layout) bs (word_lines s) → (sight_verdict layout s ≡ accepted) × Marked bs (rows_of layout s)
unfolding grammar
spelled_sight layout s bs l b p =
    let names = room_names layout in
    let none : (k : ℕ) → StandsIn k (rooms bs) → sees 0 k ≡ false = λ k i. sees_past 0 k (pow_pos k) in
    let t = turns_by names bs no_rows (spoken (word_lines s)) (few_names layout) p.blocks p.once (λ j k i. nothing_seen j k) in
    let h = accepts_spoken names (word_lines s) start (laid no_rows bs) (all_read names (names_apart layout) bs 0 0 no_rows (spoken (word_lines s)) (few_names layout) p.blocks (once_fresh (rooms bs) 0 p.once none) t) in
    let e : grammar names s ≡ with (laid no_rows bs) = h 0 in
    (sight_sound layout s l b ∙ ap (λ (r : Reading). r.verdict) e, rw (rows_sound layout s l b, e) (marked_by bs t))
