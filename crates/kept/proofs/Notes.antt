-- Laws of the notes in the work memory: how they start, one entry more, and what each tells. Assumes nothing.
use Prim.Native.Nat.{ℕ, suc, ◌+◌, ◌*◌, ◌/◌, ◌%◌, ◌<◌, ◌≤◌}
use native.Mathlib.Omega.{arith}
use native.Mathlib.Decide.{dec_lt, ℕ_discrete}
use mathlib.Core.Path.{◌≡◌, refl, sym, ap, subst, ◌∙◌}
use mathlib.Core.Logic.{inl, inr}
use mathlib.Core.Bool.{true, false}
use mathlib.Core.List.{List}
use lib.ListN.{length}
use lib.Dec.{eqb, leb}
use borrow.Author.Tests.{eq-eqb, ne_eqb, le-leb, lt-leb, le-ltb, lt-ltb}
use Rattle.verdict.specs.Lists.{bit}
use Rattle.verdict.specs.Memory.{work_size}
use Rattle.verdict.proofs.Bools.{clash, test, decided}
use Rattle.verdict.proofs.Lowest.{under_none}
use Rattle.verdict.proofs.Lists.{bit_le}
use Rattle.wire.specs.Bytes.{u16_at, put_u16}
use Rattle.wire.proofs.Short.{length_put_u16, u16_here, u16_other, drop_put_u16, take_put_u16}
use Rattle.tables.specs.Header.{RightHeader}
use Rattle.tables.specs.Parts.{none32, Parts, parts_of, edge_of, transition}
use Rattle.pairs.specs.Halves.{halves, border, partner, pairing}
use Rattle.pairs.proofs.Halves.{few_walkable}
use Rattle.pairs.proofs.Paired.{partner_in, pairing_some, pairing_no, border_of, alone_none}
use Rattle.corners.specs.Corners.{recornered}
use Rattle.corners.specs.Memory.{map_at, top, SameTop, mates_at, mate_place, loose, Mated}
use Rattle.corners.proofs.Corners.{as_many, border_told}
use Rattle.kept.specs.Kept.{valid_entry, entry_of, leads_of, led_by, lost}
use Rattle.kept.specs.Notes.{code_of, several, code_by, led_mark, note_by, Noted, AllNoted, mark_of, noted, SameBelow}
use Rattle.kept.proofs.Entries.{valid_parts, entry_own, entry_other, entry_invalid, led_none, led_yes, led_no, code_none, code_more, code_most, lost_none, lost_inside, lost_several}

-- ---- a number put among the notes leaves what lies below them and the map

pub note_top : (w : List ℕ) (h x : ℕ) → h < 12288 → SameTop (put_u16 w (mate_place h) x) w
unfolding top
note_top w h x l = drop_put_u16 map_at w (mate_place h) x (omega arith)

pub note_below : (w : List ℕ) (h x : ℕ) → SameBelow (put_u16 w (mate_place h) x) w
note_below w h x = take_put_u16 mates_at w (mate_place h) x (omega arith)

note_other : (w : List ℕ) (h x g : ℕ) → (g ≡ h → ⊥) → u16_at (put_u16 w (mate_place h) x) (mate_place g) ≡ u16_at w (mate_place g)
note_other w h x g ne = u16_other w (mate_place h) x (mate_place g) (decided (dec_lt g h) (λ l. inl (omega arith)) (λ l. inr (omega arith)))

note_here : (w : List ℕ) (h x : ℕ) → work_size ≤ length w → h < 12288 → x < 65536 → u16_at (put_u16 w (mate_place h) x) (mate_place h) ≡ x
note_here w h x long l m = u16_here w (mate_place h) x (omega arith) m

-- ---- the floor with the changed corners has as many half-edges, and few

pub few_halves : (b : List ℕ) → RightHeader b → halves (recornered (parts_of b)) ≤ 12288
few_halves b r = omega (arith, few_walkable b r, as_many (parts_of b))

-- ---- what a note's parts are

pub record Reads (p q : Parts) (n h x : ℕ) : Type 0 where
  pub under : h < halves q
  pub mark : x / led_mark % 2 ≡ bit (led_by p n h)
  pub border_low : border q h ≡ true → x % led_mark ≡ code_by p n h
  pub border_high : border q h ≡ true → loose ≤ x
  pub inside_low : border q h ≡ false → x % led_mark ≡ partner q h
  pub inside_high : border q h ≡ false → x < loose

module _ (p q : Parts) where
  -- a note as a border's, and as another's
  note_border : (n h : ℕ) → border q h ≡ true → note_by p q n h ≡ loose + code_by p n h + led_mark * bit (led_by p n h)
  unfolding note_by
  note_border n h e = rw e

  note_inside : (n h : ℕ) → border q h ≡ false → note_by p q n h ≡ partner q h + led_mark * bit (led_by p n h)
  unfolding note_by
  note_inside n h e = rw e

  note_reads : halves q ≤ 12288 → (n h : ℕ) → h < halves q → Reads p q n h (note_by p q n h)
  note_reads few n h l =
      test (border q h)
      (λ y.
      let e = note_border n h y in
      let m = code_most p h n in
      let b = bit_le (led_by p n h) in
      record {
        under = l;
        mark = omega arith;
        border_low = λ z. omega arith;
        border_high = λ z. omega arith;
        inside_low = λ z. clash y z;
        inside_high = λ z. clash y z;
      })
      (λ y.
      let e = note_inside n h y in
      let m = partner_in q h l y in
      let b = bit_le (led_by p n h) in
      record {
        under = l;
        mark = omega arith;
        border_low = λ z. clash z y;
        border_high = λ z. clash z y;
        inside_low = λ z. omega arith;
        inside_high = λ z. omega arith;
      })

-- the note of a half-edge as code reads it, once all entries are noted
pub all_read : (b w : List ℕ) (h x : ℕ) → RightHeader b → AllNoted (parts_of b) w → h < halves (parts_of b) → x ≡ u16_at w (mate_place h)
    → Reads (parts_of b) (recornered (parts_of b)) (parts_of b).edges h x
all_read b w h x r a l e =
    let p = parts_of b in
    let m : h < halves (recornered p) = omega (arith, as_many p) in
    rw (e, a.at h m) (note_reads p (recornered p) (few_halves b r) p.edges h m)

-- ---- what it tells: the adjacency entry, and whether a transition is lost

module _ {p q : Parts} {n h x : ℕ} (r : Reads p q n h x) where
  -- by whether it is a border's
  by_low : {C : Type 0} → x < loose → (border q h ≡ false → C) → C
  by_low l f = test (border q h) (λ y. absurd (omega (arith, r.border_high y))) f

  by_high : {C : Type 0} → loose ≤ x → (border q h ≡ true → C) → C
  by_high l f = test (border q h) f (λ y. absurd (omega (arith, r.inside_high y)))

  pub pairing_low : x < loose → x % led_mark ≡ pairing q h
  pairing_low l = by_low l (λ y. r.inside_low y ∙ sym (pairing_some q h (partner_in q h r.under y)))

  pub pairing_high : loose ≤ x → none32 ≡ pairing q h
  pairing_high l = by_high l (λ y. sym (pairing_no q h (alone_none q h (border_of q h y).alone)))

  led_not : x / led_mark % 2 ≡ 0 → led_by p n h ≡ false
  led_not z = test (led_by p n h) (λ y. absurd (omega (arith, r.mark, ap bit y))) (λ y. y)

  led_so : (x / led_mark % 2 ≡ 0 → ⊥) → led_by p n h ≡ true
  led_so ne = test (led_by p n h) (λ y. y) (λ y. absurd (ne (r.mark ∙ ap bit y)))

module _ {p q : Parts} {h x : ℕ} (r : Reads p q p.edges h x) where
  pub lost_unmarked : x / led_mark % 2 ≡ 0 → false ≡ lost p q h
  lost_unmarked z = lost_none p q h (led_not r z)

  pub lost_low : (x / led_mark % 2 ≡ 0 → ⊥) → x < loose → true ≡ lost p q h
  lost_low ne l = by_low r l (lost_inside p q h (led_so r ne))

  pub lost_high : (x / led_mark % 2 ≡ 0 → ⊥) → loose ≤ x → eqb (x % led_mark) several ≡ lost p q h
  lost_high ne l = by_high r l (λ y. rw (r.border_low y) (lost_several p q h (led_so r ne) y))

-- ---- a note with one valid entry more, as code makes it

module _ (x t : ℕ) where
  pub mark_led : t ≤ 63 → 1 ≡ mark_of x t
  unfolding mark_of
  mark_led l = rw (le-leb t 63 l)

  pub mark_kept : 63 < t → x / led_mark % 2 ≡ mark_of x t
  unfolding mark_of
  mark_kept l = rw (lt-leb t 63 l)

  module _ (m : ℕ) (own : m ≡ mark_of x t) where
    pub noted_inside : x < loose → x % led_mark + led_mark * m ≡ noted x t
    unfolding noted
    noted_inside l = rw (lt-ltb x loose l, own)

    pub noted_first : (c : ℕ) → c ≡ code_of t → loose ≤ x → x % led_mark ≡ 0 → loose + c + led_mark * m ≡ noted x t
    unfolding noted
    noted_first c e l z = rw (le-ltb x loose l, eq-eqb (x % led_mark) 0 z, own, e)

    pub noted_again : loose ≤ x → (x % led_mark ≡ 0 → ⊥) → loose + several + led_mark * m ≡ noted x t
    unfolding noted
    noted_again l ne = rw (le-ltb x loose l, ne_eqb (x % led_mark) 0 ne, own)

-- ---- it is the note by one entry more

module _ (p q : Parts) (n h : ℕ) where
  note_none : entry_of p h n ≡ false → note_by p q (suc n) h ≡ note_by p q n h
  unfolding note_by
  note_none e = rw (code_none p h n e, led_none p h n e)

  mark_more : (x : ℕ) → Reads p q n h x → entry_of p h n ≡ true → mark_of x (transition p n) ≡ bit (led_by p (suc n) h)
  mark_more x r e =
      decided (dec_lt 63 (transition p n)) (λ l. sym (mark_kept x (transition p n) l) ∙ r.mark ∙ ap bit (sym (led_no p h n l)))
      (λ l.
      let m : transition p n ≤ 63 = omega arith in
      sym (mark_led x (transition p n) m) ∙ sym (ap bit (led_yes p h n e m)))

  note_more : (x : ℕ) → Reads p q n h x → entry_of p h n ≡ true → noted x (transition p n) ≡ note_by p q (suc n) h
  unfolding noted
  note_more x r e =
      let m = mark_more x r e in
      test (border q h)
      (λ y. rw (le-ltb x loose (r.border_high y), r.border_low y, m, ← code_more p h n e) (sym (note_border p q (suc n) h y)))
      (λ y. rw (lt-ltb x loose (r.inside_high y), r.inside_low y, m) (sym (note_inside p q (suc n) h y)))

-- ---- one entry more, in the memory

module _ (p q : Parts) (n : ℕ) (w : List ℕ) (a : Noted p q n w) where
  pub noted_invalid : valid_entry p n ≡ false → Noted p q (n + 1) w
  noted_invalid e =
      let one : suc n ≡ n + 1 = omega arith in
      subst (λ (k : ℕ). Noted p q k w) one (record { at = λ h l. a.at h l ∙ sym (note_none p q n h (entry_invalid p n h e)) })

  -- h and t are the entry's words, x and y the note before and after
  pub noted_valid : halves q ≤ 12288 → halves q ≡ halves p → work_size ≤ length w → valid_entry p n ≡ true
      → (k : List ℕ) (h t x y : ℕ) → h ≡ edge_of p n → t ≡ transition p n → x ≡ u16_at w (mate_place h) → y ≡ noted x t → y < 65536
      → k ≡ put_u16 w (mate_place h) y → Noted p q (n + 1) k
  noted_valid few same size valid k h t x y eh et ex ey small ek =
      let one : suc n ≡ n + 1 = omega arith in
      let under : h < halves q = omega (arith, (valid_parts p n valid).0) in
      let own : entry_of p h n ≡ true = rw eh (entry_own p n valid) in
      let r : Reads p q n h x = rw (ex, a.at h under) (note_reads p q few n h under) in
      let new : y ≡ note_by p q (suc n) h = ey ∙ rw et (note_more p q n h x r own) in
      subst (λ (j : ℕ). Noted p q j k) one
      (rw ek (record {
        at = λ g l.
            decided (ℕ_discrete g h) (λ (i : g ≡ h). rw i (note_here w h y size (omega arith) small ∙ new))
            (λ (ne : g ≡ h → ⊥).
            let other = entry_other p n g (λ (i : edge_of p n ≡ g). ne (sym i ∙ sym eh)) in
            note_other w h y g ne ∙ a.at g l ∙ sym (note_none p q n g other));
      }))

-- ---- how they start: the notes by no entry as far as half-edge h, and from there on the numbers as they were in v

pub record Clearing (p q : Parts) (v w : List ℕ) (h : ℕ) : Type 0 where
  pub long : length w ≡ length v
  pub map : SameTop w v
  pub below : SameBelow w v
  pub done : (g : ℕ) → g < h → u16_at w (mate_place g) ≡ note_by p q 0 g
  pub left : (g : ℕ) → h ≤ g → u16_at w (mate_place g) ≡ u16_at v (mate_place g)

module _ (p q : Parts) where
  first_led : (h : ℕ) → bit (led_by p 0 h) ≡ 0
  unfolding led_by
  first_led h = ap bit (under_none (leads_of p h) 0 (λ j l. absurd (omega arith)))

  first_code : (h : ℕ) → code_by p 0 h ≡ 0
  unfolding code_by
  first_code h = refl

  first_border : (h : ℕ) → border q h ≡ true → note_by p q 0 h ≡ loose
  first_border h y = note_border p q 0 h y ∙ omega (arith, first_code h, first_led h)

  first_inside : (h : ℕ) → border q h ≡ false → note_by p q 0 h ≡ partner q h
  first_inside h y = note_inside p q 0 h y ∙ omega (arith, first_led h)

  pub clear_done : (v w : List ℕ) (h : ℕ) → Clearing p q v w h → halves q ≤ h → Noted p q 0 w
  clear_done v w h c l = record { at = λ g b. c.done g (omega arith) }

  -- one half-edge more: a border's number is put, another's stays
  module _ (few : halves q ≤ 12288) (v w : List ℕ) (h : ℕ) (c : Clearing p q v w h) (m : Mated q v) (under : h < halves q) where
    told : leb loose (u16_at w (mate_place h)) ≡ border q h
    told = rw (c.left h (omega arith)) (border_told q v (omega arith) m h under)

    pub clear_border : (k : List ℕ) → work_size ≤ length v → loose ≤ u16_at w (mate_place h) → k ≡ put_u16 w (mate_place h) loose → Clearing p q v k (h + 1)
    clear_border k size l e =
        let y : border q h ≡ true = sym told ∙ le-leb loose (u16_at w (mate_place h)) l in
        rw e (record {
          long = length_put_u16 w (mate_place h) loose ∙ c.long;
          map = note_top w h loose (omega arith) ∙ c.map;
          below = note_below w h loose ∙ c.below;
          done = λ g b.
              decided (ℕ_discrete g h)
              (λ (i : g ≡ h). rw i (note_here w h loose (omega (arith, c.long)) (omega arith) (omega arith) ∙ sym (first_border h y)))
              (λ (ne : g ≡ h → ⊥). note_other w h loose g ne ∙ c.done g (omega arith));
          left = λ g b. note_other w h loose g (λ (i : g ≡ h). omega arith) ∙ c.left g (omega arith);
        })

    pub clear_inside : (k : List ℕ) → u16_at w (mate_place h) < loose → k ≡ w → Clearing p q v k (h + 1)
    clear_inside k l e =
        let y : border q h ≡ false = sym told ∙ lt-leb loose (u16_at w (mate_place h)) l in
        rw e (record {
          long = c.long;
          map = c.map;
          below = c.below;
          done = λ g b.
              decided (ℕ_discrete g h)
              (λ (i : g ≡ h). rw i (c.left h (omega arith) ∙ m.partners h under y ∙ sym (first_inside h y)))
              (λ (ne : g ≡ h → ⊥). c.done g (omega arith));
          left = λ g b. c.left g (omega arith);
        })
