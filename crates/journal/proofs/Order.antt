-- M-107, for every kind of floor whose fields are lawful, and so for area floors, by any benches: each sentence of specs/Order.antt.
-- Assumes nothing.
use mathlib.Core.Path.{◌≡◌, refl, sym, ap, subst, ◌∙◌}
use mathlib.Core.Bool.{true}
use Prim.Native.Nat.{ℕ}
use mathlib.Core.List.{List, [], ◌∷◌}
use lib.IntN.{ℤ, ◌+ℤ◌, +ℤ_comm}
use borrow.Author.Tests.{lt-ltb}
use Rattle.verdict.specs.Verdict.{rule, ◌then◌}
use Rattle.wire.specs.Bytes.{u32_at, put_u32}
use Rattle.wire.proofs.Numbers.{u32_here}
use Rattle.grid.specs.Grid.{nudge_bits}
use Rattle.grid.specs.Plain.{MayNudge}
use Rattle.grid.proofs.Nudges.{may, may_back, step_refused, nudge_both, nudge_twice}
use Rattle.laying.specs.Allowed.{permitted}
use Rattle.laying.specs.Kind.{Kind, lay}
use Rattle.laying.specs.Fields.{Field, Has, field_at, LawfulFields}
use Rattle.laying.specs.Area.{area_floor}
use Rattle.laying.proofs.Allowed.{permitted_sym, permitted_through, transition_only}
use Rattle.laying.proofs.Area.{area_fields}
use Rattle.laying.proofs.Fields.{has_after, word_here, word_elsewhere, lay_comm, lay_later}
use Rattle.journal.specs.Wish.{Edit, paint, link, nudge, wish_of}
use Rattle.journal.specs.Lawful.{old_word}
use Rattle.journal.specs.Step.{State, unless, rule21, edit_rules, edit_verdict, edit_step}
use Rattle.journal.specs.Calls.{edit, step, Accepts, run}
use Rattle.journal.specs.Order.{writes, InTurn, RoomForBoth, SameEitherWay, AsOne, LaterPaint, LaterLink, NudgesAdd, DifferentEitherWay, PaintsDiffer, LinksDiffer, NudgesEitherOrder, NudgesTooFar, EditsInOrder, OrderCounts}
use Rattle.journal.proofs.Replays.{lay_all_append}
use Rattle.journal.proofs.Steps.{met_common}
use Rattle.journal.proofs.AcceptedEdits.{word_small, AllMet, recorded, left_by, accepts_met, met_accepts, run_one, common_after, BothMet, turn_met, met_turn, next_free, turn_room, still_free, run_two}

-- the word that it finds
abbrev old : Kind → State → Edit → ℕ
old K s e = old_word K s.floor (wish_of e)

module _ (K : Kind) (F : LawfulFields K) (s : State) where
  -- the word of a field
  abbrev found : List ℕ → Field → ℕ
  found fl x = u32_at fl (field_at K fl x)

  -- a second edit that finds a word for which it may be made, with room for both
  both_met : (b : ℕ) (e : Edit) (d : ℕ) (g : Edit) → AllMet K s b e → AllMet K s d g → RoomForBoth s b d → (wish_of g).may (old K (left_by K s b e) g) ≡ true → BothMet K s b e d g
  both_met b e d g me mg room m = record {
    first = me;
    second = record {
      common = common_after K s b e me F d mg.common.owner;
      own = record {
        inside = has_after K F s.floor (recorded K s b e) me.common.right me.own.inside (writes g) mg.own.inside;
        may = m;
        free = next_free K s b e d g me mg room;
      };
    };
  }

  -- ---- DIFFERENT FIELDS

  module _ (b : ℕ) (e : Edit) (d : ℕ) (g : Edit) (n : writes e ≡ writes g → ⊥) (me : AllMet K s b e) where
    -- the second edit finds the word that it found before
    found_same : Has K s.floor (writes g) → old K (left_by K s b e) g ≡ old K s g
    found_same h = word_elsewhere K F s.floor (recorded K s b e) me.common.right me.own.inside (writes g) h (λ z. n (sym z))

    met_other : AllMet K s d g → RoomForBoth s b d → BothMet K s b e d g
    met_other mg room = both_met b e d g me mg room (rw (found_same mg.own.inside) mg.own.may)

    floor_other : (mg : AllMet K s d g) → RoomForBoth s b d → (run K (edit b e ∷ edit d g ∷ []) s).floor ≡ lay K (lay K s.floor (recorded K s b e)) (recorded K s d g)
    floor_other mg room = ap (λ (x : State). x.floor) (run_two K s b e d g (met_other mg room)) ∙ rw (found_same mg.own.inside)

    -- an edit that is accepted after another was accepted before it
    met_before : AllMet K (left_by K s b e) d g → AllMet K s d g
    met_before m =
        let h : Has K s.floor (writes g) = rw (F.counts s.floor (recorded K s b e) me.common.right me.own.inside (writes g).tag) at m.own.inside in
        record {
          common = record { right = me.common.right; few = me.common.few; owner = m.common.owner };
          own = record { inside = h; may = rw (found_same h) at m.own.may; free = still_free K s b e d g me m };
        }

  -- the room that is asked for is the same in either order
  room_turned : (b d : ℕ) → RoomForBoth s b d → RoomForBoth s d b
  room_turned b d room = record { two = room.two; own = λ z. rw z (room.own (sym z)) }

  pub same_either_way : (b : ℕ) (e : Edit) (d : ℕ) (g : Edit) → (writes e ≡ writes g → ⊥) → Accepts K s (edit b e) → Accepts K s (edit d g) → RoomForBoth s b d → SameEitherWay K s b e d g
  same_either_way b e d g n ae ag room =
      let me = accepts_met K s b e ae in
      let mg = accepts_met K s d g ag in
      let back : writes g ≡ writes e → ⊥ = λ z. n (sym z) in
      let turned = room_turned b d room in
      record {
        one = met_turn K s b e d g (met_other b e d g n me mg room);
        other = met_turn K s d g b e (met_other d g b e back mg me turned);
        floor = floor_other b e d g n me mg room
            ∙ lay_comm K F s.floor (recorded K s b e) me.common.right me.own.inside (recorded K s d g) mg.own.inside n
            ∙ sym (floor_other d g b e back mg me turned);
      }

  -- two that are accepted in one order are accepted in the other
  pub turn_either_way : (b : ℕ) (e : Edit) (d : ℕ) (g : Edit) → (writes e ≡ writes g → ⊥) → InTurn K s b e d g → SameEitherWay K s b e d g
  turn_either_way b e d g n t =
      let m = turn_met K s b e d g t in
      same_either_way b e d g n t.first (met_accepts K s d g (met_before b e d g n m.first m.second)) (turn_room K s b e d g t)

  -- ---- ONE FIELD

  -- what one edit leaves
  alone_leaves : (d : ℕ) (u : Edit) → AllMet K s d u → (run K (edit d u ∷ []) s).floor ≡ put_u32 s.floor (field_at K s.floor (writes u)) ((wish_of u).new (old K s u))
  alone_leaves d u m = ap (λ (x : State). x.floor) (run_one K s d u m) ∙ unfold lay in refl

  module _ (b : ℕ) (e : Edit) (d : ℕ) (g : Edit) (same : writes e ≡ writes g) (me : AllMet K s b e) where
    -- the second edit finds what the first one wrote
    found_new : old K (left_by K s b e) g ≡ (wish_of e).new (old K s e)
    found_new =
        ap (found (lay K s.floor (recorded K s b e))) (sym same)
        ∙ word_here K F s.floor (recorded K s b e) me.common.right me.own.inside (word_small e (old K s e) me.own.may)

    -- so it was let through for that word
    second_may : BothMet K s b e d g → (wish_of g).may ((wish_of e).new (old K s e)) ≡ true
    second_may m = rw found_new at m.second.own.may

    -- and writes over it
    both_leave : BothMet K s b e d g
        → (run K (edit b e ∷ edit d g ∷ []) s).floor ≡ put_u32 s.floor (field_at K s.floor (writes e)) ((wish_of g).new ((wish_of e).new (old K s e)))
    both_leave m =
        ap (λ (x : State). x.floor) (run_two K s b e d g m)
        ∙ lay_later K F s.floor (recorded K s b e) me.common.right me.own.inside (recorded K (left_by K s b e) d g) same
        ∙ unfold lay in rw (found_new, same)

  -- an edit of the same field that may be made of the same word is accepted, by the bench of an edit that was accepted later
  met_too : (b : ℕ) (e : Edit) (d : ℕ) (g u : Edit) → writes e ≡ writes u → BothMet K s b e d g → (wish_of u).may (old K s e) ≡ true → AllMet K s d u
  met_too b e d g u same m may-u = record {
    common = record { right = m.first.common.right; few = m.first.common.few; owner = m.second.common.owner };
    own = record { inside = subst (Has K s.floor) same m.first.own.inside; may = rw (ap (found s.floor) (sym same)) may-u; free = still_free K s b e d g m.first m.second };
  }

  -- e and then g are as u alone, by the word that e finds
  as_one : (b : ℕ) (e : Edit) (d : ℕ) (g u : Edit) → writes e ≡ writes g → writes e ≡ writes u → InTurn K s b e d g → (wish_of u).may (old K s e) ≡ true
      → (wish_of u).new (old K s e) ≡ (wish_of g).new ((wish_of e).new (old K s e)) → AsOne K s b e d g u
  as_one b e d g u eg eu t may-u new-u =
      let m = turn_met K s b e d g t in
      let mu = met_too b e d g u eu m may-u in
      record {
        alone = met_accepts K s d u mu;
        floor = both_leave b e d g eg m.first m ∙ sym (alone_leaves d u mu ∙ rw (ap (found s.floor) (sym eu), new-u, ap (field_at K s.floor) eu));
      }

  -- two edits of one field that write different words, whichever is the later one
  different : (b : ℕ) (e : Edit) (d : ℕ) (g : Edit) → writes e ≡ writes g → BothMet K s b e d g → BothMet K s d g b e
      → ((wish_of g).new ((wish_of e).new (old K s e)) ≡ (wish_of e).new ((wish_of g).new (old K s g)) → ⊥) → DifferentEitherWay K s b e d g
  different b e d g same m w n = record {
    one = met_turn K s b e d g m;
    other = met_turn K s d g b e w;
    floor = λ z. n (sym (word_left b e d g same m) ∙ ap (λ (fl : List ℕ). u32_at fl (field_at K s.floor (writes e))) z ∙ rw same (word_left d g b e (sym same) w));
  }
    where
      word_left : (i : ℕ) (x : Edit) (j : ℕ) (y : Edit) (p : writes x ≡ writes y) → BothMet K s i x j y
          → u32_at (run K (edit i x ∷ edit j y ∷ []) s).floor (field_at K s.floor (writes x)) ≡ (wish_of y).new ((wish_of x).new (old K s x))
      word_left i x j y p m =
          rw (both_leave i x j y p m.first m)
          (u32_here s.floor (field_at K s.floor (writes x)) _ (F.within s.floor (writes x) m.first.common.right m.first.own.inside)
          (word_small y _ (second_may i x j y p m.first m)))

-- ---- THE SENTENCES

module _ (K : Kind) (F : LawfulFields K) where
  pub later_paint : LaterPaint K
  later_paint s b d face m n t =
      let k = turn_met K s b (paint face m) d (paint face n) t in
      as_one K F s b (paint face m) d (paint face n) (paint face n) refl refl t
      (permitted_through _ m n k.first.own.may (second_may K F s b (paint face m) d (paint face n) refl k.first k)) refl

  pub later_link : LaterLink K
  later_link s b d entry t u i =
      let k = turn_met K s b (link entry t) d (link entry u) i in
      as_one K F s b (link entry t) d (link entry u) (link entry u) refl refl i k.second.own.may refl

  -- each of two nudges in turn may be made
  module _ (s : State) (b d place : ℕ) (n m : ℤ) (k : BothMet K s b (nudge place n) d (nudge place m)) where
    first_nudge : MayNudge (old K s (nudge place n)) n
    first_nudge = may _ n k.first.own.may

    second_nudge : MayNudge (nudge_bits (old K s (nudge place n)) n) m
    second_nudge = may _ m (second_may K F s b (nudge place n) d (nudge place m) refl k.first k)

    sum_written : nudge_bits (nudge_bits (old K s (nudge place n)) n) m ≡ nudge_bits (old K s (nudge place n)) (n +ℤ m)
    sum_written = nudge_twice _ n m first_nudge second_nudge

  pub nudges_add : NudgesAdd K
  nudges_add s b d place n m t l =
      let k = turn_met K s b (nudge place n) d (nudge place m) t in
      as_one K F s b (nudge place n) d (nudge place m) (nudge place (n +ℤ m)) refl refl t
      (may_back _ (n +ℤ m) (nudge_both _ n m (first_nudge s b d place n m k) (second_nudge s b d place n m k) l)) (sym (sum_written s b d place n m k))

  pub edits_in_order : EditsInOrder K
  edits_in_order = record {
    different_fields = same_either_way K F;
    paints = later_paint;
    links = later_link;
    nudges = nudges_add;
    replay = λ fl rs qs. lay_all_append (lay K) rs qs fl;
  }

  -- ---- WHAT DOES NOT HOLD

  pub paints_differ : PaintsDiffer K
  paints_differ s b d face m n ne am an room =
      let bm = accepts_met K s b (paint face m) am in
      let dn = accepts_met K s d (paint face n) an in
      different K F s b (paint face m) d (paint face n) refl
      (both_met K F s b (paint face m) d (paint face n) bm dn room (again b m d n bm dn))
      (both_met K F s d (paint face n) b (paint face m) dn bm (room_turned K F s b d room) (again d n b m dn bm)) (λ z. ne (sym z))
    where
      again : (i x j y : ℕ) (p : AllMet K s i (paint face x)) → AllMet K s j (paint face y) → permitted (old K (left_by K s i (paint face x)) (paint face y)) y ≡ true
      again i x j y p q =
          rw (found_new K F s i (paint face x) j (paint face y) refl p) (permitted_through x (old K s (paint face x)) y (permitted_sym _ x p.own.may) q.own.may)

  pub links_differ : LinksDiffer K
  links_differ s b d entry t u ne at au room =
      let bt = accepts_met K s b (link entry t) at in
      let du = accepts_met K s d (link entry u) au in
      different K F s b (link entry t) d (link entry u) refl
      (both_met K F s b (link entry t) d (link entry u) bt du room du.own.may)
      (both_met K F s d (link entry u) b (link entry t) du bt (room_turned K F s b d room) bt.own.may) (λ z. ne (sym (transition_only u t du.own.may bt.own.may z)))

  pub nudges_either_order : NudgesEitherOrder K
  nudges_either_order s b d place n m t u =
      let k = turn_met K s b (nudge place n) d (nudge place m) t in
      let l = turn_met K s d (nudge place m) b (nudge place n) u in
      record {
        one = t;
        other = u;
        floor = both_leave K F s b (nudge place n) d (nudge place m) refl k.first k
            ∙ rw (sum_written s b d place n m k, +ℤ_comm n m, ← sum_written s d b place m n l) (sym (both_leave K F s d (nudge place m) b (nudge place n) refl l.first l));
      }

  pub nudges_too_far : NudgesTooFar K
  unfolding step edit_step edit_verdict edit_rules rule21 rule ◌then◌ unless
  nudges_too_far s b d place n m t far =
      let k = turn_met K s b (nudge place n) d (nudge place m) t in
      rw (
        met_common K d place s (record { right = k.first.common.right; few = k.first.common.few; owner = k.second.common.owner }),
        lt-ltb place (K.count s.floor 3) k.first.own.inside,
        step_refused (old K s (nudge place n)) (n +ℤ m) far,
      )

  pub order_counts : OrderCounts K
  order_counts = record { paints = paints_differ; links = links_differ; nudges = nudges_either_order; too_far = nudges_too_far }

-- ---- AREA FLOORS

pub area_edits_in_order : EditsInOrder area_floor
area_edits_in_order = edits_in_order area_floor area_fields

pub area_order_counts : OrderCounts area_floor
area_order_counts = order_counts area_floor area_fields
