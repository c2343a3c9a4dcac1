-- The query in the paper's words: what it does not refuse, the lowest face of all that hold the point, and the nodes visited: the root,
-- and every node all of whose ancestors' boxes hold x and y. Assumes nothing.
use mathlib.Core.Path.{◌≡◌, refl, sym, ap, ◌∙◌}
use mathlib.Core.Logic.{◌⊎◌, inl, inr, ◌≢◌}
use mathlib.Core.Bool.{Bool, true, false}
use mathlib.Core.List.{List}
use Prim.Native.Nat.{ℕ, ◌<◌, ◌≤◌}
use native.Mathlib.Omega.{arith}
use native.Mathlib.Decide.{dec_lt, ℕ_discrete}
use lib.IntN.{ℤ, nat_abs}
use lib.Dec.{ltb}
use borrow.Author.Tests.{ltb-false, le-leb, eq-eqb, ne_eqb}
use Rattle.verdict.specs.Verdict.{accepted}
use Rattle.verdict.specs.Memory.{work_size}
use Rattle.verdict.specs.declared.Answer.{Answer}
use Rattle.verdict.proofs.Bools.{clash, decided, and_true}
use Rattle.verdict.proofs.Lowest.{lowest_is}
use Rattle.verdict.proofs.Verdict.{passed, unbroken, met, each_passes, then_both}
use Rattle.boxes.specs.Box.{between, holds_xy}
use Rattle.grid.specs.Plain.{OnGrid}
use Rattle.grid.proofs.Grid.{grid_on}
use Rattle.triangle.proofs.Weights.{held}
use Rattle.tables.specs.Parts.{Parts, parts_of}
use Rattle.nodes.specs.Nodes.{Nodes, nodes_of, face_of}
use Rattle.tree.specs.Boxes.{vertex_float}
use Rattle.tree.specs.Visits.{shown, visited, visited_count, Shown}
use Rattle.tree.proofs.Rule13.{kids}
use Rattle.tree.proofs.Count.{shown_to, shown_from, visited_shown}
use Rattle.floor.specs.Reader.{rule20, reader_verdict}
use Rattle.floor.proofs.Order as reader
use Rattle.floor.proofs.Meaning.{accepted_of, accepted_sound, sound_accepted}
use Rattle.query.specs.declared.Point.{Point}
use Rattle.query.specs.Rules.{rule29, rule30, off_grid, query_verdict}
use Rattle.query.specs.Points.{face_holds, box_holds, lowest_face, visited_nodes, reply_of, point_of, point_answer, Ready}
use Rattle.query.specs.Plain.{Askable, Holds, LowestHolding, BoxHolds, Ancestor, Visited, HowMany, Says}
use Rattle.query.proofs.Nesting.{on_each}
use Rattle.query.proofs.Replies.{rules29to30, by_groups, near_x, near_y, all_on_grid, ready, on_found, on_none}
use Rattle.query.proofs.Walks.{no_faces}
use Rattle.query.proofs.Counting.{tally_counts, counts_same, counts_only}

-- ---- what is not refused

module _ (p : Parts) (v : ℕ) where
  each_on : ((e : ℕ) → e < 3 → OnGrid (vertex_float p v e)) → off_grid p v ≡ false
  unfolding off_grid
  each_on h = rw (grid_on (h 0 (omega arith)), grid_on (h 1 (omega arith)), grid_on (h 2 (omega arith)))

module _ (b : List ℕ) (room : ℕ) (x y : ℤ) where
  parts_accept : (query_verdict b room x y).number ≡ 0 → ((reader_verdict b room).number ≡ 0) × ((rules29to30 (parts_of b) x y).number ≡ 0)
  parts_accept z = passed _ _ (rw (by_groups b room x y) at z)

  enough : (reader_verdict b room).number ≡ 0 → work_size ≤ room
  unfolding rule20
  enough z = ltb-false room work_size (unbroken 19 (ltb room work_size) 0 (passed _ _ (rw (reader.by_groups b room) at z)).0)

  pub accepted_askable : (query_verdict b room x y).number ≡ 0 → Askable b room x y
  accepted_askable z =
      let h = parts_accept z in
      record {
        room = enough h.0;
        floor = accepted_sound b room h.0;
        near_x = (near_x (parts_of b) x y h.1).le;
        near_y = (near_y (parts_of b) x y h.1).le;
        grid = λ v e l m. on_each (parts_of b) v (all_on_grid (parts_of b) x y h.1 v l) e m;
      }

  pub askable_accepted : Askable b room x y → query_verdict b room x y ≡ accepted
  unfolding rule29 rule30
  askable_accepted a =
      by_groups b room x y
      ∙ then_both (sound_accepted b room a.room a.floor)
      (then_both (rw (le-leb (nat_abs x) 65536 a.near_x, le-leb (nat_abs y) 65536 a.near_y) (met 29 0))
      (each_passes 30 (parts_of b).vertices (off_grid (parts_of b)) (λ v. v) (λ v l. each_on (parts_of b) v (λ e m. a.grid v e l m))))

-- ---- the face

module _ (p : Parts) (x y : ℤ) where
  pub holds_to : (f : ℕ) → face_holds p x y f ≡ true → Holds p x y f
  unfolding face_holds
  holds_to f h = let m = (held _ _ _ _ _ _ x y).0 h in record { area = m.0; mean = m.1 }

  pub holds_from : (f : ℕ) → Holds p x y f → face_holds p x y f ≡ true
  unfolding face_holds
  holds_from f h = (held _ _ _ _ _ _ x y).1 (h.area, h.mean)

  -- the lowest face of all that hold the point, where there is one; and where there is none
  pub lowest_plain : lowest_face p x y < p.faces → LowestHolding p x y (lowest_face p x y)
  unfolding lowest_face
  lowest_plain l =
      let i = lowest_is (face_holds p x y) p.faces in
      record { under = l; holds = holds_to _ (i.holds l); first = λ g m h. clash (holds_from g h) (i.before g m) }

  pub none_plain : p.faces ≤ lowest_face p x y → (f : ℕ) → f < p.faces → Holds p x y f → ⊥
  unfolding lowest_face
  none_plain l f m h = clash (holds_from f h) ((lowest_is (face_holds p x y) p.faces).before f (omega arith))

  pub lowest_unique : (f g : ℕ) → LowestHolding p x y f → LowestHolding p x y g → f ≡ g
  lowest_unique f g h k =
      decided (dec_lt f g) (λ l. absurd (k.first f l h.holds)) (λ m. decided (dec_lt g f) (λ l. absurd (h.first g l k.holds)) (λ n. omega arith))

-- ---- the nodes

-- a box that holds x and y
module _ (p : Parts) (x y : ℤ) (n : ℕ) where
  box_to : box_holds p x y n ≡ true → BoxHolds p x y n
  unfolding box_holds holds_xy between
  box_to h =
      let xy = and_true _ _ h in
      let u = and_true _ _ xy.0 in
      let v = and_true _ _ xy.1 in
      record { least_x = u.0; greatest_x = u.1; least_y = v.0; greatest_y = v.1 }

  box_from : BoxHolds p x y n → box_holds p x y n ≡ true
  unfolding box_holds holds_xy between
  box_from h = rw (h.least_x, h.greatest_x, h.least_y, h.greatest_y)

-- every ancestor's box does
module _ (p : Parts) (x y : ℤ) (n : ℕ) where
  all_hold : Shown (nodes_of p) (box_holds p x y) p.nodes n → (m : ℕ) → m < p.nodes → Ancestor (nodes_of p) m n → BoxHolds p x y m
  unfolding Shown
  all_hold h m l a = box_to p x y m (h m l a.first a.rest a.leads)

  hold_all : ((m : ℕ) → m < p.nodes → Ancestor (nodes_of p) m n → BoxHolds p x y m) → Shown (nodes_of p) (box_holds p x y) p.nodes n
  unfolding Shown
  hold_all h m l s q e = box_from p x y m (h m l (record { first = s; rest = q; leads = e }))

-- the number of nodes visited is the number of these: the root, and every node all of whose ancestors' boxes hold x and y
pub visited_plain : (b : List ℕ) → Ready b → (x y : ℤ) → HowMany (parts_of b).nodes (Visited (parts_of b) x y) (visited_nodes (parts_of b) x y)
unfolding visited_nodes visited_count visited
visited_plain b r x y = counts_same to from (tally_counts N (visited t h root N))
  where
    t : Nodes
    t = nodes_of (parts_of b)

    h : ℕ → Bool
    h = box_holds (parts_of b) x y

    root : ℕ
    root = (parts_of b).root

    N : ℕ
    N = (parts_of b).nodes

    -- where there is a node, the root is one
    under : (i : ℕ) → i < N → root < N
    under i l = r.floor.closed.root (omega arith)

    as_shown : (i : ℕ) → i < N → visited t h root N i ≡ shown t h N i
    as_shown i l = visited_shown t (face_of (parts_of b)) root N (parts_of b).faces (under i l) (kids (parts_of b) r.floor.closed) r.floor.tree h i l

    to : (i : ℕ) → i < N → visited t h root N i ≡ true → Visited (parts_of b) x y i
    to i l e =
        inr (all_hold (parts_of b) x y i (shown_to t (face_of (parts_of b)) root N (parts_of b).faces (under i l) (kids (parts_of b) r.floor.closed) r.floor.tree h i l (sym (as_shown i l) ∙ e)))

    from : (i : ℕ) → i < N → Visited (parts_of b) x y i → visited t h root N i ≡ true
    from i l (inl e) = rw (eq-eqb i root e)
    from i l (inr s) =
        as_shown i l
        ∙ shown_from t (face_of (parts_of b)) root N (parts_of b).faces (under i l) (kids (parts_of b) r.floor.closed) r.floor.tree h i l (hold_all (parts_of b) x y i s)

-- ---- the answer

module _ (b : List ℕ) (room : ℕ) (x y : ℤ) where
  -- an answer that does not refuse
  module _ (z : (query_verdict b room x y).number ≡ 0) where
    able : Ready b
    able = let h = parts_accept b room x y z in ready b (accepted_of b room h.0) x y h.1

    whole : query_verdict b room x y ≡ accepted
    whole = askable_accepted b room x y (accepted_askable b room x y z)

    answer : point_of accepted (parts_of b) x y ≡ point_answer b room x y
    unfolding point_answer
    answer = ap (λ (a : Answer). point_of a (parts_of b) x y) (sym whole)

    if_found : lowest_face (parts_of b) x y < (parts_of b).faces → Says (parts_of b) x y (point_of accepted (parts_of b) x y)
    unfolding point_of
    if_found l =
        rw (← on_found (lowest_face (parts_of b) x y) (parts_of b).faces (visited_nodes (parts_of b) x y) l)
        (record { one = inr refl; found = λ e. lowest_plain (parts_of b) x y l; none = λ (e : ◌≡◌ {A = ℕ} 1 0). absurd (omega arith); visited = visited_plain b able x y })

    if_none : (parts_of b).faces ≤ lowest_face (parts_of b) x y → Says (parts_of b) x y (point_of accepted (parts_of b) x y)
    unfolding point_of
    if_none l =
        rw (← on_none (lowest_face (parts_of b) x y) (parts_of b).faces (visited_nodes (parts_of b) x y) l)
        (record { one = inl refl; found = λ (e : ◌≡◌ {A = ℕ} 0 1). absurd (omega arith); none = λ e. (refl, none_plain (parts_of b) x y l); visited = visited_plain b able x y })

    pub query_says : Says (parts_of b) x y (point_answer b room x y)
    query_says =
        rw (← answer) (decided (dec_lt (lowest_face (parts_of b) x y) (parts_of b).faces) if_found (λ m. if_none (omega arith)))

  -- a refusal gives none and 0
  pub query_refused : (query_verdict b room x y).number ≢ 0 → ((point_answer b room x y).found ≡ 0) × ((point_answer b room x y).face ≡ 0) × ((point_answer b room x y).visited ≡ 0)
  unfolding point_answer point_of reply_of
  query_refused z = rw (ne_eqb (query_verdict b room x y).number 0 z) (refl, refl, refl)

  -- so does a floor without faces
  pub query_empty : (parts_of b).faces ≡ 0 → ((point_answer b room x y).found ≡ 0) × ((point_answer b room x y).face ≡ 0) × ((point_answer b room x y).visited ≡ 0)
  query_empty e =
      decided (ℕ_discrete (query_verdict b room x y).number 0)
      (λ z. rw (← answer z, ← no_faces b (able z) x y e) (unfold reply_of in (refl, refl, refl)))
      query_refused

-- two answers that say it are the same
pub says_only : (p : Parts) (x y : ℤ) (r q : Point) → Says p x y r → Says p x y q → (r.found ≡ q.found) × (r.face ≡ q.face) × (r.visited ≡ q.visited)
says_only p x y r q h k = ((same h.one k.one).0, (same h.one k.one).1, counts_only h.visited k.visited)
  where
    same : (r.found ≡ 0) ⊎ (r.found ≡ 1) → (q.found ≡ 0) ⊎ (q.found ≡ 1) → (r.found ≡ q.found) × (r.face ≡ q.face)
    same (inl e) (inl f) = (e ∙ sym f, (h.none e).0 ∙ sym (k.none f).0)
    same (inl e) (inr f) = let l = k.found f in absurd ((h.none e).1 q.face l.under l.holds)
    same (inr e) (inl f) = let l = h.found e in absurd ((k.none f).1 r.face l.under l.holds)
    same (inr e) (inr f) = (e ∙ sym f, lowest_unique p x y r.face q.face (h.found e) (k.found f))
