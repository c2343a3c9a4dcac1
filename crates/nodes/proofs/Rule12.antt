-- Rules 11 and 12: leaf, inner node and root as tests and as plain statements, both ways, and what the rules show. Assumes nothing.
use Prim.Native.Nat.{ℕ, ◌*◌, ◌-◌, ◌<◌, ◌≤◌}
use native.Mathlib.Omega.{arith}
use native.Mathlib.Decide.{ℕ_discrete}
use mathlib.Core.Path.{◌≡◌, sym, ◌∙◌}
use mathlib.Core.Logic.{◌⊎◌, inl, inr, ⊎_elim}
use mathlib.Core.Bool.{true, false, ◌&&◌, ◌||◌}
use lib.Dec.{eqb, ltb, leb}
use borrow.Author.Tests.{lt-ltb, ltb-true, leb-true, leb-false, lt-leb, eq-eqb, ne_eqb, eqb-true, not-false}
use Rattle.verdict.specs.Verdict.{accepted}
use Rattle.verdict.proofs.Bools.{clash, test, decided, and_true}
use Rattle.verdict.proofs.Verdict.{passed, unbroken, met, then_both, each_met, each_passes}
use Rattle.tables.specs.Parts.{none32, Parts}
use Rattle.nodes.specs.Nodes.{face_of, plane_of, left_of, right_of, nodes_of, is_plane, is_leaf, is_inner, neither, stray_root, rule11, rule12, rules11to12}
use Rattle.nodes.specs.Plain.{Plane, Leaf, Inner, Rooted, Closed, SoundNodes}

-- ---- the plane

plane_small : (w : ℕ) → 1 ≤ w → w ≤ 3 → Plane w
plane_small w l m =
    decided (ℕ_discrete w 1) (λ z. inl z)
    (λ y. decided (ℕ_discrete w 2) (λ z. inr (inl z)) (λ z. inr (inr (inl (omega arith)))))

plane_large : (w : ℕ) → 4294967293 ≤ w → w ≤ 4294967295 → Plane w
plane_large w l m =
    decided (ℕ_discrete w 4294967295) (λ z. inr (inr (inr (inl z))))
    (λ y. decided (ℕ_discrete w 4294967294) (λ z. inr (inr (inr (inr (inl z))))) (λ z. inr (inr (inr (inr (inr (omega arith)))))))

pub plane_to : (w : ℕ) → is_plane w ≡ true → Plane w
unfolding is_plane
plane_to w e =
    test (leb 1 w && leb w 3)
    (λ y. let h = and_true (leb 1 w) (leb w 3) y in plane_small w (leb-true 1 w h.0) (leb-true w 3 h.1))
    (λ y.
    let h = and_true (leb 4294967293 w) (leb w 4294967295) (rw y at e) in
    plane_large w (leb-true 4294967293 w h.0) (leb-true w 4294967295 h.1))

pub plane_from : (w : ℕ) → Plane w → is_plane w ≡ true
unfolding is_plane
plane_from w (inl e) = rw e
plane_from w (inr (inl e)) = rw e
plane_from w (inr (inr (inl e))) = rw e
plane_from w (inr (inr (inr (inl e)))) = rw e
plane_from w (inr (inr (inr (inr (inl e))))) = rw e
plane_from w (inr (inr (inr (inr (inr e))))) = rw e

-- ---- leaf and inner

module _ (p : Parts) (n : ℕ) where
  pub leaf_to : is_leaf p n ≡ true → Leaf p n
  unfolding is_leaf
  leaf_to e =
      let f = ltb (face_of p n) p.faces in
      let q = eqb (plane_of p n) 0 in
      let l = eqb (left_of p n) none32 in
      let r = eqb (right_of p n) none32 in
      let a = and_true (f && q && l) r e in
      let b = and_true (f && q) l a.0 in
      let c = and_true f q b.0 in
      record { face = ltb-true _ _ c.0; plane = eqb-true _ _ c.1; left = eqb-true _ _ b.1; right = eqb-true _ _ a.1 }

  pub leaf_from : Leaf p n → is_leaf p n ≡ true
  unfolding is_leaf
  leaf_from h = rw (lt-ltb _ _ h.face, eq-eqb _ _ h.plane, eq-eqb _ _ h.left, eq-eqb _ _ h.right)

  pub inner_to : is_inner p n ≡ true → Inner p n
  unfolding is_inner
  inner_to e =
      let f = eqb (face_of p n) none32 in
      let q = is_plane (plane_of p n) in
      let l = ltb (left_of p n) p.nodes in
      let r = ltb (right_of p n) p.nodes in
      let a = and_true (f && q && l) r e in
      let b = and_true (f && q) l a.0 in
      let c = and_true f q b.0 in
      record { face = eqb-true _ _ c.0; plane = plane_to _ c.1; left = ltb-true _ _ b.1; right = ltb-true _ _ a.1 }

  pub inner_from : Inner p n → is_inner p n ≡ true
  unfolding is_inner
  inner_from h = rw (eq-eqb _ _ h.face, plane_from _ h.plane, lt-ltb _ _ h.left, lt-ltb _ _ h.right)

  pub neither_to : neither p n ≡ false → Leaf p n ⊎ Inner p n
  unfolding neither
  neither_to e =
      let g = not-false (is_leaf p n || is_inner p n) e in
      test (is_leaf p n) (λ y. inl (leaf_to y)) (λ y. inr (inner_to (rw y at g)))

  pub neither_from : Leaf p n ⊎ Inner p n → neither p n ≡ false
  unfolding neither
  neither_from (inl h) = rw (leaf_from h)
  neither_from (inr h) = rw (inner_from h) (test (is_leaf p n) (λ y. rw y) (λ y. rw y))

  -- the face tells which of the two a node is, and it is not both
  pub inner_is : Inner p n → (nodes_of p).inner n ≡ true
  unfolding nodes_of
  inner_is h = eq-eqb (face_of p n) none32 h.face

  pub leaf_is : p.faces ≤ 4096 → Leaf p n → (nodes_of p).inner n ≡ false
  unfolding nodes_of
  leaf_is few h = ne_eqb (face_of p n) none32 (λ (e : face_of p n ≡ none32). omega (arith, h.face))

  pub not_both : p.faces ≤ 4096 → Leaf p n → Inner p n → ⊥
  not_both few l i = clash (inner_is i) (leaf_is few l)

-- ---- rule 11: how many nodes, and the root one of them

module _ (p : Parts) where
  pub root_of_none : p.nodes ≡ 0 → stray_root p ≡ false
  unfolding stray_root
  root_of_none e = rw e

  pub root_of_some : 0 < p.nodes → stray_root p ≡ leb p.nodes p.root
  unfolding stray_root
  root_of_some some = rw (lt-ltb 0 p.nodes some)

  root_met : stray_root p ≡ false → Rooted p
  root_met e some = leb-false p.nodes p.root (sym (root_of_some some) ∙ e)

  met_root : Rooted p → stray_root p ≡ false
  met_root h =
      decided (ℕ_discrete p.nodes 0) root_of_none
      (λ y. let some : 0 < p.nodes = omega arith in root_of_some some ∙ lt-leb p.nodes p.root (h some))

  pub rule11_met : (rule11 p).number ≡ 0 → (p.nodes ≡ 2 * p.faces - 1) × Rooted p
  unfolding rule11
  rule11_met z =
      let h = passed _ _ z in (
        eqb-true p.nodes (2 * p.faces - 1) (not-false (eqb p.nodes (2 * p.faces - 1)) (unbroken 10 _ 100 h.0)),
        root_met (unbroken 10 (stray_root p) 108 h.1),
      )

  pub met_rule11 : p.nodes ≡ 2 * p.faces - 1 → Rooted p → rule11 p ≡ accepted
  unfolding rule11
  met_rule11 e h = then_both (rw (eq-eqb p.nodes (2 * p.faces - 1) e) (met 11 100)) (rw (met_root h) (met 11 108))

-- ---- rule 12: every node is leaf or inner

pub rule12_met : (p : Parts) → (rule12 p).number ≡ 0 → (n : ℕ) → n < p.nodes → Leaf p n ⊎ Inner p n
unfolding rule12
rule12_met p z n l = neither_to p n (each_met 11 p.nodes (neither p) _ z n l)

pub met_rule12 : (p : Parts) → ((n : ℕ) → n < p.nodes → Leaf p n ⊎ Inner p n) → rule12 p ≡ accepted
unfolding rule12
met_rule12 p h = each_passes 12 p.nodes (neither p) _ (λ n l. neither_from p n (h n l))

-- so the root and all children are nodes, and leaves name faces
pub sound_closed : (p : Parts) → p.faces ≤ 4096 → SoundNodes p → Closed p
sound_closed p few s = record {
  root = s.root;
  left = λ n l e. ⊎_elim (λ (h : Leaf p n). clash e (leaf_is p n few h)) (λ (h : Inner p n). h.left) (s.kinds n l);
  right = λ n l e. ⊎_elim (λ (h : Leaf p n). clash e (leaf_is p n few h)) (λ (h : Inner p n). h.right) (s.kinds n l);
  face = λ n l e. ⊎_elim (λ (h : Leaf p n). h.face) (λ (h : Inner p n). clash (inner_is p n h) e) (s.kinds n l);
}

-- ---- both rules: all that they ask

pub nodes_met : (p : Parts) → (rules11to12 p).number ≡ 0 → SoundNodes p
unfolding rules11to12
nodes_met p z =
    let h = passed (rule11 p) (rule12 p) z in
    let one = rule11_met p h.0 in
    record { count = one.0; root = one.1; kinds = rule12_met p h.1 }

pub met_nodes : (p : Parts) → SoundNodes p → rules11to12 p ≡ accepted
unfolding rules11to12
met_nodes p h = then_both (met_rule11 p h.count h.root) (met_rule12 p h.kinds)
