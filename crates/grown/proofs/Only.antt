-- The plain words leave no choice: two floors with the same vertices and corners that both have a good tree have the same nodes, word
-- by word. Assumes nothing.
use Prim.Native.Nat.{ℕ, zero, suc, ◌+◌, ◌*◌, ◌-◌, ◌/◌, ◌<◌, ◌≤◌}
use native.Mathlib.Omega.{arith}
use native.Mathlib.Decide.{dec_lt}
use native.Mathlib.Nat.{eq_of_mul-eq-mul_right}
use mathlib.Core.Path.{◌≡◌, refl, sym, ap, subst, ◌∙◌}
use mathlib.Core.Bool.{Bool, true, false}
use mathlib.Core.Logic.{◌⊎◌, inl, inr, ⊎_elim}
use mathlib.Core.List.{List, [], ◌∷◌}
use mathlib.Core.Option.{some}
use lib.Dec.{T, lit<}
use lib.IntN.{ℤ}
use lib.Signed.{le_z}
use lib.Ieee.{Float, nan, inf, fin, up, down, le, fits, binary32, of_bits, to_bits}
use lib.Ieee.Bits.{of_bits-fits, to_bits-of_bits}
use lib.Ieee.Exact.{HasValue}
use lib.Ieee.Fits.{down_pos}
use borrow.Author.Tests.{leb-true}
use Rattle.verdict.proofs.Bools.{clash, decided}
use Rattle.grid.specs.Grid.{finite, signed}
use Rattle.grid.proofs.Grid.{finite_number, same_value, minus_zero}
use Rattle.grid.proofs.Order.{le_real}
use Rattle.boxes.specs.declared.Box.{Box}
use Rattle.boxes.specs.Box.{box_of_bits}
use Rattle.boxes.specs.Plain.{HoldsBox}
use Rattle.tables.specs.Parts.{Parts, corner, node_word}
use Rattle.mesh.specs.Mesh.{IsFinite}
use Rattle.mesh.proofs.Plain.{finite_test}
use Rattle.nodes.specs.Nodes.{nodes_of, face_of, plane_of, left_of, right_of}
use Rattle.nodes.specs.Plain.{Leaf, Inner}
use Rattle.nodes.proofs.Rule12.{leaf_is, inner_is, not_both}
use Rattle.tree.specs.Boxes.{box_of, vertex_float}
use Rattle.tree.specs.Plain.{follow}
use Rattle.tree.proofs.Paths.{some_same, kid, step, unstep}
use Rattle.planting.specs.Sides.{HoldsCorner}
use Rattle.grown.specs.Plain.{Halved, uncut, cut, Below, Longest, GoodTree}

-- ---- one pattern for each number, but for zero's two

same_signed : (s t : Bool) (a b : ℕ) → le_z (signed s a) (signed t b) ≡ true → le_z (signed t b) (signed s a) ≡ true → ((s ≡ t) × (a ≡ b)) ⊎ ((a ≡ 0) × (b ≡ 0))
same_signed false false a b h k = inl (refl, (let x = leb-true a b h in let y = leb-true b a k in omega arith))
same_signed true true zero zero h k = inr (refl, refl)
same_signed true true zero (suc b) h k = clash h refl
same_signed true true (suc a) zero h k = clash k refl
same_signed true true (suc a) (suc b) h k = inl (refl, (let x = leb-true b a h in let y = leb-true a b k in omega arith))
same_signed true false zero b h k = inr (refl, (let y = leb-true b 0 k in omega arith))
same_signed true false (suc a) b h k = clash k refl
same_signed false true a zero h k = inr ((let x = leb-true a 0 h in omega arith), refl)
same_signed false true a (suc b) h k = clash h refl

zero_of : (a d : ℕ) → 0 < d → a * d ≡ 0 → a ≡ 0
zero_of a d h e = eq_of_mul-eq-mul_right d h a 0 (e ∙ omega arith)

-- a float of no size is zero, with either sign
nothing : (s : Bool) (m : ℕ) (e : ℤ) → m * up e ≡ 0 → HasValue (fin s m e) s 0 1
nothing s m e z = (refl, omega (arith, z))

minus_is : (m : ℕ) (e : ℤ) → T (fits binary32 (fin true m e)) → m * up e ≡ 0 → fin true m e ≡ minus_zero
minus_is m e p z = same_value binary32 (fin true m e) minus_zero true 0 1 (lit< tt) p (unfold fits in tt) (nothing true m e z) (refl, refl)

zeros_same : (s t : Bool) (m n : ℕ) (e d : ℤ) → T (fits binary32 (fin s m e)) → T (fits binary32 (fin t n d)) → (fin s m e ≡ minus_zero → ⊥) → (fin t n d ≡ minus_zero → ⊥)
    → m * up e ≡ 0 → n * up d ≡ 0 → fin s m e ≡ fin t n d
zeros_same true t m n e d p q u v y z = absurd (u (minus_is m e p y))
zeros_same false true m n e d p q u v y z = absurd (v (minus_is n d q z))
zeros_same false false m n e d p q u v y z = same_value binary32 (fin false m e) (fin false n d) false 0 1 (lit< tt) p q (nothing false m e y) (nothing false n d z)

-- two finite floats that are at most each other, neither negative zero
float_only : (x y : Float) → T (fits binary32 x) → T (fits binary32 y) → finite x ≡ true → finite y ≡ true → (x ≡ minus_zero → ⊥) → (y ≡ minus_zero → ⊥)
    → le x y ≡ true → le y x ≡ true → x ≡ y
unfolding finite
float_only nan y p q f g u v h k = clash f refl
float_only (inf s) y p q f g u v h k = clash f refl
float_only (fin s m e) nan p q f g u v h k = clash g refl
float_only (fin s m e) (inf t) p q f g u v h k = clash g refl
float_only (fin s m e) (fin t n d) p q f g u v h k =
    ⊎_elim
    (λ (z : (s ≡ t) × (m * up e * down d ≡ n * up d * down e)).
    same_value binary32 (fin s m e) (fin t n d) s (m * up e) (down e) (down_pos e) p q (refl, refl) (sym z.0, sym z.1))
    (λ (z : (m * up e * down d ≡ 0) × (n * up d * down e ≡ 0)).
    zeros_same s t m n e d p q u v (zero_of (m * up e) (down d) (down_pos d) z.0) (zero_of (n * up d) (down e) (down_pos e) z.1))
    (same_signed s t (m * up e * down d) (n * up d * down e) (sym (le_real s t m n e d) ∙ h) (sym (le_real t s n m d e) ∙ k))

-- and so two words
word_only : (a b : ℕ) → a < 4294967296 → b < 4294967296 → IsFinite a → IsFinite b → (a ≡ 0x8000_0000 → ⊥) → (b ≡ 0x8000_0000 → ⊥)
    → le (of_bits binary32 a) (of_bits binary32 b) ≡ true → le (of_bits binary32 b) (of_bits binary32 a) ≡ true → a ≡ b
word_only a b la lb fa fb za zb h k =
    let back : (c : ℕ) → c < 4294967296 → IsFinite c → to_bits binary32 (of_bits binary32 c) ≡ c = λ c l f. to_bits-of_bits binary32 c l (finite_number _ (finite_test c f)) in
    let minus : to_bits binary32 minus_zero ≡ 0x8000_0000 = unfold to_bits in refl in
    sym (back a la fa)
    ∙ (ap (to_bits binary32) (float_only (of_bits binary32 a) (of_bits binary32 b) (of_bits-fits binary32 a) (of_bits-fits binary32 b) (finite_test a fa) (finite_test b fb)
    (λ e. za (sym (back a la fa) ∙ (ap (to_bits binary32) e ∙ minus))) (λ e. zb (sym (back b lb fb) ∙ (ap (to_bits binary32) e ∙ minus))) h k)
    ∙ back b lb fb)

-- ---- one longest side

longest_only : (b : Box) (m n : ℕ) → Longest b m → Longest b n → m ≡ n
longest_only b m n x y =
    decided (dec_lt x.axis y.axis) (λ l. clash (x.most y.axis y.three) (y.first x.axis l))
    (λ l. decided (dec_lt y.axis x.axis) (λ r. clash (y.most x.axis x.three) (x.first y.axis r))
    (λ r. x.here ∙ (omega arith ∙ sym y.here)))

-- ---- one shape

data Agree (p q : Parts) : ℕ → Type 0 where
  leaves : {j : ℕ} → Leaf p j → Leaf q j → face_of p j ≡ face_of q j → Agree p q j
  inners : {j : ℕ} → Inner p j → Inner q j → left_of p j ≡ left_of q j → right_of p j ≡ right_of q j → Agree p q j

agree : (p q : Parts) (k from n : ℕ) → Halved p k from n → Halved q k from n → (j : ℕ) → k ≤ j → j < k + (2 * n - 1) → Agree p q j
agree p q k from n (uncut e l f) (uncut e' l' f') j a b = let z : k ≡ j = omega arith in subst (Agree p q) z (leaves l l' (f ∙ sym f'))
agree p q k from n (uncut e l f) (cut two i x y u v) j a b = absurd (omega arith)
agree p q k from n (cut two i x y u v) (uncut e l f) j a b = absurd (omega arith)
agree p q k from n (cut two i x y u v) (cut two' i' x' y' u' v') j a b =
    let lower = agree p q (k + 1) from (n / 2) u u' j in
    let upper = agree p q (k + 2 * (n / 2)) (from + n / 2) (n - n / 2) v v' j in
    decided (dec_lt k j)
    (λ c. decided (dec_lt j (k + 2 * (n / 2))) (λ d. lower (omega arith) (omega arith)) (λ d. upper (omega arith) (omega arith)))
    (λ c. let z : k ≡ j = omega arith in subst (Agree p q) z (inners i i' (x ∙ sym x') (y ∙ sym y')))

module _ (p q : Parts) (g : GoodTree p) (h : GoodTree q) (few : p.faces ≤ 4096) (same-faces : q.faces ≡ p.faces)
    (same_corner : (f e : ℕ) → corner q f e ≡ corner p f e) (same_float : (v c : ℕ) → vertex_float q v c ≡ vertex_float p v c) where
  same_nodes : q.nodes ≡ p.nodes
  same_nodes = h.nodes.count ∙ (ap (λ (n : ℕ). 2 * n - 1) same-faces ∙ sym g.nodes.count)

  node : (j : ℕ) → j < p.nodes → Agree p q j
  node j l =
      let c = g.nodes.count in
      let some-faces : 1 ≤ p.faces = omega arith in
      agree p q 0 0 p.faces (g.halved some-faces) (subst (Halved q 0 0) same-faces (h.halved (omega arith))) j (omega arith) (omega arith)

  -- the same paths, the same faces below
  follow_on : (s : Bool) (k : ℕ) → (nodes_of p).inner k ≡ true → Agree p q k → (kid (nodes_of p) s k ≡ kid (nodes_of q) s k) × ((nodes_of q).inner k ≡ true) × (kid (nodes_of p) s k < p.nodes)
  unfolding nodes_of
  follow_on s k y (leaves l l' e) = clash y (leaf_is p k few l)
  follow_on true k y (inners i i' x z) = (x, inner_is q k i', i.left)
  follow_on false k y (inners i i' x z) = (z, inner_is q k i', i.right)

  follow_same : (steps : List Bool) (k m : ℕ) → k < p.nodes → follow (nodes_of p) steps k ≡ some m → (follow (nodes_of q) steps k ≡ some m) × (m < p.nodes)
  unfolding follow
  follow_same [] k m l e = (e, subst (λ (i : ℕ). i < p.nodes) (some_same k m e) l)
  follow_same (s ∷ steps) k m l e =
      let (y, on) = step (nodes_of p) s steps k m e in
      let (same, inner, under) = follow_on s k y (node k l) in
      let (on', last) = follow_same steps (kid (nodes_of p) s k) m under on in
      (unstep (nodes_of q) s steps k m inner (subst (λ (i : ℕ). follow (nodes_of q) steps i ≡ some m) same on'), last)

  below_leaf : (j f : ℕ) → Agree p q j → Leaf p j → face_of p j ≡ f → Leaf q j × (face_of q j ≡ f)
  below_leaf j f (leaves l l' e) m z = (l', sym e ∙ z)
  below_leaf j f (inners i i' x y) m z = absurd (not_both p j few m i)

  below_same : (k f : ℕ) → k < p.nodes → Below p k f → Below q k f
  below_same k f l b =
      let (on, under) = follow_same b.steps k b.node l b.leads in
      let (leaf, here) = below_leaf b.node f (node b.node under) b.leaf b.here in
      record { node = b.node; steps = b.steps; leads = on; leaf = leaf; here = here }

  coordinate_same : (f e c : ℕ) → vertex_float q (corner q f e) c ≡ vertex_float p (corner p f e) c
  coordinate_same f e c = ap (λ (v : ℕ). vertex_float q v c) (same_corner f e) ∙ same_float (corner p f e) c

  corner_back : (b : Box) (f e : ℕ) → HoldsCorner q b f e → HoldsCorner p b f e
  corner_back b f e k = record {
    least_x = subst (λ (x : Float). le b.least_x x ≡ true) (coordinate_same f e 0) k.least_x;
    least_y = subst (λ (x : Float). le b.least_y x ≡ true) (coordinate_same f e 1) k.least_y;
    least_z = subst (λ (x : Float). le b.least_z x ≡ true) (coordinate_same f e 2) k.least_z;
    greatest_x = subst (λ (x : Float). le x b.greatest_x ≡ true) (coordinate_same f e 0) k.greatest_x;
    greatest_y = subst (λ (x : Float). le x b.greatest_y ≡ true) (coordinate_same f e 1) k.greatest_y;
    greatest_z = subst (λ (x : Float). le x b.greatest_z ≡ true) (coordinate_same f e 2) k.greatest_z;
  }

  -- each box holds the other
  box_holds : (k : ℕ) → k < p.nodes → HoldsBox (box_of q k) (box_of p k)
  box_holds k l =
      (g.tightest k l).least (box_of q k)
      (λ f e b m. corner_back (box_of q k) f e ((h.tightest k (omega (arith, same_nodes))).holds f e (below_same k f l b) m))

module _ (p q : Parts) (g : GoodTree p) (h : GoodTree q) (few : p.faces ≤ 4096) (same-faces : q.faces ≡ p.faces)
    (same_corner : (f e : ℕ) → corner q f e ≡ corner p f e) (same_float : (v c : ℕ) → vertex_float q v c ≡ vertex_float p v c)
    (words : (n e : ℕ) → node_word p n e < 4294967296) (words' : (n e : ℕ) → node_word q n e < 4294967296) where
  module _ (k : ℕ) (l : k < p.nodes) where
    l' : k < q.nodes
    l' = omega (arith, same_nodes p q g h few same-faces same_corner same_float)

    over : HoldsBox (box_of q k) (box_of p k)
    over = box_holds p q g h few same-faces same_corner same_float k l

    under : HoldsBox (box_of p k) (box_of q k)
    under = box_holds q p h g (omega arith) (sym same-faces) (λ f e. sym (same_corner f e)) (λ v c. sym (same_float v c)) k l'

    end_same : (e : ℕ) → e < 6 → le (of_bits binary32 (node_word p k e)) (of_bits binary32 (node_word q k e)) ≡ true → le (of_bits binary32 (node_word q k e)) (of_bits binary32 (node_word p k e)) ≡ true
        → node_word p k e ≡ node_word q k e
    end_same e m a b = word_only _ _ (words k e) (words' k e) (g.finite k e l m) (h.finite k e l' m) (g.zeros k e l m) (h.zeros k e l' m) a b

    box_words : (e : ℕ) → e < 6 → node_word p k e ≡ node_word q k e
    unfolding box_of box_of_bits
    box_words zero m = end_same 0 m under.least_x over.least_x
    box_words (suc zero) m = end_same 1 m under.least_y over.least_y
    box_words (suc (suc zero)) m = end_same 2 m under.least_z over.least_z
    box_words (suc (suc (suc zero))) m = end_same 3 m over.greatest_x under.greatest_x
    box_words (suc (suc (suc (suc zero)))) m = end_same 4 m over.greatest_y under.greatest_y
    box_words (suc (suc (suc (suc (suc zero))))) m = end_same 5 m over.greatest_z under.greatest_z
    box_words (suc (suc (suc (suc (suc (suc e)))))) m = absurd (omega arith)

    box_same : box_of p k ≡ box_of q k
    unfolding box_of
    box_same =
        rw (box_words 0 (omega arith), box_words 1 (omega arith), box_words 2 (omega arith), box_words 3 (omega arith), box_words 4 (omega arith), box_words 5 (omega arith))

    plane_same : Agree p q k → plane_of p k ≡ plane_of q k
    plane_same (leaves a b e) = a.plane ∙ sym b.plane
    plane_same (inners a b x y) = longest_only (box_of q k) (plane_of p k) (plane_of q k) (subst (λ (x : Box). Longest x (plane_of p k)) box_same (g.planes k l a)) (h.planes k l' b)

    face_same : Agree p q k → face_of p k ≡ face_of q k
    face_same (leaves a b e) = e
    face_same (inners a b x y) = a.face ∙ sym b.face

    left_same : Agree p q k → left_of p k ≡ left_of q k
    left_same (leaves a b e) = a.left ∙ sym b.left
    left_same (inners a b x y) = x

    right_same : Agree p q k → right_of p k ≡ right_of q k
    right_same (leaves a b e) = a.right ∙ sym b.right
    right_same (inners a b x y) = y

    kind_same : Agree p q k
    kind_same = node p q g h few same-faces same_corner same_float k l

    rest_words : (e : ℕ) → e < 5 → node_word p k (6 + e) ≡ node_word q k (6 + e)
    rest_words zero m = face_same kind_same
    rest_words (suc zero) m = g.unknown k l ∙ sym (h.unknown k l')
    rest_words (suc (suc zero)) m = plane_same kind_same
    rest_words (suc (suc (suc zero))) m = left_same kind_same
    rest_words (suc (suc (suc (suc zero)))) m = right_same kind_same
    rest_words (suc (suc (suc (suc (suc e))))) m = absurd (omega arith)

  -- the same nodes, word by word
  pub tree_only : (k e : ℕ) → k < p.nodes → e < 11 → node_word p k e ≡ node_word q k e
  tree_only k e l m =
      decided (dec_lt e 6) (λ z. box_words k l e z)
      (λ z. let w : 6 + (e - 6) ≡ e = omega arith in subst (λ (i : ℕ). node_word p k i ≡ node_word q k i) w (rest_words k l (e - 6) (omega arith)))
