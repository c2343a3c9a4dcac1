-- A normaliser for polynomials over the whole numbers: an identity in any number of variables is one computed test.
-- `Expr` is a polynomial as it is written, `Poly` its normal form: a list of terms, each a number times a sorted list of variables.
-- `norm_sound` says that the normal form has the same value, `solve` that two expressions with the same normal form are equal everywhere.
use mathlib.Core.Path.{◌≡◌, refl, sym, ap, ap₂, ◌∙◌}
use mathlib.Core.Bool.{Bool, true, false, ◌&&◌}
use mathlib.Core.List.{List, [], ◌∷◌}
use Prim.Native.Nat.{ℕ}
use lib.Dec.{T, leb, ltb, eqb, eqb→eq}
use lib.ListN.{get_or}
use lib.IntN.{ℤ, pos, negsuc, neg_ℤ, ◌+ℤ◌, ◌-ℤ◌, ◌*ℤ◌, +ℤ_idl, +ℤ_idr, +ℤ_assoc, zero-*ℤ, *ℤ-zero, neg_ℤ-+ℤ}
use Rattle.verdict.proofs.Bools.{clash, T_true, true_T, and_true}
use Rattle.whole.proofs.Laws.{+ℤ_left_comm, *ℤ_+ℤ_right, *ℤ_+ℤ_left, negℤ_*ℤ, *ℤ_assoc, *ℤ_left_comm, *ℤ_cross, one_*ℤ, *ℤ_1, same_of_less}

-- ---- expressions

infixl 6 ◌:+◌ ◌:-◌
infixl 7 ◌:*◌
pub data Expr : Type 0 where
  var : ℕ → Expr
  num : ℤ → Expr
  ◌:+◌ : Expr → Expr → Expr
  ◌:-◌ : Expr → Expr → Expr
  ◌:*◌ : Expr → Expr → Expr
  neg : Expr → Expr

-- the value of an expression, variable i being entry i of the list
abbrev pub eval : List ℤ → Expr → ℤ
eval env (var i) = get_or env i (pos 0)
eval env (num c) = c
eval env (e :+ f) = eval env e +ℤ eval env f
eval env (e :- f) = eval env e -ℤ eval env f
eval env (e :* f) = eval env e *ℤ eval env f
eval env (neg e) = neg_ℤ (eval env e)

-- ---- normal forms: a product of variables, sorted; a term, a number times such a product; a sum of terms, sorted

pub data Term : Type 0 where
  term : ℤ → List ℕ → Term

abbrev pub Poly : Type 0
Poly = List Term

abbrev pub eval_vars : List ℤ → List ℕ → ℤ
eval_vars env [] = pos 1
eval_vars env (i ∷ m) = get_or env i (pos 0) *ℤ eval_vars env m

abbrev pub eval_term : List ℤ → Term → ℤ
eval_term env (term c m) = c *ℤ eval_vars env m

abbrev pub eval_norm : List ℤ → Poly → ℤ
eval_norm env [] = pos 0
eval_norm env (t ∷ p) = eval_term env t +ℤ eval_norm env p

-- one variable more in a product
unfoldable pub ins_var : ℕ → List ℕ → List ℕ
ins_var i [] = i ∷ []
ins_var i (j ∷ m) = elim (leb i j) [ true ↦ i ∷ j ∷ m | false ↦ j ∷ ins_var i m ]

unfoldable pub mul_vars : List ℕ → List ℕ → List ℕ
unfolding ins_var
mul_vars [] n = n
mul_vars (i ∷ m) n = ins_var i (mul_vars m n)

-- the order of products
unfoldable pub same_vars : List ℕ → List ℕ → Bool
same_vars [] [] = true
same_vars [] (j ∷ n) = false
same_vars (i ∷ m) [] = false
same_vars (i ∷ m) (j ∷ n) = elim (eqb i j) [ true ↦ same_vars m n | false ↦ false ]

unfoldable pub under_vars : List ℕ → List ℕ → Bool
under_vars [] [] = false
under_vars [] (j ∷ n) = true
under_vars (i ∷ m) [] = false
under_vars (i ∷ m) (j ∷ n) = elim (eqb i j) [ true ↦ under_vars m n | false ↦ ltb i j ]

-- one term more in a sum
unfoldable pub ins_term : ℤ → List ℕ → Poly → Poly
unfolding same_vars under_vars
ins_term c m [] = term c m ∷ []
ins_term c m (term d n ∷ p) =
    elim (same_vars m n) [
      | true ↦ term (c +ℤ d) m ∷ p
      | false ↦ elim (under_vars m n) [ true ↦ term c m ∷ term d n ∷ p | false ↦ term d n ∷ ins_term c m p ]
    ]

unfoldable pub add_poly : Poly → Poly → Poly
unfolding ins_term
add_poly [] q = q
add_poly (term c m ∷ p) q = ins_term c m (add_poly p q)

unfoldable pub neg_poly : Poly → Poly
neg_poly [] = []
neg_poly (term c m ∷ p) = term (neg_ℤ c) m ∷ neg_poly p

unfoldable pub mul_term : ℤ → List ℕ → Poly → Poly
unfolding ins_term mul_vars
mul_term c m [] = []
mul_term c m (term d n ∷ p) = ins_term (c *ℤ d) (mul_vars m n) (mul_term c m p)

unfoldable pub mul_poly : Poly → Poly → Poly
unfolding add_poly mul_term
mul_poly [] q = []
mul_poly (term c m ∷ p) q = add_poly (mul_term c m q) (mul_poly p q)

unfoldable pub norm : Expr → Poly
unfolding add_poly neg_poly mul_poly
norm (var i) = term (pos 1) (i ∷ []) ∷ []
norm (num c) = term c [] ∷ []
norm (e :+ f) = add_poly (norm e) (norm f)
norm (e :- f) = add_poly (norm e) (neg_poly (norm f))
norm (e :* f) = mul_poly (norm e) (norm f)
norm (neg e) = neg_poly (norm e)

-- every term of a sum has the number 0
unfoldable pub is_zero : ℤ → Bool
is_zero (pos n) = eqb n 0
is_zero (negsuc n) = false

unfoldable pub all_zero : Poly → Bool
unfolding is_zero
all_zero [] = true
all_zero (term c m ∷ p) = is_zero c && all_zero p

-- two normal forms whose difference has no term left
unfoldable pub same : Poly → Poly → Bool
unfolding add_poly neg_poly all_zero
same p q = all_zero (add_poly p (neg_poly q))

-- ---- each step keeps the value

module _ (env : List ℤ) where
  ins_var_sound : (i : ℕ) (m : List ℕ) → eval_vars env (ins_var i m) ≡ get_or env i (pos 0) *ℤ eval_vars env m
  unfolding ins_var
  ins_var_sound i [] = refl
  ins_var_sound i (j ∷ m) = go (leb i j) (ins_var_sound i m)
    where
      go : (b : Bool) → eval_vars env (ins_var i m) ≡ get_or env i (pos 0) *ℤ eval_vars env m
          → eval_vars env (elim b as (λ _. List ℕ) [ true ↦ i ∷ j ∷ m | false ↦ j ∷ ins_var i m ]) ≡ get_or env i (pos 0) *ℤ (get_or env j (pos 0) *ℤ eval_vars env m)
      go true h = refl
      go false h = ap (λ (x : ℤ). get_or env j (pos 0) *ℤ x) h ∙ *ℤ_left_comm (get_or env j (pos 0)) (get_or env i (pos 0)) (eval_vars env m)

  mul_vars_sound : (m n : List ℕ) → eval_vars env (mul_vars m n) ≡ eval_vars env m *ℤ eval_vars env n
  unfolding mul_vars
  mul_vars_sound [] n = sym (one_*ℤ (eval_vars env n))
  mul_vars_sound (i ∷ m) n =
      ins_var_sound i (mul_vars m n) ∙ ap (λ (x : ℤ). get_or env i (pos 0) *ℤ x) (mul_vars_sound m n)
      ∙ sym (*ℤ_assoc (get_or env i (pos 0)) (eval_vars env m) (eval_vars env n))

  same_vars_sound : (m n : List ℕ) → same_vars m n ≡ true → eval_vars env m ≡ eval_vars env n
  unfolding same_vars
  same_vars_sound [] [] h = refl
  same_vars_sound [] (j ∷ n) h = clash h refl
  same_vars_sound (i ∷ m) [] h = clash h refl
  same_vars_sound (i ∷ m) (j ∷ n) h = go (eqb i j) (eqb→eq i j) (same_vars_sound m n) h
    where
      go : (b : Bool) → (T b → i ≡ j) → (same_vars m n ≡ true → eval_vars env m ≡ eval_vars env n)
          → (elim b as (λ _. Bool) [ true ↦ same_vars m n | false ↦ false ]) ≡ true
          → get_or env i (pos 0) *ℤ eval_vars env m ≡ get_or env j (pos 0) *ℤ eval_vars env n
      go true e r k = ap₂ (λ (x : ℕ) (y : ℤ). get_or env x (pos 0) *ℤ y) (e tt) (r k)
      go false e r k = clash k refl

  ins_term_sound : (c : ℤ) (m : List ℕ) (p : Poly) → eval_norm env (ins_term c m p) ≡ c *ℤ eval_vars env m +ℤ eval_norm env p
  unfolding ins_term
  ins_term_sound c m [] = refl
  ins_term_sound c m (term d n ∷ p) = go (same_vars m n) (under_vars m n) (same_vars_sound m n) (ins_term_sound c m p)
    where
      go : (b u : Bool) → (b ≡ true → eval_vars env m ≡ eval_vars env n) → eval_norm env (ins_term c m p) ≡ c *ℤ eval_vars env m +ℤ eval_norm env p
          → eval_norm env
          (elim b as (λ _. Poly) [
            | true ↦ term (c +ℤ d) m ∷ p
            | false ↦ elim u as (λ _. Poly) [ true ↦ term c m ∷ term d n ∷ p | false ↦ term d n ∷ ins_term c m p ]
          ])
          ≡ c *ℤ eval_vars env m +ℤ (d *ℤ eval_vars env n +ℤ eval_norm env p)
      go true u s h =
          ap (λ (x : ℤ). x +ℤ eval_norm env p) (*ℤ_+ℤ_right c d (eval_vars env m)) ∙ +ℤ_assoc (c *ℤ eval_vars env m) (d *ℤ eval_vars env m) (eval_norm env p)
          ∙ ap (λ (x : ℤ). c *ℤ eval_vars env m +ℤ (d *ℤ x +ℤ eval_norm env p)) (s refl)
      go false true s h = refl
      go false false s h =
          ap (λ (x : ℤ). d *ℤ eval_vars env n +ℤ x) h ∙ +ℤ_left_comm (d *ℤ eval_vars env n) (c *ℤ eval_vars env m) (eval_norm env p)

  add_poly_sound : (p q : Poly) → eval_norm env (add_poly p q) ≡ eval_norm env p +ℤ eval_norm env q
  unfolding add_poly
  add_poly_sound [] q = sym (+ℤ_idl (eval_norm env q))
  add_poly_sound (term c m ∷ p) q =
      ins_term_sound c m (add_poly p q) ∙ ap (λ (x : ℤ). c *ℤ eval_vars env m +ℤ x) (add_poly_sound p q)
      ∙ sym (+ℤ_assoc (c *ℤ eval_vars env m) (eval_norm env p) (eval_norm env q))

  neg_poly_sound : (p : Poly) → eval_norm env (neg_poly p) ≡ neg_ℤ (eval_norm env p)
  unfolding neg_poly
  neg_poly_sound [] = refl
  neg_poly_sound (term c m ∷ p) =
      ap₂ (λ (x y : ℤ). x +ℤ y) (negℤ_*ℤ c (eval_vars env m)) (neg_poly_sound p) ∙ sym (neg_ℤ-+ℤ (c *ℤ eval_vars env m) (eval_norm env p))

  mul_term_sound : (c : ℤ) (m : List ℕ) (p : Poly) → eval_norm env (mul_term c m p) ≡ (c *ℤ eval_vars env m) *ℤ eval_norm env p
  unfolding mul_term
  mul_term_sound c m [] = sym (*ℤ-zero (c *ℤ eval_vars env m))
  mul_term_sound c m (term d n ∷ p) =
      ins_term_sound (c *ℤ d) (mul_vars m n) (mul_term c m p)
      ∙ ap₂ (λ (x y : ℤ). (c *ℤ d) *ℤ x +ℤ y) (mul_vars_sound m n) (mul_term_sound c m p)
      ∙ ap (λ (x : ℤ). x +ℤ (c *ℤ eval_vars env m) *ℤ eval_norm env p) (*ℤ_cross c d (eval_vars env m) (eval_vars env n))
      ∙ sym (*ℤ_+ℤ_left (c *ℤ eval_vars env m) (d *ℤ eval_vars env n) (eval_norm env p))

  mul_poly_sound : (p q : Poly) → eval_norm env (mul_poly p q) ≡ eval_norm env p *ℤ eval_norm env q
  unfolding mul_poly
  mul_poly_sound [] q = sym (zero-*ℤ (eval_norm env q))
  mul_poly_sound (term c m ∷ p) q =
      add_poly_sound (mul_term c m q) (mul_poly p q)
      ∙ ap₂ (λ (x y : ℤ). x +ℤ y) (mul_term_sound c m q) (mul_poly_sound p q)
      ∙ sym (*ℤ_+ℤ_right (c *ℤ eval_vars env m) (eval_norm env p) (eval_norm env q))

  sub_poly_sound : (p q : Poly) → eval_norm env (add_poly p (neg_poly q)) ≡ eval_norm env p -ℤ eval_norm env q
  sub_poly_sound p q = add_poly_sound p (neg_poly q) ∙ ap (λ (x : ℤ). eval_norm env p +ℤ x) (neg_poly_sound q)

  -- the normal form has the value of the expression
  pub norm_sound : (e : Expr) → eval env e ≡ eval_norm env (norm e)
  unfolding norm
  norm_sound (var i) = sym (+ℤ_idr (pos 1 *ℤ (get_or env i (pos 0) *ℤ pos 1)) ∙ one_*ℤ (get_or env i (pos 0) *ℤ pos 1) ∙ *ℤ_1 (get_or env i (pos 0)))
  norm_sound (num c) = sym (+ℤ_idr (c *ℤ pos 1) ∙ *ℤ_1 c)
  norm_sound (e :+ f) = ap₂ (λ (x y : ℤ). x +ℤ y) (norm_sound e) (norm_sound f) ∙ sym (add_poly_sound (norm e) (norm f))
  norm_sound (e :- f) = ap₂ (λ (x y : ℤ). x -ℤ y) (norm_sound e) (norm_sound f) ∙ sym (sub_poly_sound (norm e) (norm f))
  norm_sound (e :* f) = ap₂ (λ (x y : ℤ). x *ℤ y) (norm_sound e) (norm_sound f) ∙ sym (mul_poly_sound (norm e) (norm f))
  norm_sound (neg e) = ap neg_ℤ (norm_sound e) ∙ sym (neg_poly_sound (norm e))

  is_zero_sound : (c : ℤ) → is_zero c ≡ true → c ≡ pos 0
  unfolding is_zero
  is_zero_sound (pos n) h = ap pos (eqb→eq n 0 (true_T (eqb n 0) h))
  is_zero_sound (negsuc n) h = clash h refl

  all_zero_sound : (p : Poly) → all_zero p ≡ true → eval_norm env p ≡ pos 0
  unfolding all_zero
  all_zero_sound [] h = refl
  all_zero_sound (term c m ∷ p) h =
      let both = and_true (is_zero c) (all_zero p) h in
      ap₂ (λ (x y : ℤ). x *ℤ eval_vars env m +ℤ y) (is_zero_sound c both.0) (all_zero_sound p both.1)
      ∙ ap (λ (x : ℤ). x +ℤ pos 0) (zero-*ℤ (eval_vars env m))

  same_sound : (p q : Poly) → T (same p q) → eval_norm env p ≡ eval_norm env q
  unfolding same
  same_sound p q t =
      same_of_less (eval_norm env p) (eval_norm env q)
      (sym (sub_poly_sound p q) ∙ all_zero_sound (add_poly p (neg_poly q)) (T_true (all_zero (add_poly p (neg_poly q))) t))

-- two expressions with the same normal form are equal, whatever the variables are
pub solve : (e f : Expr) → T (same (norm e) (norm f)) → (env : List ℤ) → eval env e ≡ eval env f
solve e f t env = norm_sound env e ∙ same_sound env (norm e) (norm f) t ∙ sym (norm_sound env f)

-- as an example: the difference of two squares
pub squares : (a b : ℤ) → (a +ℤ b) *ℤ (a -ℤ b) ≡ a *ℤ a -ℤ b *ℤ b
unfolding norm same
squares a b = solve ((var 0 :+ var 1) :* (var 0 :- var 1)) (var 0 :* var 0 :- var 1 :* var 1) tt (a ∷ b ∷ [])
