-- The laws of records laid on in turn, over any kind of floor and of record. Assumes nothing.
use mathlib.Core.Path.{◌≡◌, refl}
use mathlib.Core.List.{List, [], ◌∷◌, ◌++◌}
use Rattle.journal.specs.Replay.{lay_all, Chain}

module _ {F R : Type 0} (lay : F → R → F) where
  pub lay_all_none : (fl : F) → lay_all lay fl [] ≡ fl
  unfolding lay_all
  lay_all_none fl = refl

  -- replaying a joined list is replaying the first and then the second
  pub lay_all_append : (rs qs : List R) (fl : F) → lay_all lay fl (rs ++ qs) ≡ lay_all lay (lay_all lay fl rs) qs
  unfolding lay_all
  lay_all_append [] qs fl = refl
  lay_all_append (r ∷ rs) qs fl = lay_all_append rs qs (lay fl r)

  pub lay_all_snoc : (rs : List R) (r : R) (fl : F) → lay_all lay fl (rs ++ (r ∷ [])) ≡ lay (lay_all lay fl rs) r
  unfolding lay_all
  lay_all_snoc rs r fl = lay_all_append rs (r ∷ []) fl

  module _ (Fits : F → R → Type 0) where
    pub chain_none : (fl : F) → Chain lay Fits fl []
    unfolding Chain
    chain_none fl = tt

    pub chain_snoc : (rs : List R) (r : R) (fl : F) → Chain lay Fits fl rs → Fits (lay_all lay fl rs) r → Chain lay Fits fl (rs ++ (r ∷ []))
    unfolding Chain lay_all
    chain_snoc [] r fl c h = (h, tt)
    chain_snoc (q ∷ rs) r fl c h = (c.0, chain_snoc rs r (lay fl q) c.1 h)

    -- what one fitting record keeps, a run of them keeps
    pub chain_keeps : (A : F → Type 0) → ((fl : F) (r : R) → A fl → Fits fl r → A (lay fl r)) → (rs : List R) (fl : F) → Chain lay Fits fl rs → A fl → A (lay_all lay fl rs)
    unfolding Chain lay_all
    chain_keeps A keeps [] fl c a = a
    chain_keeps A keeps (r ∷ rs) fl c a = chain_keeps A keeps rs (lay fl r) c.1 (keeps fl r a c.0)
