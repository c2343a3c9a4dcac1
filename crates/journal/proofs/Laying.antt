-- The laws of records on a lawful kind of floor: the test of 27 is the statement; what was laid on can be taken back, and then the floor
-- is what it was; and records of different fields fit in either order. Assumes nothing.
use mathlib.Core.Path.{◌≡◌, refl, sym, subst, ◌∙◌}
use mathlib.Core.Bool.{true}
use Prim.Native.Nat.{ℕ, ◌<◌}
use mathlib.Core.List.{List}
use native.Mathlib.Omega.{arith}
use borrow.Author.Tests.{lt-ltb, eq-eqb}
use Rattle.wire.specs.Bytes.{u32_at}
use Rattle.wire.proofs.Numbers.{u32_small, put_back}
use Rattle.record.specs.declared.Rec.{Rec}
use Rattle.record.specs.Record.{Sized, body, flip}
use Rattle.laying.specs.Kind.{Kind, lay, fits}
use Rattle.laying.specs.Fields.{field_of, field_at}
use Rattle.laying.proofs.Fields.{has_after, word_here, word_elsewhere, lay_later}
use Rattle.journal.specs.Lawful.{Lawful, Fits}

pub fits_is : (K : Kind) (fl : List ℕ) (r : Rec) → Fits K fl r → fits K fl r ≡ true
unfolding fits
fits_is K fl r o =
    rw (
      eq-eqb r.len body o.len,
      lt-ltb r.place (K.count fl r.tag) o.inside,
      eq-eqb (u32_at fl (K.field fl r.tag r.place)) r.old o.same,
      o.kind,
    )

module _ (K : Kind) (A : List ℕ → Type 0) (L : Lawful K A) (fl : List ℕ) (r : Rec) (a : A fl) (o : Fits K fl r) where
  old_word : r.old < 4294967296
  old_word = rw (← o.same) (u32_small fl (L.bytes fl a) (K.field fl r.tag r.place))

  pub fits_sized : r.bench < 256 → Sized r
  fits_sized h = record {
    tag = L.fields.tags fl (field_of r) (L.right fl a) o.inside;
    len = omega (arith, o.len);
    bench = h;
    place = L.fields.places fl (field_of r) (L.right fl a) o.inside;
    old = old_word;
    new = o.word;
  }

  -- what was laid on can be taken back
  pub fits_flip : Fits K (lay K fl r) (flip r)
  fits_flip = record {
    len = o.len;
    inside = has_after K L.fields fl r (L.right fl a) o.inside (field_of r) o.inside;
    same = word_here K L.fields fl r (L.right fl a) o.inside o.word;
    kind = o.back;
    back = o.kind;
    word = old_word;
  }

  -- and then the floor is what it was
  pub lay_flip : lay K (lay K fl r) (flip r) ≡ fl
  lay_flip = lay_later K L.fields fl r (L.right fl a) o.inside (flip r) refl ∙ old_laid
    where
      old_laid : lay K fl (flip r) ≡ fl
      old_laid = unfold lay in rw (← o.same) (put_back fl (field_at K fl (field_of r)) (L.bytes fl a))

  -- DIFFERENT FIELDS: what fitted before still fits
  pub fits_after : (q : Rec) → Fits K fl q → (field_of r ≡ field_of q → ⊥) → Fits K (lay K fl r) q
  fits_after q p n = record {
    len = p.len;
    inside = has_after K L.fields fl r (L.right fl a) o.inside (field_of q) p.inside;
    same = word_elsewhere K L.fields fl r (L.right fl a) o.inside (field_of q) p.inside (λ e. n (sym e)) ∙ p.same;
    kind = p.kind;
    back = p.back;
    word = p.word;
  }

-- and what fits after another of a different field fitted before it
pub fits_before : (K : Kind) (A : List ℕ → Type 0) (L : Lawful K A) (fl : List ℕ) (r q : Rec) → A fl → Fits K fl r → Fits K (lay K fl r) q
    → (field_of r ≡ field_of q → ⊥) → Fits K fl q
fits_before K A L fl r q a o p n =
    subst (λ (x : List ℕ). Fits K x q) (lay_flip K A L fl r a o) (fits_after K A L (lay K fl r) (flip r) (L.keeps fl r a o) (fits_flip K A L fl r a o) q p n)
