-- What a record laid on does to the fields, over any kind whose fields are lawful: two records of different fields may change places, and
-- of two records of one field the later one counts. Assumes nothing.
use mathlib.Core.Path.{◌≡◌, sym, ap, ◌∙◌}
use mathlib.Core.Logic.{inl, inr}
use Prim.Native.Nat.{ℕ, ◌<◌}
use mathlib.Core.List.{List}
use native.Mathlib.Omega.{arith}
use Rattle.wire.specs.Bytes.{u32_at, u32_bytes, put_u32}
use Rattle.wire.proofs.Put.{put_put, put_comm}
use Rattle.wire.proofs.Numbers.{length_u32, u32_here, u32_other}
use Rattle.record.specs.declared.Rec.{Rec}
use Rattle.laying.specs.Kind.{Kind, lay}
use Rattle.laying.specs.Fields.{Field, field_of, Has, field_at, ShareNoByte, RightFloor, LawfulFields}

-- two numbers written to places that share no byte may change places
writes_comm : (fl : List ℕ) (a v b w : ℕ) → ShareNoByte a b → put_u32 (put_u32 fl a v) b w ≡ put_u32 (put_u32 fl b w) a v
writes_comm fl a v b w (inl l) = put_comm (u32_bytes v) (u32_bytes w) fl a b (omega (arith, length_u32 v))
writes_comm fl a v b w (inr l) = sym (put_comm (u32_bytes w) (u32_bytes v) fl b a (omega (arith, length_u32 w)))

module _ (K : Kind) (F : LawfulFields K) (fl : List ℕ) (r : Rec) (right : RightFloor K fl) (has : Has K fl (field_of r)) where
  -- the floor still has every field that it had
  pub has_after : (x : Field) → Has K fl x → Has K (lay K fl r) x
  has_after x h = rw (F.counts fl r right has x.tag) h

  -- in the record's own field stands its new word, in every other one what stood there
  pub word_here : r.new < 4294967296 → u32_at (lay K fl r) (field_at K (lay K fl r) (field_of r)) ≡ r.new
  word_here l = rw (F.fields fl r right has (field_of r)) (unfold lay in u32_here fl (field_at K fl (field_of r)) r.new (F.within fl (field_of r) right has) l)

  pub word_elsewhere : (x : Field) → Has K fl x → (x ≡ field_of r → ⊥) → u32_at (lay K fl r) (field_at K (lay K fl r) x) ≡ u32_at fl (field_at K fl x)
  word_elsewhere x h n =
      rw (F.fields fl r right has x) (unfold lay in u32_other fl (field_at K fl (field_of r)) r.new (field_at K fl x) (F.apart fl x (field_of r) right h has n))

  -- DIFFERENT FIELDS
  pub lay_comm : (q : Rec) → Has K fl (field_of q) → (field_of r ≡ field_of q → ⊥) → lay K (lay K fl r) q ≡ lay K (lay K fl q) r
  unfolding lay
  lay_comm q h n =
      rw (F.fields fl r right has (field_of q), F.fields fl q right h (field_of r))
      (writes_comm fl (field_at K fl (field_of r)) r.new (field_at K fl (field_of q)) q.new (F.apart fl (field_of r) (field_of q) right has h n))

  -- ONE FIELD
  pub lay_later : (q : Rec) → field_of r ≡ field_of q → lay K (lay K fl r) q ≡ lay K fl q
  unfolding lay
  lay_later q e =
      rw (F.fields fl r right has (field_of q), ap (field_at K fl) e)
      (put_put (u32_bytes r.new) (u32_bytes q.new) fl (field_at K fl (field_of q)) (length_u32 r.new ∙ sym (length_u32 q.new)))
