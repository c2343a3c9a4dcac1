-- M-108's undo on a plain list: a record that shares its field with no later one is taken out from under them. The shorter list could
-- have come about, and its floor is the present floor with the record's old bytes written back. Assumes nothing.
use mathlib.Core.Path.{◌≡◌, sym}
use Prim.Native.Nat.{ℕ, suc, ◌+◌, ◌<◌}
use mathlib.Core.List.{List, [], ◌∷◌, ◌++◌}
use native.Mathlib.Omega.{arith}
use lib.ListN.{length, take, drop, length-drop}
use lib.Seq.{split_at, get_or-drop}
use Rattle.record.specs.declared.Rec.{Rec}
use Rattle.record.specs.Record.{flip, nothing}
use Rattle.laying.specs.Kind.{Kind, lay}
use Rattle.journal.specs.Lawful.{Lawful, Fits}
use Rattle.journal.specs.Replay.{lay_all, Chain}
use Rattle.holding.specs.Held.{listed}
use Rattle.journal.specs.Plain.{without}
use Rattle.laying.specs.Fields.{field_of}
use Rattle.laying.proofs.Fields.{lay_comm}
use Rattle.journal.proofs.Laying.{fits_flip, lay_flip, fits_after, fits_before}

module _ (K : Kind) (A : List ℕ → Type 0) (L : Lawful K A) where
  -- what taking a record out gives: the rest still chains; the record can be taken back from the floor that all of them leave, and that
  -- is the floor that the rest leaves
  pub record Out (fl : List ℕ) (all rest : List Rec) (r : Rec) : Type 0 where
    pub chain : Chain (lay K) (Fits K) fl rest
    pub fits : Fits K (lay_all (lay K) fl all) (flip r)
    pub floor : lay K (lay_all (lay K) fl all) (flip r) ≡ lay_all (lay K) fl rest

  -- the record stands first
  first_out : (ys : List Rec) (fl : List ℕ) (r : Rec) → A fl → Fits K fl r → Chain (lay K) (Fits K) (lay K fl r) ys
      → ((j : ℕ) → j < length ys → (field_of r ≡ field_of (listed ys j) → ⊥)) → Out fl (r ∷ ys) ys r
  unfolding Chain lay_all
  first_out [] fl r a o c d = record { chain = tt; fits = fits_flip K A L fl r a o; floor = lay_flip K A L fl r a o }
  first_out (y ∷ ys) fl r a o c d =
      let dy = d 0 (omega arith) in
      let fy = fits_before K A L fl r y a o c.0 dy in
      let e : lay K (lay K fl r) y ≡ lay K (lay K fl y) r = lay_comm K L.fields fl r (L.right fl a) o.inside y fy.inside dy in
      let t = first_out ys (lay K fl y) r (L.keeps fl y a fy) (fits_after K A L fl y a fy r o (λ e. dy (sym e))) (rw e at c.1) (λ j l. d (suc j) (omega arith)) in
      record { chain = (fy, t.chain); fits = rw e t.fits; floor = rw e t.floor }

  -- others stand before it
  taken_out : (xs : List Rec) (fl : List ℕ) (r : Rec) (ys : List Rec) → A fl → Chain (lay K) (Fits K) fl (xs ++ r ∷ ys)
      → ((j : ℕ) → j < length ys → (field_of r ≡ field_of (listed ys j) → ⊥)) → Out fl (xs ++ r ∷ ys) (xs ++ ys) r
  unfolding Chain lay_all
  taken_out [] fl r ys a c d = first_out ys fl r a c.0 c.1 d
  taken_out (x ∷ xs) fl r ys a c d =
      let t = taken_out xs (lay K fl x) r ys (L.keeps fl x a c.0) c.1 d in
      record { chain = (c.0, t.chain); fits = t.fits; floor = t.floor }

  -- THE THEOREM, by the record's number in the list
  pub out_of_list : (rs : List Rec) (i : ℕ) (fl : List ℕ) → A fl → Chain (lay K) (Fits K) fl rs → i < length rs
      → ((j : ℕ) → i < j → j < length rs → (field_of (listed rs i) ≡ field_of (listed rs j) → ⊥)) → Out fl rs (without i rs) (listed rs i)
  unfolding without
  out_of_list rs i fl a c l d =
      let e : rs ≡ take i rs ++ listed rs i ∷ drop (suc i) rs = split_at rs i nothing l in
      let later : (j : ℕ) → j < length (drop (suc i) rs) → field_of (listed rs i) ≡ field_of (listed (drop (suc i) rs) j) → ⊥ =
      λ j m. rw (get_or-drop (suc i) rs j nothing) (d (suc i + j) (omega arith) (omega (arith, length-drop (suc i) rs))) in
      rw (← e) at (taken_out (take i rs) fl (listed rs i) (drop (suc i) rs) a (rw e at c) later)
