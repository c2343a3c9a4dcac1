-- Rule 40: a form that is too long, one that does not fit into the output, and one that does. A dry run tells its length. Assumes nothing.
use mathlib.Core.Path.{◌≡◌, refl}
use mathlib.Core.List.{List, [], ◌++◌}
use Prim.Native.Nat.{ℕ, ◌≤◌, ◌<◌}
use native.Mathlib.Omega.{arith}
use lib.ListN.{length}
use lib.Dec.{ltb}
use borrow.Author.Tests.{lt-ltb, le-ltb}
use Rattle.verdict.specs.Verdict.{accepted, refused, rule}
use Rattle.verdict.specs.Output.{over, no_form}
use Rattle.verdict.specs.declared.Form.{Form}
use Rattle.verdict.proofs.Bools.{test}
use Rattle.verdict.proofs.Output.{Answers, refused_form, form_written}
use Rattle.printer.specs.Write.{Wrote}
use Rattle.text.specs.Written.{rule40}
use Rattle.printer.proofs.WriteLaws.{wrote_whole, dry_run}

broken_40 : (text : List ℕ) (room : ℕ) → room < length text → rule40 text room ≡ refused 40 0
unfolding rule40 rule
broken_40 text room h = rw (lt-ltb room (length text) h)

over_40 : (text : List ℕ) (room : ℕ) → 65536 < length text → rule40 text room ≡ refused 40 0
unfolding rule40 rule
over_40 text room h = rw (lt-ltb 65536 (length text) h) (test (ltb room (length text)) (λ e. rw e) (λ e. rw e))

met_40 : (text : List ℕ) (room : ℕ) → length text ≤ room → length text ≤ 65536 → rule40 text room ≡ accepted
unfolding rule40 rule
met_40 text room h k = rw (le-ltb room (length text) h, le-ltb 65536 (length text) k)

laid : {o new text : List ℕ} {m : ℕ} → Wrote o new 0 m text → length text ≤ length o → new ≡ over text o
unfolding over
laid w h = wrote_whole w h

module _ (text o part : List ℕ) (n : ℕ) (w : Wrote [] part 0 n text) where
  pub too_long : 65536 < n → (f : Form) → f ≡ no_form 40 0 → Answers f (part ++ o) (rule40 text (length o)) text o
  too_long h f e =
      let z : part ≡ [] = dry_run w in
      rw z (refused_form (rule40 text (length o)) text o 40 0 (over_40 text (length o) (omega (arith, w.next))) (λ y. omega arith) f e)

  pub too_short : length (part ++ o) < n → (f : Form) → f ≡ no_form 40 0 → Answers f (part ++ o) (rule40 text (length o)) text o
  too_short h f e =
      let z : part ≡ [] = dry_run w in
      let l : length o < n = rw z at h in
      rw z (refused_form (rule40 text (length o)) text o 40 0 (broken_40 text (length o) (omega (arith, w.next))) (λ y. omega arith) f e)

  pub long_enough : (new : List ℕ) (m : ℕ) → n ≤ 65536 → n ≤ length (part ++ o) → Wrote (part ++ o) new 0 m text → Answers (record { number = 0; place = 0; length = m }) new (rule40 text (length o)) text o
  long_enough new m short h q =
      let z : part ≡ [] = dry_run w in
      let l : n ≤ length o = rw z at h in
      let v : Wrote o new 0 m text = rw z at q in
      let a : rule40 text (length o) ≡ accepted = met_40 text (length o) (omega (arith, w.next)) (omega (arith, w.next)) in
      let b : new ≡ over text o = laid v (omega (arith, w.next)) in
      rw (a, b) (form_written accepted text o m refl refl (omega (arith, v.next)))
