-- What the calls answer, case by case. Assumes nothing.
use mathlib.Core.Path.{◌≡◌, refl, sym}
use mathlib.Core.List.{List}
use Prim.Native.Nat.{ℕ, ◌≤◌}
use lib.ListN.{length}
use Rattle.verdict.specs.declared.Form.{Form}
use Rattle.verdict.specs.Verdict.{accepted}
use Rattle.verdict.proofs.Verdict.{then_next}
use Rattle.verdict.proofs.Results.{accepts}
use Rattle.verdict.proofs.Output.{Answers, third_decides}
use Rattle.text.specs.Reading.{Word}
use Rattle.text.specs.Written.{rule40}
use Rattle.names.proofs.NameLaws.{name_long}
use Rattle.layout.specs.Layout.{layout_verdict}
use Rattle.rooms.specs.Rooms.{name_verdict}
use Rattle.layoutform.specs.Form.{parts_of, form_text, longest_form}
use Rattle.layoutform.specs.Rewrite.{renamed, renamed_form, rewrite_verdict, rename_verdict}
use Rattle.layoutform.proofs.PartLaws.{parts_good}
use Rattle.layoutform.proofs.FormTrip.{form_within}
use Rattle.layoutform.proofs.LengthLaws.{form_short}
use Rattle.layoutform.proofs.RenameLaws.{renamed_own, renamed_good, Names, names}

module _ (s : List ℕ) where
  -- ---- rewriting

  own_name : (w : Word) → renamed (parts_of s) 64 w ≡ parts_of s
  own_name w = renamed_own (parts_of s) (parts_good s) 64 w (parts_good s).few_rooms

  pub own_short : (w : Word) → length (renamed_form s 64 w) ≤ longest_form
  own_short w = rw (own_name w) (form_within s)

  pub rewrite_by : (w : Word) (f : Form) (new o : List ℕ) → accepted ≡ layout_verdict s → Answers f new (rule40 (renamed_form s 64 w) (length o)) (renamed_form s 64 w) o → Answers f new (rewrite_verdict s (length o)) (form_text (parts_of s)) o
  unfolding rewrite_verdict
  rewrite_by w f new o e h =
      let n = then_next (layout_verdict s) (rule40 (form_text (parts_of s)) (length o)) (accepts e) in
      rw n (rw (own_name w) at h)

  -- ---- with another name, where its verdict accepts

  module _ (i : ℕ) (w : Word) (e : accepted ≡ name_verdict s i w) where
    named : Names s i w
    named = names s i w (accepts e)

    pub rename_name : length w ≤ 16
    rename_name = (name_long w named.name).1

    pub rename_short : length (renamed_form s i w) ≤ longest_form
    rename_short = form_short (renamed (parts_of s) i w) (renamed_good s i w named.name named.new)

    pub rename_by : (f : Form) (new o : List ℕ) → accepted ≡ layout_verdict s → Answers f new (rule40 (renamed_form s i w) (length o)) (renamed_form s i w) o → Answers f new (rename_verdict s i w (length o)) (renamed_form s i w) o
    unfolding rename_verdict
    rename_by f new o d = third_decides (layout_verdict s) _ _ f new (renamed_form s i w) o accepted (sym d) e refl
