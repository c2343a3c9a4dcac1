-- Layouts that are alike but for the name of one room: every link check is the same. Assumes nothing.
use mathlib.Core.Path.{◌≡◌, sym, ◌∙◌}
use mathlib.Core.List.{List}
use Prim.Native.Nat.{ℕ}
use Rattle.layout.specs.Layout.{layout_verdict}
use Rattle.layout.proofs.ReadLaws.{verdict_proper}
use Rattle.links.specs.Links.{link_verdict}
use Rattle.screens.specs.Alike.{AlikeLayouts}
use Rattle.screens.proofs.NameLaws.{alike_names}

module _ (j : ℕ) (v w : List ℕ) (a : AlikeLayouts j v w) where
  layout_verdicts : layout_verdict v ≡ layout_verdict w
  layout_verdicts = (verdict_proper v).at_0 a.reads ∙ sym ((verdict_proper w).at_0 a.other_reads)

  -- for any floor and any work memory
  pub link_alike : (b : List ℕ) (room : ℕ) → link_verdict b room v ≡ link_verdict b room w
  unfolding link_verdict
  link_alike b room = rw (layout_verdicts, (alike_names j v w a).long)
