-- What `s.iter().take_while(..).count()` answers, where the closure computes a test: the leading run. Assumes nothing.
use mathlib.Core.Path.{◌≡◌, ◌∙◌}
use mathlib.Core.Bool.{Bool, false}
use mathlib.Core.List.{List}
use Prim.Native.Nat.{ℕ}
use lib.ListN.{length}
use denote.Ref.{Bor}
use denote.Param.Members.{Mut}
use Rattle.std.specs.declared.slice.Iter.{Iter}
use Rattle.std.specs.declared.iter.TakeWhile.{TakeWhile}
use Rattle.std.specs.Iterator.{Drains}
use Rattle.std.specs.Iterator.Adapters.{take_while_source, take_while_callee, take_while_done, take_while_steps}
use Rattle.std.specs.Slice.Iter.{iter_rest}
use Rattle.std.specs.Fn.{CalledAt}
use Rattle.std.proofs.iter.Yields.{fronts}
use Rattle.std.proofs.lemmas.Iterator.{YieldsList-from_slice}
use Rattle.std.proofs.lemmas.Iterator.Consumers.{count_from_yields_List}
use Rattle.std.proofs.lemmas.Iterator.Search.{YieldsList-from_take_while}
use Rattle.text.specs.Scan.{run}
use Rattle.text.proofs.RunLaws.{run_is_front}

pub count_is_run : {F : Type 0} {g : Mut F (Bor (Bor ℕ) × Unit {0}) Bool} (p : ℕ → Bool) (s : List ℕ) (w : TakeWhile (Iter ℕ) F) (f : F) (r : ℕ)
    → iter_rest (take_while_source w) ≡ s → take_while_callee w ≡ f → take_while_done w ≡ false
    → (xs : List (Bor ℕ)) × Drains (take_while_steps fronts g) w xs × (r ≡ length xs)
    → ((b : Bor ℕ) (t : Bool) (q : F) → CalledAt g f b t q → (q ≡ f) × (t ≡ p b.now)) → r ≡ run p s
count_is_run p s w f r rest callee done ran does = count_from_yields_List w r ran (YieldsList-from_take_while _ p (YieldsList-from_slice s rest) callee done does) ∙ run_is_front p s
