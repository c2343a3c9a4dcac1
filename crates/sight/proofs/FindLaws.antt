-- Finding the room that a word names among the rooms whose starts are kept. Assumes nothing.
use mathlib.Core.Path.{◌≡◌, sym, ap, ◌∙◌}
use mathlib.Core.Bool.{Bool, true, false}
use mathlib.Core.List.{List, []}
use Prim.Native.Nat.{ℕ, ◌≤◌, ◌<◌}
use native.Mathlib.Omega.{arith}
use lib.ListN.{length, get_or}
use borrow.Author.Tests.{lt-ltb}
use Rattle.std.specs.Prelude.{unwrap_or}
use Rattle.verdict.specs.Lowest.{lowest, any_under, first}
use Rattle.verdict.proofs.Bools.{test, clash}
use Rattle.verdict.proofs.Lowest.{lowest_all, lowest_same_lem, none_under}
use Rattle.names.specs.Name.{is_name, same_name}
use Rattle.text.specs.Reading.{Word}
use Rattle.names.proofs.NameLaws.{same_name_name, name_long}
use Rattle.layout.specs.Starts.{KeptEntries, kept_name, held}
use Rattle.layout.proofs.ApartLaws.{length_names}
use Rattle.layout.proofs.HeldLaws.{held_long, room_name_lem}
use Rattle.sight.specs.Grammar.{room_of}
use Rattle.sight.specs.Code.{kept_names}

-- the first of n numbers, or n where there is none
first_or_all : (n : ℕ) (p : ℕ → Bool) → unwrap_or (first n p) n ≡ lowest n p
unfolding first
first_or_all n p = test (any_under n p) (λ (e : any_under n p ≡ true). rw e) (λ (e : any_under n p ≡ false). rw e (sym (lowest_all p n (none_under p n e))))

-- room m has the name
abbrev pub has_name : List Word → Word → ℕ → Bool
has_name names w m = same_name w (get_or names m [])

module _ (s starts : List ℕ) (n : ℕ) (kept : KeptEntries s starts n) where
  pub names_long : length (kept_names s starts n) ≡ n
  names_long = length_names (held s starts n) ∙ held_long s starts n kept.inside

  -- the name at a kept start is the room's
  pub kept_is : (j : ℕ) → j < n → kept_name s starts j ≡ get_or (kept_names s starts n) j []
  unfolding kept_name
  kept_is j l = rw (lt-ltb j (length starts) (omega (arith, kept.inside))) (sym (room_name_lem s starts n j kept.inside l))

  -- it is a name, of at most 16 bytes
  pub kept_good : (j : ℕ) → j < n → is_name (kept_name s starts j) ≡ true
  unfolding kept_name
  kept_good j l = rw (lt-ltb j (length starts) (omega (arith, kept.inside))) (kept.name j l)

  pub kept_short : (j : ℕ) → j < n → length (kept_name s starts j) ≤ 16
  kept_short j l = (name_long _ (kept_good j l)).1

  -- a word that is no name names no room
  pub no_name_no_room : (w : Word) → is_name w ≡ false → n ≡ room_of (kept_names s starts n) w
  unfolding room_of
  no_name_no_room w e =
      sym (lowest_all (has_name (kept_names s starts n) w) _ (λ k l.
      let h : k < n = omega (arith, names_long) in
      test (has_name (kept_names s starts n) w k) (λ (q : has_name (kept_names s starts n) w k ≡ true). clash (same_name_name w _ q (rw (← kept_is k h) (kept_good k h))) e) (λ q. q)) ∙ names_long)

  -- what the search answers, which goes by the names at the kept starts
  pub found_room : (w : Word) → unwrap_or (first n (λ j. same_name w (kept_name s starts j))) n ≡ room_of (kept_names s starts n) w
  unfolding room_of
  found_room w =
      first_or_all n _
      ∙ lowest_same_lem n _ (λ j. same_name w (get_or (kept_names s starts n) j [])) (λ j l. ap (same_name w) (kept_is j l))
      ∙ rw names_long
