-- Entry by entry, each a run of words: the first wild float of the table, and where it lies.
use Rattle.std.proofs.Common.{arith, ap, refl, subst, sym, ◌∙◌, ◌≡◌, ◌+◌, ◌*◌, ℕ, Some}
use native.Mathlib.Nat.{zero-mul}
use Rattle.verdict.specs.Lowest.{lowest}
use Rattle.verdict.proofs.Lowest.{lowest_none}
use Rattle.verdict.proofs.Results.{some_lowest, none_lowest, found_place, no_place}
use Rattle.tables.specs.Tables.{entry_at}
use Rattle.tables.specs.Parts.{parts_of, count_of, word_place}
use Rattle.mesh.specs.Floats.{wild_in, float_place}
use Rattle.mesh.proofs.Wild.{entry_of, entry_in, floats_inside, entry_none, entry_hit}
use Rattle.mesh.proofs.first_wild.Goals as goal

pub loop-i-init : goal.loop-i-init
loop-i-init c = rw zero-mul (lowest_none _)

pub first_wild_word-requires : goal.first_wild_word-requires
unfolding entry_at
first_wild_word-requires c =
    let r = c.requires in
    let inside = floats_inside c.args.bytes.now c.args.k r.1 c.args.per r.3 c.loop-i.i (omega arith) r.0 in
    rw (c.start_of-start.ensures.0, c.table_at-size.ensures.0) inside

pub place_of-requires : goal.place_of-requires
place_of-requires c =
    let r = c.requires in
    let e = some_lowest _ _ _ c.in-Some.ensures in
    (r.0, r.1, omega arith, omega arith)

pub returns-in-Some : goal.returns-in-Some
unfolding entry_at
returns-in-Some c =
    let r = c.requires in
    let a = c.args in
    let e = some_lowest _ _ _ c.in-Some.ensures in
    let at = entry_of c.loop-i.i c.in-Some.e a.per e.1 in
    let hit = entry_hit a.bytes.now a.k r.1 a.per r.3 c.loop-i.i (omega arith) c.loop-i.invariant (rw (c.start_of-start.ensures.0, c.table_at-size.ensures.0) refl) e.0 e.1 in
    let m = entry_in c.loop-i.i c.in-Some.e (count_of (parts_of a.bytes.now) a.k) a.per (omega arith) e.1 in
    let there : c.place_of.result ≡ float_place (word_place a.bytes.now) a.k a.per (c.loop-i.i * a.per + c.in-Some.e) = rw (at.0, at.1) c.place_of.ensures.0 in
    record {
      place = ap Some there ∙ found_place _ (wild_in (parts_of a.bytes.now) a.k a.per) (float_place (word_place a.bytes.now) a.k a.per) _ hit m;
      inside = omega arith;
    }

pub loop-i-preserved : goal.loop-i-preserved
unfolding entry_at
loop-i-preserved c =
    let r = c.requires in
    let a = c.args in
    let none = none_lowest _ _ c.in_default.ensures in
    entry_none a.bytes.now a.k r.1 a.per r.3 c.loop-i.i (omega arith) c.loop-i.invariant (rw (c.start_of-start.ensures.0, c.table_at-size.ensures.0) refl) (sym none) (omega arith)

pub returns : goal.returns
returns c =
    let end : c.loop-i.i ≡ count_of (parts_of c.args.bytes.now) c.args.k = omega arith in
    record {
      place = no_place _ _ _ (subst (λ (n : ℕ). lowest (n * c.args.per) (wild_in (parts_of c.args.bytes.now) c.args.k c.args.per) ≡ n * c.args.per) end c.loop-i.invariant);
      inside = tt;
    }
