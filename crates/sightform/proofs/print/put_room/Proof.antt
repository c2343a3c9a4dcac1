-- `sightform::print::put_room` meets its contract. Assumes nothing.
use mathlib.Core.Path.{refl}
use native.Mathlib.Omega.{arith}
use Prim.Native.Nat.{◌+◌, ◌≤◌}
use lib.Count.{ones, ones-le}
use Rattle.number.proofs.DigitLaws.{plain_short}
use Rattle.sight.proofs.FindLaws.{kept_short}
use Rattle.sightform.proofs.PrintLaws.{shown_short, room_wrote}
use borrow.Author.Rules.{rules}
use Rattle.sightform.proofs.print.put_room.Statement.{statement}
use Rattle.sightform.proofs.print.put_room.Tie as tie

-- ---- the calls, each seen from the next, and how far they come

abbrev start_of : tie.After-put_name-a → tie.Start
start_of c = c.before.before.before.before.before.before

abbrev name_of : tie.After-put_byte-b → tie.After-put_name-a
name_of c = c.before.before.before.before

abbrev blank_of : tie.After-put_plain-c → tie.After-put_byte-b
blank_of c = c.before.before.before.before

abbrev count_of : tie.After-put_byte-d → tie.After-put_plain-c
count_of c = c.before.before.before.before

named : (c : tie.After-put_name-a) → let g = start_of c in c.put_name-a.result ≤ g.args.at + 16
named c =
    let g = start_of c in
    let k = kept_short _ _ _ g.requires.1 g.args.k g.requires.0.1.1 in
    omega (arith, c.put_name-a.ensures.next, shown_short g.args.layout.now g.args.starts.now g.args.i g.args.name.now g.args.k g.requires.0.1.0 k)

headed : (c : tie.After-put_plain-c) → let g = start_of (name_of (blank_of c)) in c.put_plain-c.result ≤ g.args.at + 22
headed c =
    let b = blank_of c in
    let g = start_of (name_of b) in
    omega (arith, c.put_plain-c.ensures.next, plain_short (ones g.args.row), b.put_byte-b.ensures.next, named (name_of b))

-- ---- what each call asks

put_name_requires : tie.Need-put_name-a-requires
put_name_requires c κs =
    let g = c.before.before.before.before.before in
    (omega (arith, g.requires.0.0), (g.requires.0.1.0, kept_short _ _ _ g.requires.1 _ g.requires.0.1.1))

put_byte_requires : tie.Need-put_byte-b-requires
put_byte_requires c κs = let n = c.before.before.before in omega (arith, named n, (start_of n).requires.0.0)

cast_put_plain : tie.Need-overflow_cast-seen
cast_put_plain c =
    let b = c.before.before.before in
    record { fits = omega (arith, ones-le 64 _ (start_of (name_of b)).ranges.row.fits) }

put_plain_requires : tie.Need-put_plain-c-requires
put_plain_requires c κs = let b = c.before.before.before in omega (arith, b.put_byte-b.ensures.next, named (name_of b), (start_of (name_of b)).requires.0.0)

put_byte_requires_2 : tie.Need-put_byte-d-requires
put_byte_requires_2 c κs = let p = c.before.before.before in omega (arith, headed p, (start_of (name_of (blank_of p))).requires.0.0)

put_seen_requires : tie.Need-put_seen-requires
put_seen_requires c κs =
    let e = c.before.before.before in
    let p = count_of e in
    let g = start_of (name_of (blank_of p)) in
    (omega (arith, e.put_byte-d.ensures.next, headed p, g.requires.0.0), (g.requires.0.1.0, g.requires.1))

returns : tie.Need-returns
returns c =
    let s = c.before.before in
    let e = s.before.before.before.before in
    let p = count_of e in
    let b = blank_of p in
    let n = name_of b in
    let g = start_of n in
    (room_wrote _ _ _ _ _ g.requires.1 _ _ _ g.requires.0.1.1 refl n.put_name-a.ensures b.put_byte-b.ensures p.put_plain-c.ensures e.put_byte-d.ensures s.put_seen.ensures.0, omega (arith, s.put_seen.ensures.1, e.put_byte-d.ensures.next, headed p, g.requires.1.few))

pub put_room_spec : {M : Type 1} → statement M
put_room_spec =
    tie.close
    (tie.spec put_name_requires put_byte_requires cast_put_plain put_plain_requires put_byte_requires_2 put_seen_requires (search rules) returns)
