-- `layoutform::print::put_form` meets its contract. Assumes nothing.
use mathlib.Core.Logic.{inl}
use mathlib.Core.Path.{◌≡◌, refl, sym}
use native.Mathlib.Omega.{arith}
use Prim.Native.Nat.{◌+◌, ◌*◌, ◌^◌, ◌≤◌}
use borrow.Author.Rules.{rules}
use lib.ListN.{length}
use lib.Seq.{length-take-le}
use Rattle.text.specs.Written.{ended, spaced, after}
use Rattle.printer.proofs.WriteLaws.{wrote_long}
use Rattle.layout.specs.Grammar.{beginlayout, roomcount, trackcount, obstaclecount, doorhookcount, donelayout}
use Rattle.layout.specs.Starts.{told_layout}
use Rattle.layoutform.proofs.WholeLaws.{part_is, kept_rooms, kept_tracks, kept_obstacles, kept_hooks, old_right, form_wrote}
use Rattle.layoutform.proofs.print.put_form.Statement.{statement}
use Rattle.layoutform.proofs.print.put_form.Tie as tie

-- the array has its places
sized : (g : tie.Start) → length g.args.r.starts ≡ 256
sized g = search rules

-- ---- the calls, each seen from the next, and how far they come

abbrev start_of : tie.After-room_name-old → tie.Start
start_of c = c.before.before.before.before.before.before

abbrev old_of : tie.After-put_key-a → tie.After-room_name-old
old_of c = c.before.before.before.before

abbrev key_of : tie.After-put_section-b → tie.After-put_key-a
key_of c = c.before.before.before.before.before.before.before

abbrev rooms_of : tie.After-put_section-c → tie.After-put_section-b
rooms_of c = c.before.before.before.before.before.before.before

abbrev tracks_of : tie.After-put_section-d → tie.After-put_section-c
tracks_of c = c.before.before.before.before.before.before.before

abbrev obstacles_of : tie.After-put_section-e → tie.After-put_section-d
obstacles_of c = c.before.before.before.before.before.before.before

first : (c : tie.After-put_key-a) → c.put_key-a.result ≤ 14
unfolding ended spaced after
first c = omega (arith, c.put_key-a.ensures.next)

rooms : (c : tie.After-put_section-b) → c.put_section-b.result ≤ 14 + 2 ^ 14
rooms c = omega (arith, c.put_section-b.ensures.1, first (key_of c))

tracks : (c : tie.After-put_section-c) → c.put_section-c.result ≤ 14 + 2 * 2 ^ 14
tracks c = omega (arith, c.put_section-c.ensures.1, rooms (rooms_of c))

obstacles : (c : tie.After-put_section-d) → c.put_section-d.result ≤ 14 + 3 * 2 ^ 14
obstacles c = omega (arith, c.put_section-d.ensures.1, tracks (tracks_of c))

hooks : (c : tie.After-put_section-e) → c.put_section-e.result ≤ 14 + 4 * 2 ^ 14
hooks c = omega (arith, c.put_section-e.ensures.1, obstacles (obstacles_of c))

-- ---- what each call asks

array_share_prefix_starts : tie.Need-slice_bounds-starts-end
array_share_prefix_starts c = let g = c.before.before.before.before in omega (arith, sized g, g.requires.0.few_rooms)

slice_aggregate_room_name : tie.Need-slice_bounds-room_name-end
slice_aggregate_room_name c =
    let g = c.before.before.before.before.before in
    sym (length-take-le g.args.r.rooms g.args.r.starts (omega (arith, sized g, g.requires.0.few_rooms)))

slice_aggregate_put_section_2 : tie.Need-slice_bounds-put_section-end-2
slice_aggregate_put_section_2 c = let k = c.before.before.before.before.before.before in sym (sized (start_of (old_of k)))

put_section_requires : tie.Need-put_section-b-requires
put_section_requires c κs =
    let k = c.before.before.before.before.before.before in
    let o = old_of k in
    let g = start_of o in
    ((omega (arith, first k), (omega arith, g.requires.1)), (old_right g.args.s.now (told_layout g.args.r) (sized g) g.requires.0 _ _ o.room_name-old.ensures, kept_rooms _ _ (sized g) g.requires.0))

part_put_section_end : tie.Need-slice_bounds-put_section-end-4
part_put_section_end c = let r = c.before.before.before.before.before in omega (arith, sized (start_of (old_of (key_of r))))

put_section_requires_2 : tie.Need-put_section-c-requires
put_section_requires_2 c κs =
    let r = c.before.before.before.before.before.before in
    let g = start_of (old_of (key_of r)) in
    ((omega (arith, rooms r), (omega arith, g.requires.1)), (inl refl, rw (part_is _ _ (sized g) g.requires.0 64 192 (omega arith)) (kept_tracks _ _ (sized g) g.requires.0)))

part_put_section_end_2 : tie.Need-slice_bounds-put_section-end-6
part_put_section_end_2 c =
    let t = c.before.before.before.before.before in
    omega (arith, sized (start_of (old_of (key_of (rooms_of t)))))

put_section_requires_3 : tie.Need-put_section-d-requires
put_section_requires_3 c κs =
    let t = c.before.before.before.before.before.before in
    let g = start_of (old_of (key_of (rooms_of t))) in
    ((omega (arith, tracks t), (omega arith, g.requires.1)), (inl refl, rw (part_is _ _ (sized g) g.requires.0 128 128 (omega arith)) (kept_obstacles _ _ (sized g) g.requires.0)))

part_put_section_end_3 : tie.Need-slice_bounds-put_section-end-8
part_put_section_end_3 c =
    let o = c.before.before.before.before.before in
    omega (arith, sized (start_of (old_of (key_of (rooms_of (tracks_of o))))))

put_section_requires_4 : tie.Need-put_section-e-requires
put_section_requires_4 c κs =
    let o = c.before.before.before.before.before.before in
    let n = old_of (key_of (rooms_of (tracks_of o))) in
    let g = start_of n in
    ((omega (arith, obstacles o), (omega arith, g.requires.1)), (old_right g.args.s.now (told_layout g.args.r) (sized g) g.requires.0 _ _ n.room_name-old.ensures, rw (part_is _ _ (sized g) g.requires.0 192 64 (omega arith)) (kept_hooks _ _ (sized g) g.requires.0)))

put_key_requires_2 : tie.Need-put_key-requires
put_key_requires_2 c κs = let h = c.before.before.before.before.before in (omega (arith, hooks h), omega arith)

returns : tie.Need-returns
unfolding beginlayout roomcount trackcount obstaclecount doorhookcount donelayout
returns c =
    let d = c.before.before in
    let h = d.before.before.before.before.before.before in
    let o = obstacles_of h in
    let t = tracks_of o in
    let r = rooms_of t in
    let k = key_of r in
    let n = old_of k in
    let g = start_of n in
    form_wrote g.args.s.now (told_layout g.args.r) (sized g) g.requires.0 g.args.i _ n.room_name-old.ensures g.args.name.now
    k.put_key-a.ensures r.put_section-b.ensures.0 t.put_section-c.ensures.0 o.put_section-d.ensures.0 h.put_section-e.ensures.0 d.put_key.ensures

pub put_form_spec : {M : Type 1} → statement M
put_form_spec =
    tie.close
    (tie.spec
    array_share_prefix_starts
    slice_aggregate_room_name
    (search rules)
    (λ c. refl)
    (λ c κs. (omega arith, omega arith))
    slice_aggregate_put_section_2
    put_section_requires
    (λ c. omega arith)
    (search rules)
    part_put_section_end
    put_section_requires_2
    (λ c. omega arith)
    (search rules)
    part_put_section_end_2
    put_section_requires_3
    (λ c. omega arith)
    (search rules)
    part_put_section_end_3
    put_section_requires_4
    put_key_requires_2
    (λ c. wrote_long (returns c))
    returns)
