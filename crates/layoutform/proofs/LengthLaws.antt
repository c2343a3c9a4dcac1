-- How long the fixed form is at most. Assumes nothing.
use mathlib.Core.Path.{◌≡◌, refl, ap, ◌∙◌}
use mathlib.Core.Bool.{true}
use mathlib.Core.Logic.{⊎_elim}
use mathlib.Core.List.{List, [], ◌∷◌, ◌++◌, map}
use Prim.Native.Nat.{ℕ, suc, ◌+◌, ◌*◌, ◌≤◌}
use native.Mathlib.Omega.{arith}
use native.Mathlib.Decide.{ℕ_discrete}
use native.Mathlib.Nat.{suc-mul, mul-le-mul_right}
use lib.ListN.{length, length-append}
use borrow.Author.Tests.{eq-eqb, ne_eqb}
use Rattle.verdict.proofs.Bools.{decided}
use Rattle.number.specs.declared.Num.{Num}
use Rattle.number.specs.Number.{printed, plain, Said}
use Rattle.text.specs.Written.{after, spaced, ended, written}
use Rattle.text.proofs.WrittenLaws.{ended_long, written_append}
use Rattle.number.proofs.DigitLaws.{plain_short, printed_short, length_plain, width_two}
use Rattle.names.proofs.NameLaws.{name_long}
use Rattle.text.specs.Reading.{Word, Line}
use Rattle.layout.proofs.EntryWords.{hook_words, four_words}
use Rattle.layout.specs.Grammar.{names_in, entry_long, beginlayout, roomcount, trackcount, obstaclecount, doorhookcount, donelayout}
use Rattle.layoutform.specs.Form.{Entry, LayoutParts, entry_line, section, form, form_text, longest_line, longest_form}
use Rattle.verdict.proofs.Each.{Each, each_as}
use Rattle.layoutform.proofs.PartLaws.{GoodName, GoodEntry, GoodParts}

-- a word behind others
after_long : (w : Word) (ws : Line) → length (after (w ∷ ws)) ≡ suc (length w + length (after ws))
unfolding after
after_long w ws = ap suc (length-append w (after ws))

after_none : length (after []) ≡ 0
unfolding after
after_none = refl

spaced_long : (w : Word) (ws : Line) → length (spaced (w ∷ ws)) ≡ length w + length (after ws)
unfolding spaced
spaced_long w ws = length-append w (after ws)

pub written_long : (l : Line) (ls : List Line) → length (written (l ∷ ls)) ≡ suc (length (spaced l) + length (written ls))
written_long l ls = ended_long (spaced l) (map spaced ls)

-- words of at most 16 bytes, and numbers of at most six places, each behind a space
pub doors_short : (ws : List Word) → Each (λ (w : Word). length w ≤ 16) ws → length (after ws) ≤ 17 * length ws
doors_short [] g = omega (arith, after_none)
doors_short (w ∷ ws) (g, h) = omega (arith, after_long w ws, doors_short ws h)

pub numbers_short : (xs : List Num) → Each (λ (x : Num). x.places ≤ 6) xs → length (after (map printed xs)) ≤ 14 * length xs
numbers_short [] g = omega (arith, after_none)
numbers_short (x ∷ xs) (g, h) = omega (arith, after_long (printed x) (map printed xs), printed_short x g, numbers_short xs h)

after_both : (a b : Line) → length (after (a ++ b)) ≡ length (after a) + length (after b)
after_both [] b = omega (arith, after_none)
after_both (w ∷ a) b = omega (arith, after_long w (a ++ b), after_long w a, after_both a b)

pub entry_short : (e : Entry) → length e.name ≤ 16 → Each (λ (w : Word). length w ≤ 16) e.door → Each (λ (x : Num). x.places ≤ 6) e.numbers → length (spaced (entry_line e)) ≤ 16 + 17 * length e.door + 14 * length e.numbers
unfolding entry_line
entry_short e a b c =
    omega (arith, spaced_long e.name (e.door ++ map printed e.numbers), after_both e.door (map printed e.numbers), doors_short e.door b, numbers_short e.numbers c)

-- ---- the entries of a section

-- so long is a line with so many names and numbers
pub line_most : (k d n : ℕ) → suc d ≡ names_in k → entry_long k (names_in k + n) ≡ true → 17 + 17 * d + 14 * n ≤ longest_line k
unfolding names_in
line_most k d n e long =
    decided (ℕ_discrete k 5)
    (λ (h : k ≡ 5).
    let a : suc d ≡ 2 = rw (eq-eqb k 5 h) at e in
    let w = hook_words k (names_in k + n) long h in
    let z : n ≤ 12 = ⊎_elim (λ (q : names_in k + n ≡ 9). omega (arith, e)) (λ (q : names_in k + n ≡ 14). omega (arith, e)) w in
    rw (eq-eqb k 5 h) (omega (arith, a, z)))
    (λ (h : k ≡ 5 → ⊥).
    let a : suc d ≡ 1 = rw (ne_eqb k 5 h) at e in
    let z : names_in k + n ≡ 4 = four_words k (names_in k + n) long h in
    rw (ne_eqb k 5 h) (omega (arith, a, z, e)))

good_short : (k : ℕ) (rooms : List Word) (e : Entry) → GoodEntry k rooms e → suc (length (spaced (entry_line e))) ≤ longest_line k
good_short k rooms e g =
    omega (
      arith,
      entry_short e (name_long e.name g.name.name).1 (each_as GoodName _ (λ w n. (name_long w n.name).1) e.door g.door) (each_as Said _ (λ x s. s.few) e.numbers g.numbers),
      line_most k (length e.door) (length e.numbers) g.names g.long,
    )

entries_short : (k : ℕ) (rooms : List Word) (es : List Entry) → Each (GoodEntry k rooms) es → length (written (map entry_line es)) ≤ length es * longest_line k
unfolding ended
entries_short k rooms [] g = omega arith
entries_short k rooms (e ∷ es) (g, h) =
    let i : length (written (map entry_line es)) ≤ length es * longest_line k = entries_short k rooms es h in
    let a : length (written (entry_line e ∷ map entry_line es)) ≡ suc (length (spaced (entry_line e)) + length (written (map entry_line es))) = written_long (entry_line e) (map entry_line es) in
    let b = suc-mul (length es) (longest_line k) in
    omega (arith, i, a, b, good_short k rooms e g)

head_long : (key : Word) (n : ℕ) → length (spaced (key ∷ plain n ∷ [])) ≡ length key + 1 + length (plain n)
head_long key n = omega (arith, spaced_long key (plain n ∷ []), after_long (plain n) [], after_none)

pub head_short : (key : Word) (n : ℕ) → length (spaced (key ∷ plain n ∷ [])) ≤ length key + 6
head_short key n = omega (arith, head_long key n, plain_short n)

section_short : (k : ℕ) (rooms : List Word) (key : Word) (es : List Entry) (ls : List Line) → Each (GoodEntry k rooms) es → length es ≤ 64 → length (written (section key es ++ ls)) ≤ length key + 4 + 64 * longest_line k + length (written ls)
unfolding section
section_short k rooms key es ls g h =
    let a = written_long (key ∷ plain (length es) ∷ []) (map entry_line es ++ ls) in
    let b = ap length (written_append (map entry_line es) ls) ∙ length-append (written (map entry_line es)) (written ls) in
    let c : length es * longest_line k ≤ 64 * longest_line k = mul-le-mul_right (longest_line k) h in
    omega (arith, a, b, c, head_long key (length es), length_plain (length es), width_two (length es) (omega arith), entries_short k rooms es g)

-- the lines of keywords alone, and the other keywords
first_short : length (spaced (beginlayout ∷ [])) ≡ 11
unfolding spaced after beginlayout
first_short = refl

last_short : length (written ((donelayout ∷ []) ∷ [])) ≡ 11
unfolding ended spaced after donelayout
last_short = refl

keys_short : length roomcount + (length trackcount + (length obstaclecount + length doorhookcount)) ≡ 45
unfolding roomcount trackcount obstaclecount doorhookcount
keys_short = refl

pub form_short : (p : LayoutParts) → GoodParts p → length (form_text p) ≤ longest_form
unfolding form_text form
form_short p g =
    let last = (donelayout ∷ []) ∷ [] in
    let hooks = section doorhookcount p.hooks ++ last in
    let obstacles = section obstaclecount p.obstacles ++ hooks in
    let tracks = section trackcount p.tracks ++ obstacles in
    omega (
      arith,
      written_long (beginlayout ∷ []) (section roomcount p.rooms ++ tracks),
      first_short,
      keys_short,
      section_short 2 _ roomcount p.rooms tracks g.rooms g.few_rooms,
      section_short 3 _ trackcount p.tracks obstacles g.tracks g.few_tracks,
      section_short 4 _ obstaclecount p.obstacles hooks g.obstacles g.few_obstacles,
      section_short 5 _ doorhookcount p.hooks last g.hooks g.few_hooks,
      last_short,
    )
