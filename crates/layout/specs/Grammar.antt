-- The grammar of a layout (LYT), over a text that is cut into lines of words: what is wrong with a line, what a line adds, and the verdict
-- of all lines. A blank line is a line of no words. Definitions only.
use Rattle.std.specs.Prelude.{ℕ, suc, ◌-◌, Bool, true, cond, not, ◌&&◌, ◌||◌, List, [], ◌∷◌, ◌++◌, map, length, get_or, drop, leb, ltb, eqb}
use Rattle.verdict.specs.declared.Answer.{Answer}
use Rattle.verdict.specs.Verdict.{refused, accepted}
use Rattle.verdict.specs.Lowest.{any_under}
use Rattle.letters.specs.Class.{within}
use Rattle.names.specs.Name.{same, is_name, same_name}
use Rattle.number.specs.Count.{value, is_count}
use Rattle.number.specs.Number.{number_of}
use Rattle.text.specs.Reading.{Word, Line, nth, Grammar, read_lines}

-- ---- keywords, in lower case

unfoldable pub beginlayout : Word
beginlayout = 98 ∷ 101 ∷ 103 ∷ 105 ∷ 110 ∷ 108 ∷ 97 ∷ 121 ∷ 111 ∷ 117 ∷ 116 ∷ []

unfoldable pub roomcount : Word
roomcount = 114 ∷ 111 ∷ 111 ∷ 109 ∷ 99 ∷ 111 ∷ 117 ∷ 110 ∷ 116 ∷ []

unfoldable pub trackcount : Word
trackcount = 116 ∷ 114 ∷ 97 ∷ 99 ∷ 107 ∷ 99 ∷ 111 ∷ 117 ∷ 110 ∷ 116 ∷ []

unfoldable pub obstaclecount : Word
obstaclecount = 111 ∷ 98 ∷ 115 ∷ 116 ∷ 97 ∷ 99 ∷ 108 ∷ 101 ∷ 99 ∷ 111 ∷ 117 ∷ 110 ∷ 116 ∷ []

unfoldable pub doorhookcount : Word
doorhookcount = 100 ∷ 111 ∷ 111 ∷ 114 ∷ 104 ∷ 111 ∷ 111 ∷ 107 ∷ 99 ∷ 111 ∷ 117 ∷ 110 ∷ 116 ∷ []

unfoldable pub donelayout : Word
donelayout = 100 ∷ 111 ∷ 110 ∷ 101 ∷ 108 ∷ 97 ∷ 121 ∷ 111 ∷ 117 ∷ 116 ∷ []

-- the section that a keyword opens: 1 the layout, 2 rooms, 3 tracks, 4 obstacles, 5 door hooks, 6 the end; 0 for no keyword
unfoldable pub section_of : Word → ℕ
section_of w =
    cond (same w beginlayout) 1
    (cond (same w roomcount) 2 (cond (same w trackcount) 3 (cond (same w obstaclecount) 4 (cond (same w doorhookcount) 5 (cond (same w donelayout) 6 0)))))

-- section k may follow: `beginlayout`, `roomcount`, then optionally the others in this order, `donelayout`
unfoldable pub follows : ℕ → ℕ → Bool
follows sect k = cond (leb k 2) (eqb (suc sect) k) (leb 2 sect && ltb sect k)

-- the section that the word opens behind `sect`, 0 for none
unfoldable pub opens : ℕ → Word → ℕ
opens sect w = cond (follows sect (section_of w)) (section_of w) 0

-- ---- entries: name x y z; of a hook room, door, x y z, four numbers, and five more or none

-- the entries of a layout as they were typed, each a line of words
pub record Typed : Type 0 where
  pub rooms : List Line
  pub tracks : List Line
  pub obstacles : List Line
  pub hooks : List Line

abbrev pub nothing : Typed
nothing = record { rooms = []; tracks = []; obstacles = []; hooks = [] }

-- one entry more, in section k
unfoldable pub with_entry : ℕ → Typed → Line → Typed
with_entry k t e = record {
  rooms = cond (eqb k 2) (t.rooms ++ (e ∷ [])) t.rooms;
  tracks = cond (eqb k 3) (t.tracks ++ (e ∷ [])) t.tracks;
  obstacles = cond (eqb k 4) (t.obstacles ++ (e ∷ [])) t.obstacles;
  hooks = cond (eqb k 5) (t.hooks ++ (e ∷ [])) t.hooks;
}

-- word k of each entry: the names, and of hooks the doors
abbrev pub words_at : ℕ → List Line → List Word
words_at k es = map (λ (e : Line). nth e k) es

unfoldable pub names_of : List Line → List Word
names_of es = words_at 0 es

unfoldable pub doors_of : List Line → List Word
doors_of es = words_at 1 es

-- one of the names is this one; letter case is ignored
unfoldable pub known : Word → List Word → Bool
known w names = any_under (length names) (λ j. same_name w (get_or names j []))

-- another room, not i, has the name; letter case is ignored
unfoldable pub known_but : ℕ → Word → List Word → Bool
known_but i w names = any_under (length names) (λ j. not (eqb j i) && same_name w (get_or names j []))

-- ---- a line: the first of its faults, 0 for none

-- where the reader is: the section, how many of its entries are still to come, and the entries so far
pub record State : Type 0 where
  pub sect : ℕ
  pub left : ℕ
  pub typed : Typed

abbrev pub start : State
start = record { sect = 0; left = 0; typed = nothing }

-- how many names an entry of section k starts with: of a hook its room and its door, else its own name
unfoldable pub names_in : ℕ → ℕ
names_in k = cond (eqb k 5) 2 1

-- an entry of section k may have n words: a hook nine or fourteen, another entry four
unfoldable pub entry_long : ℕ → ℕ → Bool
entry_long k n = cond (eqb k 5) (eqb n 9 || eqb n 14) (eqb n 4)

-- every word is a number
unfoldable pub numbers : List Word → Bool
numbers [] = true
numbers (w ∷ ws) = (number_of w).ok && numbers ws

-- the first of two faults
abbrev pub first_of : ℕ → ℕ → ℕ
first_of f g = cond (eqb f 0) g f

-- a door: 34 name, 37 a door twice; doors are compared with doors only
unfoldable pub door_fault : List Line → Word → ℕ
door_fault hooks w = cond (not (is_name w)) 34 (cond (known w (doors_of hooks)) 37 0)

-- a hook: 39 unknown room, then its door's faults
unfoldable pub hook_fault : Typed → Line → ℕ
hook_fault t l = cond (not (known (nth l 0) (names_of t.rooms))) 39 (door_fault t.hooks (nth l 1))

-- the names of an entry: 34 name; a hook's first name is its room
unfoldable pub name_fault : State → Line → ℕ
name_fault st l = cond (not (is_name (nth l 0))) 34 (cond (eqb st.sect 5) (hook_fault st.typed l) 0)

-- an entry: 33 word count, the faults of its names, 35 number, 37 name twice; of names only rooms are checked for 37
unfoldable pub entry_fault : State → Line → ℕ
entry_fault st l =
    cond (not (entry_long st.sect (length l))) 33
    (first_of (name_fault st l)
    (cond (not (numbers (drop (names_in st.sect) l))) 35 (cond (eqb st.sect 2 && known (nth l 0) (names_of st.typed.rooms)) 37 0)))

-- how many words the line that opens section k has: a keyword and a count, or a keyword
unfoldable pub words_of : ℕ → ℕ
words_of k = cond (within 2 5 k) 2 1

-- a line that is to open section k: 33 wrong keyword or word count, 36 count
unfoldable pub open_fault : ℕ → Line → ℕ
open_fault k l = cond (eqb k 0 || not (eqb (length l) (words_of k))) 33 (cond (within 2 5 k && not (is_count (nth l 1))) 36 0)

-- an entry while some are to come, else a line that opens a section; a blank line is no fault. Behind `donelayout` no section follows: 33
unfoldable pub fault : State → Line → ℕ
fault st [] = 0
fault st (w ∷ ws) = cond (ltb 0 st.left) (entry_fault st (w ∷ ws)) (open_fault (opens st.sect w) (w ∷ ws))

-- the state behind a line that has no fault; a blank line leaves it
unfoldable pub next : State → Line → State
next st [] = st
next st (w ∷ ws) =
    cond (ltb 0 st.left) (record { sect = st.sect; left = st.left - 1; typed = with_entry st.sect st.typed (w ∷ ws) })
    (record { sect = opens st.sect w; left = value 0 (nth (w ∷ ws) 1); typed = st.typed })

-- ---- all lines

-- what a text is read as: the verdict, and the entries, none on refusal
pub record Reading : Type 0 where
  pub verdict : Answer
  pub typed : Typed

abbrev pub stopped : ℕ → ℕ → Reading
stopped number line = record { verdict = refused number line; typed = nothing }

-- no line is left, and none was faulty. 38: the text ends early; place the number of lines
unfoldable pub finish : State → ℕ → Reading
finish st n = cond (eqb st.sect 6) (record { verdict = accepted; typed = st.typed }) (stopped 38 n)

abbrev pub layout_grammar : Grammar State Reading
layout_grammar = record { fault = fault; next = next; finish = finish; stopped = stopped }

-- the lines behind the first n: the lowest faulty line gets the first of its faults; lines count from 1
abbrev pub read_from : ℕ → State → List Line → Reading
read_from = read_lines layout_grammar
