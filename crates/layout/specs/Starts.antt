-- What the code keeps of a layout: the places where its entries' lines start, rooms from 0 on, tracks from 64 on, obstacles from 128 on, hooks from 192 on.
-- Names and numbers are read again from the text. Definitions only.
use Rattle.std.specs.Prelude.{◌≡◌, ℕ, ◌+◌, ◌-◌, ◌≤◌, ◌<◌, true, cond, List, [], ◌∷◌, map, length, take, drop, set, get_or, replicate, ltb, eqb, Result, Ok, Err}
use Rattle.verdict.specs.Verdict.{refused}
use Rattle.verdict.specs.Refusals.{number_of}
use Rattle.verdict.specs.declared.Refused.{Refused}
use Rattle.text.specs.Scan.{words, lines, line_at}
use Rattle.names.specs.Name.{is_name}
use Rattle.number.specs.Count.{value, is_count}
use Rattle.layout.specs.declared.Progress.{Progress}
use Rattle.layout.specs.declared.Layout.{Layout}
use Rattle.text.specs.Reading.{Word, Line, nth}
use Rattle.layout.specs.Grammar.{Typed, State, Reading, opens}
use Rattle.layout.specs.Layout.{layout_verdict, layout_of}

-- the line of words that starts at a place
abbrev pub entry_at : List ℕ → ℕ → Line
entry_at s at = words (line_at s at)

-- the first n of the entries whose starts are kept
unfoldable pub held : List ℕ → List ℕ → ℕ → List Line
held s starts n = map (entry_at s) (take n starts)

-- the starts of the tracks, of the obstacles, and of the hooks, among all that are kept
abbrev pub track_starts : List ℕ → List ℕ
track_starts starts = drop 64 starts

abbrev pub obstacle_starts : List ℕ → List ℕ
obstacle_starts starts = drop 128 starts

abbrev pub hook_starts : List ℕ → List ℕ
hook_starts starts = drop 192 starts

-- n entries whose starts are kept: at most 64, none past the starts, and each has a name as word k
pub record KeptWords (k : ℕ) (s starts : List ℕ) (n : ℕ) : Type 0 where
  pub few : n ≤ 64
  pub inside : n ≤ length starts
  pub name : (j : ℕ) → j < n → is_name (nth (entry_at s (get_or starts j 0)) k) ≡ true

abbrev pub KeptEntries : List ℕ → List ℕ → ℕ → Type 0
KeptEntries = KeptWords 0

-- the name of the entry whose start is kept at k, nothing where none is
unfoldable pub kept_name : List ℕ → List ℕ → ℕ → Word
kept_name s starts k = cond (ltb k (length starts)) (nth (entry_at s (get_or starts k 0)) 0) []

-- at most 64 entries of a kind
pub record Few (c : Progress) : Type 0 where
  pub rooms : c.rooms ≤ 64
  pub tracks : c.tracks ≤ 64
  pub obstacles : c.obstacles ≤ 64
  pub hooks : c.hooks ≤ 64

-- what a line is read against: the rooms and the hooks so far are kept
pub record KeptSoFar (s starts : List ℕ) (c : Progress) : Type 0 where
  pub rooms : KeptEntries s starts c.rooms
  pub hooks : KeptWords 1 s (hook_starts starts) c.hooks
  pub sized : length starts ≡ 256

-- the state that the code stands for
unfoldable pub state_of : List ℕ → List ℕ → Progress → State
state_of s starts c = record {
  sect = c.sect;
  left = c.left;
  typed = record {
    rooms = held s starts c.rooms;
    tracks = held s (track_starts starts) c.tracks;
    obstacles = held s (obstacle_starts starts) c.obstacles;
    hooks = held s (hook_starts starts) c.hooks;
  };
}

-- what a count says, 0 where it is none
unfoldable pub count_in : Word → ℕ
count_in w = cond (is_count w) (value 0 w) 0

-- the code's state behind an entry, and behind a line
unfoldable pub entered : Progress → Progress
entered c = record {
  sect = c.sect;
  left = c.left - 1;
  rooms = cond (eqb c.sect 2) (c.rooms + 1) c.rooms;
  tracks = cond (eqb c.sect 3) (c.tracks + 1) c.tracks;
  obstacles = cond (eqb c.sect 4) (c.obstacles + 1) c.obstacles;
  hooks = cond (eqb c.sect 5) (c.hooks + 1) c.hooks;
}

unfoldable pub moved_to : Progress → Line → Progress
moved_to c [] = c
moved_to c (w ∷ ws) =
    cond (ltb 0 c.left) (entered c)
    (record { sect = opens c.sect w; left = count_in (nth (w ∷ ws) 1); rooms = c.rooms; tracks = c.tracks; obstacles = c.obstacles; hooks = c.hooks })

-- where the next entry's start is kept
unfoldable pub slot_of : Progress → ℕ
slot_of c = cond (eqb c.sect 2) c.rooms (cond (eqb c.sect 3) (64 + c.tracks) (cond (eqb c.sect 4) (128 + c.obstacles) (192 + c.hooks)))

-- the starts behind a line that starts at `at`: while entries are to come it is kept; a blank line's is written over by the next one's
unfoldable pub kept : List ℕ → Progress → ℕ → List ℕ
kept starts c at = cond (ltb 0 c.left) (set starts (slot_of c) at) starts

-- the starts kept of some lines, the first of which starts at `at`; LF ends each
unfoldable pub starts_from : List ℕ → Progress → ℕ → List (List ℕ) → List ℕ
starts_from starts c at [] = starts
starts_from starts c at (l ∷ ls) = starts_from (kept starts c at) (moved_to c (words l)) (at + length l + 1) ls

abbrev pub no_starts : List ℕ
no_starts = replicate 256 0

-- the code's state before the first line
abbrev pub begun : Progress
begun = record { sect = 0; left = 0; rooms = 0; tracks = 0; obstacles = 0; hooks = 0 }

-- those of a text
unfoldable pub starts_of : List ℕ → List ℕ
starts_of s = starts_from no_starts begun 0 (lines s)

-- ---- what is answered

-- an answer of the reader: its verdict, how many entries of each kind there are, and their starts
pub record Told : Type 0 where
  pub number : ℕ
  pub place : ℕ
  pub rooms : ℕ
  pub tracks : ℕ
  pub obstacles : ℕ
  pub hooks : ℕ
  pub starts : List ℕ

-- a refused layout: no entries
unfoldable pub no_layout : ℕ → ℕ → Told
no_layout number place = record { number = number; place = place; rooms = 0; tracks = 0; obstacles = 0; hooks = 0; starts = no_starts }

-- what the code tells: a layout that it read, or a refusal
abbrev pub told_layout : Layout → Told
told_layout r = record { number = 0; place = 0; rooms = r.rooms; tracks = r.tracks; obstacles = r.obstacles; hooks = r.hooks; starts = r.starts }

abbrev pub told : Result Layout Refused → Told
told (Ok r) = told_layout r
told (Err r) = no_layout (number_of r.refusal) r.place

-- the reader's answer: the verdict, how many entries of each kind there are, and their starts; none on refusal
unfoldable pub layout_read : List ℕ → Told
layout_read s = record {
  number = (layout_verdict s).number;
  place = (layout_verdict s).place;
  rooms = length (layout_of s).rooms;
  tracks = length (layout_of s).tracks;
  obstacles = length (layout_of s).obstacles;
  hooks = length (layout_of s).hooks;
  starts = cond (eqb (layout_verdict s).number 0) (starts_of s) no_starts;
}

-- the code's counts and starts are those of a layout's entries
pub record Held (s : List ℕ) (r : Told) (t : Typed) : Type 0 where
  pub rooms : held s r.starts r.rooms ≡ t.rooms
  pub tracks : held s (track_starts r.starts) r.tracks ≡ t.tracks
  pub obstacles : held s (obstacle_starts r.starts) r.obstacles ≡ t.obstacles
  pub hooks : held s (hook_starts r.starts) r.hooks ≡ t.hooks
  pub few_rooms : r.rooms ≤ 64
  pub few_tracks : r.tracks ≤ 64
  pub few_obstacles : r.obstacles ≤ 64
  pub few_hooks : r.hooks ≤ 64

-- the code found what a reading says
pub record Found (s : List ℕ) (r : Told) (found : Reading) : Type 0 where
  pub verdict : refused r.number r.place ≡ found.verdict
  pub held : Held s r found.typed
  pub starts : r.starts ≡ cond (eqb found.verdict.number 0) (starts_of s) no_starts

-- what the reader's callers go by: the layout's verdict, and that the entries are where the answer says
pub record Answered (s : List ℕ) (r : Told) : Type 0 where
  pub verdict : refused r.number r.place ≡ layout_verdict s
  pub held : Held s r (layout_of s)
  pub sized : length r.starts ≡ 256
