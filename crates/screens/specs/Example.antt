-- A small case of M-110: two layouts with a hook and two texts of visibility that are alike but for the name of room 0, and what differs there.
-- Definitions only.
use Rattle.std.specs.Prelude.{ℕ, List, [], ◌∷◌}
use Rattle.screens.specs.MayDiffer.{MayDiffer}

-- `beginlayout`, `roomcount 2`, `Hall 0 0 0`, `bar 1 0 0`, `doorhookcount 1`, `HALL gate 0 0 0 0 0 0 1`, `donelayout`
unfoldable pub hall : List ℕ
hall = 98 ∷ 101 ∷ 103 ∷ 105 ∷ 110 ∷ 108 ∷ 97 ∷ 121 ∷ 111 ∷ 117 ∷ 116 ∷ 10 ∷ 114 ∷ 111 ∷ 111 ∷ 109 ∷ 99 ∷ 111 ∷ 117 ∷ 110 ∷ 116 ∷ 32 ∷ 50 ∷ 10 ∷ 72 ∷ 97 ∷ 108 ∷ 108 ∷ 32 ∷ 48 ∷ 32 ∷ 48 ∷ 32 ∷ 48 ∷ 10 ∷ 98 ∷ 97 ∷ 114 ∷ 32 ∷ 49 ∷ 32 ∷ 48 ∷ 32 ∷ 48 ∷ 10 ∷ 100 ∷ 111 ∷ 111 ∷ 114 ∷ 104 ∷ 111 ∷ 111 ∷ 107 ∷ 99 ∷ 111 ∷ 117 ∷ 110 ∷ 116 ∷ 32 ∷ 49 ∷ 10 ∷ 72 ∷ 65 ∷ 76 ∷ 76 ∷ 32 ∷ 103 ∷ 97 ∷ 116 ∷ 101 ∷ 32 ∷ 48 ∷ 32 ∷ 48 ∷ 32 ∷ 48 ∷ 32 ∷ 48 ∷ 32 ∷ 48 ∷ 32 ∷ 48 ∷ 32 ∷ 49 ∷ 10 ∷ 100 ∷ 111 ∷ 110 ∷ 101 ∷ 108 ∷ 97 ∷ 121 ∷ 111 ∷ 117 ∷ 116 ∷ 10 ∷ []

-- the same with `Den_2` in the room's line and `den_2` in the hook's; besides, a blank line, two blanks, a tab, a blank at a line's end, a CR and
-- no last LF, `02` and `00` for `2` and `0`, `trackcount 0`, and `Gate` for `gate`
unfoldable pub den : List ℕ
den = 98 ∷ 101 ∷ 103 ∷ 105 ∷ 110 ∷ 108 ∷ 97 ∷ 121 ∷ 111 ∷ 117 ∷ 116 ∷ 10 ∷ 10 ∷ 114 ∷ 111 ∷ 111 ∷ 109 ∷ 99 ∷ 111 ∷ 117 ∷ 110 ∷ 116 ∷ 32 ∷ 32 ∷ 48 ∷ 50 ∷ 13 ∷ 10 ∷ 9 ∷ 68 ∷ 101 ∷ 110 ∷ 95 ∷ 50 ∷ 32 ∷ 48 ∷ 32 ∷ 48 ∷ 32 ∷ 48 ∷ 48 ∷ 10 ∷ 98 ∷ 97 ∷ 114 ∷ 32 ∷ 49 ∷ 32 ∷ 48 ∷ 32 ∷ 48 ∷ 32 ∷ 10 ∷ 116 ∷ 114 ∷ 97 ∷ 99 ∷ 107 ∷ 99 ∷ 111 ∷ 117 ∷ 110 ∷ 116 ∷ 32 ∷ 48 ∷ 10 ∷ 100 ∷ 111 ∷ 111 ∷ 114 ∷ 104 ∷ 111 ∷ 111 ∷ 107 ∷ 99 ∷ 111 ∷ 117 ∷ 110 ∷ 116 ∷ 32 ∷ 49 ∷ 10 ∷ 100 ∷ 101 ∷ 110 ∷ 95 ∷ 50 ∷ 32 ∷ 71 ∷ 97 ∷ 116 ∷ 101 ∷ 32 ∷ 48 ∷ 32 ∷ 48 ∷ 32 ∷ 48 ∷ 32 ∷ 48 ∷ 32 ∷ 48 ∷ 32 ∷ 48 ∷ 32 ∷ 49 ∷ 10 ∷ 100 ∷ 111 ∷ 110 ∷ 101 ∷ 108 ∷ 97 ∷ 121 ∷ 111 ∷ 117 ∷ 116 ∷ []

-- `HALL 1`, `bar`, `Bar 0`
unfoldable pub hall_sees : List ℕ
hall_sees = 72 ∷ 65 ∷ 76 ∷ 76 ∷ 32 ∷ 49 ∷ 10 ∷ 98 ∷ 97 ∷ 114 ∷ 10 ∷ 66 ∷ 97 ∷ 114 ∷ 32 ∷ 48 ∷ 10 ∷ []

-- `den_2 01`, `BAR`, `Bar 0`, with a blank line before them and no last LF
unfoldable pub den_sees : List ℕ
den_sees = 10 ∷ 100 ∷ 101 ∷ 110 ∷ 95 ∷ 50 ∷ 32 ∷ 48 ∷ 49 ∷ 10 ∷ 32 ∷ 32 ∷ 66 ∷ 65 ∷ 82 ∷ 10 ∷ 66 ∷ 97 ∷ 114 ∷ 32 ∷ 48 ∷ []

-- there the own caption, the lengths and 40 do differ
abbrev pub NameExample : Type 0
NameExample = MayDiffer 0 hall den hall_sees den_sees
