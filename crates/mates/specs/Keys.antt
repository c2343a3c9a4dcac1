-- The chains that mending goes by: vertices by their coordinates, half-edges by their two mended ends. No rule speaks of them. Definitions only.
use Rattle.std.specs.Prelude.{ℕ, ◌+◌, ◌*◌, ◌/◌, ◌%◌}
use Rattle.grid.specs.Grid.{plain}
use Rattle.chains.specs.Chains.{mixed}
use Rattle.tables.specs.Parts.{Parts, vertex_word}
use Rattle.pairs.specs.Chains.{ends_key}

-- coordinate e of vertex v as a word, with zero's for minus zero's: equal coordinates have one
abbrev pub point_word : Parts → ℕ → ℕ → ℕ
point_word p v e = plain (vertex_word p v e)

-- how many chains of vertices there are
abbrev pub point_chains : ℕ
point_chains = 16384

-- the chain of the vertices with these words. Any numbers are right; with these, large and odd, every bit of the words counts in the fourteen
-- that are kept, so that vertices on a grid, whose words end in many zeros, stand in many chains
unfoldable pub point_chain : ℕ → ℕ → ℕ → ℕ
point_chain x y z = (668265263 * x + 374761393 * y + 1013904223 * z) / 4294967296 % point_chains

-- the chain of vertex v
unfoldable pub point_key : Parts → ℕ → ℕ
point_key p v = point_chain (point_word p v 0) (point_word p v 1) (point_word p v 2)

-- how many chains of half-edges there are: fewer than rule 15 has on the floor as it is, for what is kept of half-edges stands behind them
abbrev pub run_chains : ℕ
run_chains = 4096

-- the chain of the half-edges from vertex a to vertex b, and that of half-edge h
abbrev pub run_chain : ℕ → ℕ → ℕ
run_chain = mixed run_chains

abbrev pub run_key : Parts → ℕ → ℕ
run_key q = ends_key run_chain q
