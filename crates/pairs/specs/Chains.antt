-- The half-edges' chains, which stand in the work memory: what a search for those from one vertex to another goes by, and so does not look
-- at all half-edges. No rule speaks of chains. Definitions only.
use Rattle.std.specs.Prelude.{ℕ}
use Rattle.chains.specs.Chains.{mixed}
use Rattle.tables.specs.Parts.{Parts}
use Rattle.pairs.specs.Halves.{from, to}

-- how many chains there are
abbrev pub chains : ℕ
chains = 16384

-- the chain of the half-edges from vertex a to vertex b; both ends count, so that those around one vertex stand in many chains
abbrev pub chain_of : ℕ → ℕ → ℕ
chain_of = mixed chains

-- a half-edge's key by its two ends, and so the chain of half-edge h
abbrev pub ends_key : (ℕ → ℕ → ℕ) → Parts → ℕ → ℕ
ends_key mix p h = mix (from p h) (to p h)

abbrev pub chain : Parts → ℕ → ℕ
chain p = ends_key chain_of p
