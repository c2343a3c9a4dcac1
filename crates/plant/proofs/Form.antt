-- The fixed form of a floor with its tree: its sizes, its counts, its tables one by one, and its length. Assumes nothing.
use Prim.Native.Nat.{ℕ, ◌+◌, ◌*◌, ◌-◌, ◌<◌}
use native.Mathlib.Omega.{arith}
use mathlib.Core.Path.{◌≡◌, sym, ap, ◌∙◌}
use mathlib.Core.List.{List}
use lib.ListN.{length, take, drop}
use Rattle.wire.specs.Bytes.{u32_at, put, Bytes}
use Rattle.wire.specs.Words.{bytes_of}
use Rattle.tables.specs.Tables.{table_at}
use Rattle.tables.specs.Header.{floor_tables, RightHeader}
use Rattle.tables.specs.Parts.{Parts, parts_of, table_of, words_in}
use Rattle.tables.specs.Fixed.{Sized}
use Rattle.tables.proofs.Reading.{whole_of}
use Rattle.tables.proofs.Reform.{whole_length, length_form}
use Rattle.fixed.specs.Written.{numbers_of, start_by, Few}
use Rattle.fixed.specs.declared.Numbers.{Numbers}
use Rattle.fixed.proofs.Parted.{start_by_lem, few_numbers, table_words_lem, table_read}
use Rattle.mesh.specs.Mesh.{Meshed}
use Rattle.planting.specs.Planting.{tree_words, planted}
use Rattle.grown.proofs.Kept.{others_stay}
use Rattle.grown.proofs.Accepted.{whole_planted}
use Rattle.plant.specs.Plant.{planted_form}

pub sized_form : (b : List ℕ) → Bytes b → RightHeader b → Meshed (parts_of b) → Sized (planted (parts_of b))
sized_form b y r mesh = (whole_planted (parts_of b) (whole_of b r y) mesh).fit

pub counts_of : (p : Parts) (n : Numbers) (k : ℕ) → n ≡ numbers_of p → k ≡ 2 * n.faces - 1
    → record { vertices = n.vertices; faces = n.faces; nodes = k; root = 0; adjacency = n.adjacency; edges = n.edges; perimeters = n.perimeters } ≡ numbers_of (planted p)
unfolding numbers_of planted
counts_of p n k q e = rw (e, q)

-- ---- table by table

-- the tree where the nodes stand
pub nodes_table : (p : Parts) (k : ℕ) → k ≡ 5 → table_of (planted p) k ≡ tree_words p
unfolding planted
nodes_table p k e = rw e

-- what is known once table k is written
abbrev pub Written : Parts → ℕ → List ℕ → ℕ → List ℕ → ℕ → Type 0
Written p k o at new here = (here ≡ at + 4 * length (table_of (planted p) k)) × (new ≡ put o at (bytes_of (table_of (planted p) k)))

pub grown_table : (p : Parts) (k : ℕ) (o new : List ℕ) (at here : ℕ) → k ≡ 5 → (here ≡ at + 4 * length (tree_words p)) × (new ≡ put o at (bytes_of (tree_words p))) → Written p k o at new here
grown_table p k o new at here e h = rw (nodes_table p k e) h

module _ (b : List ℕ) (r : RightHeader b) (k : ℕ) (l : k < 9) (ne : k ≡ 5 → ⊥) where
  stays : table_of (planted (parts_of b)) k ≡ table_of (parts_of b) k
  stays = (others_stay (parts_of b)).tables k l ne

  pub stays_long : length (table_of (planted (parts_of b)) k) ≡ words_in b k
  stays_long = ap length stays ∙ table_words_lem b r k l

  pub copied_table : Bytes b → (o new : List ℕ) (at here : ℕ)
      → (here ≡ at + 4 * words_in b k) × (new ≡ put o at (take (4 * words_in b k) (drop (u32_at b (table_at floor_tables k).offset) b))) → Written (parts_of b) k o at new here
  copied_table y o new at here h = (h.0 ∙ ap (λ (n : ℕ). at + 4 * n) (sym stays_long), h.1 ∙ ap (put o at) (table_read b r y k l ∙ ap bytes_of (sym stays)))

-- ---- the length

module _ (b : List ℕ) (s : Sized (planted (parts_of b))) (n : Numbers) (e : n ≡ numbers_of (planted (parts_of b))) where
  pub few_planted : Few n
  few_planted = rw e (few_numbers (planted (parts_of b)) s)

  pub form_size : (r : ℕ) → r ≡ start_by n 9 → r ≡ length (planted_form b)
  unfolding planted_form
  form_size r q =
      let p = planted (parts_of b) in
      let k : r ≡ start_by (numbers_of p) 9 = rw e at q in
      omega (arith, start_by_lem p s 9 (omega arith), whole_length p s, length_form p s)
