-- The words of M-108 about records, without a search: a bench's latest record, and one that blocks another. Definitions only.
use Rattle.std.specs.Prelude.{ℕ, ◌<◌, ◌≡◌}
use Rattle.record.specs.declared.Rec.{Rec}
use Rattle.holding.specs.Held.{other}

-- the bench holds none of the first f records
abbrev pub HoldsNone : (ℕ → Rec) → ℕ → ℕ → Type 0
HoldsNone at f bench = (j : ℕ) → j < f → (at j).bench ≡ bench → ⊥

module _ (at : ℕ → Rec) (f bench i : ℕ) where
  -- record i is the bench's own latest
  pub record IsLatest : Type 0 where
    pub under : i < f
    pub own : (at i).bench ≡ bench
    pub last : (j : ℕ) → i < j → j < f → (at j).bench ≡ bench → ⊥

  -- a later record of the other bench has the same tag and place as record i
  pub record Blocked : Type 0 where
    pub by : ℕ
    pub later : i < by
    pub under : by < f
    pub owner : (at by).bench ≡ other bench
    pub tag : (at i).tag ≡ (at by).tag
    pub place : (at i).place ≡ (at by).place
