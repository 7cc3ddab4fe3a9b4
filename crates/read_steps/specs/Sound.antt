-- What is true of each read.
use Rattle.std.specs.Prelude.{ℕ, ◌≡◌, ◌<◌, length, ⊤}
use Rattle.toast_store.specs.Walks.{Walking}
use Rattle.toast_store.specs.Fetches.{Fetching}
use Rattle.toast_store.specs.Begun.{IsOverSome}
use Rattle.read_steps.specs.Columns.{LiesIn}
use Rattle.read_steps.specs.declared.stage.ReadStage.{ReadStage}
use Rattle.read_steps.specs.declared.stage.ReadStage.TheVariants.{Row, RowValue, Part, PartValue, Ready, Over}

-- how many columns the row has of which a value is being fetched
abbrev pub columns_begun : ReadStage → ℕ
columns_begun (Row stored) = 0
columns_begun (RowValue stored at fetch) = length stored.cells
columns_begun (Part cell span) = 0
columns_begun (PartValue fetch) = 0
columns_begun (Ready bytes) = 0
columns_begun Over = 0

-- a fetch of a session, of a span that is not empty
pub record IsFetchOf (session : ℕ) (fetch : Fetching) : Type 0 where
  pub of_session : Walking.session (Fetching.walk fetch) ≡ session
  pub some : IsOverSome (Walking.stage (Fetching.walk fetch))

-- the column of which a value is being fetched is there, and a part lies in its value
abbrev pub IsReadStage : ℕ → ReadStage → Type 0
IsReadStage session (Row stored) = ⊤
IsReadStage session (RowValue stored at fetch) = (at < length stored.cells) × IsFetchOf session fetch
IsReadStage session (Part cell span) = LiesIn span cell
IsReadStage session (PartValue fetch) = IsFetchOf session fetch
IsReadStage session (Ready bytes) = ⊤
IsReadStage session Over = ⊤
