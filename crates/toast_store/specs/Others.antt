-- What a step of one session is to all others: whatever it does under its own id, the rest is as it was.
use Rattle.std.specs.Prelude.{ℕ, ◌≡◌, ◌≢◌, Option, Some, List}
use Rattle.external_pointer.specs.declared.external.Pointer.{Pointer}
use Rattle.toast_store.specs.Stores.{Store}
use Rattle.toast_store.specs.Values.{Whole}
use Rattle.toast_store.specs.Walks.{Walking, CanStep, IsBatchHeld}
use Rattle.toast_store.specs.PieceJobs.{Piecing, PiecesStand}
use Rattle.toast_store.specs.Fetches.{Fetching, outcome}
use Rattle.toast_store.specs.Marks.{Marking, IsMarking}
use Rattle.toast_store.specs.Between.{LeavesValue}

-- a step of a session that works under an id, or under none, leaves the others
pub record LeavesOthers (own : Option ℕ) (session : ℕ) (old new : Store) : Type 0 where
  -- each other value: the chunks under its id, as they were put and ended; so what is whole stays so
  pub values : (value_id : ℕ) → own ≢ Some value_id → LeavesValue value_id old new
  -- what the pieces of another value rely on that are on their way
  pub pieces : (job : Piecing) → own ≢ Some job.value_id → PiecesStand old job → PiecesStand new job
  -- what a fetch of another value comes to
  pub fetches : (fetch : Fetching) → own ≢ Some fetch.walk.value_id → IsBatchHeld old.index.entries fetch.walk → outcome new fetch ≡ outcome old fetch
  -- what a mark of another value has ended, and what lies ahead of it
  pub marks : (mark : Marking) → own ≢ Some mark.walk.value_id → IsMarking old mark → IsMarking new mark
  -- what is left of each batch, and that the walk of another session may go on
  pub batches : (walk : Walking) → IsBatchHeld old.index.entries walk → IsBatchHeld new.index.entries walk
  pub walks : (walk : Walking) → walk.session ≢ session → CanStep old.index walk → CanStep new.index walk

-- a step leaves those who read, of whichever value: what is whole, and what a fetch comes to
pub record LeavesReaders (old new : Store) : Type 0 where
  pub whole : (pointer : Pointer) (value : List ℕ) → Whole old pointer value → Whole new pointer value
  pub fetches : (fetch : Fetching) → outcome new fetch ≡ outcome old fetch
