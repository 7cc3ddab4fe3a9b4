-- What a step of a read's fetch leaves.
use Rattle.std.specs.Prelude.{ℕ, ◌≡◌, ◌<◌, Ok, Option, Some, None, List, ⊤}
use Rattle.external_pointer.specs.declared.external.Pointer.{Pointer}
use Rattle.chunk_index.specs.Pinned.{pin_of}
use Rattle.toast_store.specs.Stores.{Store}
use Rattle.toast_store.specs.Walks.{Walking, CanStep, IsBatchHeld, steps_left}
use Rattle.toast_store.specs.Fetches.{Fetching, fetch_after, outcome}
use Rattle.toast_store.specs.declared.fetch.FetchStep.{FetchStep}
use Rattle.toast_store.specs.declared.fetch.FetchStep.TheVariants.{More, Done}
use Rattle.read_steps.specs.Reads.{whole_fetch}

-- a fetch that goes on comes to the same, may make its next step, has fewer steps left, and keeps what it has of a batch
pub record FetchGoesOn (old : Store) (before : Fetching) (new : Store) (after : Fetching) : Type 0 where
  pub same : outcome new after ≡ outcome old before
  pub can : CanStep new.index after.walk
  pub fewer : steps_left new.index.entries after.walk < steps_left old.index.entries before.walk
  pub batch : IsBatchHeld old.index.entries before.walk → IsBatchHeld new.index.entries after.walk

-- one that is done has the bytes that it came to, and its session holds no pin
pub record FetchEnds (old : Store) (before : Fetching) (new : Store) (bytes : List ℕ) : Type 0 where
  pub came : outcome old before ≡ Ok bytes
  pub free : pin_of new.index.pins (Walking.session (Fetching.walk before)) ≡ None

abbrev pub FetchLeaves : Store → Fetching → Store → Fetching → FetchStep → Type 0
FetchLeaves old before new after More = FetchGoesOn old before new after
FetchLeaves old before new after (Done bytes) = FetchEnds old before new bytes

-- the first step of a row's next value, if there is one
abbrev pub BeginsFetch : Store → ℕ → Option (ℕ × Pointer) → Store → Type 0
BeginsFetch old session None new = ⊤
BeginsFetch old session (Some (at, pointer)) new = FetchGoesOn old (whole_fetch pointer session) new (fetch_after old (whole_fetch pointer session))

-- the first step of a part's value
abbrev pub BeginsPart : Store → Store → Fetching → Type 0
BeginsPart old new fetch = FetchGoesOn old fetch new (fetch_after old fetch)
