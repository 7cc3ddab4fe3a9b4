-- A walk through the entries of a value, batch by batch: the leaf of a batch stays pinned while its entries are taken.
use Rattle.std.specs.Prelude.{ℕ, ◌≡◌, ◌+◌, ◌-◌, ◌*◌, ◌<◌, ◌≤◌, Bool, true, false, nat_lt, max, if◌then◌else◌, Option, None, List, [], ◌∷◌, ◌++◌, length, drop, slice_get, Contains, ⊤}
use Rattle.chunk_index.specs.declared.entry.Entry.{Entry}
use Rattle.chunk_index.specs.Entries.{wanted_of}
use Rattle.chunk_index.specs.Pinned.{pin_of, without_pin}
use Rattle.chunk_index.specs.Indexes.{Index, batch_of, after_batch}
use Rattle.toast_store.specs.declared.walk.WalkStage.{WalkStage}
use Rattle.toast_store.specs.declared.walk.WalkStage.TheVariants.{Empty, Asking, Reading, Over}

-- a walk: the id, the numbers of the chunks from the first up to, and without, the end, whose it is, and how far it is
pub record Walking : Type 0 where
  pub value_id : ℕ
  pub first : ℕ
  pub end : ℕ
  pub session : ℕ
  pub stage : WalkStage

-- a walk over no number has nothing to ask for; an entry of a batch is still to be taken
abbrev pub IsStage : ℕ → ℕ → WalkStage → Type 0
IsStage first end Empty = first ≡ end
IsStage first end (Asking after) = first < end
IsStage first end (Reading batch at) = (first < end) × (at < length batch.entries)
IsStage first end Over = ⊤

-- a walk before its first step
abbrev pub new_walk : ℕ → ℕ → ℕ → ℕ → Walking
new_walk value_id first end session = record { value_id = value_id; first = first; end = end; session = session; stage = if nat_lt first end then Asking None else Empty }

-- a walk has a step left
abbrev pub IsUnderWay : WalkStage → Type 0
IsUnderWay Empty = ⊤
IsUnderWay (Asking after) = ⊤
IsUnderWay (Reading batch at) = ⊤
IsUnderWay Over = ⊥

-- its next step takes an entry of a batch
abbrev pub IsReading : WalkStage → Type 0
IsReading Empty = ⊥
IsReading (Asking after) = ⊥
IsReading (Reading batch at) = ⊤
IsReading Over = ⊥

-- its next step takes none: it asks for a batch, or has nothing to ask for
abbrev pub IsAsking : WalkStage → Type 0
IsAsking Empty = ⊤
IsAsking (Asking after) = ⊤
IsAsking (Reading batch at) = ⊥
IsAsking Over = ⊥

-- whether a walk has ended
abbrev pub is_over : WalkStage → Bool
is_over Empty = false
is_over (Asking after) = false
is_over (Reading batch at) = false
is_over Over = true

-- who asks for a batch holds no pin
abbrev pub MayAsk : Index → ℕ → WalkStage → Type 0
MayAsk index session Empty = ⊤
MayAsk index session (Asking after) = pin_of index.pins session ≡ None
MayAsk index session (Reading batch at) = ⊤
MayAsk index session Over = ⊤

-- a walk has a step left, and may make it
abbrev pub CanStep : Index → Walking → Type 0
CanStep index walk = IsUnderWay walk.stage × MayAsk index walk.session walk.stage

-- an entry is of the value that a walk goes through, with one of the walk's numbers
pub record IsOfWalk (walk : Walking) (e : Entry) : Type 0 where
  pub of_value : e.value_id ≡ walk.value_id
  pub from_first : walk.first ≤ e.seq
  pub before_end : e.seq < walk.end

-- the entries of an index that a walk over some number wants beyond one
abbrev pub wanted_by : Walking → Option Entry → List Entry → List Entry
wanted_by walk after entries = wanted_of walk.value_id walk.first (walk.end - 1) after entries

-- the entries that a walk still takes, by where it stands, where the index stays as it is
abbrev pub ahead_at : Walking → List Entry → WalkStage → List Entry
ahead_at walk entries Empty = []
ahead_at walk entries (Asking after) = wanted_by walk after entries
ahead_at walk entries (Reading batch at) = drop at batch.entries ++ (if batch.more then wanted_by walk (slice_get batch.entries (length batch.entries - 1)) entries else [])
ahead_at walk entries Over = []

-- the entries that a walk still takes from where it stands
abbrev pub ahead : List Entry → Walking → List Entry
ahead entries walk = ahead_at walk entries walk.stage

-- the entries of its batch that a walk has still to take
abbrev pub batch_left : WalkStage → List Entry
batch_left Empty = []
batch_left (Asking after) = []
batch_left (Reading batch at) = drop at batch.entries
batch_left Over = []

-- each of them is of the walk's value, and stands in the index
pub record IsBatchHeld (entries : List Entry) (walk : Walking) : Type 0 where
  pub of_walk : (e : Entry) → Contains (batch_left walk.stage) e → IsOfWalk walk e
  pub stands : (e : Entry) → Contains (batch_left walk.stage) e → Contains entries e

-- the entry that the next step takes, if it takes one
abbrev pub entry_at : WalkStage → Option Entry
entry_at Empty = None
entry_at (Asking after) = None
entry_at (Reading batch at) = slice_get batch.entries at
entry_at Over = None

-- where a walk stands that was given a batch; one with no entry ends it
abbrev pub stage_of_batch : List Entry → List Entry → WalkStage
stage_of_batch wanted [] = Over
stage_of_batch wanted (e ∷ es) = Reading (record { entries = e ∷ es; more = nat_lt (length (e ∷ es)) (length wanted) }) 0

-- where a walk stands after its next step
abbrev pub stage_after : Index → Walking → WalkStage → WalkStage
stage_after index walk Empty = Over
stage_after index walk (Asking after) = stage_of_batch (wanted_by walk after index.entries) (batch_of index.bounds (wanted_by walk after index.entries))
stage_after index walk (Reading batch at) = if nat_lt (at + 1) (length batch.entries) then Reading batch (at + 1) else (if batch.more then Asking (slice_get batch.entries at) else Over)
stage_after index walk Over = Over

-- a walk after its next step
abbrev pub walk_after : Index → Walking → Walking
walk_after index walk = record walk { stage = stage_after index walk walk.stage }

-- the index after that step, by where the walk stood: a batch pins its leaf, and its last entry drops the pin
abbrev pub index_after : Index → Walking → WalkStage → Index
index_after index walk Empty = index
index_after index walk (Asking after) = after_batch index walk.session (wanted_by walk after index.entries)
index_after index walk (Reading batch at) = if nat_lt (at + 1) (length batch.entries) then index else record index { pins = without_pin index.pins walk.session }
index_after index walk Over = index

-- the index after a walk's next step
abbrev pub index_walked : Index → Walking → Index
index_walked index walk = index_after index walk walk.stage

-- how many steps are left at most to ask for some entries and take them: two for each, and one where there is none
abbrev pub asks_left : List Entry → ℕ
asks_left wanted = max 1 (2 * length wanted)

-- how many steps are left at most, by where a walk stands, where the index stays as it is: one for each entry of the batch, and those of what is still to be asked for
abbrev pub steps_at : Walking → List Entry → WalkStage → ℕ
steps_at walk entries Empty = 1
steps_at walk entries (Asking after) = asks_left (wanted_by walk after entries)
steps_at walk entries (Reading batch at) = length batch.entries - at + (if batch.more then asks_left (wanted_by walk (slice_get batch.entries (length batch.entries - 1)) entries) else 0)
steps_at walk entries Over = 0

-- how many steps of a walk are left at most
abbrev pub steps_left : List Entry → Walking → ℕ
steps_left entries walk = steps_at walk entries walk.stage
