-- What a step of a rewrite does: one event, and no more.
use Rattle.std.specs.Prelude.{ℕ, ◌≡◌, ◌++◌, ◌∷◌, [], Some, slice_get, ⊤}
use Rattle.external_pointer.specs.declared.external.Pointer.{Pointer}
use Rattle.tuple_layout.specs.declared.cell.Cell.TheVariants.{Out}
use Rattle.value_ids.specs.Ids.{Pool, first_free_id, id_after}
use Rattle.value_ids.specs.Faults.{IsCause}
use Rattle.value_ids.specs.declared.fault.DrawFault.{DrawFault}
use Rattle.value_ids.specs.declared.fault.DrawFault.TheVariants.{NoValueId, Memory}
use Rattle.row_versions.specs.declared.version.Version.{Version}
use Rattle.row_versions.specs.Relations.{with_version}
use Rattle.toast_store.specs.Stores.{Store}
use Rattle.toast_store.specs.Fetches.{FetchSteps, Fetching, new_fetch}
use Rattle.toast_store.specs.declared.fetch.FetchStep.{FetchStep}
use Rattle.toast_store.specs.declared.fetch.FetchStep.TheVariants as told
use Rattle.toast_store.specs.PieceJobs.{Piecing, PiecesStep}
use Rattle.rewrite_facts.specs.Rewrites.{Rewriting, is_used_in, with_value}
use Rattle.rewrite_facts.specs.declared.stage.RowCopy.{RowCopy}
use Rattle.rewrite_facts.specs.declared.stage.RewriteStage.{RewriteStage}
use Rattle.rewrite_facts.specs.declared.stage.RewriteStage.TheVariants.{Visiting, Filling, Reading, Placing, Laying, Ready}
use Rattle.rewrite_full.specs.Moves.{whole_span}

-- a pool from which a session has drawn an id for a table
abbrev pub drawn_from : Pool → ℕ → ℕ → ℕ → Pool
drawn_from ids table session id = record ids { next = id_after ids id; in_hand = ids.in_hand ++ (record { table = table; session = session; id = id }) ∷ [] }

-- the read begins of a copy's value that is out of line
pub record Begins (session : ℕ) (copy : RowCopy) (at : ℕ) (fetch : Fetching) : Type 0 where
  pub pointer : Pointer
  pub out : slice_get copy.cells at ≡ Some (Out pointer)
  pub is : fetch ≡ new_fetch pointer (whole_span pointer) session

-- the read that is due at a stage: the one under way, or, where a copy or a visit is next, one that begins
abbrev pub IsReadOf : ℕ → RewriteStage → RowCopy → ℕ → Fetching → Type 0
IsReadOf session Visiting copy at fetch = Begins session copy at fetch
IsReadOf session (Filling same) copy at fetch = Begins session copy at fetch
IsReadOf session (Reading same place under_way) copy at fetch = (same ≡ copy) × ((place ≡ at) × (under_way ≡ fetch))
IsReadOf session (Placing same columns n) copy at fetch = ⊥
IsReadOf session (Laying same columns n pieces) copy at fetch = ⊥
IsReadOf session Ready copy at fetch = ⊥

-- where a rewrite goes on after a step of a read, which told that there is more, or the value
abbrev pub read_on : RowCopy → ℕ → Fetching → FetchStep → RewriteStage
read_on copy at next told.More = Reading copy at next
read_on copy at next (told.Done value) = Filling (with_value copy at value)

-- one step of the read of an old value, which changes no more of the old store than pins
pub record Reads (old : Store) (before : Rewriting) (later : Store) (after : Rewriting) : Type 0 where
  pub copy : RowCopy
  pub at : ℕ
  pub fetch : Fetching
  pub next : Fetching
  pub told : FetchStep
  pub due : IsReadOf before.session before.stage copy at fetch
  pub session : fetch.walk.session ≡ before.session
  pub step : FetchSteps old fetch later next told
  pub stage : after.stage ≡ read_on copy at next told
  pub rows : after.rows ≡ before.rows
  pub toast : after.toast ≡ before.toast

-- what takes no step leaves the read that is due
abbrev pub KeepsRead : ℕ → RewriteStage → RewriteStage → Type 0
KeepsRead session before after = (copy : RowCopy) (at : ℕ) (fetch : Fetching) → IsReadOf session after copy at fetch → IsReadOf session before copy at fetch

-- a draw of an id that neither store uses and that is not in hand for the table
pub record Draws (old : Store) (ids : Pool) (before : Rewriting) (ids_after : Pool) (after : Rewriting) : Type 0 where
  pub id : ℕ
  pub free : first_free_id (is_used_in old before.toast) ids before.table ≡ Some id
  pub drawn : ids_after ≡ drawn_from ids before.table before.session id
  pub rows : after.rows ≡ before.rows
  pub toast : after.toast ≡ before.toast

-- a piece of a value is put into the new store, or its entry is added there
pub record Lays (before after : Rewriting) : Type 0 where
  pub job : Piecing
  pub left : Piecing
  pub xid : job.xid ≡ before.xid
  pub step : PiecesStep before.toast job after.toast left
  pub rows : after.rows ≡ before.rows

-- a version is put into the new rows
pub record Puts (before after : Rewriting) : Type 0 where
  pub version : Version
  pub rows : after.rows ≡ with_version before.rows version
  pub toast : after.toast ≡ before.toast

-- nothing is left
pub record Ends (before after : Rewriting) : Type 0 where
  pub stage : after.stage ≡ Ready
  pub rows : after.rows ≡ before.rows
  pub toast : after.toast ≡ before.toast

-- a step is one of these, and what it does not name stays
pub data IsEvent (old : Store) (ids : Pool) (before : Rewriting) (later : Store) (ids_after : Pool) (after : Rewriting) : Type 0 where
  ReadsOne : Reads old before later after → ids_after ≡ ids → IsEvent old ids before later ids_after after
  DrawsOne : Draws old ids before ids_after after → later ≡ old → IsEvent old ids before later ids_after after
  LaysOne : Lays before after → later ≡ old → ids_after ≡ ids → IsEvent old ids before later ids_after after
  PutsOne : Puts before after → later ≡ old → ids_after ≡ ids → IsEvent old ids before later ids_after after
  EndsAll : Ends before after → later ≡ old → ids_after ≡ ids → IsEvent old ids before later ids_after after

-- why a step is refused: for an id only where every id is in use in the old store, in the new one or in hand
abbrev pub IsDrawCause : Store → Pool → Rewriting → DrawFault → Type 0
IsDrawCause old ids r (NoValueId in_use) = IsCause (is_used_in old r.toast) ids r.table (NoValueId in_use)
IsDrawCause old ids r Memory = ⊤
