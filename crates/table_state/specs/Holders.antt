-- Which versions of a table hold a value out of line, and the stamps of the value's chunks.
use Rattle.std.specs.Prelude.{ℕ, Bool, List, map, Option, Some, None, if◌then◌else◌}
use Rattle.std.specs.Option.{option_and_then}
use Rattle.slot_page.specs.declared.line.Tid.{Tid}
use Rattle.slot_page.specs.Pages.{item_in}
use Rattle.tuple_layout.specs.declared.Storage.{Storage}
use Rattle.table_state.specs.Cells.{cells_in}
use Rattle.row_versions.specs.declared.version.Version.{Version}
use Rattle.row_versions.specs.Relations.{Pages}
use Rattle.chunk_relation.specs.Chunks.{chunk_stamp}
use Rattle.toast_store.specs.Stores.{Store, chunks_of}
use Rattle.xact_status.specs.declared.Stamp.{Stamp}
use Rattle.value_holders.specs.Holders.{Holders}
use Rattle.table_rows.specs.Steps.{stamp_of}
use Rattle.table_state.specs.Rows.{has_id}

-- the stamp of a version, if a test of tuples holds of its tuple
abbrev pub stamp_if : (List ℕ → Bool) → Version → Option Stamp
stamp_if holds version = if holds version.tuple then Some (stamp_of version) else None

-- the stamps of the versions whose tuples pass a test, by their tids
abbrev pub holders_by : (List ℕ → Bool) → Pages → Holders Tid
holders_by holds pages tid = option_and_then (stamp_if holds) (item_in pages tid)

-- the versions that hold a value: those whose tuple has a pointer with its id
abbrev pub holders_of : List Storage → Pages → ℕ → Holders Tid
holders_of schema pages value_id = holders_by (λ tuple. has_id value_id (cells_in schema tuple)) pages

-- the stamps of the chunks of a value
abbrev pub chunk_stamps : Store → ℕ → List Stamp
chunk_stamps store value_id = map chunk_stamp (chunks_of store value_id)
