-- What one step of a read does to the pin of its own session, and to what the read relies on.
use Rattle.std.proofs.Common.{ap, arith, cond, inl, inr, refl, subst, sym, ◌∙◌}
use Rattle.std.proofs.lemmas.Bool.Decides.{nat_tests}
use Rattle.std.proofs.lemmas.List.{length-set}
use Rattle.std.specs.List.Sorted.{IsStrictlySortedBy}
use Rattle.std.specs.Option.{option_and_then, option_map_or}
use Rattle.std.specs.Prelude.{Bool, Contains, Err, IfSome, List, None, Ok, Option, Some, [], false, is_some, length, nat_lt, not, option_map, slice_get, slice_index_or, slice_set, suc, true, zero, ℕ, ◌+◌, ◌-◌, ◌<◌, ◌==◌, ◌∷◌, ◌≡◌, ◌≢◌, ◌≤◌}
use Rattle.list_facts.proofs.Members.{cases_in, first_in, later_in, none_in_nil}
use Rattle.external_pointer.specs.declared.external.Pointer.{Pointer}
use Rattle.tuple_layout.specs.Schemas.{TableSchema}
use Rattle.tuple_layout.specs.declared.cell.Cell.{Cell}
use Rattle.tuple_layout.specs.declared.cell.Cell.TheVariants.{Inline, Null, Out}
use Rattle.tuple_layout.specs.declared.cell.Stored.{Stored}
use Rattle.slice_fetch.specs.declared.Span.{Span}
use Rattle.chunk_index.proofs.PinFacts.{pin_dropped, pin_of-batch, pin_of-without}
use Rattle.chunk_index.specs.Entries.{entry_cmp}
use Rattle.chunk_index.specs.Indexes.{Index, after_batch, batch_of}
use Rattle.chunk_index.specs.Leaves.{Leaf, leaf_of}
use Rattle.chunk_index.specs.Pinned.{pin_of, with_pin, without_pin}
use Rattle.chunk_index.specs.declared.entry.Batch.{Batch}
use Rattle.chunk_index.specs.declared.entry.Entry.{Entry}
use Rattle.chunk_index.specs.declared.entry.Pin.{Pin}
use Rattle.toast_store.proofs.Begun.{some_left}
use Rattle.toast_store.proofs.OwnLeaf.{empty_batch}
use Rattle.toast_store.specs.Fetches.{Fetching, answer_by, end_of, fetch_after, first_of, new_fetch, next_chunk, refusal}
use Rattle.toast_store.specs.Stores.{Store}
use Rattle.toast_store.specs.Walks.{CanStep, MayAsk, Walking, index_after, index_walked, is_over, stage_after, stage_of_batch, steps_left, wanted_by}
use Rattle.toast_store.specs.declared.fault.FetchFault.{FetchFault}
use Rattle.toast_store.specs.declared.fault.FetchFault.TheVariants.{MissingChunk}
use Rattle.toast_store.specs.declared.walk.WalkStage.{WalkStage}
use Rattle.table_state.specs.declared.table.Table.{Table}
use Rattle.read_steps.proofs.Rows.{cell_found, new_steps}
use Rattle.read_steps.specs.Columns.{next_out, row_in}
use Rattle.read_steps.specs.Reads.{CanRead, IsUnderWay, Reading, bytes_due, bytes_told, fetch_at, fetch_due, part_step, read_after, row_begun, row_fetch, row_left, row_step, steps_at, store_fetched, store_read, stepped, whole_fetch, with_value}
use Rattle.read_steps.specs.Sound.{IsReadStage}
use Rattle.read_steps.specs.declared.stage.ReadStage.{ReadStage}
use Rattle.read_steps.specs.declared.stage.ReadStep.{ReadStep}
use Rattle.core_state.proofs.Lists.{read_found, read_other, read_written}
use Rattle.core_state.specs.Facts.{fetch_id, has_batch, ids_in, ids_to_read, read_has_batch}
use Rattle.core_state.specs.Lines.{with_table}
use Rattle.core_state.specs.State.{IsTableOf, no_table, schemas_of, table_at}
use Rattle.core_reads.proofs.Repins.{Repins, SamePins, repinned, with_pins}
use Rattle.read_steps.specs.declared.stage.ReadStage.TheVariants as read_stages
use Rattle.read_steps.specs.declared.stage.ReadStep.TheVariants as steps
use Rattle.toast_store.specs.declared.walk.WalkStage.TheVariants as walks
use Rattle.command_set.specs.declared.Reply.TheVariants as replies
use Rattle.toast_store.specs.Walks as walk_steps
use Rattle.toast_store.specs.declared.fetch.FetchStep.TheVariants as fetches

-- ---- the pins

-- an index, and a store, with other pins of a session
abbrev pub IndexRepins : Index → ℕ → Index → Type 0
IndexRepins index s later = (pins : List Pin) × (later ≡ record index { pins = pins }) × SamePins index.pins pins s

abbrev pub StoreRepins : Store → ℕ → Store → Type 0
StoreRepins store s later = (pins : List Pin) × (later ≡ with_pins store pins) × SamePins store.index.pins pins s

same_pins : (pins : List Pin) (s : ℕ) → SamePins pins pins s
same_pins pins s = record { others = λ o differ. refl }

-- a step of a walk changes the pin of its session alone
index_repins : (index : Index) (walk : Walking) → MayAsk index walk.session walk.stage → IndexRepins index walk.session (index_walked index walk)
index_repins index walk may = by walk.stage may
  where
    batched : (wanted : List Entry) → pin_of index.pins walk.session ≡ None → IndexRepins index walk.session (after_batch index walk.session wanted)
    batched [] none = (index.pins, refl, same_pins index.pins walk.session)
    batched (first ∷ rest) none = (
      with_pin index.pins walk.session (leaf_of index.bounds first),
      refl,
      record { others = λ o differ. pin_of-batch index walk.session (first ∷ rest) o none differ },
    )

    taken : (b : Bool) → IndexRepins index walk.session (cond b index (record index { pins = without_pin index.pins walk.session }))
    taken true = (index.pins, refl, same_pins index.pins walk.session)
    taken false = (
      without_pin index.pins walk.session,
      refl,
      record { others = λ o differ. pin_of-without index.pins walk.session o ∙ grind (arith, nat_tests, differ) },
    )

    by : (stage : WalkStage) → MayAsk index walk.session stage → IndexRepins index walk.session (index_after index walk stage)
    by walks.Empty may = (index.pins, refl, same_pins index.pins walk.session)
    by (walks.Asking after) may = batched (wanted_by walk after index.entries) may
    by (walks.Reading batch at) may = taken (nat_lt (at + 1) (length batch.entries))
    by walks.Over may = (index.pins, refl, same_pins index.pins walk.session)

-- and so does a step of a read
pub store_repins : (store : Store) (read : Reading) (s : ℕ) → CanRead store read → IfSome (fetch_due read) (λ (fetch : Fetching). Walking.session (Fetching.walk fetch) ≡ s) → StoreRepins store s (store_read store read)
store_repins store read s can walks = by (fetch_due read) can.can_step walks
  where
    by : (f : Option Fetching) → IfSome f (λ (fetch : Fetching). CanStep store.index (Fetching.walk fetch)) → IfSome f (λ (fetch : Fetching). Walking.session (Fetching.walk fetch) ≡ s) → StoreRepins store s (store_fetched store f)
    by None can own = (store.index.pins, refl, same_pins store.index.pins s)
    by (Some fetch) can own =
        let its = index_repins store.index (Fetching.walk fetch) can.1 in
        (its.0, ap (λ (index : Index). record store { index = index }) its.1, subst (λ (n : ℕ). SamePins store.index.pins its.0 n) own its.2)

schemas_set : (tables : List Table) (i : ℕ) (table : Table) → ((was : Table) → slice_get tables i ≡ Some was → table.rows.schema ≡ was.rows.schema) → schemas_of (slice_set tables i table) ≡ schemas_of tables
schemas_set [] i table same = refl
schemas_set (was ∷ tables) zero table same = ap (λ (schema : TableSchema). schema ∷ schemas_of tables) (same was refl)
schemas_set (was ∷ tables) (suc i) table same = ap (λ (schemas : List TableSchema). was.rows.schema ∷ schemas) (schemas_set tables i table same)

-- one table is written that has other pins of a session
pub set_repins : (tables : List Table) (t s : ℕ) (store : Store) → IsTableOf tables t → StoreRepins (table_at tables t).toast s store → Repins tables (with_table tables t (record (table_at tables t) { toast = store })) s
set_repins tables zero s store there its =
    let low = there.from_one in
    absurd (omega (arith, low))
set_repins tables (suc i) s store there its =
    let within = there.within in
    let place : suc i - 1 ≡ i = omega arith in
    let low : i < length tables = omega (arith, within) in
    rw place (record {
      count = length-set tables i _;
      schemas = schemas_set tables i _ (λ was e. ap (λ (table : Table). table.rows.schema) (read_found tables i was no_table e));
      each = λ t. by t low;
    })
  where
    new : Table
    new = record (slice_index_or tables i no_table) { toast = store }

    is : new ≡ repinned (slice_index_or tables i no_table) its.0
    is = ap (λ (toast : Store). record (slice_index_or tables i no_table) { toast = toast }) its.1

    by : (t : ℕ) → i < length tables → (pins : List Pin) × (table_at (slice_set tables i new) t ≡ repinned (table_at tables t) pins) × SamePins (table_at tables t).toast.index.pins pins s
    by zero low = ([], refl, same_pins [] s)
    by (suc k) low = at (k == i) refl
      where
        at : (b : Bool) → (k == i) ≡ b → (pins : List Pin) × (slice_index_or (slice_set tables i new) k no_table ≡ repinned (slice_index_or tables k no_table) pins) × SamePins (slice_index_or tables k no_table).toast.index.pins pins s
        at true e =
            let same : k ≡ i = grind (arith, nat_tests, e) in
            rw same (its.0, read_written tables i new no_table low ∙ is, its.2)
        at false e =
            let differ : k ≢ i = grind (arith, nat_tests, e) in
            ((slice_index_or tables k no_table).toast.index.pins, read_other tables i k new no_table differ, same_pins (slice_index_or tables k no_table).toast.index.pins s)

-- the table that is written is the one that is read there
pub table_written : (tables : List Table) (t : ℕ) (table : Table) → IsTableOf tables t → table_at (with_table tables t table) t ≡ table
table_written tables zero table there =
    let low = there.from_one in
    absurd (omega (arith, low))
table_written tables (suc i) table there =
    let within = there.within in
    let place : suc i - 1 ≡ i = omega arith in
    let low : i < length tables = omega (arith, within) in
    rw place (read_written tables i table no_table low)

-- and the others are as they were
pub table_other : (tables : List Table) (t other : ℕ) (table : Table) → 1 ≤ t → other ≢ t → table_at (with_table tables t table) other ≡ table_at tables other
table_other tables zero other table low differ = absurd (omega (arith, low))
table_other tables (suc i) zero table low differ = refl
table_other tables (suc i) (suc k) table low differ =
    let place : suc i - 1 ≡ i = omega arith in
    let apart : k ≢ i = λ e. differ (ap suc e) in
    rw place (read_other tables i k table no_table apart)

-- ---- a pin, and what is left of a batch

over_none : (stage : WalkStage) → is_over stage ≡ true → has_batch stage ≡ false
over_none walks.Empty e = refl
over_none (walks.Asking after) e = refl
over_none (walks.Reading batch at) e = absurd (cc)
over_none walks.Over e = refl

-- who has a pin after a step has entries of a batch still to take, if that was so before
pins_walked : (index : Index) (walk : Walking) (leaf : Leaf) → IsStrictlySortedBy entry_cmp index.bounds → ((l : Leaf) → pin_of index.pins walk.session ≡ Some l → has_batch walk.stage ≡ true)
    → pin_of (Index.pins (index_walked index walk)) walk.session ≡ Some leaf → has_batch (stage_after index walk walk.stage) ≡ true
pins_walked index walk leaf sorted before pinned = by walk.stage before pinned
  where
    batched : (wanted batch : List Entry) → (batch ≡ [] → wanted ≡ []) → (pin_of index.pins walk.session ≡ Some leaf → false ≡ true) → pin_of (Index.pins (after_batch index walk.session wanted)) walk.session ≡ Some leaf
        → has_batch (stage_of_batch wanted batch) ≡ true
    batched wanted (e ∷ es) none before pinned = refl
    batched [] [] none before pinned = before pinned
    batched (w ∷ ws) [] none before pinned =
        let clash : (w ∷ ws) ≡ [] = none refl in
        absurd (cc)

    taken : (batch : Batch) (at : ℕ) (b : Bool) → pin_of (Index.pins (cond b index (record index { pins = without_pin index.pins walk.session }))) walk.session ≡ Some leaf
        → has_batch (cond b (walks.Reading batch (at + 1)) (cond batch.more (walks.Asking (slice_get batch.entries at)) walks.Over)) ≡ true
    taken batch at true pinned = refl
    taken batch at false pinned =
        let gone = pin_dropped index.pins walk.session in
        absurd (cc)

    by : (stage : WalkStage) → ((l : Leaf) → pin_of index.pins walk.session ≡ Some l → has_batch stage ≡ true) → pin_of (Index.pins (index_after index walk stage)) walk.session ≡ Some leaf → has_batch (stage_after index walk stage) ≡ true
    by walks.Empty before pinned = before leaf pinned
    by (walks.Asking after) before pinned =
        batched (wanted_by walk after index.entries) (batch_of index.bounds (wanted_by walk after index.entries)) (empty_batch index.bounds (wanted_by walk after index.entries) sorted) (before leaf) pinned
    by (walks.Reading batch at) before pinned = taken batch at (nat_lt (at + 1) (length batch.entries)) pinned
    by walks.Over before pinned = before leaf pinned

-- a fetch whose bytes are told is over
told_over : (store : Store) (fetch : Fetching) (bytes : List ℕ) → bytes_due store fetch ≡ Some bytes → is_over (stage_after store.index (Fetching.walk fetch) (Walking.stage (Fetching.walk fetch))) ≡ true
told_over store fetch bytes told = by_refusal (option_and_then (refusal fetch.size fetch.next) (next_chunk store fetch.walk)) told
  where
    by_over : (b : Bool) (short : Bool) (seq : ℕ) (got : List ℕ) → bytes_told (cond (not b) (Ok fetches.More) (cond short (Err (MissingChunk seq)) (Ok (fetches.Done got)))) ≡ Some bytes → b ≡ true
    by_over true short seq got e = refl
    by_over false short seq got e = absurd (cc)

    by_refusal : (fault : Option FetchFault) → bytes_told (answer_by (fetch_after store fetch) fault) ≡ Some bytes → is_over (stage_after store.index (Fetching.walk fetch) (Walking.stage (Fetching.walk fetch))) ≡ true
    by_refusal (Some fault) e = absurd (cc)
    by_refusal None e = by_over (is_over (stage_after store.index (Fetching.walk fetch) (Walking.stage (Fetching.walk fetch)))) (nat_lt (Fetching.next (fetch_after store fetch)) (Walking.end (Fetching.walk fetch))) (Fetching.next (fetch_after store fetch)) (Fetching.got (fetch_after store fetch)) e

-- where a row stands that is not fetching a value, and a part that is to begin, by whether there is something to fetch
abbrev pub left_by : Stored → Bool → ReadStage × ReadStep
left_by stored b = cond b (read_stages.Row stored, steps.More) (read_stages.Over, steps.Done (replies.Row stored.key (row_in stored.cells)))

abbrev pub part_by : Store → Fetching → Bool → ReadStage × ReadStep
part_by store fetch b = cond b (read_stages.PartValue (fetch_after store fetch), steps.More) (read_stages.Over, steps.Done (replies.Bytes []))

left_none : (stored : Stored) → read_has_batch (row_left stored).0 ≡ false
left_none stored = by (is_some (next_out stored.cells))
  where
    by : (b : Bool) → read_has_batch (left_by stored b).0 ≡ false
    by true = refl
    by false = refl

-- the same of a session's read
pub pins_stepped : (store : Store) (read : Reading) (s : ℕ) (leaf : Leaf) → IsStrictlySortedBy entry_cmp store.index.bounds → IfSome (fetch_due read) (λ (fetch : Fetching). Walking.session (Fetching.walk fetch) ≡ s)
    → ((l : Leaf) → pin_of store.index.pins s ≡ Some l → read_has_batch read.stage ≡ true) → pin_of (Index.pins (Store.index (store_read store read))) s ≡ Some leaf → read_has_batch (Reading.stage (read_after store read)) ≡ true
pins_stepped store read s leaf sorted walks before pinned = by read.stage walks before pinned
  where
    -- one step of a fetch
    fetched : (fetch : Fetching) → Walking.session (Fetching.walk fetch) ≡ s → ((l : Leaf) → pin_of store.index.pins s ≡ Some l → has_batch (Walking.stage (Fetching.walk fetch)) ≡ true)
        → pin_of (Index.pins (index_walked store.index (Fetching.walk fetch))) s ≡ Some leaf → has_batch (stage_after store.index (Fetching.walk fetch) (Walking.stage (Fetching.walk fetch))) ≡ true
    fetched fetch own had pinned =
        pins_walked store.index (Fetching.walk fetch) leaf sorted (λ l e. had l (subst (λ (n : ℕ). pin_of store.index.pins n ≡ Some l) own e))
        (subst (λ (n : ℕ). pin_of (Index.pins (index_walked store.index (Fetching.walk fetch))) n ≡ Some leaf) (sym own) pinned)

    -- one that has not begun had no pin
    clash : {X : Type 0} → false ≡ true → X
    clash e = absurd (cc)

    -- one that tells its bytes leaves none
    ended : (fetch : Fetching) (bytes : List ℕ) → Walking.session (Fetching.walk fetch) ≡ s → ((l : Leaf) → pin_of store.index.pins s ≡ Some l → has_batch (Walking.stage (Fetching.walk fetch)) ≡ true)
        → pin_of (Index.pins (index_walked store.index (Fetching.walk fetch))) s ≡ Some leaf → bytes_due store fetch ≡ Some bytes → false ≡ true
    ended fetch bytes own had pinned told =
        sym (over_none (stage_after store.index (Fetching.walk fetch) (Walking.stage (Fetching.walk fetch))) (told_over store fetch bytes told)) ∙ fetched fetch own had pinned

    row_goes : (stored : Stored) (at : ℕ) (fetch : Fetching) (o : Option (List ℕ)) → Walking.session (Fetching.walk fetch) ≡ s → ((l : Leaf) → pin_of store.index.pins s ≡ Some l → has_batch (Walking.stage (Fetching.walk fetch)) ≡ true)
        → pin_of (Index.pins (index_walked store.index (Fetching.walk fetch))) s ≡ Some leaf → bytes_due store fetch ≡ o → read_has_batch (row_step store stored at fetch o).0 ≡ true
    row_goes stored at fetch None own had pinned told = fetched fetch own had pinned
    row_goes stored at fetch (Some bytes) own had pinned told = left_none (with_value stored at bytes) ∙ ended fetch bytes own had pinned told

    part_goes : (fetch : Fetching) (o : Option (List ℕ)) → Walking.session (Fetching.walk fetch) ≡ s → ((l : Leaf) → pin_of store.index.pins s ≡ Some l → has_batch (Walking.stage (Fetching.walk fetch)) ≡ true)
        → pin_of (Index.pins (index_walked store.index (Fetching.walk fetch))) s ≡ Some leaf → bytes_due store fetch ≡ o → read_has_batch (part_step store fetch o).0 ≡ true
    part_goes fetch None own had pinned told = fetched fetch own had pinned
    part_goes fetch (Some bytes) own had pinned told = ended fetch bytes own had pinned told

    row_starts : (stored : Stored) (next : Option (ℕ × Pointer)) → IfSome (option_map (λ (x : ℕ × Pointer). whole_fetch x.1 read.session) next) (λ (fetch : Fetching). Walking.session (Fetching.walk fetch) ≡ s)
        → ((l : Leaf) → pin_of store.index.pins s ≡ Some l → false ≡ true) → pin_of (Index.pins (Store.index (store_fetched store (option_map (λ (x : ℕ × Pointer). whole_fetch x.1 read.session) next)))) s ≡ Some leaf
        → read_has_batch (row_begun store read.session stored next).0 ≡ true
    row_starts stored None own had pinned = had leaf pinned
    row_starts stored (Some (at, pointer)) own had pinned = fetched (whole_fetch pointer read.session) own (λ l e. clash (had l e)) pinned

    part_starts : (pointer : Pointer) (span : Span) (b : Bool) → IfSome (cond b (Some (new_fetch pointer span read.session)) None) (λ (fetch : Fetching). Walking.session (Fetching.walk fetch) ≡ s)
        → ((l : Leaf) → pin_of store.index.pins s ≡ Some l → false ≡ true) → pin_of (Index.pins (Store.index (store_fetched store (cond b (Some (new_fetch pointer span read.session)) None)))) s ≡ Some leaf
        → read_has_batch (part_by store (new_fetch pointer span read.session) b).0 ≡ true
    part_starts pointer span true own had pinned = fetched (new_fetch pointer span read.session) own (λ l e. clash (had l e)) pinned
    part_starts pointer span false own had pinned = had leaf pinned

    by : (stage : ReadStage) → IfSome (fetch_at read.session stage) (λ (fetch : Fetching). Walking.session (Fetching.walk fetch) ≡ s) → ((l : Leaf) → pin_of store.index.pins s ≡ Some l → read_has_batch stage ≡ true)
        → pin_of (Index.pins (Store.index (store_fetched store (fetch_at read.session stage)))) s ≡ Some leaf → read_has_batch (stepped store read.session stage).0 ≡ true
    by (read_stages.Row stored) own had pinned = row_starts stored (next_out stored.cells) own had pinned
    by (read_stages.RowValue stored at fetch) own had pinned = row_goes stored at fetch (bytes_due store fetch) own had pinned refl
    by (read_stages.Part Null span) own had pinned = had leaf pinned
    by (read_stages.Part (Inline value) span) own had pinned = had leaf pinned
    by (read_stages.Part (Out pointer) span) own had pinned = part_starts pointer span (nat_lt span.start span.end) own had pinned
    by (read_stages.PartValue fetch) own had pinned = part_goes fetch (bytes_due store fetch) own had pinned refl
    by (read_stages.Ready bytes) own had pinned = had leaf pinned
    by read_stages.Over own had pinned = had leaf pinned

-- ---- whose the next fetch is

row_walks : (cells : List Cell) (session s : ℕ) → session ≡ s → IfSome (row_fetch cells session) (λ (fetch : Fetching). Walking.session (Fetching.walk fetch) ≡ s)
row_walks cells session s mine = by (next_out cells)
  where
    by : (next : Option (ℕ × Pointer)) → IfSome (option_map (λ (x : ℕ × Pointer). whole_fetch x.1 session) next) (λ (fetch : Fetching). Walking.session (Fetching.walk fetch) ≡ s)
    by None = tt
    by (Some (at, pointer)) = mine

-- it is the session's, as the fetch before it was
pub walks_stepped : (store : Store) (session s : ℕ) (stage : ReadStage) → session ≡ s → IfSome (fetch_at session stage) (λ (fetch : Fetching). Walking.session (Fetching.walk fetch) ≡ s)
    → IfSome (fetch_at session (stepped store session stage).0) (λ (fetch : Fetching). Walking.session (Fetching.walk fetch) ≡ s)
walks_stepped store session s (read_stages.Row stored) mine own = by (next_out stored.cells)
  where
    by : (next : Option (ℕ × Pointer)) → IfSome (fetch_at session (row_begun store session stored next).0) (λ (fetch : Fetching). Walking.session (Fetching.walk fetch) ≡ s)
    by None = tt
    by (Some (at, pointer)) = mine
walks_stepped store session s (read_stages.RowValue stored at fetch) mine own = by (bytes_due store fetch)
  where
    rest : (left : Stored) (b : Bool) → IfSome (fetch_at session (left_by left b).0) (λ (f : Fetching). Walking.session (Fetching.walk f) ≡ s)
    rest left true = row_walks left.cells session s mine
    rest left false = tt

    by : (o : Option (List ℕ)) → IfSome (fetch_at session (row_step store stored at fetch o).0) (λ (f : Fetching). Walking.session (Fetching.walk f) ≡ s)
    by None = own
    by (Some bytes) = rest (with_value stored at bytes) (is_some (next_out (Stored.cells (with_value stored at bytes))))
walks_stepped store session s (read_stages.Part Null span) mine own = tt
walks_stepped store session s (read_stages.Part (Inline value) span) mine own = tt
walks_stepped store session s (read_stages.Part (Out pointer) span) mine own = by (nat_lt span.start span.end)
  where
    by : (b : Bool) → IfSome (fetch_at session (part_by store (new_fetch pointer span session) b).0) (λ (f : Fetching). Walking.session (Fetching.walk f) ≡ s)
    by true = mine
    by false = tt
walks_stepped store session s (read_stages.PartValue fetch) mine own = by (bytes_due store fetch)
  where
    by : (o : Option (List ℕ)) → IfSome (fetch_at session (part_step store fetch o).0) (λ (f : Fetching). Walking.session (Fetching.walk f) ≡ s)
    by None = own
    by (Some bytes) = tt
walks_stepped store session s (read_stages.Ready bytes) mine own = tt
walks_stepped store session s read_stages.Over mine own = tt

-- ---- the values that are still to be read

ids_more : (cell : Cell) (cells : List Cell) (value_id : ℕ) → Contains (ids_in cells) value_id → Contains (ids_in (cell ∷ cells)) value_id
ids_more Null cells value_id h = h
ids_more (Inline value) cells value_id h = h
ids_more (Out pointer) cells value_id h = later_in pointer.value_id (ids_in cells) value_id h

-- the id of a pointer in a column is among them
pub id_of_cell : (cells : List Cell) (at : ℕ) (pointer : Pointer) → slice_get cells at ≡ Some (Out pointer) → Contains (ids_in cells) pointer.value_id
id_of_cell [] at pointer e = absurd (cc)
id_of_cell (cell ∷ cells) zero pointer e =
    let is : cell ≡ Out pointer = cc in
    subst (λ (x : Cell). Contains (ids_in (x ∷ cells)) pointer.value_id) (sym is) (first_in pointer.value_id (ids_in cells) pointer.value_id refl)
id_of_cell (cell ∷ cells) (suc at) pointer e = ids_more cell cells pointer.value_id (id_of_cell cells at pointer e)

ids_set : (cells : List Cell) (at : ℕ) (bytes : List ℕ) (value_id : ℕ) → Contains (ids_in (slice_set cells at (Inline bytes))) value_id → Contains (ids_in cells) value_id
ids_set [] at bytes value_id h = h
ids_set (cell ∷ cells) zero bytes value_id h = ids_more cell cells value_id h
ids_set (Null ∷ cells) (suc at) bytes value_id h = ids_set cells at bytes value_id h
ids_set (Inline value ∷ cells) (suc at) bytes value_id h = ids_set cells at bytes value_id h
ids_set (Out pointer ∷ cells) (suc at) bytes value_id h = elim (cases_in pointer.value_id (ids_in (slice_set cells at (Inline bytes))) value_id h) [
  | inl e ↦ first_in pointer.value_id (ids_in cells) value_id e
  | inr e ↦ later_in pointer.value_id (ids_in cells) value_id (ids_set cells at bytes value_id e)
]

-- a step reads no other value than were to be read
pub ids_stepped : (store : Store) (session : ℕ) (stage : ReadStage) (value_id : ℕ) → Contains (ids_to_read (stepped store session stage).0) value_id → Contains (ids_to_read stage) value_id
ids_stepped store session (read_stages.Row stored) value_id h = by (next_out stored.cells) refl h
  where
    by : (next : Option (ℕ × Pointer)) → next_out stored.cells ≡ next → Contains (ids_to_read (row_begun store session stored next).0) value_id → Contains (ids_in stored.cells) value_id
    by None e h = absurd (none_in_nil value_id h)
    by (Some (at, pointer)) e h = elim (cases_in pointer.value_id (ids_in stored.cells) value_id h) [
      | inl is ↦ subst (λ (n : ℕ). Contains (ids_in stored.cells) n) is (id_of_cell stored.cells at pointer (cell_found stored.cells at pointer e))
      | inr rest ↦ rest
    ]
ids_stepped store session (read_stages.RowValue stored at fetch) value_id h = by (bytes_due store fetch) h
  where
    rest : (bytes : List ℕ) (b : Bool)
        → Contains (ids_to_read (left_by (with_value stored at bytes) b).0) value_id
        → Contains (fetch_id fetch ∷ ids_in stored.cells) value_id
    rest bytes true h = later_in (fetch_id fetch) (ids_in stored.cells) value_id (ids_set stored.cells at bytes value_id h)
    rest bytes false h = absurd (none_in_nil value_id h)

    by : (o : Option (List ℕ)) → Contains (ids_to_read (row_step store stored at fetch o).0) value_id → Contains (fetch_id fetch ∷ ids_in stored.cells) value_id
    by None h = h
    by (Some bytes) h = rest bytes (is_some (next_out (Stored.cells (with_value stored at bytes)))) h
ids_stepped store session (read_stages.Part Null span) value_id h = absurd (none_in_nil value_id h)
ids_stepped store session (read_stages.Part (Inline value) span) value_id h = absurd (none_in_nil value_id h)
ids_stepped store session (read_stages.Part (Out pointer) span) value_id h = by (nat_lt span.start span.end) h
  where
    by : (b : Bool) → Contains (ids_to_read (part_by store (new_fetch pointer span session) b).0) value_id
        → Contains (pointer.value_id ∷ []) value_id
    by true h = h
    by false h = absurd (none_in_nil value_id h)
ids_stepped store session (read_stages.PartValue fetch) value_id h = by (bytes_due store fetch) h
  where
    by : (o : Option (List ℕ)) → Contains (ids_to_read (part_step store fetch o).0) value_id → Contains (fetch_id fetch ∷ []) value_id
    by None h = h
    by (Some bytes) h = absurd (none_in_nil value_id h)
ids_stepped store session (read_stages.Ready bytes) value_id h = absurd (none_in_nil value_id h)
ids_stepped store session read_stages.Over value_id h = absurd (none_in_nil value_id h)

-- ---- the steps that are left

-- a read under way has one, where a fetch that it is at has something to take
pub some_steps : (entries : List Entry) (session : ℕ) (stage : ReadStage) → IsReadStage session stage → IsUnderWay stage → IfSome (fetch_at session stage) (λ (fetch : Fetching). walk_steps.IsUnderWay (Walking.stage (Fetching.walk fetch)))
    → 1 ≤ steps_at entries session stage
some_steps entries session (read_stages.Row stored) is going walks = omega arith
some_steps entries session (read_stages.RowValue stored at fetch) is going walks =
    let some = some_left entries (Fetching.walk fetch) is.1.some walks in
    omega (arith, some)
some_steps entries session (read_stages.Part Null span) is going walks = omega arith
some_steps entries session (read_stages.Part (Inline value) span) is going walks = omega arith
some_steps entries session (read_stages.Part (Out pointer) span) is going walks = by (nat_lt span.start span.end)
  where
    by : (b : Bool) → 1 ≤ option_map_or (λ (fetch : Fetching). steps_left entries (Fetching.walk fetch)) (cond b (Some (new_fetch pointer span session)) None) 1
    by true = new_steps entries pointer.value_id (first_of span) (end_of span) session
    by false = omega arith
some_steps entries session (read_stages.PartValue fetch) is going walks =
    let some = some_left entries (Fetching.walk fetch) is.some walks in
    omega (arith, some)
some_steps entries session (read_stages.Ready bytes) is going walks = omega arith
some_steps entries session read_stages.Over is going walks = absurd going
