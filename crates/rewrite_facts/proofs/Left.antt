-- How many steps are left, through what takes no step and through each event.
use Rattle.std.proofs.Common.{◌≡◌, ℕ, zero, suc, ◌+◌, ◌-◌, ◌*◌, ◌<◌, ◌≤◌, ◌⊎◌, inl, inr, Bool, true, false, ◌&&◌, cond, Option, Some, None, List, [], ◌∷◌, length, map, drop, get_or, slice_get, slice_set, nat_le, nat_lt, refl, sym, ap, ◌∙◌, arith}
use Rattle.std.specs.Prelude.{sum_by, ◌==◌}
use Rattle.std.specs.Option.{option_map}
use Rattle.std.proofs.lemmas.Bool.{cases_lt, false≢true}
use Rattle.std.proofs.lemmas.Bool.Decides.{nat_tests}
use Rattle.std.proofs.lemmas.List.{drop_all, drop-drop, get_or_past, map-set}
use Rattle.std.proofs.lemmas.List.Sums.{sum_by-drop_more, sum_by-set, sum_by-take-drop}
use Rattle.std.proofs.lemmas.Option.{get_or_from_slice_get, none-some, slice_get-map, slice_get_within}
use Rattle.slot_page.specs.declared.line.Tid.{Tid}
use Rattle.slot_page.specs.declared.line.LinePointer.{LinePointer}
use Rattle.slot_page.specs.declared.line.LinePointer.TheVariants.{Normal, Dead, Unused}
use Rattle.slot_page.specs.NextItems.{is_before}
use Rattle.slot_page.specs.Slots.{item_of}
use Rattle.slot_page.specs.Pages.{item_in, page_at}
use Rattle.slot_page.proofs.NextItems.{not_before_is}
use Rattle.external_pointer.specs.declared.external.Pointer.{Pointer}
use Rattle.tuple_layout.specs.declared.Storage.{Storage}
use Rattle.tuple_layout.specs.declared.Storage.TheVariants.{External}
use Rattle.tuple_layout.specs.declared.cell.Cell.{Cell}
use Rattle.tuple_layout.specs.declared.cell.Cell.TheVariants.{Null, Inline, Out}
use Rattle.tuple_layout.specs.Places.{Row}
use Rattle.tuple_layout.specs.Sizes.{least_out}
use Rattle.row_versions.specs.declared.version.Version.{Version}
use Rattle.chunk_index.specs.declared.entry.Entry.{Entry}
use Rattle.chunk_index.specs.declared.entry.Pin.{Pin}
use Rattle.chunk_index.specs.Entries.{is_wanted, of_id}
use Rattle.toast_store.specs.Stores.{Store}
use Rattle.toast_store.specs.Values.{piece_count, value_in}
use Rattle.toast_store.specs.Walks.{IsUnderWay, Walking, asks_left, new_walk, steps_at, steps_left, wanted_by}
use Rattle.toast_store.specs.Begun.{IsOverSome}
use Rattle.toast_store.specs.Fetches.{Fetching}
use Rattle.toast_store.specs.PieceJobs as pieces
use Rattle.toast_store.specs.PieceJobs.{Piecing, new_pieces}
use Rattle.toast_store.specs.declared.walk.WalkStage.{WalkStage}
use Rattle.toast_store.specs.declared.walk.WalkStage.TheVariants as walks
use Rattle.table_state.specs.declared.table.Table.{Table}
use Rattle.table_state.specs.Rows.{cell_value}
use Rattle.rewrite_facts.specs.Copies.{next_place}
use Rattle.rewrite_facts.specs.Holds.{CanGoOut}
use Rattle.rewrite_facts.specs.Left.{IsProgress, copy_steps, inline_value, left_at, line_steps, push_steps, read_steps, rest_left, row_steps}
use Rattle.rewrite_facts.specs.Rewrites.{answer_at, with_cell, with_value}
use Rattle.rewrite_facts.specs.declared.stage.RowCopy.{RowCopy}
use Rattle.rewrite_facts.specs.declared.stage.RewriteStage.{RewriteStage}
use Rattle.rewrite_facts.specs.declared.stage.RewriteStage.TheVariants.{Visiting, Filling, Reading, Placing, Laying, Ready}
use Rattle.rewrite_facts.specs.declared.stage.RewriteStep.{RewriteStep}
use Rattle.rewrite_facts.specs.declared.stage.RewriteStep.TheVariants as steps
use Rattle.rewrite_facts.proofs.Cells.{values_set}
use Rattle.rewrite_facts.proofs.Reading.{repinned, with_values}

-- ---- versions still to come

-- from a later place on a list has no more
drops_less : {X : Type 0} (f : X → ℕ) (xs : List X) (m n : ℕ) → m ≤ n → sum_by f (drop n xs) ≤ sum_by f (drop m xs)
drops_less f xs m n most =
    let split : m + (n - m) ≡ n = omega (arith, most) in
    let rest = ap (sum_by f) (drop-drop (n - m) m xs) in
    let whole = ap (λ (k : ℕ). sum_by f (drop k xs)) split in
    omega (arith, rest, whole, sum_by-take-drop f (drop m xs) (n - m))

-- the versions of a page, and of those after it
pages_more : (old : Table) (page : ℕ) → sum_by (line_steps old) (page_at old.rows.pages page) + sum_by (sum_by (line_steps old)) (drop (page + 1) old.rows.pages) ≡ sum_by (sum_by (line_steps old)) (drop page old.rows.pages)
pages_more old page = elim (cases_lt page (length old.rows.pages)) [
  | inl within ↦ sym (sum_by-drop_more (sum_by (line_steps old)) old.rows.pages page [] within)
  | inr past ↦
      let none = ap (sum_by (line_steps old)) (get_or_past old.rows.pages page [] past) in
      let here = ap (sum_by (sum_by (line_steps old))) (drop_all page old.rows.pages past) in
      let later = ap (sum_by (sum_by (line_steps old))) (drop_all (page + 1) old.rows.pages (omega (arith, past))) in
      omega (arith, none, here, later)
]

-- from a later place on there are no more
pub rest_later : (old : Table) (from to : Tid) → is_before to from ≡ false → rest_left old to ≤ rest_left old from
rest_later old from to not_before = by_place (not_before_is to from not_before)
  where
    by_place : (from.page < to.page) ⊎ ((to.page ≡ from.page) × (from.slot ≤ to.slot)) → rest_left old to ≤ rest_left old from
    by_place (inl later) = omega (arith, pages_more old to.page, drops_less (line_steps old) (page_at old.rows.pages to.page) 0 to.slot (omega arith), drops_less (sum_by (line_steps old)) old.rows.pages (from.page + 1) to.page (omega (arith, later)))
    by_place (inr same) =
        let slots = drops_less (line_steps old) (page_at old.rows.pages to.page) from.slot to.slot same.1 in
        let page = ap (λ (n : ℕ). sum_by (line_steps old) (drop from.slot (page_at old.rows.pages n))) same.0 in
        let pages = ap (λ (n : ℕ). sum_by (sum_by (line_steps old)) (drop (n + 1) old.rows.pages)) same.0 in
        omega (arith, slots, page, pages)

-- one version is copied, and those after it are left
pub rest_here : (old : Table) (tid : Tid) (version : Version) → item_in old.rows.pages tid ≡ Some version → rest_left old tid ≡ copy_steps old version + rest_left old (next_place tid)
rest_here old tid version there = elim (cases_lt tid.slot (length (page_at old.rows.pages tid.page))) [
  | inl within ↦
      let first = sum_by-drop_more (line_steps old) (page_at old.rows.pages tid.page) tid.slot Unused within in
      omega (arith, first, by_line (get_or (page_at old.rows.pages tid.page) tid.slot Unused) there)
  | inr past ↦ absurd (none-some version (sym (ap item_of (get_or_past (page_at old.rows.pages tid.page) tid.slot Unused past)) ∙ there))
]
  where
    by_line : (line : LinePointer Version) → item_of line ≡ Some version → line_steps old line ≡ copy_steps old version
    by_line (Normal size item) is = let same : item ≡ version = cc in ap (copy_steps old) same
    by_line Dead is = absurd (none-some version is)
    by_line Unused is = absurd (none-some version is)

-- ---- values that go out

-- with the value of a column gone no more is left
pub row_less : (schema : List Storage) (row : Row) (k : ℕ) → row_steps schema (slice_set row k None) ≤ row_steps schema row
row_less [] row k = omega arith
row_less (s ∷ ss) [] k = omega arith
row_less (s ∷ ss) (v ∷ vs) zero = omega arith
row_less (s ∷ ss) (v ∷ vs) (suc k) = omega (arith, row_less ss vs k)

-- one that may go out takes its draw, and its pieces
pub row_gone : (schema : List Storage) (row : Row) (k : ℕ) (value : List ℕ) → slice_get schema k ≡ Some External → slice_get row k ≡ Some (Some value) → least_out ≤ length value
    → row_steps schema row ≡ row_steps schema (slice_set row k None) + (1 + 2 * piece_count (length value))
row_gone [] row k value external here long = absurd (none-some External external)
row_gone (s ∷ ss) [] k value external here long = absurd (none-some (Some value) here)
row_gone (s ∷ ss) (v ∷ vs) zero value external here long =
    let storage : s ≡ External = cc in
    let is : v ≡ Some value = cc in
    let pushed = ap (λ (t : Storage). push_steps t v) storage ∙ ap (push_steps External) is ∙ ap (λ (b : Bool). cond b (1 + 2 * piece_count (length value)) 0) enough in
    omega (arith, pushed)
  where
    enough : nat_le least_out (length value) ≡ true
    enough = grind (arith, nat_tests)
row_gone (s ∷ ss) (v ∷ vs) (suc k) value external here long = omega (arith, row_gone ss vs k value external here long)

-- a copy whose next column's value is on its way, of which no piece is put
pub left_begun : (old : Table) (place : Tid) (copy : RowCopy) (columns : List ℕ) (at column xid id : ℕ) (value : List ℕ) → CanGoOut old.rows.schema.storages copy.cells column → slice_get copy.cells (column - 1) ≡ Some (Inline value)
    → left_at old place (Placing copy columns at) ≡ left_at old place (Laying (with_cell copy column Null) columns at (new_pieces xid id value)) + 1
left_begun old place copy columns at column xid id value can inline =
    let is : can.value ≡ value = cc in
    let row = row_gone old.rows.schema.storages (map inline_value copy.cells) (column - 1) value can.external (slice_get-map inline_value copy.cells (column - 1) ∙ ap (option_map inline_value) inline) (omega (arith, can.least, ap length is)) in
    let set = ap (row_steps old.rows.schema.storages) (map-set inline_value copy.cells (column - 1) Null) in
    omega (arith, row, set)

-- a copy with a pointer in a column
pub left_out : (old : Table) (place : Tid) (copy : RowCopy) (columns : List ℕ) (at column : ℕ) (p : Pointer) → left_at old place (Placing (with_cell copy column (Out p)) columns (at + 1)) ≤ left_at old place (Placing copy columns at)
left_out old place copy columns at column p =
    let set = ap (row_steps old.rows.schema.storages) (map-set inline_value copy.cells (column - 1) (Out p)) in
    omega (arith, set, row_less old.rows.schema.storages (map inline_value copy.cells) (column - 1))

-- a step of the pieces
pub left_laid : (old : Table) (place : Tid) (copy : RowCopy) (columns : List ℕ) (at : ℕ) (job after : Piecing) → pieces.steps_left job ≡ pieces.steps_left after + 1 → left_at old place (Laying copy columns at job) ≡ left_at old place (Laying copy columns at after) + 1
left_laid old place copy columns at job after left = omega (arith, left)

pub left_over : (old : Table) (place : Tid) (copy : RowCopy) (columns : List ℕ) (at column : ℕ) (job : Piecing) (p : Pointer) → 0 < pieces.steps_left job → left_at old place (Placing (with_cell copy column (Out p)) columns (at + 1)) < left_at old place (Laying copy columns at job)
left_over old place copy columns at column job p some =
    let out = left_out old place copy columns at column p in
    omega (arith, some, out)

-- ---- values that are read

-- who wants some entries of a value wants no more than all
wanted_few : (walk : Walking) (after : Option Entry) (entries : List Entry) → length (wanted_by walk after entries) ≤ length (of_id walk.value_id entries)
wanted_few walk after [] = omega arith
wanted_few walk after (e ∷ es) = by_tests (is_wanted walk.value_id walk.first (walk.end - 1) after e) (e.value_id == walk.value_id) wanted_of_value (wanted_few walk after es)
  where
    first_true : (a b : Bool) → (a && b) ≡ true → a ≡ true
    first_true true b is = refl
    first_true false b is = absurd (false≢true is)

    wanted_of_value : is_wanted walk.value_id walk.first (walk.end - 1) after e ≡ true → (e.value_id == walk.value_id) ≡ true
    wanted_of_value is = first_true (e.value_id == walk.value_id) _ (first_true (e.value_id == walk.value_id && nat_le walk.first e.seq) _ (first_true (e.value_id == walk.value_id && nat_le walk.first e.seq && nat_le e.seq (walk.end - 1)) _ is))

    by_tests : (a b : Bool) → (a ≡ true → b ≡ true) → length (wanted_by walk after es) ≤ length (of_id walk.value_id es) → length (cond a (e ∷ wanted_by walk after es) (wanted_by walk after es)) ≤ length (cond b (e ∷ of_id walk.value_id es) (of_id walk.value_id es))
    by_tests true true implies rest = omega (arith, rest)
    by_tests true false implies rest = absurd (false≢true (implies refl))
    by_tests false true implies rest = omega (arith, rest)
    by_tests false false implies rest = omega (arith, rest)

-- a read that begins
begun_few : (entries : List Entry) (id first end session : ℕ) → steps_left entries (new_walk id first end session) ≤ asks_left (of_id id entries)
begun_few entries id first end session = by_test (nat_lt first end)
  where
    walk : Walking
    walk = new_walk id first end session

    by_test : (b : Bool) → steps_at walk entries (cond b (walks.Asking None) walks.Empty) ≤ asks_left (of_id id entries)
    by_test true = omega (arith, wanted_few walk None entries)
    by_test false = omega arith

-- one cell counts for another in a sum over all
cell_set : (f : Cell → ℕ) (cells : List Cell) (at : ℕ) (was cell : Cell) → slice_get cells at ≡ Some was → sum_by f (slice_set cells at cell) + f was ≡ sum_by f cells + f cell
cell_set f cells at was cell there =
    let here = ap f (get_or_from_slice_get cells at was was there) in
    let set = sum_by-set f cells at cell was (slice_get_within cells at was there) in
    omega (arith, here, set)

pub left_reading : (old : Table) (place : Tid) (copy : RowCopy) (at first end session : ℕ) (p : Pointer) (fetch : Fetching) → slice_get copy.cells at ≡ Some (Out p) → fetch.walk ≡ new_walk p.value_id first end session → left_at old place (Reading copy at fetch) ≤ left_at old place (Filling copy)
left_reading old place copy at first end session p fetch here walk =
    let begun = ap (steps_left old.toast.index.entries) walk in
    omega (arith, begun, begun_few old.toast.index.entries p.value_id first end session, cell_set (read_steps old.toast) copy.cells at (Out p) Null here)

-- cells without a pointer have inline values
inline_all : (store : Store) (cells : List Cell) → ((n : ℕ) (p : Pointer) → slice_get cells n ≡ Some (Out p) → ⊥) → map inline_value cells ≡ map (cell_value store) cells
inline_all store [] none = refl
inline_all store (cell ∷ cells) none = ap (λ (v : Option (List ℕ)). v ∷ map inline_value cells) (by_cell cell (none 0)) ∙ ap (λ (vs : Row). cell_value store cell ∷ vs) (inline_all store cells (λ n. none (suc n)))
  where
    by_cell : (c : Cell) → ((p : Pointer) → Some c ≡ Some (Out p) → ⊥) → inline_value c ≡ cell_value store c
    by_cell Null out = refl
    by_cell (Inline value) out = refl
    by_cell (Out p) out = absurd (out p refl)

pub left_placing : (old : Table) (place : Tid) (copy : RowCopy) (columns : List ℕ) (at : ℕ) → ((n : ℕ) (p : Pointer) → slice_get copy.cells n ≡ Some (Out p) → ⊥) → left_at old place (Placing copy columns at) ≤ left_at old place (Filling copy)
left_placing old place copy columns at none = omega (arith, ap (row_steps old.rows.schema.storages) (inline_all old.toast copy.cells none))

-- a walk with something to take has a step left
some_left : (walk : Walking) (entries : List Entry) → IsOverSome walk.stage → IsUnderWay walk.stage → 0 < steps_left entries walk
some_left walk entries some under_way = by_stage walk.stage some under_way
  where
    by_stage : (s : WalkStage) → IsOverSome s → IsUnderWay s → 0 < steps_at walk entries s
    by_stage walks.Empty over u = absurd over
    by_stage (walks.Asking after) over u = omega arith
    by_stage (walks.Reading batch at) over u = omega (arith, over)
    by_stage walks.Over over u = absurd u

-- a read that is over, with the value of its column
pub left_read : (old : Table) (place : Tid) (copy : RowCopy) (at : ℕ) (fetch : Fetching) (p : Pointer) (value : List ℕ) → slice_get copy.cells at ≡ Some (Out p) → value ≡ value_in old.toast p → IsOverSome fetch.walk.stage → IsUnderWay fetch.walk.stage
    → left_at old place (Filling (with_value copy at value)) < left_at old place (Reading copy at fetch)
left_read old place copy at fetch p value here is some under_way =
    let row = ap (row_steps old.rows.schema.storages) (values_set old.toast copy.cells at (Out p) (Inline value) here (ap Some is)) in
    omega (arith, row, some_left fetch.walk old.toast.index.entries some under_way, cell_set (read_steps old.toast) copy.cells at (Out p) Null here, cell_set (read_steps old.toast) copy.cells at (Out p) (Inline value) here)

-- other pins change nothing of that
pub left_pinned : (old : Table) (pins : List Pin) (place : Tid) (stage : RewriteStage) → left_at (with_values old (repinned old.toast pins)) place stage ≡ left_at old place stage
left_pinned old pins place Visiting = refl
left_pinned old pins place (Filling copy) = refl
left_pinned old pins place (Reading copy at fetch) = refl
left_pinned old pins place (Placing copy columns at) = refl
left_pinned old pins place (Laying copy columns at job) = refl
left_pinned old pins place Ready = refl

-- ---- progress

-- fewer than before are fewer than more
pub progress_from : (before more after : ℕ) (step : RewriteStep) → before ≤ more → IsProgress before after step → IsProgress more after step
progress_from before more after steps.More most is = (is.0, omega (arith, is.1, most))
progress_from before more after steps.Ready most is = is

-- each stage but the last has a step left
pub left_some : (old : Table) (place : Tid) (before : ℕ) (stage : RewriteStage) → left_at old place stage < before → IsProgress before (left_at old place stage) (answer_at stage)
left_some old place before Visiting fewer = (omega arith, fewer)
left_some old place before (Filling copy) fewer = (omega arith, fewer)
left_some old place before (Reading copy at fetch) fewer = (omega arith, fewer)
left_some old place before (Placing copy columns at) fewer = (omega arith, fewer)
left_some old place before (Laying copy columns at job) fewer = (omega arith, fewer)
left_some old place before Ready fewer = refl
