-- What tables give after a version step: the rows of the transaction's own world change, and nothing else.
use Rattle.std.proofs.Common.{ap, arith, cond, refl, sym, ◌∙◌}
use Rattle.std.proofs.lemmas.Bool.Decides.{nat_tests}
use Rattle.std.proofs.lemmas.List.Elements.{filter_map-append}
use Rattle.std.specs.List.{cons_option, filter_map}
use Rattle.std.specs.Option.{unwrap_or}
use Rattle.std.specs.Ordering.{int_cmp, is_eq}
use Rattle.std.specs.Prelude.{Bool, List, None, Option, Some, [], false, if◌then◌else◌, map, option_map, option_to_list, true, ℕ, ℤ, ◌++◌, ◌==◌, ◌∷◌, ◌≡◌, ◌≢◌}
use Rattle.tuple_layout.proofs.PlaceLemmas.{other_key, same_key, same_place_is}
use Rattle.tuple_layout.specs.Places.{Row, same_place}
use Rattle.tuple_layout.specs.declared.Place.{Place}
use Rattle.tuple_layout.specs.declared.cell.Cell.{Cell}
use Rattle.row_versions.specs.Relations.{Pages}
use Rattle.row_versions.specs.declared.keys.KeyEntry.{KeyEntry}
use Rattle.change_log.specs.declared.entry.LogEntry.{LogEntry}
use Rattle.toast_store.specs.Stores.{Store}
use Rattle.toast_store.specs.Values.{value_in}
use Rattle.command_set.specs.Changes.{place, said}
use Rattle.command_set.specs.declared.state.Change.{Change}
use Rattle.command_set.specs.declared.state.Change.TheVariants.{Insert, Move, Remove, Update}
use Rattle.table_rows.specs.Worlds.{tuple_in}
use Rattle.table_state.specs.Rows.{cell_value, row_of}
use Rattle.table_state.specs.Tables.{row_in}
use Rattle.table_state.specs.declared.table.Table.{Table}
use Rattle.read_steps.specs.Reads.{reply_of}
use Rattle.read_steps.specs.declared.wanted.Held.{Held}
use Rattle.core_state.specs.Coming.{change_left, xid_logged}
use Rattle.core_state.specs.Stands.{change_logged, change_of, coming, logged_changes, pending_of, row_in_table}
use Rattle.core_state.specs.State.{table_at}
use Rattle.core_state.specs.Views.{held_value, row_at}
use Rattle.core_state.specs.declared.seat.Job.{Job}
use Rattle.core_versions.proofs.Tables.{Steps, at_table}
use Rattle.change_log.specs.declared.entry.LogEntry.TheVariants as entries
use Rattle.core_state.specs.declared.seat.Job.TheVariants as jobs
use Rattle.read_steps.specs.declared.wanted.Held.TheVariants as helds

-- ---- what the values out of line give

-- each table has the values that it had
abbrev pub HaveSame : List Table → List Table → Type 0
HaveSame tables later = (t : ℕ) → (table_at later t).toast ≡ (table_at tables t).toast

cells_same : (tables later : List Table) (t : ℕ) (cells : List Cell) → HaveSame tables later → row_in_table later t cells ≡ row_in_table tables t cells
cells_same tables later t cells same = ap (λ (store : Store). map (cell_value store) cells) (same t)

pub held_same : (tables later : List Table) (t : ℕ) (held : Held) → HaveSame tables later → held_value later t held ≡ held_value tables t held
held_same tables later t (helds.Inline bytes) same = refl
held_same tables later t (helds.Out pointer) same = ap (λ (store : Store). value_in store pointer) (same t)

change_same : (tables later : List Table) (entry : LogEntry) → HaveSame tables later → change_logged later entry ≡ change_logged tables entry
change_same tables later (entries.Chunk xid t value_id seq bytes) same = refl
change_same tables later (entries.Insert xid t key cells) same = ap (λ (row : Row). Some (Insert t key row)) (cells_same tables later t cells same)
change_same tables later (entries.Update xid t from to cells) same = ap (λ (row : Row). Some (if is_eq (int_cmp from to) then Update t to row else Move t from to row)) (cells_same tables later t cells same)
change_same tables later (entries.Delete xid t key) same = refl
change_same tables later (entries.Commit xid) same = refl
change_same tables later (entries.Abort xid) same = refl

pub pending_same : (tables later : List Table) (job : Job) → HaveSame tables later → pending_of later job ≡ pending_of tables job
pending_same tables later jobs.Idle same = refl
pending_same tables later (jobs.Submitted command) same = refl
pending_same tables later (jobs.Reading t snapshot read) same = ap (λ (store : Store). reply_of store read) (same t)
pending_same tables later (jobs.Writing t write) same = refl

pub coming_same : (tables later : List Table) (job : Job) → HaveSame tables later → coming later job ≡ coming tables job
coming_same tables later jobs.Idle same = refl
coming_same tables later (jobs.Submitted command) same = refl
coming_same tables later (jobs.Reading t snapshot read) same = refl
coming_same tables later (jobs.Writing t write) same = ap (λ (store : Store). option_to_list (change_left t store write.stage)) (same t)

-- ---- the changes that the log tells

filter_same : {X Y : Type 0} (f g : X → Option Y) (xs : List X) → ((x : X) → f x ≡ g x) → filter_map f xs ≡ filter_map g xs
filter_same f g [] same = refl
filter_same f g (x ∷ xs) same = ap (λ o. cons_option o (filter_map f xs)) (same x) ∙ ap (λ ys. cons_option (g x) ys) (filter_same f g xs same)

change_of_same : (tables later : List Table) (xid : ℕ) (entry : LogEntry) → HaveSame tables later → change_of later xid entry ≡ change_of tables xid entry
change_of_same tables later xid entry same = ap (λ (o : Option Change). if xid_logged entry == xid then o else None) (change_same tables later entry same)

-- an entry more adds what it tells
logged_more : (tables later : List Table) (log : List LogEntry) (entry : LogEntry) (xid : ℕ) → HaveSame tables later
    → logged_changes later (log ++ entry ∷ []) (Some xid) ≡ logged_changes tables log (Some xid) ++ cons_option (change_of later xid entry) []
logged_more tables later log entry xid same =
    filter_map-append (change_of later xid) log (entry ∷ []) ∙ ap (λ (changes : List Change). changes ++ cons_option (change_of later xid entry) []) (filter_same (change_of later xid) (change_of tables xid) log (λ one. change_of_same tables later xid one same))

-- of another transaction it tells nothing
pub logged_other : (tables later : List Table) (log : List LogEntry) (entry : LogEntry) (own : Option ℕ) → HaveSame tables later → ((xid : ℕ) → own ≡ Some xid → xid_logged entry ≢ xid)
    → logged_changes later (log ++ entry ∷ []) own ≡ logged_changes tables log own
logged_other tables later log entry None same differ = refl
logged_other tables later log entry (Some xid) same differ =
    let other : (xid_logged entry == xid) ≡ false = grind (arith, nat_tests, differ xid refl) in
    logged_more tables later log entry xid same
    ∙ ap (λ (b : Bool). logged_changes tables log (Some xid) ++ cons_option (if b then change_logged later entry else None) []) other
    ∙ append_none (logged_changes tables log (Some xid))
  where
    append_none : (changes : List Change) → changes ++ [] ≡ changes
    append_none [] = refl
    append_none (change ∷ changes) = ap (λ (rest : List Change). change ∷ rest) (append_none changes)

-- of its own, its change
pub logged_own : (tables later : List Table) (log : List LogEntry) (entry : LogEntry) (xid : ℕ) (change : Change) → HaveSame tables later → xid_logged entry ≡ xid → change_logged later entry ≡ Some change
    → logged_changes later (log ++ entry ∷ []) (Some xid) ≡ logged_changes tables log (Some xid) ++ change ∷ []
logged_own tables later log entry xid change same by told =
    let mine : (xid_logged entry == xid) ≡ true = grind (arith, nat_tests, by) in
    logged_more tables later log entry xid same
    ∙ ap (λ (b : Bool). logged_changes tables log (Some xid) ++ cons_option (if b then change_logged later entry else None) []) mine
    ∙ ap (λ (o : Option Change). logged_changes tables log (Some xid) ++ cons_option o []) told

-- ---- rows

-- where a world has the tuple that it had, it has the row that it had
pub row_left : (tables later : List Table) (t : ℕ) (pages : Pages) (keys : List KeyEntry) (counts : ℕ → Bool) (p : Place) → Steps tables later t pages keys
    → (p.table ≡ t → tuple_in counts pages p.key ≡ tuple_in counts (table_at tables t).rows.pages p.key) → row_at later counts p ≡ row_at tables counts p
row_left tables later t pages keys counts p steps same =
    at_table tables later t p.table pages keys (λ (table : Table). row_in table counts p.key ≡ row_in (table_at tables p.table) counts p.key) steps
    (λ is. ap (option_map (row_of (table_at tables t).rows.schema.storages (table_at tables t).toast)) (same is) ∙ ap (λ (n : ℕ). row_in (table_at tables n) counts p.key) (sym is))
    (λ differ. refl)

-- in the table of the step it has the row of its tuple
row_here : (tables later : List Table) (t : ℕ) (pages : Pages) (keys : List KeyEntry) (counts : ℕ → Bool) (p : Place) (o : Option (List ℕ)) → Steps tables later t pages keys → p.table ≡ t → tuple_in counts pages p.key ≡ o
    → row_at later counts p ≡ option_map (row_of (table_at tables t).rows.schema.storages (table_at tables t).toast) o
row_here tables later t pages keys counts p o steps is at =
    ap (λ (n : ℕ). row_in (table_at later n) counts p.key) is ∙ ap (λ (table : Table). row_in table counts p.key) steps.here
    ∙ ap (option_map (row_of (table_at tables t).rows.schema.storages (table_at tables t).toast)) at

key_at : (p : Place) (t : ℕ) (key : ℤ) → p ≡ place t key → is_eq (int_cmp key p.key) ≡ true
key_at p t key is = ap (λ (q : Place). is_eq (int_cmp key q.key)) is ∙ same_key key

-- after an insert
pub row_put : (tables later : List Table) (t : ℕ) (pages : Pages) (keys : List KeyEntry) (counts : ℕ → Bool) (key : ℤ) (bytes : List ℕ) (row : Row) (p : Place) → Steps tables later t pages keys
    → ((k : ℤ) → tuple_in counts pages k ≡ (if is_eq (int_cmp key k) then Some bytes else tuple_in counts (table_at tables t).rows.pages k))
    → row_of (table_at tables t).rows.schema.storages (table_at tables t).toast bytes ≡ row
    → row_at later counts p ≡ unwrap_or (said (Insert t key row) p) (row_at tables counts p)
row_put tables later t pages keys counts key bytes row p steps world is = by (same_place p (place t key)) refl
  where
    by : (b : Bool) → same_place p (place t key) ≡ b → row_at later counts p ≡ unwrap_or (cond b (Some (Some row)) None) (row_at tables counts p)
    by true e =
        let at = same_place_is p (place t key) e in
        row_here tables later t pages keys counts p (Some bytes) steps (ap (λ (q : Place). q.table) at) (world p.key ∙ ap (λ (b : Bool). if b then Some bytes else tuple_in counts (table_at tables t).rows.pages p.key) (key_at p t key at)) ∙ ap Some is
    by false e = row_left tables later t pages keys counts p steps (λ here. world p.key ∙ ap (λ (b : Bool). if b then Some bytes else tuple_in counts (table_at tables t).rows.pages p.key) (other_key p t key e here))

-- after a delete
pub row_removed : (tables later : List Table) (t : ℕ) (pages : Pages) (keys : List KeyEntry) (counts : ℕ → Bool) (key : ℤ) (p : Place) → Steps tables later t pages keys
    → ((k : ℤ) → tuple_in counts pages k ≡ (if is_eq (int_cmp key k) then None else tuple_in counts (table_at tables t).rows.pages k))
    → row_at later counts p ≡ unwrap_or (said (Remove t key) p) (row_at tables counts p)
row_removed tables later t pages keys counts key p steps world = by (same_place p (place t key)) refl
  where
    by : (b : Bool) → same_place p (place t key) ≡ b → row_at later counts p ≡ unwrap_or (cond b (Some None) None) (row_at tables counts p)
    by true e =
        let at = same_place_is p (place t key) e in
        row_here tables later t pages keys counts p None steps (ap (λ (q : Place). q.table) at) (world p.key ∙ ap (λ (b : Bool). if b then None else tuple_in counts (table_at tables t).rows.pages p.key) (key_at p t key at))
    by false e = row_left tables later t pages keys counts p steps (λ here. world p.key ∙ ap (λ (b : Bool). if b then None else tuple_in counts (table_at tables t).rows.pages p.key) (other_key p t key e here))

-- the world after an update or a move
abbrev pub moved_world : (ℕ → Bool) → Pages → ℤ → ℤ → List ℕ → ℤ → Option (List ℕ)
moved_world counts pages from to bytes k = if is_eq (int_cmp to k) then Some bytes else (if is_eq (int_cmp from k) then None else tuple_in counts pages k)

-- after an update
pub row_updated : (tables later : List Table) (t : ℕ) (pages : Pages) (keys : List KeyEntry) (counts : ℕ → Bool) (from to : ℤ) (bytes : List ℕ) (row : Row) (p : Place) → Steps tables later t pages keys
    → ((k : ℤ) → tuple_in counts pages k ≡ moved_world counts (table_at tables t).rows.pages from to bytes k) → from ≡ to
    → row_of (table_at tables t).rows.schema.storages (table_at tables t).toast bytes ≡ row
    → row_at later counts p ≡ unwrap_or (said (Update t to row) p) (row_at tables counts p)
row_updated tables later t pages keys counts from to bytes row p steps world one is = by (same_place p (place t to)) refl
  where
    by : (b : Bool) → same_place p (place t to) ≡ b → row_at later counts p ≡ unwrap_or (cond b (Some (Some row)) None) (row_at tables counts p)
    by true e =
        let at = same_place_is p (place t to) e in
        row_here tables later t pages keys counts p (Some bytes) steps (ap (λ (q : Place). q.table) at)
        (world p.key ∙ ap (λ (b : Bool). if b then Some bytes else (if is_eq (int_cmp from p.key) then None else tuple_in counts (table_at tables t).rows.pages p.key)) (key_at p t to at)) ∙ ap Some is
    by false e = row_left tables later t pages keys counts p steps (λ here.
        let other = other_key p t to e here in
        world p.key ∙ ap (λ (b : Bool). if b then Some bytes else (if is_eq (int_cmp from p.key) then None else tuple_in counts (table_at tables t).rows.pages p.key)) other
        ∙ ap (λ (b : Bool). if b then None else tuple_in counts (table_at tables t).rows.pages p.key) (ap (λ (k : ℤ). is_eq (int_cmp k p.key)) one ∙ other))

-- after a move
pub row_moved : (tables later : List Table) (t : ℕ) (pages : Pages) (keys : List KeyEntry) (counts : ℕ → Bool) (from to : ℤ) (bytes : List ℕ) (row : Row) (p : Place) → Steps tables later t pages keys
    → ((k : ℤ) → tuple_in counts pages k ≡ moved_world counts (table_at tables t).rows.pages from to bytes k)
    → row_of (table_at tables t).rows.schema.storages (table_at tables t).toast bytes ≡ row
    → row_at later counts p ≡ unwrap_or (said (Move t from to row) p) (row_at tables counts p)
row_moved tables later t pages keys counts from to bytes row p steps world is = by (same_place p (place t to)) (same_place p (place t from)) refl refl
  where
    by : (b d : Bool) → same_place p (place t to) ≡ b → same_place p (place t from) ≡ d → row_at later counts p ≡ unwrap_or (cond b (Some (Some row)) (cond d (Some None) None)) (row_at tables counts p)
    by true d e f =
        let at = same_place_is p (place t to) e in
        row_here tables later t pages keys counts p (Some bytes) steps (ap (λ (q : Place). q.table) at)
        (world p.key ∙ ap (λ (b : Bool). if b then Some bytes else (if is_eq (int_cmp from p.key) then None else tuple_in counts (table_at tables t).rows.pages p.key)) (key_at p t to at)) ∙ ap Some is
    by false true e f =
        let at = same_place_is p (place t from) f in
        let here = ap (λ (q : Place). q.table) at in
        row_here tables later t pages keys counts p None steps here
        (world p.key ∙ ap (λ (b : Bool). if b then Some bytes else (if is_eq (int_cmp from p.key) then None else tuple_in counts (table_at tables t).rows.pages p.key)) (other_key p t to e here)
        ∙ ap (λ (b : Bool). if b then None else tuple_in counts (table_at tables t).rows.pages p.key) (key_at p t from at))
    by false false e f = row_left tables later t pages keys counts p steps (λ here.
        world p.key ∙ ap (λ (b : Bool). if b then Some bytes else (if is_eq (int_cmp from p.key) then None else tuple_in counts (table_at tables t).rows.pages p.key)) (other_key p t to e here)
        ∙ ap (λ (b : Bool). if b then None else tuple_in counts (table_at tables t).rows.pages p.key) (other_key p t from f here))
