-- What a core's tables give stays where a step changes one table's store.
use Rattle.std.proofs.Common.{Bool, Contains, List, None, Some, [], ap, arith, cond, false, inl, inr, refl, subst, sym, true, ℕ, ◌++◌, ◌∙◌, ◌∷◌, ◌≡◌, ◌≢◌, ◌⊎◌}
use Rattle.std.proofs.lemmas.Bool.Decides.{nat_tests}
use Rattle.std.proofs.lemmas.List.Elements.{filter_map-append}
use Rattle.std.proofs.lemmas.List.{append-nil}
use Rattle.std.specs.List.{cons_option, filter_map}
use Rattle.std.specs.Option.{option_map, option_map_or}
use Rattle.std.specs.Ordering.{int_cmp, is_eq}
use Rattle.std.specs.Prelude.{Option, if◌then◌else◌, map, ℤ, ◌==◌}
use Rattle.list_facts.proofs.Members.{first_in, later_in}
use Rattle.external_pointer.specs.declared.external.Pointer.{Pointer}
use Rattle.tuple_layout.specs.Places.{Row, Rows}
use Rattle.tuple_layout.specs.declared.Place.{Place}
use Rattle.tuple_layout.specs.declared.cell.Cell.{Cell}
use Rattle.slot_page.specs.Pages.{item_in}
use Rattle.slot_page.specs.declared.line.Tid.{Tid}
use Rattle.change_log.specs.Logs.{LogState}
use Rattle.change_log.specs.declared.entry.LogEntry.{LogEntry}
use Rattle.xact_status.specs.Versions.{is_there}
use Rattle.xact_status.specs.Xacts.{Xacts, is_committed, is_running}
use Rattle.lock_table.specs.declared.held.SessionLocks.{SessionLocks}
use Rattle.snapshot_registry.specs.Snapshots.{committed_in, held_at, is_protected, sees}
use Rattle.value_holders.proofs.Tests.{current_is_protected, protected_running}
use Rattle.value_holders.specs.Stamps.{Runs}
use Rattle.row_versions.specs.Relations.{Relation}
use Rattle.row_versions.specs.declared.version.Version.{Version}
use Rattle.table_rows.specs.Steps.{stamp_of}
use Rattle.table_rows.specs.Views.{IsSince}
use Rattle.core_state.specs.Facts.{HasPut}
use Rattle.toast_store.specs.Stores.{Store}
use Rattle.toast_store.specs.Values.{value_in}
use Rattle.read_steps.specs.declared.wanted.Held.{Held}
use Rattle.command_set.specs.Changes.{is_named}
use Rattle.command_set.specs.declared.state.Change.TheVariants.{Insert, Move, Update}
use Rattle.command_set.specs.declared.state.Change.{Change}
use Rattle.table_state.proofs.Stays.{values_stay}
use Rattle.table_state.specs.Events.{IsUnheld, with_toast}
use Rattle.table_state.specs.Rows.{cell_value, pointers_in}
use Rattle.table_state.specs.Tables.{cells_of, row_in}
use Rattle.table_state.specs.declared.table.Table.{Table}
use Rattle.core_state.specs.Coming.{xid_logged}
use Rattle.core_state.specs.Facts.{HandleIsSound, HasVersion, IsSound, KeepsPointer}
use Rattle.core_state.specs.Stands.{CopyStands, change_logged, change_of, logged_changes, row_in_table}
use Rattle.core_state.specs.State.{CoreState, table_at, xid_of}
use Rattle.core_state.specs.Views.{held_value, in_sight, registered, row_at}
use Rattle.core_state.specs.declared.seat.Handle.{Handle}
use Rattle.core_state.specs.declared.seat.State.{State}
use Rattle.core_saves.proofs.Apart.{seen_protected, there_protected, unheld_pointer}
use Rattle.core_saves.proofs.Frame.{Restored, restored_at, rows_restored}
use Rattle.core_saves.proofs.Taken.{OnePiece}
use Rattle.change_log.specs.declared.entry.LogEntry.TheVariants as entries
use Rattle.read_steps.specs.declared.wanted.Held.TheVariants as helds
use Rattle.snapshot_registry.specs.declared.Held as snapshots

-- each value out of line is left but one that no protected version has
pub record ValuesOn (c : CoreState) (tables : List Table) (t : ℕ) (toast : Store) (added : Option ℕ) : Type 0 where
  pub sound : IsSound c
  pub restored : Restored c.tables tables t toast
  pub values : (pointer : Pointer) → added ≢ Some pointer.value_id → value_in toast pointer ≡ value_in (table_at c.tables t).toast pointer
  pub unheld : (id : ℕ) → added ≡ Some id → IsUnheld c.xacts c.snaps (table_at c.tables t) id

-- so each pointer of a protected version is left
left_of : (c : CoreState) (tables : List Table) (t : ℕ) (toast : Store) (added : Option ℕ) (tid : Tid) (version : Version) (pointer : Pointer) → ValuesOn c tables t toast added → item_in (table_at c.tables t).rows.pages tid ≡ Some version
    → is_protected c.xacts c.snaps version.inserter version.ender ≡ true → Contains (pointers_in (cells_of (table_at c.tables t) version)) pointer → value_in toast pointer ≡ value_in (table_at c.tables t).toast pointer
left_of c tables t toast added tid version pointer on at protected has =
    on.values pointer (λ same. unheld_pointer c.xacts c.snaps (table_at c.tables t) tid version pointer.value_id pointer (on.unheld pointer.value_id same) at protected has refl)

-- ---- the rows of worlds

pub row_taken_at : (c : CoreState) (tables : List Table) (t : ℕ) (toast : Store) (added : Option ℕ) (counts : ℕ → Bool) (p : Place) → ValuesOn c tables t toast added
    → ((version : Version) → is_there counts version.inserter version.ender ≡ true → is_protected c.xacts c.snaps version.inserter version.ender ≡ true) → row_at tables counts p ≡ row_at c.tables counts p
row_taken_at c tables t toast added counts p on protected =
    restored_at c.tables tables t toast p.table (λ (table : Table). row_in table counts p.key ≡ row_at c.tables counts p) on.restored
    (λ is same. subst (λ (n : ℕ). row_in (with_toast (table_at c.tables n) toast) counts p.key ≡ row_in (table_at c.tables n) counts p.key) (sym is)
    (values_stay.world (table_at c.tables t) toast counts p.key (λ tid version at there pointer has. left_of c tables t toast added tid version pointer on at.there (protected version there) has))) refl

latest_protected : (c : CoreState) (version : Version) → is_there (is_committed c.xacts) version.inserter version.ender ≡ true → is_protected c.xacts c.snaps version.inserter version.ender ≡ true
latest_protected c version there = current_is_protected c.xacts c.snaps None (stamp_of version) tt there

pub latest_taken : (c : CoreState) (tables : List Table) (t : ℕ) (toast : Store) (added : Option ℕ) (p : Place) → ValuesOn c tables t toast added → row_at tables (is_committed c.xacts) p ≡ row_at c.tables (is_committed c.xacts) p
latest_taken c tables t toast added p on = row_taken_at c tables t toast added (is_committed c.xacts) p on (λ version there. latest_protected c version there)

pub sight_taken : (c : CoreState) (tables : List Table) (t : ℕ) (toast : Store) (added : Option ℕ) (state : State) (p : Place) → Runs c.xacts (xid_of state) → ValuesOn c tables t toast added → row_at tables (in_sight c.xacts state) p ≡ row_at c.tables (in_sight c.xacts state) p
sight_taken c tables t toast added state p runs on = row_taken_at c tables t toast added (in_sight c.xacts state) p on (λ version there. current_is_protected c.xacts c.snaps (xid_of state) (stamp_of version) runs there)

shown_taken : (c : CoreState) (tables : List Table) (t : ℕ) (toast : Store) (added : Option ℕ) (id : ℕ) (held : snapshots.Held) (p : Place) → held_at c.snaps id ≡ Some held → ValuesOn c tables t toast added
    → row_at tables (committed_in c.xacts held.snapshot) p ≡ row_at c.tables (committed_in c.xacts held.snapshot) p
shown_taken c tables t toast added id held p at on =
    row_taken_at c tables t toast added (committed_in c.xacts held.snapshot) p on
    (λ version there. seen_protected c.xacts c.snaps id version.inserter version.ender (ap (λ (o : Option snapshots.Held). option_map_or (λ (its : snapshots.Held). sees c.xacts its.snapshot version.inserter version.ender None) o false) at ∙ there))

-- ---- a transaction's copy

pub copy_taken : (c : CoreState) (tables : List Table) (t : ℕ) (toast : Store) (added : Option ℕ) (o : Option ℕ) (base : Option Rows) (places : List Place) → ValuesOn c tables t toast added → CopyStands c.xacts c.tables (registered c.snaps o) base places → CopyStands c.xacts tables (registered c.snaps o) base places
copy_taken c tables t toast added None base places on old = none base old
  where
    none : (base : Option Rows) → CopyStands c.xacts c.tables None base places → CopyStands c.xacts tables None base places
    none None its = tt
    none (Some rows) its = its
copy_taken c tables t toast added (Some id) base places on old = by (held_at c.snaps id) refl base old
  where
    by : (o : Option snapshots.Held) → held_at c.snaps id ≡ o → (base : Option Rows) → CopyStands c.xacts c.tables (option_map (λ (held : snapshots.Held). held.snapshot) o) base places → CopyStands c.xacts tables (option_map (λ (held : snapshots.Held). held.snapshot) o) base places
    by None at None its = tt
    by None at (Some rows) its = its
    by (Some held) at None its = its
    by (Some held) at (Some rows) its = record {
      rows = λ p. its.rows p ∙ sym (shown_taken c tables t toast added id held p at on);
      since = λ p. subst (λ (its_rows : Relation). IsSince c.xacts held.snapshot its_rows.pages p.key (is_named places p)) (sym (rows_restored c.tables tables t toast p.table on.restored)) (its.since p);
    }

-- ---- what a transaction has changed

cells_taken_at : (c : CoreState) (tables : List Table) (t : ℕ) (toast : Store) (added : Option ℕ) (n xid : ℕ) (key : ℤ) (cells : List Cell) → is_running c.xacts xid ≡ true → HasPut (table_at c.tables n) xid key cells → ValuesOn c tables t toast added → row_in_table tables n cells ≡ row_in_table c.tables n cells
cells_taken_at c tables t toast added n xid key cells running put on =
    restored_at c.tables tables t toast n (λ (table : Table). map (cell_value table.toast) cells ≡ row_in_table c.tables n cells) on.restored
    (λ is same. subst (λ (k : ℕ). map (cell_value toast) cells ≡ map (cell_value (table_at c.tables k).toast) cells) (sym is) (here (subst (λ (k : ℕ). HasPut (table_at c.tables k) xid key cells) is put))) refl
  where
    here : HasPut (table_at c.tables t) xid key cells → map (cell_value toast) cells ≡ map (cell_value (table_at c.tables t).toast) cells
    here its = values_stay.cells (table_at c.tables t).toast toast cells (λ pointer has.
        left_of c tables t toast added its.tid its.version pointer on its.there (protected_running c.xacts c.snaps its.version.inserter its.version.ender (ap (is_running c.xacts) its.inserter ∙ running))
        (subst (λ (cs : List Cell). Contains (pointers_in cs) pointer) (sym its.is) has))

entry_taken : (c : CoreState) (tables : List Table) (t : ℕ) (toast : Store) (added : Option ℕ) (entry : LogEntry) → is_running c.xacts (xid_logged entry) ≡ true → HasVersion c.tables entry → ValuesOn c tables t toast added → change_logged tables entry ≡ change_logged c.tables entry
entry_taken c tables t toast added (entries.Chunk xid n value_id seq bytes) running has on = refl
entry_taken c tables t toast added (entries.Insert xid n key cells) running has on = ap (λ (row : Row). Some (Insert n key row)) (cells_taken_at c tables t toast added n xid key cells running has on)
entry_taken c tables t toast added (entries.Update xid n from to cells) running has on =
    ap (λ (row : Row). Some (if is_eq (int_cmp from to) then Update n to row else Move n from to row)) (cells_taken_at c tables t toast added n xid to cells running has on)
entry_taken c tables t toast added (entries.Delete xid n key) running has on = refl
entry_taken c tables t toast added (entries.Commit xid) running has on = refl
entry_taken c tables t toast added (entries.Abort xid) running has on = refl

of_taken : (c : CoreState) (tables : List Table) (t : ℕ) (toast : Store) (added : Option ℕ) (xid : ℕ) (entry : LogEntry) → is_running c.xacts xid ≡ true → Contains c.log.entries entry → ValuesOn c tables t toast added → change_of tables xid entry ≡ change_of c.tables xid entry
of_taken c tables t toast added xid entry running there on = by (xid_logged entry == xid) refl
  where
    by : (b : Bool) → (xid_logged entry == xid) ≡ b → (if b then change_logged tables entry else None) ≡ (if b then change_logged c.tables entry else None)
    by true same =
        let is : xid_logged entry ≡ xid = grind (arith, nat_tests, same) in
        let runs = ap (is_running c.xacts) is ∙ running in
        entry_taken c tables t toast added entry runs (on.sound.log.put entry there runs) on
    by false differ = refl

filter_in : {X Y : Type 0} (f g : X → Option Y) (xs : List X) → ((x : X) → Contains xs x → f x ≡ g x) → filter_map f xs ≡ filter_map g xs
filter_in f g [] same = refl
filter_in f g (x ∷ xs) same = ap (λ o. cons_option o (filter_map f xs)) (same x (first_in x xs x refl)) ∙ ap (λ ys. cons_option (g x) ys) (filter_in f g xs (λ y e. same y (later_in x xs y e)))

-- a piece tells no change
piece_tells : (tables : List Table) (xid : ℕ) (log later : LogState) (xacts : Xacts) → (later ≡ log) ⊎ OnePiece xacts log later → filter_map (change_of tables xid) later.entries ≡ filter_map (change_of tables xid) log.entries
piece_tells tables xid log later xacts logged = elim logged [
  | inl same ↦ ap (λ (its : LogState). filter_map (change_of tables xid) its.entries) same
  | inr piece ↦
      ap (λ (its : LogState). filter_map (change_of tables xid) its.entries) piece.is
      ∙ filter_map-append (change_of tables xid) log.entries (entries.Chunk piece.xid piece.t piece.value_id piece.seq piece.bytes ∷ [])
      ∙ ap (λ (more : List Change). filter_map (change_of tables xid) log.entries ++ more) (by (piece.xid == xid)) ∙ append-nil (filter_map (change_of tables xid) log.entries)
]
  where
    by : (b : Bool) → cons_option (cond b (change_logged tables (entries.Chunk 0 0 0 0 [])) None) [] ≡ []
    by true = refl
    by false = refl

pub logged_taken : (c : CoreState) (tables : List Table) (t : ℕ) (toast : Store) (added : Option ℕ) (later : LogState) (o : Option ℕ) → Runs c.xacts o → (later ≡ c.log) ⊎ OnePiece c.xacts c.log later → ValuesOn c tables t toast added
    → logged_changes tables later.entries o ≡ logged_changes c.tables c.log.entries o
logged_taken c tables t toast added later None runs logged on = refl
logged_taken c tables t toast added later (Some xid) runs logged on =
    piece_tells tables xid c.log later c.xacts logged ∙ filter_in (change_of tables xid) (change_of c.tables xid) c.log.entries (λ entry there. of_taken c tables t toast added xid entry runs there on)

-- ---- kept values

pub held_taken : (c : CoreState) (tables : List Table) (t : ℕ) (toast : Store) (added : Option ℕ) (held : SessionLocks) (own : Option ℕ) (handle : Handle) → Runs c.xacts own → HandleIsSound c.xacts c.snaps held c.tables own handle → ValuesOn c tables t toast added
    → held_value tables handle.table handle.held ≡ held_value c.tables handle.table handle.held
held_taken c tables t toast added held own handle runs sound on = by handle.held refl
  where
    by : (its : Held) → handle.held ≡ its → held_value tables handle.table its ≡ held_value c.tables handle.table its
    by (helds.Inline bytes) is = refl
    by (helds.Out pointer) is =
        restored_at c.tables tables t toast handle.table (λ (table : Table). value_in table.toast pointer ≡ value_in (table_at c.tables handle.table).toast pointer) on.restored
        (λ at same.
        let keeps = subst (λ (n : ℕ). KeepsPointer c.xacts c.snaps (table_at c.tables n) (handle.snapshot ∷ []) own pointer) at (sound.kept pointer is) in
        subst (λ (n : ℕ). value_in toast pointer ≡ value_in (table_at c.tables n).toast pointer) (sym at)
        (left_of c tables t toast added keeps.tid keeps.version pointer on keeps.there (there_protected c.xacts c.snaps (handle.snapshot ∷ []) own keeps.version runs keeps.seen) keeps.holds)) refl
