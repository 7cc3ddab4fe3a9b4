-- Every core is sound after a step of a session's write that changes a table's store, the ids in hand and the log alone.
use Rattle.std.proofs.Common.{Contains, List, None, Some, [], ap, arith, inl, inr, length, refl, subst, suc, sym, zero, ℕ, ◌++◌, ◌-◌, ◌<◌, ◌∙◌, ◌∷◌, ◌≡◌, ◌≢◌, ◌⊎◌}
use Rattle.std.proofs.lemmas.List.{length-set}
use Rattle.std.specs.Prelude.{Option, count_by, is_some, map, option_to_list, slice_get, slice_index_or, slice_set, ℤ, ◌==◌}
use Rattle.list_facts.proofs.Members.{none_in_nil}
use Rattle.tuple_layout.specs.Schemas.{TableSchema}
use Rattle.tuple_layout.specs.declared.cell.Cell.{Cell}
use Rattle.slot_page.specs.Pages.{item_in}
use Rattle.slot_page.specs.declared.line.Tid.{Tid}
use Rattle.change_log.specs.Logs.{LogState}
use Rattle.change_log.specs.declared.entry.LogEntry.{LogEntry}
use Rattle.xact_status.specs.Xacts.{IsAssigned, Xacts, session_at}
use Rattle.value_ids.specs.Ids.{Pool}
use Rattle.lock_table.specs.Locks.{held_by}
use Rattle.lock_table.specs.declared.held.SessionLocks.{SessionLocks}
use Rattle.value_holders.specs.Stamps.{Runs}
use Rattle.row_versions.specs.Relations.{Relation}
use Rattle.row_versions.specs.declared.version.Version.{Version}
use Rattle.table_rows.specs.Views.{IsOwnAt}
use Rattle.toast_store.specs.Stores.{Store}
use Rattle.table_state.specs.Events.{IsUnheld, with_toast}
use Rattle.table_state.specs.Tables.{IsTable}
use Rattle.table_state.specs.declared.table.Table.{Table}
use Rattle.core_state.proofs.Answered.{within}
use Rattle.core_state.proofs.Hands.{SameHands, seat_hands}
use Rattle.core_state.proofs.Lists.{in_append, only_one, read_found, read_other, read_there, read_written, sum_stays}
use Rattle.core_state.proofs.Seats.{each_seated, owners_same, seat_there, uses_by}
use Rattle.core_state.specs.Coming.{xid_logged}
use Rattle.core_state.specs.Facts.{AreInHand, AreTouched, HasPut, HasVersion, IsSound, LogIsSound, SeatIsSound, places_logged}
use Rattle.core_state.specs.Lines.{seated, with_table}
use Rattle.core_state.specs.State.{CoreState, IsSession, IsTableOf, job_snapshot, no_table, schemas_of, seat_of, snapshot_of, table_at, xid_of}
use Rattle.core_state.specs.declared.seat.Handle.{Handle}
use Rattle.core_state.specs.declared.seat.Job.{Job}
use Rattle.core_state.specs.declared.seat.Seat.{Seat}
use Rattle.core_saves.proofs.Frame.{AreApartIn, Restored, restored_at, rows_restored, seat_left}
use Rattle.core_saves.proofs.ToRead.{StepLeaves}
use Rattle.change_log.specs.declared.entry.LogEntry.TheVariants as entries

-- a log is as it was, or has one piece more
pub record OnePiece (xacts : Xacts) (log later : LogState) : Type 0 where
  pub xid : ℕ
  pub t : ℕ
  pub value_id : ℕ
  pub seq : ℕ
  pub bytes : List ℕ
  pub is : later ≡ record log { entries = log.entries ++ entries.Chunk xid t value_id seq bytes ∷ [] }
  pub given : IsAssigned xacts xid

-- a session's step, as each part of the core takes it
pub record StepTaken (c : CoreState) (s t : ℕ) (ids : Pool) (log : LogState) (tables : List Table) (toast : Store) (job : Job) (own added : Option ℕ) : Type 0 where
  pub session : IsSession c.seats s
  pub sound : IsSound c
  pub there : IsTableOf c.tables t
  pub restored : Restored c.tables tables t toast
  pub table : IsTable t c.xacts c.snaps (with_toast (table_at c.tables t) toast)
  pub leaves : StepLeaves own added s (table_at c.tables t).toast toast
  pub unheld : (id : ℕ) → added ≡ Some id → IsUnheld c.xacts c.snaps (table_at c.tables t) id
  pub apart : (i : ℕ) (other : Seat) → suc i ≢ s → slice_get c.seats i ≡ Some other → AreApartIn own t other.job
  pub hands : (other : ℕ) → other ≢ s → SameHands c.ids ids other
  pub in_hand : AreInHand ids.in_hand
  pub logged : (log ≡ c.log) ⊎ OnePiece c.xacts c.log log
  pub snapshot : job_snapshot job ≡ job_snapshot (seat_of c s).job
  pub here : SeatIsSound c.xacts c.snaps ids (held_by c.locks s) tables s (record (seat_of c s) { job = job })

-- the core after it
abbrev pub after_taken : CoreState → ℕ → Pool → LogState → List Table → Job → CoreState
after_taken c s ids log tables job = seated (record c { ids = ids; log = log; tables = tables }) s (record (seat_of c s) { job = job })

-- ---- the tables

pub restored_set : (tables : List Table) (t : ℕ) (toast : Store) → IsTableOf tables t → Restored tables (with_table tables t (with_toast (table_at tables t) toast)) t toast
restored_set tables zero toast there =
    let low = there.from_one in
    absurd (omega (arith, low))
restored_set tables (suc i) toast there =
    let within = there.within in
    let place : suc i - 1 ≡ i = omega arith in
    let low : i < length tables = omega (arith, within) in
    rw place (record {
      count = length-set tables i _;
      schemas = schemas_same tables i _ (λ was e. ap (λ (table : Table). table.rows.schema) (read_found tables i was no_table e));
      here = read_written tables i _ no_table low;
      others = λ n differ. other n differ;
    })
  where
    schemas_same : (its : List Table) (k : ℕ) (table : Table) → ((was : Table) → slice_get its k ≡ Some was → table.rows.schema ≡ was.rows.schema) → schemas_of (slice_set its k table) ≡ schemas_of its
    schemas_same [] k table same = refl
    schemas_same (was ∷ its) zero table same = ap (λ (schema : TableSchema). schema ∷ schemas_of its) (same was refl)
    schemas_same (was ∷ its) (suc k) table same = ap (λ (schemas : List TableSchema). was.rows.schema ∷ schemas) (schemas_same its k table same)

    other : (n : ℕ) → n ≢ suc i → table_at (slice_set tables i (with_toast (slice_index_or tables i no_table) toast)) n ≡ table_at tables n
    other zero differ = refl
    other (suc k) differ = read_other tables i k (with_toast (slice_index_or tables i no_table) toast) no_table (λ e. differ (ap suc e))

tables_taken : (c : CoreState) (tables : List Table) (t : ℕ) (toast : Store) → IsSound c → Restored c.tables tables t toast → IsTable t c.xacts c.snaps (with_toast (table_at c.tables t) toast)
    → (i : ℕ) (table : Table) → slice_get tables i ≡ Some table → IsTable (suc i) c.xacts c.snaps table
tables_taken c tables t toast sound restored is i table e =
    subst (λ (its : Table). IsTable (suc i) c.xacts c.snaps its) (read_found tables i table no_table e)
    (restored_at c.tables tables t toast (suc i) (λ (its : Table). IsTable (suc i) c.xacts c.snaps its) restored
    (λ same before. subst (λ (n : ℕ). IsTable n c.xacts c.snaps (with_toast (table_at c.tables n) toast)) (sym same) is)
    (sound.tables i (table_at c.tables (suc i)) (read_there c.tables i no_table low)))
  where
    low : i < length c.tables
    low =
        let count = restored.count in
        let inside = within tables i table e in
        omega (arith, count, inside)

-- ---- the rest

pub runs_of : (xacts : Xacts) (s : ℕ) (o : Option ℕ) → ((xid : ℕ) → o ≡ Some xid → session_at xacts xid ≡ Some s) → Runs xacts o
runs_of xacts s None runs = tt
runs_of xacts s (Some xid) runs = ap is_some (runs xid refl)

touched_taken : (xacts : Xacts) (locks : List SessionLocks) (tables later : List Table) (t : ℕ) (toast : Store) → Restored tables later t toast → AreTouched xacts locks tables → AreTouched xacts locks later
touched_taken xacts locks tables later t toast restored old = record {
  used = λ xid s n tid version runs at by. old.used xid s n tid version runs (was n tid version at) by;
  claimed = λ xid s n tid version runs at by. old.claimed xid s n tid version runs (was n tid version at) by;
}
  where
    was : (n : ℕ) (tid : Tid) (version : Version) → item_in (table_at later n).rows.pages tid ≡ Some version → item_in (table_at tables n).rows.pages tid ≡ Some version
    was n tid version at = ap (λ (rows : Relation). item_in rows.pages tid) (sym (rows_restored tables later t toast n restored)) ∙ at

put_taken : (tables later : List Table) (t : ℕ) (toast : Store) (n xid : ℕ) (key : ℤ) (cells : List Cell) → Restored tables later t toast → HasPut (table_at tables n) xid key cells → HasPut (table_at later n) xid key cells
put_taken tables later t toast n xid key cells restored old =
    restored_at tables later t toast n (λ (table : Table). HasPut table xid key cells) restored (λ same before. record { tid = before.tid; version = before.version; there = before.there; inserter = before.inserter; of_key = before.of_key; is = before.is }) old

version_taken : (tables later : List Table) (t : ℕ) (toast : Store) (entry : LogEntry) → Restored tables later t toast → HasVersion tables entry → HasVersion later entry
version_taken tables later t toast (entries.Chunk xid n value_id seq bytes) restored old = tt
version_taken tables later t toast (entries.Insert xid n key cells) restored old = put_taken tables later t toast n xid key cells restored old
version_taken tables later t toast (entries.Update xid n from to cells) restored old = put_taken tables later t toast n xid to cells restored old
version_taken tables later t toast (entries.Delete xid n key) restored old = tt
version_taken tables later t toast (entries.Commit xid) restored old = old
version_taken tables later t toast (entries.Abort xid) restored old = old

-- with the same entries
log_same : (xacts : Xacts) (locks : List SessionLocks) (log : List LogEntry) (tables later : List Table) (t : ℕ) (toast : Store) → Restored tables later t toast → LogIsSound xacts locks log tables → LogIsSound xacts locks log later
log_same xacts locks log tables later t toast restored old = record {
  given = old.given;
  put = λ entry e running. version_taken tables later t toast entry restored (old.put entry e running);
  changed = λ entry s p e runs names.
      let before = old.changed entry s p e runs names in
      record { claimed = before.claimed; own = subst (λ (rows : Relation). IsOwnAt xacts (xid_logged entry) rows.pages p.key) (sym (rows_restored tables later t toast p.table restored)) before.own };
}

-- and with a piece
log_piece : (xacts : Xacts) (locks : List SessionLocks) (log : List LogEntry) (tables : List Table) (xid t value_id seq : ℕ) (bytes : List ℕ) → IsAssigned xacts xid → LogIsSound xacts locks log tables → LogIsSound xacts locks (log ++ entries.Chunk xid t value_id seq bytes ∷ []) tables
log_piece xacts locks log tables xid t value_id seq bytes given old = record {
  given = λ entry e. elim (in_append log (entries.Chunk xid t value_id seq bytes ∷ []) entry e) [
    | inl h ↦ old.given entry h
    | inr h ↦ subst (λ (its : LogEntry). IsAssigned xacts (xid_logged its)) (only_one (entries.Chunk xid t value_id seq bytes) entry h) given
  ];
  put = λ entry e running. elim (in_append log (entries.Chunk xid t value_id seq bytes ∷ []) entry e) [
    | inl h ↦ old.put entry h running
    | inr h ↦ subst (λ (its : LogEntry). HasVersion tables its) (only_one (entries.Chunk xid t value_id seq bytes) entry h) tt
  ];
  changed = λ entry s p e runs names. elim (in_append log (entries.Chunk xid t value_id seq bytes ∷ []) entry e) [
    | inl h ↦ old.changed entry s p h runs names
    | inr h ↦ absurd (none_in_nil p (subst (λ (its : LogEntry). Contains (places_logged its) p) (sym (only_one (entries.Chunk xid t value_id seq bytes) entry h)) names))
  ];
}

log_taken : (xacts : Xacts) (locks : List SessionLocks) (log later : LogState) (tables : List Table) → (later ≡ log) ⊎ OnePiece xacts log later → LogIsSound xacts locks log.entries tables → LogIsSound xacts locks later.entries tables
log_taken xacts locks log later tables logged old = elim logged [
  | inl same ↦ subst (λ (its : LogState). LogIsSound xacts locks its.entries tables) (sym same) old
  | inr piece ↦ subst (λ (its : LogState). LogIsSound xacts locks its.entries tables) (sym piece.is) (log_piece xacts locks log.entries tables piece.xid piece.t piece.value_id piece.seq piece.bytes piece.given old)
]

pub ends_taken : (xacts : Xacts) (log later : LogState) → (later ≡ log) ⊎ OnePiece xacts log later → later.ends ≡ log.ends
ends_taken xacts log later logged = elim logged [
  | inl same ↦ ap (λ (its : LogState). its.ends) same
  | inr piece ↦ ap (λ (its : LogState). its.ends) piece.is
]

-- a job that has the snapshot of the one before uses what that used
uses_taken : (seat : Seat) (job : Job) (id : ℕ) → job_snapshot job ≡ job_snapshot seat.job → uses_by id (record seat { job = job }) ≡ uses_by id seat
uses_taken seat job id same = ap (λ (o : Option ℕ). count_by (λ (other : ℕ). other == id) (option_to_list (snapshot_of seat.state) ++ (option_to_list o ++ map (λ (handle : Handle). handle.snapshot) seat.handles))) same

-- ---- a whole core

pub sound_taken : (c : CoreState) (s t : ℕ) (ids : Pool) (log : LogState) (tables : List Table) (toast : Store) (job : Job) (own added : Option ℕ) → StepTaken c s t ids log tables toast job own added → IsSound (after_taken c s ids log tables job)
sound_taken c s t ids log tables toast job own added step =
    let sound = step.sound in
    let there = step.session in
    let restored = step.restored in
    record {
      few = (rw restored.count sound.few.0, rw (length-set c.seats (s - 1) seat) sound.few.1);
      places = rw (length-set c.seats (s - 1) seat) sound.places;
      registry = sound.registry;
      counted = λ id. sound.counted id ∙ sym (sum_stays (uses_by id) c.seats (s - 1) (seat_of c s) seat (seat_there c.seats s there) (uses_taken (seat_of c s) job id step.snapshot));
      room = ends_taken c.xacts c.log log step.logged ∙ sound.room ∙ sym (sum_stays (λ (x : Seat). length (option_to_list (xid_of x.state))) c.seats (s - 1) (seat_of c s) seat (seat_there c.seats s there) refl);
      tables = tables_taken c tables t toast sound restored step.table;
      each = each_seated c s seat c.xacts c.snaps ids c.locks tables there sound step.here
          (λ i other differ at old. seat_hands c.xacts c.snaps c.ids ids (held_by c.locks (suc i)) tables (suc i) other (step.hands (suc i) differ)
          (seat_left c.xacts c.snaps c.ids (held_by c.locks (suc i)) c.tables tables t toast own added s (suc i) other differ restored step.leaves (runs_of c.xacts (suc i) (xid_of other.state) old.runs) step.unheld (step.apart i other differ at) old));
      owners = owners_same c s seat there refl sound;
      apart = sound.apart;
      hands = step.in_hand;
      touched = touched_taken c.xacts c.locks c.tables tables t toast restored sound.touched;
      log = log_taken c.xacts c.locks c.log log tables step.logged (log_same c.xacts c.locks c.log.entries c.tables tables t toast restored sound.log);
    }
  where
    seat : Seat
    seat = record (seat_of c s) { job = job }
