-- What is true of a session goes on to be true when statuses and snapshots move on, and when others take ids in hand and give them up.
use Rattle.std.proofs.Common.{inl, inr, refl, subst, sym, ◌∙◌}
use Rattle.std.specs.Prelude.{Bool, Contains, List, None, Option, Some, [], false, if◌then◌else◌, map, option_and_then, option_to_list, true, ℕ, ℤ, ◌∷◌, ◌≡◌}
use Rattle.list_facts.proofs.Members.{first_in}
use Rattle.external_pointer.specs.declared.external.Pointer.{Pointer}
use Rattle.tuple_layout.specs.declared.cell.Stored.{Stored}
use Rattle.slot_page.specs.Pages.{item_in}
use Rattle.slot_page.specs.declared.line.Tid.{Tid}
use Rattle.xact_status.specs.Versions.{counts_for}
use Rattle.xact_status.specs.Xacts.{Xacts, session_at}
use Rattle.xact_status.specs.declared.Stamp.{Stamp}
use Rattle.snapshot_registry.specs.Snapshots.{Snaps, is_protected, sees_at}
use Rattle.value_holders.specs.Holders.{AreEnded}
use Rattle.value_holders.specs.Stamps.{IsOpenFor, IsUnended}
use Rattle.row_versions.specs.Versions.{version_stamp}
use Rattle.row_versions.specs.declared.version.Version.{Version}
use Rattle.value_ids.specs.Ids.{Pool}
use Rattle.lock_table.specs.Held.{holds_row}
use Rattle.lock_table.specs.declared.held.SessionLocks.{SessionLocks}
use Rattle.table_rows.specs.Steps.{stamp_of}
use Rattle.table_rows.specs.Worlds.{tuple_in}
use Rattle.table_state.specs.Cells.{cells_in}
use Rattle.table_state.specs.Events.{IsUnheld}
use Rattle.table_state.specs.Holders.{holders_of, stamp_if}
use Rattle.table_state.specs.Rows.{has_id}
use Rattle.table_state.specs.declared.table.Table.{Table}
use Rattle.read_steps.specs.Reads.{Reading}
use Rattle.write_steps.specs.Writes.{Writing}
use Rattle.write_steps.specs.declared.stage.OldRow.{OldRow}
use Rattle.write_steps.specs.declared.stage.WriteStage.{WriteStage}
use Rattle.core_state.proofs.Lists.{in_append_right, mapped_in, only_one}
use Rattle.core_state.specs.Coming.{keys_left, new_left, old_left}
use Rattle.core_state.specs.Facts.{HandleIsSound, IsThereFor, JobIsSound, KeepsId, KeepsPointer, ReadIsSound, SeatIsSound, ViewIsSound, WriteIsSound}
use Rattle.core_state.specs.State.{job_snapshot, snapshot_of, table_at, uses_of, xid_of}
use Rattle.core_state.specs.declared.seat.Handle.{Handle}
use Rattle.core_state.specs.declared.seat.Job.{Job}
use Rattle.core_state.specs.declared.seat.Seat.{Seat}
use Rattle.core_state.specs.declared.seat.State.{State}
use Rattle.core_state.specs.declared.seat.Job.TheVariants as jobs

-- ---- statuses and snapshots

-- statuses and snapshots are later ones, for a session that uses these snapshots, holds these locks and has this xid
pub record IsLaterFor (xacts new : Xacts) (snaps later : Snaps) (tables : List Table) (held : SessionLocks) (uses : List ℕ) (own : Option ℕ) : Type 0 where
  -- its snapshots show what they showed
  pub seen : (id inserter : ℕ) (ender : Option ℕ) → Contains uses id → sees_at new later id inserter ender None ≡ sees_at xacts snaps id inserter ender None
  -- no version has to be kept that had not
  pub fewer : (t : ℕ) (tid : Tid) (version : Version) → item_in (table_at tables t).rows.pages tid ≡ Some version → is_protected new later version.inserter version.ender ≡ true → is_protected xacts snaps version.inserter version.ender ≡ true
  -- what counts for it does so still, what has no end has none, and what has ended for it has
  pub counts : (xid inserter : ℕ) → own ≡ Some xid → counts_for xacts (Some xid) inserter ≡ true → counts_for new (Some xid) inserter ≡ true
  pub unended : (ender : Option ℕ) → IsUnended xacts ender → IsUnended new ender
  pub ended : (t xid value_id : ℕ) → own ≡ Some xid → AreEnded xacts snaps (holders_of (table_at tables t).rows.schema.storages (table_at tables t).rows.pages value_id) xid
      → AreEnded new later (holders_of (table_at tables t).rows.schema.storages (table_at tables t).rows.pages value_id) xid
  -- where nothing is there for it at a key that it claims, nothing is
  pub alone : (t xid : ℕ) (key : ℤ) → own ≡ Some xid → holds_row held.rows (record { table = t; key = key }) ≡ true → tuple_in (counts_for xacts (Some xid)) (table_at tables t).rows.pages key ≡ None
      → tuple_in (counts_for new (Some xid)) (table_at tables t).rows.pages key ≡ None

there_later : (xacts new : Xacts) (snaps later : Snaps) (uses : List ℕ) (own : Option ℕ) (version : Version) → ((id inserter : ℕ) (ender : Option ℕ) → Contains uses id → sees_at new later id inserter ender None ≡ sees_at xacts snaps id inserter ender None)
    → IsThereFor xacts snaps uses own version → IsThereFor new later uses own version
there_later xacts new snaps later uses own version seen old = elim old [
  | inl h ↦ inl h
  | inr h ↦ inr (h.0, h.1, seen h.0 version.inserter version.ender h.1 ∙ h.2)
]

id_later : (xacts new : Xacts) (snaps later : Snaps) (table : Table) (uses : List ℕ) (own : Option ℕ) (value_id : ℕ) → ((id inserter : ℕ) (ender : Option ℕ) → Contains uses id → sees_at new later id inserter ender None ≡ sees_at xacts snaps id inserter ender None)
    → KeepsId xacts snaps table uses own value_id → KeepsId new later table uses own value_id
id_later xacts new snaps later table uses own value_id seen old = record { tid = old.tid; version = old.version; there = old.there; holds = old.holds; seen = there_later xacts new snaps later uses own old.version seen old.seen }

pointer_later : (xacts new : Xacts) (snaps later : Snaps) (table : Table) (uses : List ℕ) (own : Option ℕ) (pointer : Pointer) → ((id inserter : ℕ) (ender : Option ℕ) → Contains uses id → sees_at new later id inserter ender None ≡ sees_at xacts snaps id inserter ender None)
    → KeepsPointer xacts snaps table uses own pointer → KeepsPointer new later table uses own pointer
pointer_later xacts new snaps later table uses own pointer seen old = record { tid = old.tid; version = old.version; there = old.there; holds = old.holds; seen = there_later xacts new snaps later uses own old.version seen old.seen }

read_later : (xacts new : Xacts) (snaps later : Snaps) (tables : List Table) (held : SessionLocks) (t s : ℕ) (seat : Seat) (read : Reading) → IsLaterFor xacts new snaps later tables held (uses_of seat) (xid_of seat.state)
    → ReadIsSound xacts snaps (table_at tables t) s seat read → ReadIsSound new later (table_at tables t) s seat read
read_later xacts new snaps later tables held t s seat read moves old = record {
  session = old.session;
  walk = old.walk;
  can = old.can;
  comes = old.comes;
  batch = old.batch;
  kept = λ value_id e. id_later xacts new snaps later (table_at tables t) (uses_of seat) (xid_of seat.state) value_id moves.seen (old.kept value_id e);
}

-- a version that the transaction may end is one still
open_later : (xacts new : Xacts) (snaps later : Snaps) (tables : List Table) (held : SessionLocks) (uses : List ℕ) (own : Option ℕ) (xid : ℕ) (stamp : Stamp) → own ≡ Some xid → IsLaterFor xacts new snaps later tables held uses own
    → IsOpenFor xacts xid stamp → IsOpenFor new xid stamp
open_later xacts new snaps later tables held uses own xid stamp mine moves old = record { inserted = moves.counts xid stamp.inserter mine old.inserted; unended = moves.unended stamp.ender old.unended }

-- a holder of a value is a version
holder_is : (table : Table) (value_id : ℕ) (tid : Tid) (stamp : Stamp) → holders_of table.rows.schema.storages table.rows.pages value_id tid ≡ Some stamp
    → (version : Version) × (item_in table.rows.pages tid ≡ Some version) × (stamp ≡ stamp_of version)
holder_is table value_id tid stamp e = by (item_in table.rows.pages tid) refl e
  where
    at : (version : Version) (b : Bool) → (if b then Some (stamp_of version) else None) ≡ Some stamp → stamp ≡ stamp_of version
    at version true e = cc
    at version false e = absurd (cc)

    by : (o : Option Version) → item_in table.rows.pages tid ≡ o → option_and_then (stamp_if (λ (tuple : List ℕ). has_id value_id (cells_in table.rows.schema.storages tuple))) o ≡ Some stamp
        → (version : Version) × (item_in table.rows.pages tid ≡ Some version) × (stamp ≡ stamp_of version)
    by None is e = absurd (cc)
    by (Some version) is e = (version, is, at version (has_id value_id (cells_in table.rows.schema.storages version.tuple)) e)

unheld_later : (xacts new : Xacts) (snaps later : Snaps) (tables : List Table) (t value_id : ℕ)
    → ((tid : Tid) (version : Version) → item_in (table_at tables t).rows.pages tid ≡ Some version → is_protected new later version.inserter version.ender ≡ true → is_protected xacts snaps version.inserter version.ender ≡ true)
    → IsUnheld xacts snaps (table_at tables t) value_id → IsUnheld new later (table_at tables t) value_id
unheld_later xacts new snaps later tables t value_id fewer old = record {
  none = λ tid stamp protects.
      let holder = holder_is (table_at tables t) value_id tid stamp protects.there in
      let before = fewer tid holder.0 holder.1 (subst (λ (x : Stamp). is_protected new later x.inserter x.ender ≡ true) holder.2 protects.protected) in
      old.none tid stamp (record { there = protects.there; protected = subst (λ (x : Stamp). is_protected xacts snaps x.inserter x.ender ≡ true) (sym holder.2) before });
}

-- the new row's key is one of the keys of a write
new_key_left : (stage : WriteStage) (stored : Stored) → new_left stage ≡ Some stored → Contains (keys_left stage) stored.key
new_key_left stage stored e = rw e (in_append_right (map (λ (old : OldRow). old.stored.key) (option_to_list (old_left stage))) (stored.key ∷ []) stored.key (first_in stored.key [] stored.key refl))

-- a handle's snapshot is one of its session's
handle_uses : (seat : Seat) (handle : Handle) (id : ℕ) → Contains seat.handles handle → Contains (handle.snapshot ∷ []) id → Contains (uses_of seat) id
handle_uses seat handle id there one =
    let is : handle.snapshot ≡ id = only_one handle.snapshot id one in
    in_append_right (option_to_list (snapshot_of seat.state)) _ id (in_append_right (option_to_list (job_snapshot seat.job)) _ id (subst (λ (n : ℕ). Contains (map (λ (x : Handle). x.snapshot) seat.handles) n) is (mapped_in (λ (x : Handle). x.snapshot) seat.handles handle there)))

write_later : (xacts new : Xacts) (snaps later : Snaps) (ids : Pool) (tables : List Table) (held : SessionLocks) (uses : List ℕ) (t s : ℕ) (state : State) (write : Writing) → IsLaterFor xacts new snaps later tables held uses (xid_of state)
    → WriteIsSound xacts snaps ids held (table_at tables t) s t state write → WriteIsSound new later ids held (table_at tables t) s t state write
write_later xacts new snaps later ids tables held uses t s state write moves old =
    let mine = old.own.xid in
    record {
      own = old.own;
      stands = old.stands;
      rows = record {
        old = λ row version e f.
            let before = old.rows.old row version e f in
            (before.0, before.1, open_later xacts new snaps later tables held uses (xid_of state) write.owner.xid (version_stamp version) mine moves before.2);
        alone = λ stored e f. moves.alone t write.owner.xid stored.key mine (old.own.claimed stored.key (new_key_left write.stage stored e)) (old.rows.alone stored e f);
      };
      new = old.new;
      fresh = record { each = λ value_id e. unheld_later xacts new snaps later tables t value_id (moves.fewer t) (old.fresh.each value_id e) };
      dropping = λ pointer e.
          let before = old.dropping pointer e in
          record {
            tid = before.tid;
            version = before.version;
            there = before.there;
            holds = before.holds;
            inserted = moves.counts write.owner.xid before.version.inserter mine before.inserted;
            ended_by = before.ended_by;
            ended = moves.ended t write.owner.xid pointer.value_id mine before.ended;
          };
    }

job_later : (xacts new : Xacts) (snaps later : Snaps) (ids : Pool) (tables : List Table) (held : SessionLocks) (s : ℕ) (seat : Seat) (job : Job) → IsLaterFor xacts new snaps later tables held (uses_of seat) (xid_of seat.state)
    → JobIsSound xacts snaps ids held tables s seat job → JobIsSound new later ids held tables s seat job
job_later xacts new snaps later ids tables held s seat jobs.Idle moves old = tt
job_later xacts new snaps later ids tables held s seat (jobs.Submitted command) moves old = old
job_later xacts new snaps later ids tables held s seat (jobs.Reading t snapshot read) moves old = (old.0, read_later xacts new snaps later tables held t s seat read moves old.1)
job_later xacts new snaps later ids tables held s seat (jobs.Writing t write) moves old = (old.0, write_later xacts new snaps later ids tables held (uses_of seat) t s seat.state write moves old.1)

handle_later : (xacts new : Xacts) (snaps later : Snaps) (tables : List Table) (held : SessionLocks) (seat : Seat) (handle : Handle) → IsLaterFor xacts new snaps later tables held (uses_of seat) (xid_of seat.state) → Contains seat.handles handle
    → HandleIsSound xacts snaps held tables (xid_of seat.state) handle → HandleIsSound new later held tables (xid_of seat.state) handle
handle_later xacts new snaps later tables held seat handle moves there old = record {
  of_table = old.of_table;
  used = old.used;
  kept = λ pointer e. pointer_later xacts new snaps later (table_at tables handle.table) (handle.snapshot ∷ []) (xid_of seat.state) pointer
      (λ id inserter ender one. moves.seen id inserter ender (handle_uses seat handle id there one)) (old.kept pointer e);
  most = old.most;
}

-- what is true of a session under earlier ones is true under later ones, where its xid runs for it and its view stays
pub seat_later : (xacts new : Xacts) (snaps later : Snaps) (ids : Pool) (tables : List Table) (held : SessionLocks) (s : ℕ) (seat : Seat) → IsLaterFor xacts new snaps later tables held (uses_of seat) (xid_of seat.state)
    → ((xid : ℕ) → xid_of seat.state ≡ Some xid → session_at new xid ≡ Some s) → ViewIsSound new later held tables seat.state
    → SeatIsSound xacts snaps ids held tables s seat → SeatIsSound new later ids held tables s seat
seat_later xacts new snaps later ids tables held s seat moves runs view old = record {
  runs = runs;
  locks = old.locks;
  view = view;
  handles = record {
    outside = old.handles.outside;
    named = old.handles.named;
    each = λ handle e. handle_later xacts new snaps later tables held seat handle moves e (old.handles.each handle e);
  };
  job = job_later xacts new snaps later ids tables held s seat seat.job moves old.job;
  pins = old.pins;
  hands = old.hands;
}
