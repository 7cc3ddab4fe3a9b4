-- Every core is sound after a version step of a session's transaction, whichever it is and whatever its write goes on to do.
use Rattle.std.proofs.Common.{ap, arith, refl, subst, sym, ◌∙◌}
use Rattle.std.proofs.lemmas.List.{length-set}
use Rattle.std.specs.Prelude.{List, None, Option, count_by, length, map, option_to_list, slice_set, suc, ℕ, ℤ, ◌++◌, ◌-◌, ◌<◌, ◌==◌, ◌≡◌, ◌≢◌}
use Rattle.tuple_layout.specs.declared.cell.Cell.{Cell}
use Rattle.row_versions.specs.Relations.{Pages}
use Rattle.row_versions.specs.declared.keys.KeyEntry.{KeyEntry}
use Rattle.value_ids.specs.Ids.{Pool}
use Rattle.change_log.specs.declared.entry.LogEntry.{LogEntry}
use Rattle.lock_table.specs.Locks.{held_by}
use Rattle.table_state.specs.Events.{with_rows}
use Rattle.table_state.specs.Tables.{IsTable}
use Rattle.table_state.specs.declared.table.Table.{Table}
use Rattle.write_steps.specs.Writes.{with_logged}
use Rattle.core_state.proofs.Answered.{within}
use Rattle.core_state.proofs.Hands.{SameHands, seat_hands}
use Rattle.core_state.proofs.Lists.{read_found, read_there, sum_stays}
use Rattle.core_state.proofs.Seats.{each_seated, owners_same, seat_there, sound_of, uses_by}
use Rattle.core_state.specs.Facts.{AreInHand, HandsAreSound, IsSound, JobIsSound, PinsAreSound, SeatIsSound}
use Rattle.core_state.specs.State.{CoreState, IsSession, job_snapshot, no_table, seat_of, snapshot_of, table_at, uses_of, xid_of}
use Rattle.core_state.specs.declared.seat.Handle.{Handle}
use Rattle.core_state.specs.declared.seat.Job.{Job}
use Rattle.core_state.specs.declared.seat.Seat.{Seat}
use Rattle.core_versions.proofs.Logs.{Claims, Tells, log_stepped, touched_stepped}
use Rattle.core_versions.proofs.Others.{Acts, handles_stepped, seat_stepped, view_stepped}
use Rattle.core_versions.proofs.Tables.{at_table}

-- the core once one table has other versions, the log one entry more, and the session another job
abbrev pub stepped : CoreState → ℕ → Pool → List Table → LogEntry → Job → CoreState
stepped c s ids later entry job = record c { ids = ids; log = with_logged c.log entry; tables = later; seats = slice_set c.seats (s - 1) (record (seat_of c s) { job = job }) }

-- the session itself
own_seat : (c : CoreState) (s t x : ℕ) (pages : Pages) (entries : List KeyEntry) (keys : List ℤ) (cells : List Cell) (ids : Pool) (later : List Table) (job : Job)
    → IsSession c.seats s → IsSound c → Acts c.xacts c.snaps c.ids c.tables later s t x pages entries keys cells
    → JobIsSound c.xacts c.snaps ids (held_by c.locks s) later s (record (seat_of c s) { job = job }) job → PinsAreSound later s job → HandsAreSound ids.in_hand s job
    → SeatIsSound c.xacts c.snaps ids (held_by c.locks s) later s (record (seat_of c s) { job = job })
own_seat c s t x pages entries keys cells ids later job there sound acts is pins hands =
    let old = sound_of c s there sound in
    let handles = handles_stepped c.xacts c.snaps c.ids (held_by c.locks s) c.tables later s t x pages entries keys cells (seat_of c s) acts old.handles in
    record {
      runs = old.runs;
      locks = old.locks;
      view = view_stepped c.xacts c.snaps c.ids (held_by c.locks s) c.tables later s t x s pages entries keys cells (seat_of c s).state acts old.runs old.view;
      handles = record { outside = handles.outside; named = handles.named; each = handles.each };
      job = is;
      pins = pins;
      hands = hands;
    }

pub sound_stepped : (c : CoreState) (s t x : ℕ) (pages : Pages) (entries : List KeyEntry) (keys : List ℤ) (cells : List Cell) (ids : Pool) (later : List Table) (entry : LogEntry) (job : Job)
    → IsSession c.seats s → IsSound c → job_snapshot (seat_of c s).job ≡ None → job_snapshot job ≡ None → Acts c.xacts c.snaps c.ids c.tables later s t x pages entries keys cells → Claims c.locks s t keys → Tells c.xacts c.locks later s x entry
    → AreInHand ids.in_hand → ((n : ℕ) → n ≢ s → SameHands c.ids ids n)
    → JobIsSound c.xacts c.snaps ids (held_by c.locks s) later s (record (seat_of c s) { job = job }) job → PinsAreSound later s job → HandsAreSound ids.in_hand s job
    → IsSound (stepped c s ids later entry job)
sound_stepped c s t x pages entries keys cells ids later entry job there sound bare none acts claims tells hands same is pins in_hand =
    let number = length-set c.seats (s - 1) seat in
    record {
      few = (rw (acts.steps.count) sound.few.0, rw number sound.few.1);
      places = sound.places ∙ ap suc (sym number);
      registry = sound.registry;
      counted = λ id. sound.counted id ∙ sym (sum_stays (uses_by id) c.seats (s - 1) (seat_of c s) seat (seat_there c.seats s there) (ap (count_by (λ (other : ℕ). other == id)) uses));
      room = sound.room ∙ sym (sum_stays (λ (one : Seat). length (option_to_list (xid_of one.state))) c.seats (s - 1) (seat_of c s) seat (seat_there c.seats s there) refl);
      tables = λ i table e. subst (λ (its : Table). IsTable (suc i) c.xacts c.snaps its) (read_found later i table no_table e) (table_then i (within later i table e));
      each = each_seated c s seat c.xacts c.snaps ids c.locks later there sound (own_seat c s t x pages entries keys cells ids later job there sound acts is pins in_hand)
          (λ i other differ at old.
          seat_hands c.xacts c.snaps c.ids ids (held_by c.locks (suc i)) later (suc i) other (same (suc i) differ)
          (seat_stepped c.xacts c.snaps c.ids (held_by c.locks (suc i)) c.tables later s t x pages entries keys cells (suc i) other c.log acts sound.hands differ
          (λ key claimed. sound.apart.claims s (suc i) (record { table = t; key = key }) (λ e. differ (sym e)) (claims.rows key claimed)) old));
      owners = owners_same c s seat there refl sound;
      apart = sound.apart;
      hands = hands;
      touched = touched_stepped c.xacts c.snaps c.ids c.locks c.tables later s t x pages entries keys cells acts claims sound.touched;
      log = log_stepped c.xacts c.snaps c.ids c.locks c.tables later s t x pages entries keys cells c.log.entries entry acts tells sound.log;
    }
  where
    seat : Seat
    seat = record (seat_of c s) { job = job }

    uses : uses_of seat ≡ uses_of (seat_of c s)
    uses = ap (λ (o : Option ℕ). option_to_list (snapshot_of (seat_of c s).state) ++ (option_to_list o ++ map (λ (handle : Handle). handle.snapshot) (seat_of c s).handles)) (none ∙ sym bare)

    table_then : (i : ℕ) → i < length later → IsTable (suc i) c.xacts c.snaps (table_at later (suc i))
    table_then i low =
        let count = acts.steps.count in
        let old = sound.tables i (table_at c.tables (suc i)) (read_there c.tables i no_table (omega (arith, low, count))) in
        at_table c.tables later t (suc i) pages entries (λ (table : Table). IsTable (suc i) c.xacts c.snaps table) acts.steps
        (λ e. subst (λ (n : ℕ). IsTable n c.xacts c.snaps (with_rows (table_at c.tables t) pages entries)) (sym e) (acts.step.table_is (subst (λ (n : ℕ). IsTable n c.xacts c.snaps (table_at c.tables n)) e old)))
        (λ differ. old)
