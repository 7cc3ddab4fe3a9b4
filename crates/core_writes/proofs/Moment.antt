-- Every core is sound after the moment of a write, from the core in which its table is used.
use Rattle.std.proofs.Common.{ap, arith, inl, inr, refl, subst, sym, ◌∙◌}
use Rattle.std.specs.Option.{unwrap_or}
use Rattle.std.specs.Prelude.{Bool, Contains, List, None, Option, Some, count_by, false, map, option_to_list, slice_set, suc, true, ℕ, ℤ, ◌++◌, ◌-◌, ◌==◌, ◌||◌, ◌≡◌}
use Rattle.list_facts.proofs.Changed.{set_twice}
use Rattle.tuple_layout.specs.declared.cell.Stored.{Stored}
use Rattle.xact_status.specs.Xacts.{next_xid}
use Rattle.lock_table.specs.Held.{holds_row}
use Rattle.lock_table.specs.Locks.{held_by}
use Rattle.lock_table.specs.declared.held.SessionLocks.{SessionLocks}
use Rattle.lock_table.specs.declared.lock.RowKey.{RowKey}
use Rattle.lock_table.specs.declared.lock.TableLock.{TableLock}
use Rattle.table_rows.specs.Views.{IsViewNow}
use Rattle.write_steps.specs.Writes.{Writing, new_write}
use Rattle.write_steps.specs.declared.stage.OldRow.{OldRow}
use Rattle.core_state.proofs.Frames.{IsLaterFor}
use Rattle.core_state.proofs.Lists.{sum_stays}
use Rattle.core_state.proofs.Moved.{sound_moved}
use Rattle.core_state.proofs.Seats.{seat_there, sound_of, uses_by}
use Rattle.core_state.specs.Begun.{plan_of}
use Rattle.core_state.specs.Facts.{IsSound, MayHold, SeatIsSound, Uses}
use Rattle.core_state.specs.Lines.{once_assigned, once_claimed, once_kept, seated, with_xid}
use Rattle.core_state.specs.State.{CoreState, IsSession, IsTableOf, is_open, is_past_moment, job_snapshot, seat_of, snapshot_of, table_at, uses_of, xid_of}
use Rattle.core_state.specs.declared.seat.Handle.{Handle}
use Rattle.core_state.specs.declared.seat.Job.{Job}
use Rattle.core_state.specs.declared.seat.Seat.{Seat}
use Rattle.core_state.specs.declared.seat.State.{State}
use Rattle.core_state.specs.declared.seat.Job.TheVariants as jobs
use Rattle.core_state.specs.declared.seat.State.TheVariants as states
use Rattle.core_looks.specs.Due.{claim_of}
use Rattle.core_writes.proofs.Claims.{apart_claimed, claim_there, claims_keep, length_claimed, row_cases, rows_claimed, tables_claimed}
use Rattle.core_writes.proofs.Given.{given_next, seat_given}
use Rattle.core_writes.proofs.Jobs.{Begins, before_pins, storages_at, write_keys, write_sound}
use Rattle.core_looks.proofs.Sights.{pages_at}
use Rattle.core_writes.proofs.Views.{MayClaim, seat_given_is, view_now}

-- the seat of a session whose write begins, and its core, once the transaction has its xid
abbrev pub seat_writing : CoreState → ℕ → ℕ → Writing → Seat
seat_writing c s t write = record (seat_of c s) { job = jobs.Writing t write }

abbrev pub begun_claimed : CoreState → ℕ → ℕ → List ℤ → Writing → CoreState
begun_claimed c s t keys write = seated (record c { locks = once_claimed c.locks s t keys }) s (seat_writing c s t write)

-- ---- the session itself

no_snapshot : (job : Job) → is_past_moment job ≡ false → job_snapshot job ≡ None
no_snapshot jobs.Idle e = refl
no_snapshot (jobs.Submitted command) e = refl
no_snapshot (jobs.Reading t snapshot read) e = absurd (cc)
no_snapshot (jobs.Writing t write) e = absurd (cc)

before_holds : (t : ℕ) (job : Job) → is_past_moment job ≡ false → MayHold t job → ⊥
before_holds t jobs.Idle e may = may
before_holds t (jobs.Submitted command) e may = may
before_holds t (jobs.Reading n snapshot read) e may = may
before_holds t (jobs.Writing n write) e may = absurd (cc)

uses_writing : (c : CoreState) (s t id : ℕ) (write : Writing) → is_past_moment (seat_of c s).job ≡ false → uses_by id (seat_writing c s t write) ≡ uses_by id (seat_of c s)
uses_writing c s t id write before =
    ap (λ (o : Option ℕ). count_by (λ (n : ℕ). n == id) (option_to_list (snapshot_of (seat_of c s).state) ++ (option_to_list o ++ map (λ (handle : Handle). handle.snapshot) (seat_of c s).handles))) (sym (no_snapshot (seat_of c s).job before))

-- what it uses and has claimed it uses still
uses_still : (c : CoreState) (s t n : ℕ) (keys : List ℤ) → Uses (held_by c.locks s) n → Uses (held_by (once_claimed c.locks s t keys) s) n
uses_still c s t n keys e = (claims_keep c.locks s t keys).uses n e

writing_sound : (c : CoreState) (s t x : ℕ) (keys : List ℤ) (old : Option OldRow) (new : Option Stored) → IsSession c.seats s → IsSound c → IsTableOf c.tables t → is_open (seat_of c s).state ≡ true → Uses (held_by c.locks s) t
    → xid_of (seat_of c s).state ≡ Some x → is_past_moment (seat_of c s).job ≡ false → ((key : ℤ) → Contains keys key → MayClaim c s t key) → Begins c s t x old new → ((key : ℤ) → Contains (write_keys old new) key → Contains keys key)
    → SeatIsSound c.xacts c.snaps c.ids (held_by (once_claimed c.locks s t keys) s) c.tables s (seat_writing c s t (new_write t s x old new (plan_of (storages_at c t) new)))
writing_sound c s t x keys old new there sound table opened uses mine before may begins its =
    let was = sound_of c s there sound in
    record {
      runs = was.runs;
      locks = record {
        outside = λ e. absurd (clash opened e);
        unclaimed = λ row e. absurd (none_some (sym e ∙ mine));
        used = λ row e. elim (row_cases c.locks s t keys row e) [
          | inl h ↦ uses_still c s t row.table keys (was.locks.used row h)
          | inr h ↦ uses_still c s t row.table keys (subst (λ (n : ℕ). Uses (held_by c.locks s) n) (sym (ap (λ (r : RowKey). r.table) h.1.2)) uses)
        ];
        plain = λ lock e. was.locks.plain lock (subst (λ (tables : List TableLock). Contains tables lock) (tables_claimed c.locks s t keys) e);
      };
      view = record {
        level = was.view.level;
        claimed = λ snapshot own row taken has e. elim (row_cases c.locks s t keys row e) [
          | inl h ↦ was.view.claimed snapshot own row taken has h
          | inr h ↦
              let now : IsViewNow c.xacts snapshot own (pages_at c t) h.1.0 = view_now c s t own h.1.0 snapshot there sound has (may h.1.0 h.1.1) taken in
              subst (λ (r : RowKey). IsViewNow c.xacts snapshot own (table_at c.tables r.table).rows.pages r.key) (sym h.1.2) now
        ];
      };
      handles = record {
        outside = λ e. absurd (clash opened e);
        named = was.handles.named;
        each = λ handle e.
            let old = was.handles.each handle e in
            record { of_table = old.of_table; used = uses_still c s t handle.table keys old.used; kept = old.kept; most = old.most };
      };
      job = (
        record { of_table = table; inside = opened; used = uses_still c s t t keys uses },
        write_sound c s t x old new (held_by (once_claimed c.locks s t keys) s) (seat_of c s).state there sound mine mine before begins (λ key e. claimed key (its key e)),
      );
      pins = record { each = λ n leaf e. absurd (before_pins n (seat_of c s).job before (was.pins.each n leaf e)) };
      hands = record { each = λ one e f. absurd (before_holds one.table (seat_of c s).job before (was.hands.each one e f)) };
    }
  where
    clash : {b : Bool} → b ≡ true → b ≡ false → ⊥
    clash e f = absurd (cc)

    none_some : None ≡ Some x → ⊥
    none_some e = absurd (cc)

    claimed : (key : ℤ) → Contains keys key → holds_row (held_by (once_claimed c.locks s t keys) s).rows (claim_of t key) ≡ true
    claimed key e = rows_claimed c.locks s t keys (claim_of t key) ∙ ap (λ (b : Bool). b || holds_row (held_by c.locks s).rows (claim_of t key)) (claim_there t keys key e)

-- ---- the whole core

still_for : (c : CoreState) (held : SessionLocks) (uses : List ℕ) (own : Option ℕ) → IsLaterFor c.xacts c.xacts c.snaps c.snaps c.tables held uses own
still_for c held uses own = record {
  seen = λ id inserter ender used. refl;
  fewer = λ t tid version e f. f;
  counts = λ xid inserter e f. f;
  unended = λ ender e. e;
  ended = λ t xid value_id e f. f;
  alone = λ t xid key e f g. g;
}

pub sound_claimed : (c : CoreState) (s t x : ℕ) (keys : List ℤ) (old : Option OldRow) (new : Option Stored) → IsSession c.seats s → IsSound c → IsTableOf c.tables t → is_open (seat_of c s).state ≡ true → Uses (held_by c.locks s) t
    → xid_of (seat_of c s).state ≡ Some x → is_past_moment (seat_of c s).job ≡ false → ((key : ℤ) → Contains keys key → MayClaim c s t key) → Begins c s t x old new → ((key : ℤ) → Contains (write_keys old new) key → Contains keys key)
    → IsSound (begun_claimed c s t keys (new_write t s x old new (plan_of (storages_at c t) new)))
sound_claimed c s t x keys old new there sound table opened uses mine before may begins its =
    let write = new_write t s x old new (plan_of (storages_at c t) new) in
    let places = sound.places in
    let inside = there.within in
    sound_moved c s (seat_writing c s t write) c.snaps (once_claimed c.locks s t keys) there refl sound
    (length_claimed c.locks s t keys (omega (arith, places, inside)))
    (claims_keep c.locks s t keys)
    (apart_claimed c.locks s t keys there.from_one (λ key e. (may key e).free) sound.apart)
    sound.registry
    (λ id. sound.counted id ∙ sym (sum_stays (uses_by id) c.seats (s - 1) (seat_of c s) (seat_writing c s t write) (seat_there c.seats s there) (uses_writing c s t id write before)))
    (λ number its_table is. is)
    (λ i other differ at. (still_for c (held_by c.locks (suc i)) (uses_of other) (xid_of other.state), λ id held used e. (held, e, refl)))
    (writing_sound c s t x keys old new there sound table opened uses mine before may begins its)

-- ---- with the xid

-- the core after the moment, from the one in which the table is used, by the xid that the transaction had
abbrev pub begun_by : CoreState → ℕ → ℕ → List ℤ → Writing → Option ℕ → CoreState
begun_by c s t keys write own = record c {
  xacts = once_assigned c.xacts s own;
  locks = once_claimed c.locks s t keys;
  log = once_kept c.log own;
  seats = slice_set c.seats (s - 1) (record (seat_of c s) { state = with_xid (seat_of c s).state (unwrap_or own (next_xid c.xacts)); job = jobs.Writing t write });
}

abbrev pub begun_on : CoreState → ℕ → ℕ → List ℤ → Writing → CoreState
begun_on c s t keys write = begun_by c s t keys write (xid_of (seat_of c s).state)

with_own : (state : State) (x : ℕ) → xid_of state ≡ Some x → with_xid state x ≡ state
with_own states.Outside x e = refl
with_own states.Failed x e = refl
with_own (states.Open level xid snapshot) x e = ap (λ (o : Option ℕ). states.Open level o snapshot) (sym e)

pub begun_with : (c : CoreState) (s t x : ℕ) (keys : List ℤ) (write : Writing) → xid_of (seat_of c s).state ≡ Some x → begun_on c s t keys write ≡ begun_claimed c s t keys write
begun_with c s t x keys write mine =
    ap (begun_by c s t keys write) mine
    ∙ ap (λ (state : State). let seat : Seat = record (seat_of c s) { state = state; job = jobs.Writing t write } in seated (record c { locks = once_claimed c.locks s t keys }) s seat) (with_own (seat_of c s).state x mine)

pub begun_without : (c : CoreState) (s t : ℕ) (keys : List ℤ) (write : Writing) → IsSession c.seats s → xid_of (seat_of c s).state ≡ None → begun_on c s t keys write ≡ begun_claimed (given_next c s) s t keys write
begun_without c s t keys write there none =
    ap (begun_by c s t keys write) none
    ∙ ap (λ (seats : List Seat). let core : CoreState = record (given_next c s) { locks = once_claimed c.locks s t keys; seats = seats } in core)
    (sym (set_twice c.seats (s - 1) (seat_given c s) (record (seat_given c s) { job = jobs.Writing t write }))
    ∙ ap (λ (seat : Seat). slice_set (slice_set c.seats (s - 1) (seat_given c s)) (s - 1) (record seat { job = jobs.Writing t write })) (sym (seat_given_is c s there)))
