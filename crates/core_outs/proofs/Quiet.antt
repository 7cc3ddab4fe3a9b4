-- The moments of all other commands: what is told of the core's rows goes on.
use Rattle.std.proofs.Common.{ap, arith, cond, inl, inr, refl, subst, sym, ◌∙◌}
use Rattle.std.proofs.lemmas.Bool.{cases_Bool}
use Rattle.std.specs.Option.{option_map_or}
use Rattle.std.specs.Prelude.{Bool, List, None, Option, Some, [], false, if◌then◌else◌, slice_index_or, slice_set, true, ℕ, ⊤, ◌++◌, ◌-◌, ◌≡◌, ◌≢◌, ◌⊎◌}
use Rattle.tuple_layout.specs.Places.{same_place}
use Rattle.tuple_layout.specs.declared.Place.{Place}
use Rattle.xact_status.specs.Versions.{counts_for}
use Rattle.xact_status.specs.Xacts.{Xacts}
use Rattle.snapshot_registry.specs.Snapshots.{Snaps, after_take, least_free}
use Rattle.change_log.specs.Logs.{LogState}
use Rattle.lock_table.specs.Locks.{granted, table_lock}
use Rattle.lock_table.specs.declared.held.SessionLocks.{SessionLocks}
use Rattle.lock_table.specs.declared.lock.LockMode.TheVariants.{Use}
use Rattle.command_set.specs.Replies.{fails}
use Rattle.command_set.specs.declared.Command.{Command}
use Rattle.command_set.specs.declared.Reply.{Reply}
use Rattle.command_set.specs.declared.Script.{Script}
use Rattle.command_set.specs.declared.state.Change.{Change}
use Rattle.command_set.specs.declared.state.Plain.{Plain}
use Rattle.table_rows.specs.Worlds.{tuple_in}
use Rattle.table_state.specs.declared.table.Table.{Table}
use Rattle.read_steps.specs.Reads.{Reading, needs_store}
use Rattle.core_state.proofs.Seats.{number_at, seat_there, seat_written, session_written}
use Rattle.core_state.specs.Events.{MomentLine, at_moment, line_fetching, line_reading, line_refused, line_spared}
use Rattle.core_state.specs.Facts.{IsSound}
use Rattle.core_state.specs.Lines.{after_use, failed_state, seated, takes_copy, with_snapshot}
use Rattle.core_state.specs.Moves.{OthersStay}
use Rattle.core_state.specs.Stands.{Stands, coming, logged_changes}
use Rattle.core_state.specs.State.{CoreState, IsSession, is_open, is_repeatable, nobody, seat_of, table_at, xid_of}
use Rattle.core_state.specs.declared.seat.Job.{Job}
use Rattle.core_state.specs.declared.seat.Seat.{Seat}
use Rattle.core_state.specs.declared.seat.State.{State}
use Rattle.change_stream.specs.Streams.{changes_of, outs_with}
use Rattle.change_stream.specs.declared.written.Written.{Written}
use Rattle.core_outs.proofs.Changes.{changes_stand, next_same, next_written}
use Rattle.core_outs.proofs.Commits.{changes_written}
use Rattle.core_outs.proofs.Frames.{closed_out, none_out, out_then, outs_given_up, outs_seated}
use Rattle.core_outs.specs.Outs.{AreOutIn, OutsStand, SeatOuts, is_put_at, put_place}
use Rattle.command_set.specs.declared.Reply.TheVariants as replies
use Rattle.core_state.specs.Events as lines
use Rattle.core_state.specs.declared.seat.Job.TheVariants as jobs
use Rattle.core_state.specs.declared.seat.State.TheVariants as states

-- ---- what a moment is told with

-- a command's moment, in terms of the plain store before and after it, and of the stream
pub record IsMomentOf (c v : CoreState) (s : ℕ) (script : Script) (kept : List ℕ) (outs : Place → List ℕ) (written later : ℕ → List Written) : Type 0 where
  pub there : IsSession c.seats s
  pub sound : IsSound c
  pub others : OthersStay c s v
  pub before : Plain
  pub after : Plain
  pub replies_before : List (Option Reply)
  pub replies_after : List (Option Reply)
  pub stood : Stands c before replies_before
  pub stands : Stands v after replies_after
  pub told : changes_written (written s) ≡ changes_of before s
  pub next : later s ≡ next_written script kept (written s) (changes_of after s)
  pub same : (k : ℕ) → k ≢ s → later k ≡ written k
  pub none : put_place (seat_of c s).job ≡ None
  pub old : OutsStand c outs written

pub there_then : (c v : CoreState) (s : ℕ) → IsSession c.seats s → OthersStay c s v → IsSession v.seats s
there_then c v s there others =
    let count = others.count in
    let within = there.within in
    record { from_one = there.from_one; within = omega (arith, count, within) }

-- ---- a line that leaves tables, statuses, log and the session's changes

pub record LeavesAll (c v : CoreState) (s : ℕ) : Type 0 where
  pub tables : v.tables ≡ c.tables
  pub xacts : v.xacts ≡ c.xacts
  pub log : v.log ≡ c.log
  pub xid : xid_of (seat_of v s).state ≡ xid_of (seat_of c s).state
  pub opened : is_open (seat_of v s).state ≡ is_open (seat_of c s).state
  pub job : ((seat_of v s).job ≡ jobs.Idle) ⊎ ((t : ℕ) × (snapshot : Option ℕ) × (read : Reading) × ((seat_of v s).job ≡ jobs.Reading t snapshot read))

-- nothing comes of a job that puts no row
none_comes : (tables : List Table) (job : Job) → (job ≡ jobs.Idle) ⊎ ((t : ℕ) × (snapshot : Option ℕ) × (read : Reading) × (job ≡ jobs.Reading t snapshot read)) → (coming tables job ≡ []) × (put_place job ≡ None)
none_comes tables job is = elim is [
  | inl h ↦ (ap (coming tables) h, ap put_place h)
  | inr h ↦ (ap (coming tables) h.3, ap put_place h.3)
]

same_changes : (tables later : List Table) (log after : LogState) (own left : Option ℕ) (job next : Job) → later ≡ tables → after ≡ log → left ≡ own → coming later next ≡ [] → coming tables job ≡ []
    → logged_changes later after.entries left ++ coming later next ≡ logged_changes tables log.entries own ++ coming tables job
same_changes tables later log after own left job next same_tables same_log same_own none was_none =
    ap (λ (changes : List Change). logged_changes later after.entries left ++ changes) none
    ∙ ap (λ (its : List Table). logged_changes its after.entries left ++ []) same_tables
    ∙ ap (λ (its : LogState). logged_changes tables its.entries left ++ []) same_log
    ∙ ap (λ (its : Option ℕ). logged_changes tables log.entries its ++ []) same_own
    ∙ ap (λ (changes : List Change). logged_changes tables log.entries own ++ changes) (sym was_none)

-- what was told of the session's own rows
pub told_own : (c : CoreState) (s : ℕ) (outs : Place → List ℕ) (written : ℕ → List Written) → IsSession c.seats s → is_open (seat_of c s).state ≡ true → put_place (seat_of c s).job ≡ None → OutsStand c outs written
    → AreOutIn c.tables (counts_for c.xacts (xid_of (seat_of c s).state)) (outs_with outs (written s)) (λ p. false)
told_own c s outs written there opened none old =
    let was : SeatOuts c.xacts c.tables (outs_with outs (written s)) (seat_of c s) = subst (λ (n : ℕ). SeatOuts c.xacts c.tables (outs_with outs (written n)) (seat_of c s)) (number_at s there.from_one) (old.each (s - 1) (seat_of c s) (seat_there c.seats s there)) in
    record { each = λ p bytes e at. (was.now opened).each p bytes (ap (λ (o : Option Place). option_map_or (λ q. same_place q p) o false) none) at }

pub outs_quiet : (c v : CoreState) (s : ℕ) (script : Script) (kept : List ℕ) (outs : Place → List ℕ) (written later : ℕ → List Written) (command : Command) → IsMomentOf c v s script kept outs written later → (seat_of c s).job ≡ jobs.Submitted command → LeavesAll c v s → OutsStand v outs later
outs_quiet c v s script kept outs written later command at submitted leaves =
    outs_seated c v s outs written later at.there at.others rows (λ own p. ap (λ (xacts : Xacts). tuple_in (counts_for xacts own) (table_at c.tables p.table).rows.pages p.key) leaves.xacts) at.same
    (elim (cases_Bool (is_open (seat_of c s).state)) [
      | inl opened ↦ subst (λ (ws : List Written). SeatOuts v.xacts v.tables (outs_with outs ws) (seat_of v s)) (sym (kept_changes opened)) (record { now = λ e. now opened; coming = none_out (outs_with outs (written s)) (seat_of v s).job none.1 })
      | inr closed ↦ closed_out v.xacts v.tables (outs_with outs (later s)) (seat_of v s) (leaves.opened ∙ closed) none.1
    ])
    at.old
  where
    none : (coming v.tables (seat_of v s).job ≡ []) × (put_place (seat_of v s).job ≡ None)
    none = none_comes v.tables (seat_of v s).job leaves.job

    rows : (t : ℕ) → (table_at v.tables t).rows ≡ (table_at c.tables t).rows
    rows t = ap (λ (tables : List Table). (table_at tables t).rows) leaves.tables

    kept_changes : is_open (seat_of c s).state ≡ true → later s ≡ written s
    kept_changes opened =
        let left = changes_stand v s at.after at.replies_after (there_then c v s at.there at.others) at.stands (leaves.opened ∙ opened) in
        let was = changes_stand c s at.before at.replies_before at.there at.stood opened in
        let same = same_changes c.tables v.tables c.log v.log (xid_of (seat_of c s).state) (xid_of (seat_of v s).state) (seat_of c s).job (seat_of v s).job leaves.tables leaves.log leaves.xid none.0 (ap (coming c.tables) submitted) in
        at.next ∙ ap (next_written script kept (written s)) (left ∙ same ∙ sym was ∙ sym at.told) ∙ next_same script kept (written s)

    now : is_open (seat_of c s).state ≡ true → AreOutIn v.tables (counts_for v.xacts (xid_of (seat_of v s).state)) (outs_with outs (written s)) (is_put_at (seat_of v s).job)
    now opened = out_then c.tables v.tables (counts_for c.xacts (xid_of (seat_of c s).state)) (counts_for v.xacts (xid_of (seat_of v s).state)) (outs_with outs (written s)) (outs_with outs (written s)) (λ p. false) (is_put_at (seat_of v s).job)
        (record {
          rows = rows;
          world = λ p. ap (λ (xacts : Xacts). tuple_in (counts_for xacts (xid_of (seat_of v s).state)) (table_at c.tables p.table).rows.pages p.key) leaves.xacts
              ∙ ap (λ (own : Option ℕ). tuple_in (counts_for c.xacts own) (table_at c.tables p.table).rows.pages p.key) leaves.xid;
        }) (λ p e. (refl, refl)) (told_own c s outs written at.there opened at.none at.old)

-- ---- a session that is closed then

pub outs_closed : (c v : CoreState) (s : ℕ) (script : Script) (kept : List ℕ) (outs : Place → List ℕ) (written later : ℕ → List Written) → IsMomentOf c v s script kept outs written later → v.tables ≡ c.tables → v.xacts ≡ c.xacts → is_open (seat_of v s).state ≡ false → put_place (seat_of v s).job ≡ None
    → OutsStand v outs later
outs_closed c v s script kept outs written later at tables xacts closed none =
    outs_seated c v s outs written later at.there at.others (λ t. ap (λ (its : List Table). (table_at its t).rows) tables) (λ own p. ap (λ (its : Xacts). tuple_in (counts_for its own) (table_at c.tables p.table).rows.pages p.key) xacts) at.same
    (closed_out v.xacts v.tables (outs_with outs (later s)) (seat_of v s) closed none) at.old

-- ---- the lines

abbrev pub IsQuiet : CoreState → ℕ → MomentLine → Type 0
IsQuiet c s (lines.Over state) = (state ≡ (seat_of c s).state) ⊎ (is_open state ≡ false)
IsQuiet c s (lines.Looked t) = ⊤
IsQuiet c s lines.Committed = ⊥
IsQuiet c s (lines.GivenUp state) = is_open state ≡ false
IsQuiet c s (lines.ReadBegun t read) = ⊤
IsQuiet c s (lines.FetchBegun t read) = ⊤
IsQuiet c s (lines.WriteBegun t keys write) = ⊥
IsQuiet c s (lines.Opened t name held) = ⊤
IsQuiet c s (lines.Closed handle) = ⊤

-- what a use of a table leaves
pub record LeavesUse (c u : CoreState) (s : ℕ) : Type 0 where
  pub tables : u.tables ≡ c.tables
  pub xacts : u.xacts ≡ c.xacts
  pub log : u.log ≡ c.log
  pub xid : xid_of (seat_of u s).state ≡ xid_of (seat_of c s).state
  pub opened : is_open (seat_of u s).state ≡ is_open (seat_of c s).state
  pub there : IsSession u.seats s

snapshot_xid : (state : State) (id : ℕ) → (xid_of (with_snapshot state id) ≡ xid_of state) × (is_open (with_snapshot state id) ≡ is_open state)
snapshot_xid states.Outside id = (refl, refl)
snapshot_xid states.Failed id = (refl, refl)
snapshot_xid (states.Open level xid snapshot) id = (refl, refl)

pub use_leaves : (c : CoreState) (s t : ℕ) → IsSession c.seats s → LeavesUse c (after_use c s t) s
use_leaves c s t there = by (takes_copy (seat_of c s).state) c.locks
  where
    seat : Seat
    seat = record (seat_of c s) { state = with_snapshot (seat_of c s).state (least_free c.snaps) }

    is : slice_index_or (slice_set c.seats (s - 1) seat) (s - 1) nobody ≡ seat
    is = seat_written c.seats s seat there

    kept : (xid_of seat.state ≡ xid_of (seat_of c s).state) × (is_open seat.state ≡ is_open (seat_of c s).state)
    kept = snapshot_xid (seat_of c s).state (least_free c.snaps)

    by : (b : Bool) (locks : List SessionLocks) → LeavesUse c (cond b (seated (record c { locks = granted c.locks s (table_lock t Use); snaps = after_take c.snaps c.xacts }) s seat) (record c { locks = granted c.locks s (table_lock t Use) })) s
    by true locks = record {
      tables = refl;
      xacts = refl;
      log = refl;
      xid = ap (λ (its : Seat). xid_of its.state) is ∙ kept.0;
      opened = ap (λ (its : Seat). is_open its.state) is ∙ kept.1;
      there = session_written c.seats s s seat there;
    }
    by false locks = record { tables = refl; xacts = refl; log = refl; xid = refl; opened = refl; there = there }

-- a seat that is written after it
leaves_seated : (c u : CoreState) (s : ℕ) (seat : Seat) → LeavesUse c u s → xid_of seat.state ≡ xid_of (seat_of u s).state → is_open seat.state ≡ is_open (seat_of u s).state
    → (seat.job ≡ jobs.Idle) ⊎ ((t : ℕ) × (snapshot : Option ℕ) × (read : Reading) × (seat.job ≡ jobs.Reading t snapshot read)) → (snaps : Snaps) → LeavesAll c (seated (record u { snaps = snaps }) s seat) s
leaves_seated c u s seat leaves xid opened job snaps =
    let is = seat_written u.seats s seat leaves.there in
    record {
      tables = leaves.tables;
      xacts = leaves.xacts;
      log = leaves.log;
      xid = ap (λ (its : Seat). xid_of its.state) is ∙ xid ∙ leaves.xid;
      opened = ap (λ (its : Seat). is_open its.state) is ∙ opened ∙ leaves.opened;
      job = subst (λ (its : Seat). (its.job ≡ jobs.Idle) ⊎ ((t : ℕ) × (snapshot : Option ℕ) × (read : Reading) × (its.job ≡ jobs.Reading t snapshot read))) (sym is) job;
    }

none_used : (c : CoreState) (s : ℕ) → IsSession c.seats s → LeavesUse c c s
none_used c s there = record { tables = refl; xacts = refl; log = refl; xid = refl; opened = refl; there = there }

-- a quiet line
pub line_out : (c : CoreState) (s : ℕ) (line : MomentLine) (script : Script) (kept : List ℕ) (outs : Place → List ℕ) (written later : ℕ → List Written) (command : Command) → IsQuiet c s line → (seat_of c s).job ≡ jobs.Submitted command
    → IsMomentOf c (at_moment line c s) s script kept outs written later → OutsStand (at_moment line c s) outs later
line_out c s (lines.Over state) script kept outs written later command quiet job at = elim quiet [
  | inl same ↦ outs_quiet c (at_moment (lines.Over state) c s) s script kept outs written later command at job
      (leaves_seated c c s (record (seat_of c s) { state = state; job = jobs.Idle }) (none_used c s at.there) (ap xid_of same) (ap is_open same) (inl refl) c.snaps)
  | inr closed ↦
      let is = seat_written c.seats s (record (seat_of c s) { state = state; job = jobs.Idle }) at.there in
      outs_closed c (at_moment (lines.Over state) c s) s script kept outs written later at refl refl (ap (λ (its : Seat). is_open its.state) is ∙ closed) (ap (λ (its : Seat). put_place its.job) is)
]
line_out c s (lines.Looked t) script kept outs written later command quiet job at =
    let u = after_use c s t in
    outs_quiet c (at_moment (lines.Looked t) c s) s script kept outs written later command at job (leaves_seated c u s (record (seat_of u s) { state = (seat_of u s).state; job = jobs.Idle }) (use_leaves c s t at.there) refl refl (inl refl) u.snaps)
line_out c s lines.Committed script kept outs written later command quiet job at = absurd quiet
line_out c s (lines.GivenUp state) script kept outs written later command quiet job at = outs_given_up c s state outs written later at.there at.sound at.others quiet at.same at.old
line_out c s (lines.ReadBegun t read) script kept outs written later command quiet job at =
    outs_quiet c (at_moment (lines.ReadBegun t read) c s) s script kept outs written later command at job (by (is_repeatable (seat_of (after_use c s t) s).state))
  where
    u : CoreState
    u = after_use c s t

    by : (b : Bool) → LeavesAll c (cond b (seated u s (record (seat_of u s) { job = jobs.Reading t None read })) (seated (record u { snaps = after_take u.snaps u.xacts }) s (record (seat_of u s) { job = jobs.Reading t (Some (least_free u.snaps)) read }))) s
    by true = leaves_seated c u s (record (seat_of u s) { job = jobs.Reading t None read }) (use_leaves c s t at.there) refl refl (inr (t, None, read, refl)) u.snaps
    by false = leaves_seated c u s (record (seat_of u s) { job = jobs.Reading t (Some (least_free u.snaps)) read }) (use_leaves c s t at.there) refl refl (inr (t, Some (least_free u.snaps), read, refl)) (after_take u.snaps u.xacts)
line_out c s (lines.FetchBegun t read) script kept outs written later command quiet job at =
    outs_quiet c (at_moment (lines.FetchBegun t read) c s) s script kept outs written later command at job (leaves_seated c c s (record (seat_of c s) { job = jobs.Reading t None read }) (none_used c s at.there) refl refl (inr (t, None, read, refl)) c.snaps)
line_out c s (lines.WriteBegun t keys write) script kept outs written later command quiet job at = absurd quiet
line_out c s (lines.Opened t name held) script kept outs written later command quiet job at =
    outs_quiet c (at_moment (lines.Opened t name held) c s) s script kept outs written later command at job (leaves_seated c (after_use c s t) s _ (use_leaves c s t at.there) refl refl (inl refl) _)
line_out c s (lines.Closed handle) script kept outs written later command quiet job at =
    outs_quiet c (at_moment (lines.Closed handle) c s) s script kept outs written later command at job (leaves_seated c c s _ (none_used c s at.there) refl refl (inl refl) _)

-- ---- which lines are quiet

pub spared_quiet : (c : CoreState) (s : ℕ) (state : State) (table : Option ℕ) (reply : Reply) → state ≡ (seat_of c s).state → IsQuiet c s (line_spared state table reply)
spared_quiet c s state table replies.RolledBack same = inr refl
spared_quiet c s state (Some t) replies.Absent same = tt
spared_quiet c s state (Some t) replies.Null same = tt
spared_quiet c s state table reply same = inl same

pub failed_closed : (state : State) → is_open (failed_state state) ≡ false
failed_closed states.Outside = refl
failed_closed states.Failed = refl
failed_closed (states.Open level xid snapshot) = refl

pub refused_quiet : (c : CoreState) (s : ℕ) (table : Option ℕ) (reply : Reply) → IsQuiet c s (line_refused (seat_of c s).state table reply)
refused_quiet c s table reply = by (fails reply)
  where
    by : (b : Bool) → IsQuiet c s (if b then lines.GivenUp (failed_state (seat_of c s).state) else line_spared (seat_of c s).state table reply)
    by true = failed_closed (seat_of c s).state
    by false = spared_quiet c s (seat_of c s).state table reply refl

pub reading_quiet : (c : CoreState) (s t : ℕ) (read : Reading) → IsQuiet c s (line_reading t read)
reading_quiet c s t read = by (needs_store read)
  where
    by : (b : Bool) → IsQuiet c s (if b then lines.ReadBegun t read else lines.Looked t)
    by true = tt
    by false = tt

pub fetching_quiet : (c : CoreState) (s t : ℕ) (read : Reading) → IsQuiet c s (line_fetching (seat_of c s).state t read)
fetching_quiet c s t read = by (needs_store read)
  where
    by : (b : Bool) → IsQuiet c s (if b then lines.FetchBegun t read else lines.Over (seat_of c s).state)
    by true = tt
    by false = inl refl

-- by what a look-up finds
pub found_quiet : {X : Type 0} (c : CoreState) (s : ℕ) (f : X → MomentLine) (o : Option X) (line : MomentLine) → ((x : X) → IsQuiet c s (f x)) → IsQuiet c s line → IsQuiet c s (option_map_or f o line)
found_quiet c s f None line some none = none
found_quiet c s f (Some x) line some none = some x
