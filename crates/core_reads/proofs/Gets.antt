-- The moment with which a read of a row begins that its session sees, or is over where it needs nothing of the store.
use Rattle.std.proofs.Common.{ap, arith, refl, subst, sym, ◌∙◌}
use Rattle.std.specs.Prelude.{Bool, List, None, Option, Some, [], false, if◌then◌else◌, length, slice_set, suc, true, ℕ, ℤ, ◌-◌, ◌<◌, ◌∷◌, ◌≡◌}
use Rattle.list_facts.proofs.Members.{first_in}
use Rattle.tuple_layout.specs.declared.cell.Cell.{Cell}
use Rattle.xact_status.specs.Xacts.{Xacts}
use Rattle.snapshot_registry.specs.Snapshots.{Snaps, after_take, least_free}
use Rattle.command_set.specs.Answers.{answer, with_use}
use Rattle.command_set.specs.Journals.{is_data}
use Rattle.command_set.specs.Plain.{session_of, with_session}
use Rattle.command_set.specs.Replies.{is_granted}
use Rattle.command_set.specs.declared.Command.{Command}
use Rattle.command_set.specs.declared.Reply.{Reply}
use Rattle.command_set.specs.declared.state.Answered.{Answered}
use Rattle.command_set.specs.declared.state.Plain.{Plain}
use Rattle.command_set.specs.declared.state.Transaction.{Transaction}
use Rattle.table_state.specs.declared.table.Table.{Table}
use Rattle.read_steps.specs.Reads.{Reading, needs_store, read_left, reply_of}
use Rattle.read_steps.specs.declared.stage.ReadStage.{ReadStage}
use Rattle.write_steps.specs.declared.stage.OldRow.{OldRow}
use Rattle.core_state.proofs.Answered.{answered}
use Rattle.core_state.proofs.Below.{below}
use Rattle.core_state.proofs.Seats.{seat_written, sound_of}
use Rattle.core_state.specs.Begun.{begun, job_reading}
use Rattle.core_state.specs.Events.{Looked, ReadBegun, at_moment, job_left, left, left_by, line_reading}
use Rattle.core_state.specs.Facts.{IsSound}
use Rattle.core_state.specs.Lines.{after_looking, after_read_begun, after_use, seated}
use Rattle.core_state.specs.Moves.{Runs, Says}
use Rattle.core_state.specs.Stands.{Stands}
use Rattle.core_state.specs.State.{CoreState, IsSession, IsTableOf, is_open, is_past_moment, is_repeatable, schemas_of, seat_of, snapshot_of, table_at, xid_of}
use Rattle.core_state.specs.Views.{row_seen}
use Rattle.core_state.specs.declared.seat.Job.{Job}
use Rattle.core_state.specs.declared.seat.Seat.{Seat}
use Rattle.core_reads.proofs.Begun.{Begins, IsReadOf, reading_from, runs_of, seen_anew, seen_repeatably, sound_begun}
use Rattle.core_looks.proofs.Sights.{table_sound}
use Rattle.core_looks.proofs.Used.{sees_used, sound_looked, stands_looked, stands_used}
use Rattle.core_looks.proofs.Uses.{sound_used}
use Rattle.core_reads.proofs.Moments.{open_of, stands_goes, stands_takes}
use Rattle.core_reads.proofs.Reading.{with_job}
use Rattle.core_reads.proofs.Seen.{SeenBy, seen_whole}
use Rattle.core_reads.proofs.Using.{use_leaves}
use Rattle.core_reads.specs.Laws.{advance_by}
use Rattle.command_set.specs.declared.state.Session.TheVariants as plain
use Rattle.core_state.specs.declared.seat.Job.TheVariants as jobs

-- a granted read of a row that the session sees: what it reads of the row, and the reply that it comes to
pub record IsGet (c : CoreState) (s t : ℕ) (command : Command) (key : ℤ) (old : OldRow) (stage : ReadStage) (cells : List Cell) (reply : Reply) : Type 0 where
  pub there : IsSession c.seats s
  pub is : (seat_of c s).job ≡ jobs.Submitted command
  pub inside : is_open (seat_of c s).state ≡ true
  pub of_table : IsTableOf c.tables t
  pub found : row_seen c s t key ≡ Some old
  pub reads : IsReadOf stage cells (table_at c.tables t).toast s reply
  pub part : (xacts : Xacts) (snaps : Snaps) (table : Table) (uses : List ℕ) (own : Option ℕ) → SeenBy xacts snaps table uses own old.stored.cells → SeenBy xacts snaps table uses own cells

pub before_moment : (c : CoreState) (s : ℕ) (command : Command) → (seat_of c s).job ≡ jobs.Submitted command → is_past_moment (seat_of c s).job ≡ false
before_moment c s command is = ap is_past_moment is

-- once the table is used
pub begins_of : (c : CoreState) (s t : ℕ) (command : Command) (key : ℤ) (old : OldRow) (stage : ReadStage) (cells : List Cell) (reply : Reply) → IsGet c s t command key old stage cells reply → Begins (after_use c s t) s t command key old
begins_of c s t command key old stage cells reply get =
    let used = use_leaves c s t get.there get.inside in
    record {
      there = used.there;
      is = used.job ∙ get.is;
      inside = used.inside;
      of_table = subst (λ (tables : List Table). IsTableOf tables t) (sym used.tables) get.of_table;
      used = used.used;
      found = sees_used c s t t key get.there get.inside ∙ get.found;
      copied = used.copied;
    }

pub reads_of : (c : CoreState) (s t : ℕ) (command : Command) (key : ℤ) (old : OldRow) (stage : ReadStage) (cells : List Cell) (reply : Reply) → IsGet c s t command key old stage cells reply → IsReadOf stage cells (table_at (after_use c s t).tables t).toast s reply
reads_of c s t command key old stage cells reply get = subst (λ (tables : List Table). IsReadOf stage cells (table_at tables t).toast s reply) (sym (use_leaves c s t get.there get.inside).tables) get.reads

-- ---- sound

pub sound_get : (c : CoreState) (s t : ℕ) (command : Command) (key : ℤ) (old : OldRow) (stage : ReadStage) (cells : List Cell) (reply : Reply) → IsGet c s t command key old stage cells reply → IsSound c
    → IsSound (at_moment (line_reading t (record { session = s; stage = stage })) c s)
sound_get c s t command key old stage cells reply get sound = by (needs_store (record { session = s; stage = stage }))
  where
    by : (b : Bool) → IsSound (at_moment (if b then ReadBegun t (record { session = s; stage = stage }) else Looked t) c s)
    by true =
        sound_begun (after_use c s t) s t command key old stage cells reply (begins_of c s t command key old stage cells reply get) (reads_of c s t command key old stage cells reply get)
        (λ snaps uses own seen. get.part (after_use c s t).xacts snaps (table_at (after_use c s t).tables t) uses own seen) (sound_used c s t get.there get.inside (before_moment c s command get.is) sound)
    by false = sound_looked c s t command get.there get.inside get.is sound

-- ---- what it comes to

pub comes_begun : (u : CoreState) (s t : ℕ) (command : Command) (key : ℤ) (old : OldRow) (stage : ReadStage) (cells : List Cell) (reply : Reply) → Begins u s t command key old → IsReadOf stage cells (table_at u.tables t).toast s reply
    → ((snaps : Snaps) (uses : List ℕ) (own : Option ℕ) → SeenBy u.xacts snaps (table_at u.tables t) uses own old.stored.cells → SeenBy u.xacts snaps (table_at u.tables t) uses own cells) → IsSound u
    → reply_of (table_at u.tables t).toast (record { session = s; stage = stage }) ≡ Some reply
comes_begun u s t command key old stage cells reply begins reads part sound = by (snapshot_of (seat_of u s).state) refl
  where
    own : Option ℕ
    own = xid_of (seat_of u s).state

    by : (o : Option ℕ) → snapshot_of (seat_of u s).state ≡ o → reply_of (table_at u.tables t).toast (record { session = s; stage = stage }) ≡ Some reply
    by (Some id) e =
        let runs = runs_of u.xacts s (xid_of (seat_of u s).state) (sound_of u s begins.there sound).runs in
        let seen = part u.snaps (id ∷ []) own (seen_repeatably u s t command key old id (id ∷ []) begins sound e (first_in id [] id refl)) in
        reads.comes (seen_whole t u.xacts u.snaps (table_at u.tables t) (id ∷ []) own cells (table_sound u t begins.of_table sound) runs seen)
    by None e =
        let runs = runs_of u.xacts s (xid_of (seat_of u s).state) (sound_of u s begins.there sound).runs in
        let id = least_free u.snaps in
        let seen = part (after_take u.snaps u.xacts) (id ∷ []) own (seen_anew u s t command key old (id ∷ []) begins e (first_in id [] id refl)) in
        let table = below.moments.taken t u.xacts u.snaps (table_at u.tables t) (table_sound u t begins.of_table sound) in
        reads.comes (seen_whole t u.xacts (after_take u.snaps u.xacts) (table_at u.tables t) (id ∷ []) own cells table runs seen)

-- the core with a read that has begun stands for the state in which its reply is told
stands_begun : (u : CoreState) (s t : ℕ) (command : Command) (read : Reading) (m : Plain) (told : List (Option Reply)) (reply : Reply) → IsSession u.seats s → (seat_of u s).job ≡ jobs.Submitted command → s - 1 < length told
    → reply_of (table_at u.tables t).toast read ≡ Some reply → IsSound u → Stands u m told → Stands (reading_from u s t read) m (slice_set told (s - 1) (Some reply))
stands_begun u s t command read m told reply there is counted comes sound stands = by (is_repeatable (seat_of u s).state)
  where
    says : (said : Reply) → reply_of (table_at u.tables t).toast read ≡ Some said → said ≡ reply
    says said e = some_is said reply (sym e ∙ comes)
      where
        some_is : (a b : Reply) → Some a ≡ Some b → a ≡ b
        some_is a b is = cc

    by : (b : Bool)
        → Stands (if b then seated u s (with_job u s (jobs.Reading t None read)) else seated (record u { snaps = after_take u.snaps u.xacts }) s (with_job u s (jobs.Reading t (Some (least_free u.snaps)) read))) m (slice_set told (s - 1) (Some reply))
    by true = stands_goes u s command (jobs.Reading t None read) m told reply there is counted refl says stands
    by false = stands_takes u s command (jobs.Reading t (Some (least_free u.snaps)) read) m told reply there is counted refl says sound stands

job_begun : (u : CoreState) (s t : ℕ) (read : Reading) → IsSession u.seats s → (o : Option ℕ) × ((seat_of (reading_from u s t read) s).job ≡ jobs.Reading t o read)
job_begun u s t read there = by (is_repeatable (seat_of u s).state)
  where
    by : (b : Bool) → (o : Option ℕ)
        × ((seat_of (if b then seated u s (with_job u s (jobs.Reading t None read)) else seated (record u { snaps = after_take u.snaps u.xacts }) s (with_job u s (jobs.Reading t (Some (least_free u.snaps)) read))) s).job ≡ jobs.Reading t o read)
    by true = (None, ap (λ (seat : Seat). seat.job) (seat_written u.seats s (with_job u s (jobs.Reading t None read)) there))
    by false = (Some (least_free u.snaps), ap (λ (seat : Seat). seat.job) (seat_written u.seats s (with_job u s (jobs.Reading t (Some (least_free u.snaps)) read)) there))

-- ---- in terms of the plain store

-- where the plain store answers the reply, and uses the table
abbrev pub Answers : CoreState → ℕ → ℕ → Command → Reply → Type 0
Answers c s t command reply =
    (m : Plain) (told : List (Option Reply)) (tr : Transaction) → Stands c m told → session_of m s ≡ plain.Open tr → answer (schemas_of c.tables) m s command ≡ answered reply (with_session m s (plain.Open (with_use m tr t)))

looked_over : (c : CoreState) (s t : ℕ) → IsSession c.seats s → is_open (seat_of c s).state ≡ true → (seat_of (after_looking c s t) s).job ≡ jobs.Idle
looked_over c s t there inside =
    ap (λ (seat : Seat). seat.job) (seat_written (after_use c s t).seats s (record (seat_of (after_use c s t) s) { state = (seat_of (after_use c s t) s).state; job = jobs.Idle }) (use_leaves c s t there inside).there)

pub runs_get : (c : CoreState) (s t : ℕ) (command : Command) (key : ℤ) (old : OldRow) (stage : ReadStage) (cells : List Cell) (reply : Reply) (snapshot : Option ℕ) → IsGet c s t command key old stage cells reply → is_data command ≡ true → is_granted reply ≡ true
    → Answers c s t command reply → IsSound c → Runs c s command (at_moment (line_reading t (record { session = s; stage = stage })) c s) (advance_by (job_reading t snapshot (record { session = s; stage = stage })) reply)
runs_get c s t command key old stage cells reply snapshot get is_of_data granted answers sound m told counted stands =
    let opened = open_of c m told s get.there stands get.inside in
    subst (λ (a : Answered). Stands (at_moment (line_reading t read) c s) a.after (slice_set told (s - 1) (Some a.reply)) × Says command (seat_of (at_moment (line_reading t read) c s) s).job (advance_by (job_reading t snapshot read) reply) a.reply)
    (sym (answers m told opened.0 stands opened.1)) (by opened.0 opened.1 (needs_store read))
  where
    read : Reading
    read = record { session = s; stage = stage }

    u : CoreState
    u = after_use c s t

    begins : Begins (after_use c s t) s t command key old
    begins = begins_of c s t command key old stage cells reply get

    used : IsSound (after_use c s t)
    used = sound_used c s t get.there get.inside (before_moment c s command get.is) sound

    comes : reply_of (table_at (after_use c s t).tables t).toast (record { session = s; stage = stage }) ≡ Some reply
    comes = comes_begun (after_use c s t) s t command key old stage cells reply begins (reads_of c s t command key old stage cells reply get) (λ snaps uses own seen. get.part (after_use c s t).xacts snaps (table_at (after_use c s t).tables t) uses own seen) used

    by : (tr : Transaction) → session_of m s ≡ plain.Open tr → (b : Bool)
        → Stands (at_moment (if b then ReadBegun t read else Looked t) c s) (with_session m s (plain.Open (with_use m tr t))) (slice_set told (s - 1) (Some reply))
        × Says command (seat_of (at_moment (if b then ReadBegun t read else Looked t) c s) s).job (advance_by (if b then jobs.Reading t snapshot read else jobs.Idle) reply) reply
    by tr is true =
        let job = job_begun u s t read begins.there in (
          stands_begun u s t command read (with_session m s (plain.Open (with_use m tr t))) told reply begins.there begins.is counted comes used (stands_used c m told s t tr get.there (before_moment c s command get.is) sound stands is),
          (is_of_data, granted, ap is_past_moment job.1),
        )
    by tr is false = (stands_looked c m told s t command reply tr get.there get.is sound stands is, (refl, looked_over c s t get.there get.inside))

-- ---- what is left

pub falls_get : (c : CoreState) (s t : ℕ) (command : Command) (stage : ReadStage) (snapshot : Option ℕ) → IsSession c.seats s → (seat_of c s).job ≡ jobs.Submitted command → is_open (seat_of c s).state ≡ true
    → begun c s command ≡ job_reading t snapshot (record { session = s; stage = stage }) → left (at_moment (line_reading t (record { session = s; stage = stage })) c s) s < left c s
falls_get c s t command stage snapshot there is inside begins = by (needs_store read) refl
  where
    read : Reading
    read = record { session = s; stage = stage }

    leaves : (after_use c s t).tables ≡ c.tables
    leaves = (use_leaves c s t there inside).tables

    was : left c s ≡ suc (job_left c.tables (job_reading t snapshot read))
    was = ap (left_by c s) is ∙ ap (λ (job : Job). suc (job_left c.tables job)) begins

    tables_begun : (b : Bool)
        → CoreState.tables (if b then seated (after_use c s t) s (with_job (after_use c s t) s (jobs.Reading t None read)) else seated (record (after_use c s t) { snaps = after_take (after_use c s t).snaps (after_use c s t).xacts }) s (with_job (after_use c s t) s (jobs.Reading t (Some (least_free (after_use c s t).snaps)) read)))
        ≡ c.tables
    tables_begun true = leaves
    tables_begun false = leaves

    by : (b : Bool) → needs_store read ≡ b → left (at_moment (if b then ReadBegun t read else Looked t) c s) s < left c s
    by true e =
        let job = job_begun (after_use c s t) s t read (use_leaves c s t there inside).there in
        let now : left (after_read_begun c s t read) s ≡ read_left (table_at (after_read_begun c s t read).tables t).toast.index.entries read = ap (left_by (after_read_begun c s t read) s) job.1 in
        let same : read_left (table_at (after_read_begun c s t read).tables t).toast.index.entries read ≡ read_left (table_at c.tables t).toast.index.entries read =
        ap (λ (tables : List Table). read_left (table_at tables t).toast.index.entries read) (tables_begun (is_repeatable (seat_of (after_use c s t) s).state)) in
        let before : job_left c.tables (job_reading t snapshot read) ≡ read_left (table_at c.tables t).toast.index.entries read = ap (λ (b : Bool). job_left c.tables (if b then jobs.Reading t snapshot read else jobs.Idle)) e in
        omega (arith, was, now, same, before)
    by false e =
        let now : left (after_looking c s t) s ≡ 0 = ap (left_by (after_looking c s t) s) (looked_over c s t there inside) in
        omega (arith, was, now)
