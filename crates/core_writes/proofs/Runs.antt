-- The moment of a write in terms of the plain store: the core stands for the state in which the transaction has one change more.
use Rattle.std.proofs.Common.{ap, arith, refl, subst, sym, ◌∙◌}
use Rattle.std.specs.Option.{unwrap_or}
use Rattle.std.specs.Prelude.{Bool, List, None, Option, Some, false, length, slice_get, slice_set, suc, true, ℕ, ℤ, ◌-◌, ◌<◌, ◌≡◌}
use Rattle.list_facts.proofs.Changed.{set_twice}
use Rattle.tuple_layout.specs.declared.cell.Stored.{Stored}
use Rattle.xact_status.specs.Xacts.{next_xid}
use Rattle.command_set.specs.Answers.{answer, with_change, with_use}
use Rattle.command_set.specs.Journals.{is_data}
use Rattle.command_set.specs.Plain.{session_of, with_session}
use Rattle.command_set.specs.declared.Command.{Command}
use Rattle.command_set.specs.declared.Reply.{Reply}
use Rattle.command_set.specs.declared.state.Answered.{Answered}
use Rattle.command_set.specs.declared.state.Change.{Change}
use Rattle.command_set.specs.declared.state.Plain.{Plain}
use Rattle.command_set.specs.declared.state.Session.{Session}
use Rattle.command_set.specs.declared.state.Transaction.{Transaction}
use Rattle.table_state.specs.declared.table.Table.{Table}
use Rattle.write_steps.specs.Writes.{Writing, new_write}
use Rattle.write_steps.specs.declared.stage.OldRow.{OldRow}
use Rattle.core_state.proofs.Answered.{answered, sessions_set}
use Rattle.core_state.proofs.Seats.{seat_written, session_written}
use Rattle.core_state.proofs.Standing.{its_session}
use Rattle.core_state.specs.Begun.{begun, job_writing, plan_of, write_begun}
use Rattle.core_state.specs.Events.{job_left, left, left_by}
use Rattle.core_state.specs.Facts.{IsSound}
use Rattle.core_state.specs.Lines.{after_use, after_write_begun, takes_copy, with_xid}
use Rattle.core_state.specs.Moves.{Runs, Says}
use Rattle.core_state.specs.Stands.{Stands}
use Rattle.core_state.specs.State.{CoreState, IsSession, is_open, is_past_moment, schemas_of, seat_of, table_at, xid_of}
use Rattle.core_state.specs.declared.seat.Job.{Job}
use Rattle.core_state.specs.declared.seat.Seat.{Seat}
use Rattle.command_set.specs.declared.Reply.TheVariants as replies
use Rattle.command_set.specs.declared.state.Session.TheVariants as plain
use Rattle.core_state.specs.declared.advance.Advance.TheVariants as advances
use Rattle.core_state.specs.declared.seat.Job.TheVariants as jobs
use Rattle.core_looks.proofs.Replies.{has_open}
use Rattle.core_looks.proofs.Used.{session_used, stands_used, used_by, used_is}
use Rattle.core_looks.proofs.Uses.{sound_used}
use Rattle.core_writes.proofs.Given.{given_next, seat_given}
use Rattle.core_writes.proofs.Granted.{write_used}
use Rattle.core_writes.proofs.Jobs.{storages_at}
use Rattle.core_writes.proofs.Moment.{begun_claimed, begun_on, begun_with, begun_without}
use Rattle.core_writes.proofs.Stands.{IsChangeOf, stands_claimed, stands_given}
use Rattle.core_writes.proofs.Views.{seat_given_is}

-- ---- from the core in which the table is used

-- with whatever xid the change is the same
abbrev pub ChangeComes : CoreState → ℕ → ℕ → List ℤ → Option OldRow → Option Stored → Change → Type 0
ChangeComes c s t keys old new change = (x : ℕ) → IsChangeOf c.tables t keys (new_write t s x old new (plan_of (storages_at c t) new)) change

pub stands_begun : (c : CoreState) (s t : ℕ) (keys : List ℤ) (old : Option OldRow) (new : Option Stored) (m : Plain) (told : List (Option Reply)) (tr : Transaction) (change : Change) → IsSession c.seats s → IsSound c
    → is_past_moment (seat_of c s).job ≡ false → ChangeComes c s t keys old new change → slice_get m.sessions (s - 1) ≡ Some (plain.Open tr) → s - 1 < length told → Stands c m told
    → Stands (begun_on c s t keys (write_begun c s t old new)) (with_session m s (plain.Open (with_change tr change))) (slice_set told (s - 1) (Some replies.Okay))
stands_begun c s t keys old new m told tr change there sound before comes opened counted stands = by (xid_of (seat_of c s).state) refl
  where
    after : Plain
    after = with_session m s (plain.Open (with_change tr change))

    later : List (Option Reply)
    later = slice_set told (s - 1) (Some replies.Okay)

    by : (o : Option ℕ) → xid_of (seat_of c s).state ≡ o → Stands (begun_on c s t keys (write_begun c s t old new)) after later
    by (Some x) mine =
        let its : write_begun c s t old new ≡ new_write t s x old new (plan_of (storages_at c t) new) = ap (λ (o : Option ℕ). new_write t s (unwrap_or o (next_xid c.xacts)) old new (plan_of (storages_at c t) new)) mine in
        let begun = stands_claimed c s t keys (new_write t s x old new (plan_of (storages_at c t) new)) m told tr change there before (comes x) opened counted stands in
        subst (λ (core : CoreState). Stands core after later) (sym (begun_with c s t x keys (write_begun c s t old new) mine ∙ ap (begun_claimed c s t keys) its)) begun
    by None none =
        let its : write_begun c s t old new ≡ new_write t s (next_xid c.xacts) old new (plan_of (storages_at c t) new) = ap (λ (o : Option ℕ). new_write t s (unwrap_or o (next_xid c.xacts)) old new (plan_of (storages_at c t) new)) none in
        let given_there : IsSession (given_next c s).seats s = session_written c.seats s s (seat_given c s) there in
        let begun = stands_claimed (given_next c s) s t keys (new_write t s (next_xid c.xacts) old new (plan_of (storages_at c t) new)) m told tr change given_there (ap (λ (x : Seat). is_past_moment x.job) (seat_given_is c s there) ∙ before) (comes (next_xid c.xacts)) opened counted (stands_given c s m told there sound none stands) in
        subst (λ (core : CoreState). Stands core after later) (sym (begun_without c s t keys (write_begun c s t old new) there none ∙ ap (begun_claimed (given_next c s) s t keys) its)) begun

-- ---- the moment

-- the state after it
abbrev pub changed_to : Plain → ℕ → ℕ → Transaction → Change → Plain
changed_to m s t tr change = with_session m s (plain.Open (with_change (with_use m tr t) change))

-- what the plain store answers
abbrev pub Answers : CoreState → ℕ → ℕ → Command → Change → Type 0
Answers c s t command change = (m : Plain) (told : List (Option Reply)) (tr : Transaction) → Stands c m told → session_of m s ≡ plain.Open tr → answer (schemas_of c.tables) m s command ≡ answered replies.Okay (changed_to m s t tr change)

pub job_begun : (c : CoreState) (s t : ℕ) (keys : List ℤ) (write : Writing) → IsSession (after_use c s t).seats s → (seat_of (after_write_begun c s t keys write) s).job ≡ jobs.Writing t write
job_begun c s t keys write there =
    let used = after_use c s t in
    let seat : Seat = record (seat_of used s) { state = with_xid (seat_of used s).state (unwrap_or (xid_of (seat_of used s).state) (next_xid used.xacts)); job = jobs.Writing t write } in
    ap (λ (x : Seat). x.job) (seat_written used.seats s seat there)

-- the tables then are as they were
tables_begun : (c : CoreState) (s t : ℕ) → (after_use c s t).tables ≡ c.tables
tables_begun c s t = by (takes_copy (seat_of c s).state)
  where
    by : (b : Bool) → (used_by b c s t).tables ≡ c.tables
    by true = refl
    by false = refl

pub runs_write : (c : CoreState) (s t : ℕ) (keys : List ℤ) (old : Option OldRow) (new : Option Stored) (command : Command) (change : Change) → IsSession c.seats s → IsSound c → is_open (seat_of c s).state ≡ true
    → (seat_of c s).job ≡ jobs.Submitted command → is_data command ≡ true → ChangeComes c s t keys old new change → Answers c s t command change
    → Runs c s command (after_write_begun c s t keys (write_begun c s t old new)) advances.More
runs_write c s t keys old new command change there sound opened job data_is comes answers m told counted stands =
    let before : is_past_moment (seat_of c s).job ≡ false = ap is_past_moment job in
    let its = its_session c s m told there stands in
    let has = has_open c m told s there stands opened in
    let tr = has.transaction in
    let is : session_of m s ≡ plain.Open tr = has.is in
    let used = used_is c s t there opened in
    let in_use = with_session m s (plain.Open (with_use m tr t)) in
    let stands_in_use : Stands (after_use c s t) in_use told = stands_used c m told s t tr there before sound stands is in
    let its_place : slice_get in_use.sessions (s - 1) ≡ Some (plain.Open (with_use m tr t)) = (sessions_set m s its.session (plain.Open (with_use m tr t)) its.at).own in
    let comes_in_use : ChangeComes (after_use c s t) s t keys old new change = subst (λ (tables : List Table). (x : ℕ) → IsChangeOf tables t keys (new_write t s x old new (plan_of (table_at tables t).rows.schema.storages new)) change) (sym (tables_begun c s t)) comes in
    let begun = stands_begun (after_use c s t) s t keys old new in_use told (with_use m tr t) change (session_used c s t there) (sound_used c s t there opened before sound) (ap is_past_moment used.job ∙ before) comes_in_use its_place counted stands_in_use in
    let write = write_begun c s t old new in
    let later = slice_set told (s - 1) (Some replies.Okay) in
    let of_write : Stands (after_write_begun c s t keys write) (with_session in_use s (plain.Open (with_change (with_use m tr t) change))) later =
    subst (λ (w : Writing). Stands (after_write_begun c s t keys w) (with_session in_use s (plain.Open (with_change (with_use m tr t) change))) later) (write_used c s t old new there opened) begun in
    let of_state : Stands (after_write_begun c s t keys write) (changed_to m s t tr change) later =
    subst (λ (sessions : List Session). let after : Plain = record m { sessions = sessions } in Stands (after_write_begun c s t keys write) after later) (set_twice m.sessions (s - 1) (plain.Open (with_use m tr t)) (plain.Open (with_change (with_use m tr t) change))) of_write in
    let says : Says command (seat_of (after_write_begun c s t keys write) s).job advances.More replies.Okay = (data_is, refl, ap is_past_moment (job_begun c s t keys write (session_used c s t there))) in
    subst (λ (a : Answered). Stands (after_write_begun c s t keys write) a.after (slice_set told (s - 1) (Some a.reply)) × Says command (seat_of (after_write_begun c s t keys write) s).job advances.More a.reply) (sym (answers m told tr stands is)) (of_state, says)

-- ---- what is left

pub falls_write : (c : CoreState) (s t : ℕ) (keys : List ℤ) (old : Option OldRow) (new : Option Stored) (command : Command) → IsSession c.seats s → (seat_of c s).job ≡ jobs.Submitted command → begun c s command ≡ job_writing c s t old new
    → left (after_write_begun c s t keys (write_begun c s t old new)) s < left c s
falls_write c s t keys old new command there job is =
    let write = write_begun c s t old new in
    let after = after_write_begun c s t keys write in
    let later : left after s ≡ job_left c.tables (jobs.Writing t write) = ap (left_by after s) (job_begun c s t keys write (session_used c s t there)) ∙ ap (λ (tables : List Table). job_left tables (jobs.Writing t write)) (tables_begun c s t) in
    let first : left c s ≡ suc (job_left c.tables (jobs.Writing t write)) = ap (left_by c s) job ∙ ap (λ (j : Job). suc (job_left c.tables j)) is in
    omega (arith, later, first)
