-- What an advance leaves of the other sessions and of the tables' schemas.
use Rattle.std.proofs.Common.{ap, arith, cond, inl, inr, refl, subst, sym, ◌∙◌}
use Rattle.std.proofs.lemmas.List.{length-set}
use Rattle.std.specs.Prelude.{Bool, List, None, Option, Some, [], false, length, slice_get, slice_index_or, slice_set, suc, true, zero, ℕ, ◌-◌, ◌∷◌, ◌≡◌, ◌≤◌}
use Rattle.list_facts.proofs.Changed.{get_set_other}
use Rattle.tuple_layout.specs.Schemas.{TableSchema}
use Rattle.row_versions.specs.Relations.{Relation}
use Rattle.snapshot_registry.specs.Snapshots.{after_take, least_free}
use Rattle.table_state.specs.declared.table.Table.{Table}
use Rattle.read_steps.specs.Reads.{Reading, answer_of}
use Rattle.read_steps.specs.declared.stage.ReadStep.{ReadStep}
use Rattle.write_steps.specs.Writes.{Parts, Writing, rows_at}
use Rattle.write_steps.specs.declared.stage.Owner.{Owner}
use Rattle.write_steps.specs.declared.stage.WriteStage.{WriteStage}
use Rattle.write_steps.specs.declared.stage.WriteStep.{WriteStep}
use Rattle.core_state.proofs.Ended.{job_there, once_unpins}
use Rattle.core_state.specs.Events.{MomentLine, at_moment, line_due}
use Rattle.core_state.specs.Facts.{IsSound}
use Rattle.core_state.specs.Lines.{after_failing, after_use, failed_state, seated, takes_copy, with_snapshot, with_table}
use Rattle.core_state.specs.Moves.{OthersStay}
use Rattle.core_state.specs.State.{CoreState, IsSession, is_repeatable, job_table, no_table, schemas_of, seat_of, table_at}
use Rattle.core_state.specs.declared.advance.Advance.{Advance}
use Rattle.core_state.specs.declared.seat.Job.{Job}
use Rattle.core_state.specs.declared.seat.Seat.{Seat}
use Rattle.core_looks.specs.Due.{reply_due}
use Rattle.core_events.specs.Advanced.{IsAdvanced, IsAdvancedBy}
use Rattle.core_parts.specs.Later.{IsStepMade, StepsBy, given_back, lent_at}
use Rattle.core_parts.specs.Steps.{GoesOn, Lent, read_by, write_by}
use Rattle.core_parts.specs.Takes.{locked}
use Rattle.core_state.specs.Events as lines
use Rattle.core_state.specs.declared.seat.Job.TheVariants as jobs
use Rattle.core_state.specs.declared.seat.State.TheVariants as states
use Rattle.read_steps.specs.declared.stage.ReadStep.TheVariants as reads
use Rattle.write_steps.specs.declared.stage.WriteStage.TheVariants as stages
use Rattle.write_steps.specs.declared.stage.WriteStep.TheVariants as writes

-- ---- one change after another

pub others_through : (c v w : CoreState) (s : ℕ) → OthersStay c s v → OthersStay v s w → OthersStay c s w
others_through c v w s first second = record {
  schemas = second.schemas ∙ first.schemas;
  count = second.count ∙ first.count;
  each = λ i differ. second.each i differ ∙ first.each i differ;
}

others_same : (c v : CoreState) (s : ℕ) → v ≡ c → OthersStay c s v
others_same c v s is = record {
  schemas = ap (λ (x : CoreState). schemas_of x.tables) is;
  count = ap (λ (x : CoreState). length x.seats) is;
  each = λ i differ. ap (λ (x : CoreState). slice_get x.seats i) is;
}

-- the seat of the session alone is written
others_seated : (c v : CoreState) (s : ℕ) (x : Seat) → schemas_of v.tables ≡ schemas_of c.tables → v.seats ≡ slice_set c.seats (s - 1) x → OthersStay c s v
others_seated c v s x schemas is = record {
  schemas = schemas;
  count = ap (λ (seats : List Seat). length seats) is ∙ length-set c.seats (s - 1) x;
  each = λ i differ. ap (λ (seats : List Seat). slice_get seats i) is ∙ get_set_other c.seats (s - 1) i x differ;
}

others_copied : (b : Bool) (c v : CoreState) (s : ℕ) (x : Seat) → v.tables ≡ c.tables → v.seats ≡ c.seats → OthersStay c s (cond b (seated (record v { snaps = after_take v.snaps v.xacts }) s x) v)
others_copied true c v s x tables seats = others_seated c (seated (record v { snaps = after_take v.snaps v.xacts }) s x) s x (ap schemas_of tables) (ap (λ (seats : List Seat). slice_set seats (s - 1) x) seats)
others_copied false c v s x tables seats = record {
  schemas = ap schemas_of tables;
  count = ap (λ (seats : List Seat). length seats) seats;
  each = λ i differ. ap (λ (seats : List Seat). slice_get seats i) seats;
}

pub others_use : (c : CoreState) (s t : ℕ) → OthersStay c s (after_use c s t)
others_use c s t = others_copied (takes_copy (seat_of c s).state) c (locked c s t) s (record (seat_of c s) { state = with_snapshot (seat_of c s).state (least_free c.snaps) }) refl refl

-- ---- moments

pub others_moment : (c : CoreState) (s : ℕ) (line : MomentLine) → IsSession c.seats s → IsSound c → OthersStay c s (at_moment line c s)
others_moment c s (lines.Over state) there sound = others_seated c (at_moment (lines.Over state) c s) s (record (seat_of c s) { state = state; job = jobs.Idle }) refl refl
others_moment c s (lines.Looked t) there sound =
    let u = after_use c s t in
    others_through c u (at_moment (lines.Looked t) c s) s (others_use c s t) (others_seated u (at_moment (lines.Looked t) c s) s (record (seat_of u s) { state = (seat_of u s).state; job = jobs.Idle }) refl refl)
others_moment c s lines.Committed there sound =
    others_seated c (at_moment lines.Committed c s) s (record { state = states.Outside; handles = []; job = jobs.Idle }) (once_unpins c.tables s (job_table (seat_of c s).job) (job_there c s there sound)).schemas refl
others_moment c s (lines.GivenUp state) there sound =
    others_seated c (at_moment (lines.GivenUp state) c s) s (record { state = state; handles = []; job = jobs.Idle }) (once_unpins c.tables s (job_table (seat_of c s).job) (job_there c s there sound)).schemas refl
others_moment c s (lines.ReadBegun t read) there sound =
    let u = after_use c s t in
    others_through c u (at_moment (lines.ReadBegun t read) c s) s (others_use c s t) (by u (is_repeatable (seat_of u s).state))
  where
    by : (u : CoreState) (b : Bool) → OthersStay u s (cond b (seated u s (record (seat_of u s) { job = jobs.Reading t None read })) (seated (record u { snaps = after_take u.snaps u.xacts }) s (record (seat_of u s) { job = jobs.Reading t (Some (least_free u.snaps)) read })))
    by u true = others_seated u _ s (record (seat_of u s) { job = jobs.Reading t None read }) refl refl
    by u false = others_seated u _ s (record (seat_of u s) { job = jobs.Reading t (Some (least_free u.snaps)) read }) refl refl
others_moment c s (lines.FetchBegun t read) there sound = others_seated c (at_moment (lines.FetchBegun t read) c s) s (record (seat_of c s) { job = jobs.Reading t None read }) refl refl
others_moment c s (lines.WriteBegun t keys write) there sound =
    let u = after_use c s t in
    others_through c u (at_moment (lines.WriteBegun t keys write) c s) s (others_use c s t) (others_seated u (at_moment (lines.WriteBegun t keys write) c s) s _ refl refl)
others_moment c s (lines.Opened t name held) there sound =
    let u = after_use c s t in
    others_through c u (at_moment (lines.Opened t name held) c s) s (others_use c s t) (others_seated u (at_moment (lines.Opened t name held) c s) s _ refl refl)
others_moment c s (lines.Closed handle) there sound = others_seated c (at_moment (lines.Closed handle) c s) s _ refl refl

pub others_failing : (c : CoreState) (s : ℕ) → IsSession c.seats s → IsSound c → OthersStay c s (after_failing c s)
others_failing c s there sound = others_seated c (after_failing c s) s (record { state = failed_state (seat_of c s).state; handles = []; job = jobs.Idle }) (once_unpins c.tables s (job_table (seat_of c s).job) (job_there c s there sound)).schemas refl

-- ---- later steps

schemas_at : (tables : List Table) (i : ℕ) (table : Table) → table.rows.schema ≡ (slice_index_or tables i no_table).rows.schema → schemas_of (slice_set tables i table) ≡ schemas_of tables
schemas_at [] i table same = refl
schemas_at (was ∷ tables) zero table same = ap (λ (schema : TableSchema). schema ∷ schemas_of tables) same
schemas_at (was ∷ tables) (suc i) table same = ap (λ (schemas : List TableSchema). was.rows.schema ∷ schemas) (schemas_at tables i table same)

schemas_with : (tables : List Table) (t : ℕ) (table : Table) → 1 ≤ t → table.rows.schema ≡ (table_at tables t).rows.schema → schemas_of (with_table tables t table) ≡ schemas_of tables
schemas_with tables zero table low same = absurd (omega (arith, low))
schemas_with tables (suc i) table low same =
    let place : suc i - 1 ≡ i = omega arith in
    rw place (schemas_at tables i table same)

others_given : (c : CoreState) (s t : ℕ) (lent : Lent) → 1 ≤ t → lent.table.rows.schema ≡ (table_at c.tables t).rows.schema → OthersStay c s (given_back c s t lent)
others_given c s t lent low same = others_seated c (given_back c s t lent) s lent.seat (schemas_with c.tables t lent.table low same) refl

read_schema : (old : Lent) (t : ℕ) (snapshot : Option ℕ) (read : Reading) (step : ReadStep) → (read_by old t snapshot read step).table.rows.schema ≡ old.table.rows.schema
read_schema old t snapshot read reads.More = refl
read_schema old t snapshot read (reads.Done reply) = refl

rows_schema : (rows : Relation) (owner : Owner) (stage : WriteStage) → (rows_at rows owner stage).schema ≡ rows.schema
rows_schema rows owner (stages.Saving old new plan at save) = refl
rows_schema rows owner (stages.Put None new plan) = refl
rows_schema rows owner (stages.Put (Some old) new plan) = refl
rows_schema rows owner (stages.Remove old) = refl
rows_schema rows owner (stages.Marking dropped at mark) = refl
rows_schema rows owner stages.Over = refl

write_rows : (old : Lent) (s t : ℕ) (write : Writing) (parts : Parts) (step : WriteStep) → (write_by old s t write parts step).table.rows ≡ parts.rows
write_rows old s t write parts writes.More = refl
write_rows old s t write parts writes.Done = refl

goes_schema : (old : Lent) (s : ℕ) (job : Job) (new : Lent) (advance : Advance) → GoesOn old s job new advance → new.table.rows.schema ≡ old.table.rows.schema
goes_schema old s jobs.Idle new advance goes = absurd goes
goes_schema old s (jobs.Submitted command) new advance goes = absurd goes
goes_schema old s (jobs.Reading t snapshot read) new advance goes =
    ap (λ (lent : Lent). lent.table.rows.schema) goes.is ∙ read_schema old t snapshot read (answer_of old.table.toast read)
goes_schema old s (jobs.Writing t write) new advance goes =
    ap (λ (lent : Lent). lent.table.rows.schema) goes.is
    ∙ ap (λ (rows : Relation). rows.schema) (write_rows old s t goes.after goes.parts goes.step)
    ∙ ap (λ (rows : Relation). rows.schema) goes.steps.rows
    ∙ rows_schema old.table.rows write.owner write.stage

-- ---- an advance

others_later : (c : CoreState) (s : ℕ) (o : Option ℕ) (new : CoreState) (advance : Advance) → job_table (seat_of c s).job ≡ o → IsSession c.seats s → IsSound c → StepsBy o c s new advance → OthersStay c s new
others_later c s None new advance e there sound made = others_same c new s made.0
others_later c s (Some t) new advance e there sound made = elim made [
  | inl stepped ↦
      let low = (job_there c s there sound t e).from_one in
      let same = goes_schema (lent_at c s t) s (seat_of c s).job stepped.lent advance stepped.steps.goes in
      subst (λ (v : CoreState). OthersStay c s v) (sym stepped.is) (others_given c s t stepped.lent low same)
  | inr refused ↦ subst (λ (v : CoreState). OthersStay c s v) (sym refused.is) (others_failing c s there sound)
]

pub advanced_others : (c : CoreState) (s : ℕ) (new : CoreState) (advance : Advance) → IsSession c.seats s → IsSound c → IsAdvanced c s new advance → OthersStay c s new
advanced_others c s new advance there sound made = by (seat_of c s).job made.by
  where
    later : IsStepMade c s new advance → OthersStay c s new
    later step = others_later c s (job_table (seat_of c s).job) new advance refl there sound step.by

    by : (job : Job) → IsAdvancedBy job c s new advance → OthersStay c s new
    by jobs.Idle step = later step
    by (jobs.Submitted command) at = subst (λ (v : CoreState). OthersStay c s v) (sym at.is) (others_moment c s (line_due c s command (reply_due c s command)) there sound)
    by (jobs.Reading t snapshot read) step = later step
    by (jobs.Writing t write) step = later step
