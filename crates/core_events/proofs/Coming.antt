-- What an advance comes to, and that of a step past a moment.
use Rattle.std.proofs.Common.{ap, arith, inl, inr, refl, subst, sym, ◌∙◌}
use Rattle.std.specs.Prelude.{List, None, Option, Some, slice_get, ℕ, ◌+◌, ◌<◌, ◌≡◌, ◌≢◌, ◌≤◌, ◌⊎◌}
use Rattle.row_versions.specs.Relations.{Relation}
use Rattle.value_ids.specs.Ids.{Pool}
use Rattle.value_ids.specs.declared.fault.DrawFault.TheVariants.{NoValueId}
use Rattle.change_log.specs.Logs.{LogState}
use Rattle.lock_table.specs.Locks.{held_by}
use Rattle.tuple_layout.specs.declared.cell.Cell.TheVariants.{Out}
use Rattle.tuple_layout.specs.declared.cell.Stored.{Stored}
use Rattle.toast_store.specs.Saves.{Saving}
use Rattle.toast_store.specs.Stores.{IsStore, Store}
use Rattle.toast_store.specs.declared.save.SaveStep.{SaveStep}
use Rattle.read_steps.specs.Reads.{Reading}
use Rattle.read_steps.specs.declared.stage.ReadStep.{ReadStep}
use Rattle.write_steps.specs.Standing.{WriteStands}
use Rattle.write_steps.specs.Steps.{IsWriteCause}
use Rattle.write_steps.specs.Writes.{Parts, Writing, answer_at, column_at, save_after, save_told, saved_on, to_save, with_cell, write_after}
use Rattle.write_steps.specs.declared.stage.OldRow.{OldRow}
use Rattle.write_steps.specs.declared.stage.Owner.{Owner}
use Rattle.write_steps.specs.declared.stage.WriteStage.{WriteStage}
use Rattle.write_steps.specs.declared.stage.WriteStep.{WriteStep}
use Rattle.core_state.proofs.Proved.{ends_keep, ends_stand}
use Rattle.core_state.proofs.Seats.{sound_of}
use Rattle.core_state.specs.Coming.{write_left_at}
use Rattle.core_state.specs.Events.{IsDue, IsWriteDue, IsWriteOn, left, left_by, read_on_by, read_told, told_by_write, write_on_by, write_told}
use Rattle.core_state.specs.Facts.{IsSound, JobIsSound, PartsAreSound}
use Rattle.core_state.specs.Lines.{after_failing, parts_at}
use Rattle.core_state.specs.Moves.{Goes, MovedBy, Stays}
use Rattle.core_state.specs.State.{CoreState, IsSession, seat_of, table_at}
use Rattle.core_state.specs.declared.advance.Advance.{Advance}
use Rattle.core_state.specs.declared.seat.Job.{Job}
use Rattle.core_reads.proofs.Proved.{read_steps_keep}
use Rattle.core_saves.proofs.Proved.{marks_fall, marks_keep, marks_stay, saves_fall, saves_keep, saves_stay, steps_are_made}
use Rattle.core_saves.specs.Made.{IsWriteMade, parts_made}
use Rattle.core_versions.proofs.Proved.{versions_fall, versions_keep, versions_move}
use Rattle.core_versions.specs.Laws.{IsAtVersion}
use Rattle.core_parts.specs.Later.{HasRefused, HasStepped, given_back, lent_at}
use Rattle.core_parts.specs.Steps.{GoesOn, IsStepCause, Lent, ReadsOn, WritesOn, read_by, write_by}
use Rattle.command_set.specs.declared.Reply.TheVariants as replies
use Rattle.core_state.specs.declared.advance.Advance.TheVariants as advances
use Rattle.core_state.specs.declared.seat.Job.TheVariants as jobs
use Rattle.read_steps.specs.declared.stage.ReadStep.TheVariants as reads
use Rattle.toast_store.specs.declared.save.SaveStep.TheVariants as told
use Rattle.write_steps.specs.declared.stage.WriteStage.TheVariants as stages
use Rattle.write_steps.specs.declared.stage.WriteStep.TheVariants as writes

pub record Comes (job : Job) (c : CoreState) (s : ℕ) (new : CoreState) (advance : Advance) : Type 0 where
  pub sound : IsSound new
  pub due : IsDue job c s new advance
  pub moved : MovedBy job c s new advance
  pub falls : job ≢ jobs.Idle → left new s < left c s

-- ---- a step of a read

given_read : (c : CoreState) (s t : ℕ) (snapshot : Option ℕ) (read : Reading) (step : ReadStep) → given_back c s t (read_by (lent_at c s t) t snapshot read step) ≡ read_on_by c s t snapshot read step
given_read c s t snapshot read reads.More = refl
given_read c s t snapshot read (reads.Done reply) = refl

read_made : (c : CoreState) (s t : ℕ) (snapshot : Option ℕ) (read : Reading) (lent : Lent) (advance : Advance) → IsSession c.seats s → IsSound c → PartsAreSound c → (seat_of c s).job ≡ jobs.Reading t snapshot read
    → ReadsOn (lent_at c s t) t snapshot read lent advance → Comes (jobs.Reading t snapshot read) c s (given_back c s t lent) advance
read_made c s t snapshot read lent advance there sound parts job goes =
    subst (λ (v : CoreState). Comes (jobs.Reading t snapshot read) c s v advance) (sym is)
    (subst (λ (a : Advance). Comes (jobs.Reading t snapshot read) c s later a) (sym goes.told) (record {
      sound = read_steps_keep.sound c s t snapshot read there job goes.leaves parts sound;
      due = (refl, refl);
      moved = read_steps_keep.stays c s t snapshot read there job goes.leaves sound;
      falls = λ works. read_steps_keep.falls c s t snapshot read there job goes.stage goes.leaves sound;
    }))
  where
    later : CoreState
    later = read_on_by c s t snapshot read (read_told c t read)

    is : given_back c s t lent ≡ later
    is = ap (given_back c s t) goes.is ∙ given_read c s t snapshot read (read_told c t read)

pub read_comes : (c : CoreState) (s t : ℕ) (snapshot : Option ℕ) (read : Reading) (new : CoreState) (advance : Advance) → IsSession c.seats s → IsSound c → PartsAreSound c → (seat_of c s).job ≡ jobs.Reading t snapshot read
    → HasStepped c s t new advance ⊎ HasRefused c s t new advance → Comes (jobs.Reading t snapshot read) c s new advance
read_comes c s t snapshot read new advance there sound parts job made = elim made [
  | inl stepped ↦
      subst (λ (v : CoreState). Comes (jobs.Reading t snapshot read) c s v advance) (sym stepped.is)
      (read_made c s t snapshot read stepped.lent advance there sound parts job (subst (λ (j : Job). GoesOn (lent_at c s t) s j stepped.lent advance) job stepped.steps.goes))
  | inr refused ↦ absurd (never refused.in_use (subst (λ (j : Job). IsStepCause (lent_at c s t) j (NoValueId refused.in_use)) job refused.cause))
]
  where
    never : (n : ℕ) → IsStepCause (lent_at c s t) (jobs.Reading t snapshot read) (NoValueId n) → ⊥
    never n e = absurd (cc)

-- ---- a step of a write

-- what the core's line of a write's step comes to
record WriteMoves (c : CoreState) (s : ℕ) (new : CoreState) (step : WriteStep) : Type 0 where
  sound : IsSound new
  stays : Stays c s new (told_by_write step)
  falls : left new s < left c s

abbrev write_at : Owner → WriteStage → Writing
write_at owner stage = record { owner = owner; stage = stage }

-- after a step of a save a write always goes on
saving_goes_on : (owner : Owner) (old : Option OldRow) (new : Stored) (plan : List ℕ) (at : ℕ) (later : Saving) (step : SaveStep) → answer_at (saved_on owner old new plan at later step) ≡ writes.More
saving_goes_on owner old new plan at later told.More = refl
saving_goes_on owner old new plan at later (told.Done pointer) = by (with_cell new (column_at plan at) (Out pointer)) (slice_get plan (at + 1))
  where
    by : (row : Stored) (o : Option ℕ) → answer_at (to_save owner old row plan (at + 1) o) ≡ writes.More
    by row None = refl
    by row (Some column) = refl

not_over : (c : CoreState) (s t : ℕ) (write : Writing) → IsSession c.seats s → IsSound c → (seat_of c s).job ≡ jobs.Writing t write → WriteStands (parts_at c t) write
not_over c s t write there sound job = by (subst (λ (j : Job). JobIsSound c.xacts c.snaps c.ids (held_by c.locks s) c.tables s (seat_of c s) j) job (sound_of c s there sound).job)
  where
    by : JobIsSound c.xacts c.snaps c.ids (held_by c.locks s) c.tables s (seat_of c s) (jobs.Writing t write) → WriteStands (parts_at c t) write
    by its = its.1.stands c.log

write_moves : (c : CoreState) (s t : ℕ) (write : Writing) (toast : Store) → IsWriteMade c s t write toast → WriteMoves c s (write_on_by c s t write toast (write_told c t write)) (write_told c t write)
write_moves c s t write toast made = by write.owner write.stage made
  where
    by_told : (w : Writing) (step : WriteStep) → write_told c t w ≡ step → WriteMoves c s (write_on_by c s t w toast step) step → WriteMoves c s (write_on_by c s t w toast (write_told c t w)) (write_told c t w)
    by_told w step e moves = subst (λ (x : WriteStep). WriteMoves c s (write_on_by c s t w toast x) x) (sym e) moves

    by : (owner : Owner) (stage : WriteStage) → IsWriteMade c s t (write_at owner stage) toast → WriteMoves c s (write_on_by c s t (write_at owner stage) toast (write_told c t (write_at owner stage))) (write_told c t (write_at owner stage))
    by owner (stages.Saving old new plan at save) made =
        let w = write_at owner (stages.Saving old new plan at save) in
        by_told w writes.More (saving_goes_on owner old new plan at (save_after (parts_at c t) save) (save_told (parts_at c t) save)) (record {
          sound = saves_keep.saved c s t w toast tt made;
          stays = saves_stay.saved c s t w toast tt made;
          falls = saves_fall.saved c s t w toast tt made;
        })
    by owner (stages.Put old new plan) made =
        let w = write_at owner (stages.Put old new plan) in
        let at : IsAtVersion c s t w toast = record { session = made.session; job = made.job; left = made.steps.toast } in
        record {
          sound = versions_keep.put c s t w toast old new plan at refl made.parts made.sound;
          stays = versions_move.put c s t w toast old new plan at refl made.parts made.sound;
          falls = versions_fall.put c s t w toast old new plan at refl made.sound;
        }
    by owner (stages.Remove old) made =
        let w = write_at owner (stages.Remove old) in
        let at : IsAtVersion c s t w toast = record { session = made.session; job = made.job; left = made.steps.toast } in
        record {
          sound = versions_keep.removed c s t w toast old at refl made.parts made.sound;
          stays = versions_move.removed c s t w toast old at refl made.parts made.sound;
          falls = versions_fall.removed c s t w toast old at refl made.sound;
        }
    by owner (stages.Marking dropped at mark) made = by_step (write_told c t w) refl
      where
        w : Writing
        w = write_at owner (stages.Marking dropped at mark)

        by_step : (step : WriteStep) → write_told c t w ≡ step → WriteMoves c s (write_on_by c s t w toast (write_told c t w)) (write_told c t w)
        by_step writes.More e = by_told w writes.More e (record {
          sound = marks_keep.goes c s t w toast tt e made;
          stays = marks_stay.goes c s t w toast tt e made;
          falls = marks_fall.goes c s t w toast tt e made;
        })
        by_step writes.Done e = by_told w writes.Done e (record {
          sound = marks_keep.last c s t w toast tt e made;
          stays = marks_stay.last c s t w toast tt e made;
          falls = marks_fall.last c s t w toast tt e made;
        })
    by owner stages.Over made = absurd (not_over c s t (write_at owner stages.Over) made.session made.sound made.job)

as_due : (c : CoreState) (s t : ℕ) (write : Writing) (new : CoreState) (step : WriteStep) → IsWriteOn c s t write new (told_by_write step) → IsWriteDue c s t write new (told_by_write step)
as_due c s t write new writes.More on = on
as_due c s t write new writes.Done on = on

as_goes : (c : CoreState) (s : ℕ) (new : CoreState) (step : WriteStep) → Stays c s new (told_by_write step) → Goes c s new (told_by_write step)
as_goes c s new writes.More stays = stays
as_goes c s new writes.Done stays = stays

given_write : (c : CoreState) (s t : ℕ) (write : Writing) (toast : Store) (step : WriteStep) → given_back c s t (write_by (lent_at c s t) s t (write_after (parts_at c t) write) (parts_made c t write toast) step) ≡ write_on_by c s t write toast step
given_write c s t write toast writes.More = refl
given_write c s t write toast writes.Done = refl

toast_given : (old : Lent) (s t : ℕ) (write : Writing) (parts : Parts) (step : WriteStep) → (write_by old s t write parts step).table.toast ≡ parts.toast
toast_given old s t write parts writes.More = refl
toast_given old s t write parts writes.Done = refl

write_made : (c : CoreState) (s t : ℕ) (write : Writing) (lent : Lent) (advance : Advance) → IsSession c.seats s → IsSound c → PartsAreSound c → (seat_of c s).job ≡ jobs.Writing t write
    → WritesOn (lent_at c s t) s t write lent advance → IsStore lent.table.toast → Comes (jobs.Writing t write) c s (given_back c s t lent) advance
write_made c s t write lent advance there sound parts job goes store =
    subst (λ (v : CoreState). Comes (jobs.Writing t write) c s v advance) (sym is) (subst (λ (a : Advance). Comes (jobs.Writing t write) c s later a) (sym told_is) (record {
      sound = moves.sound;
      due = as_due c s t write later (write_told c t write) (record { toast = goes.parts.toast; left = made.steps.toast; is = refl; told = refl; drawn = made.steps.drawn });
      moved = as_goes c s later (write_told c t write) moves.stays;
      falls = λ works. moves.falls;
    }))
  where
    step_is : goes.step ≡ write_told c t write
    step_is = goes.steps.answer ∙ ap (λ (w : Writing). answer_at w.stage) goes.steps.write

    told_is : advance ≡ told_by_write (write_told c t write)
    told_is = goes.told ∙ ap told_by_write step_is

    parts_are : goes.parts ≡ parts_made c t write goes.parts.toast
    parts_are =
        ap (λ (rows : Relation). record goes.parts { rows = rows }) goes.steps.rows
        ∙ ap (λ (ids : Pool). record (parts_made c t write goes.parts.toast) { ids = ids; log = goes.parts.log }) goes.steps.ids
        ∙ ap (λ (log : LogState). record (parts_made c t write goes.parts.toast) { log = log }) goes.steps.log

    later : CoreState
    later = write_on_by c s t write goes.parts.toast (write_told c t write)

    is : given_back c s t lent ≡ later
    is =
        ap (given_back c s t) goes.is
        ∙ ap (λ (p : Parts). given_back c s t (write_by (lent_at c s t) s t goes.after p goes.step)) parts_are
        ∙ ap (λ (w : Writing). given_back c s t (write_by (lent_at c s t) s t w (parts_made c t write goes.parts.toast) goes.step)) goes.steps.write
        ∙ ap (λ (step : WriteStep). given_back c s t (write_by (lent_at c s t) s t (write_after (parts_at c t) write) (parts_made c t write goes.parts.toast) step)) step_is
        ∙ given_write c s t write goes.parts.toast (write_told c t write)

    made : IsWriteMade c s t write goes.parts.toast
    made = record {
      session = there;
      sound = sound;
      parts = parts;
      job = job;
      steps = steps_are_made.made c t write goes.parts goes.after goes.step goes.steps;
      store = subst IsStore (ap (λ (x : Lent). x.table.toast) goes.is ∙ toast_given (lent_at c s t) s t goes.after goes.parts goes.step) store;
    }

    moves : WriteMoves c s (write_on_by c s t write goes.parts.toast (write_told c t write)) (write_told c t write)
    moves = write_moves c s t write goes.parts.toast made

-- a draw that is refused
refused_left : (c : CoreState) (s t : ℕ) (write : Writing) (n : ℕ) → (seat_of c s).job ≡ jobs.Writing t write → IsWriteCause (parts_at c t) write.stage (NoValueId n) → 1 ≤ left c s
refused_left c s t write n job cause =
    let was : left c s ≡ write_left_at (table_at c.tables t).toast.index.entries write.owner write.stage = ap (left_by c s) job in
    let some = by write.owner write.stage cause in
    omega (arith, was, some)
  where
    by : (owner : Owner) (stage : WriteStage) → IsWriteCause (parts_at c t) stage (NoValueId n) → 1 ≤ write_left_at (table_at c.tables t).toast.index.entries owner stage
    by owner (stages.Saving old new plan at save) cause = omega arith
    by owner (stages.Put old new plan) cause = absurd (cc)
    by owner (stages.Remove old) cause = absurd (cc)
    by owner (stages.Marking dropped at mark) cause = absurd (cc)
    by owner stages.Over cause = absurd cause

write_refused : (c : CoreState) (s t : ℕ) (write : Writing) (n : ℕ) → IsSession c.seats s → IsSound c → (seat_of c s).job ≡ jobs.Writing t write → IsWriteCause (parts_at c t) write.stage (NoValueId n)
    → Comes (jobs.Writing t write) c s (after_failing c s) (advances.Done replies.NoValueId)
write_refused c s t write n there sound job cause =
    let fell = ends_stand.failed c s there sound in
    record {
      sound = ends_keep.failed c s there sound;
      due = record { in_use = n; cause = cause; is = refl };
      moved = fell;
      falls = λ works.
          let none : left (after_failing c s) s ≡ 0 = ap (left_by (after_failing c s) s) fell.over in
          let some = refused_left c s t write n job cause in
          omega (arith, none, some);
    }

pub write_comes : (c : CoreState) (s t : ℕ) (write : Writing) (new : CoreState) (advance : Advance) → IsSession c.seats s → IsSound c → PartsAreSound c → (seat_of c s).job ≡ jobs.Writing t write
    → HasStepped c s t new advance ⊎ HasRefused c s t new advance → Comes (jobs.Writing t write) c s new advance
write_comes c s t write new advance there sound parts job made = elim made [
  | inl stepped ↦
      subst (λ (v : CoreState). Comes (jobs.Writing t write) c s v advance) (sym stepped.is)
      (write_made c s t write stepped.lent advance there sound parts job (subst (λ (j : Job). GoesOn (lent_at c s t) s j stepped.lent advance) job stepped.steps.goes) stepped.steps.made.toast)
  | inr refused ↦
      subst (λ (v : CoreState). Comes (jobs.Writing t write) c s v advance) (sym refused.is)
      (subst (λ (a : Advance). Comes (jobs.Writing t write) c s (after_failing c s) a) (sym refused.told)
      (write_refused c s t write refused.in_use there sound job (subst (λ (j : Job). IsStepCause (lent_at c s t) j (NoValueId refused.in_use)) job refused.cause)))
]
