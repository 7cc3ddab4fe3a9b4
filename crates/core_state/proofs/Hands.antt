-- A session goes on as it was when the ids that others have in hand change.
use Rattle.std.proofs.Common.{arith, refl, subst, sym}
use Rattle.std.proofs.lemmas.Bool.Decides.{nat_tests}
use Rattle.std.specs.Prelude.{Contains, List, false, length, not, true, ℕ, ◌==◌, ◌≡◌, ◌≢◌}
use Rattle.list_facts.proofs.Members.{filter_holds, held_by_filter}
use Rattle.external_pointer.specs.declared.external.Pointer.{Pointer}
use Rattle.tuple_layout.specs.declared.cell.Stored.{Stored}
use Rattle.xact_status.specs.Xacts.{Xacts}
use Rattle.snapshot_registry.specs.Snapshots.{Snaps}
use Rattle.row_versions.specs.Relations.{Relation}
use Rattle.value_ids.specs.Ids.{Pool}
use Rattle.value_ids.specs.declared.pool.InHand.{InHand}
use Rattle.change_log.specs.Logs.{LogState}
use Rattle.lock_table.specs.declared.held.SessionLocks.{SessionLocks}
use Rattle.toast_store.specs.Saves.{Drawing, IsSaved, Laying, Saving, Stage, StandsAt, held_by}
use Rattle.toast_store.specs.Stores.{Store}
use Rattle.table_state.specs.declared.table.Table.{Table}
use Rattle.write_steps.specs.Standing.{AreSaved, IsWriteStage}
use Rattle.write_steps.specs.Writes.{new_save, parts_of}
use Rattle.write_steps.specs.declared.stage.Owner.{Owner}
use Rattle.write_steps.specs.declared.stage.WriteStage.{WriteStage}
use Rattle.core_state.specs.Facts.{JobIsSound, SeatIsSound}
use Rattle.core_state.specs.Lines.{ids_released}
use Rattle.core_state.specs.State.{table_at}
use Rattle.core_state.specs.declared.seat.Job.{Job}
use Rattle.core_state.specs.declared.seat.Seat.{Seat}
use Rattle.core_state.specs.declared.seat.Job.TheVariants as jobs
use Rattle.write_steps.specs.Standing as write_standing
use Rattle.write_steps.specs.declared.stage.WriteStage.TheVariants as stages

-- of a session's ids in hand none goes, and none comes
pub record SameHands (ids later : Pool) (s : ℕ) : Type 0 where
  pub kept : (one : InHand) → one.session ≡ s → Contains ids.in_hand one → Contains later.in_hand one
  pub back : (one : InHand) → one.session ≡ s → Contains later.in_hand one → Contains ids.in_hand one

save_hands : (store : Store) (ids later : Pool) (save : Saving) (stage : Stage) → SameHands ids later save.session → StandsAt store ids save stage → StandsAt store later save stage
save_hands store ids later save Drawing same old = tt
save_hands store ids later save (Laying value_id at) same old = record { in_hand = same.kept (held_by save value_id) refl old.in_hand; pieces = old.pieces }

saved_hands : (store : Store) (ids later : Pool) (save : Saving) (pointer : Pointer) → SameHands ids later save.session → IsSaved store ids save pointer → IsSaved store later save pointer
saved_hands store ids later save pointer same old = record { of_table = old.of_table; in_range = old.in_range; whole = old.whole; chunks = old.chunks; in_hand = same.kept (held_by save pointer.value_id) refl old.in_hand }

are_hands : (store : Store) (ids later : Pool) (owner : Owner) (new : Stored) (plan : List ℕ) (to : ℕ) → SameHands ids later owner.session → AreSaved store ids owner new plan to → AreSaved store later owner new plan to
are_hands store ids later owner new plan to same old = record {
  out = old.out;
  saved = λ at pointer e f. let before = old.saved at pointer e f in (before.0, saved_hands store ids later (new_save owner before.0) pointer same before.1);
  apart = old.apart;
}

stands_hands : (rows : Relation) (toast : Store) (ids later : Pool) (log : LogState) (owner : Owner) (stage : WriteStage) → IsWriteStage owner stage → SameHands ids later owner.session
    → write_standing.StandsAt (parts_of rows toast ids log) owner stage → write_standing.StandsAt (parts_of rows toast later log) owner stage
stands_hands rows toast ids later log owner (stages.Saving old new plan at save) its same stands = record {
  there = stands.there;
  free = stands.free;
  fits = stands.fits;
  saved = are_hands toast ids later owner new plan at same stands.saved;
  session = stands.session;
  stands = save_hands toast ids later save save.stage (subst (λ (n : ℕ). SameHands ids later n) (sym its.own.session) same) stands.stands;
  fresh = stands.fresh;
}
stands_hands rows toast ids later log owner (stages.Put old new plan) its same stands = record { there = stands.there; free = stands.free; fits = stands.fits; saved = are_hands toast ids later owner new plan (length plan) same stands.saved }
stands_hands rows toast ids later log owner (stages.Remove old) its same stands = record { there = stands.there; free = stands.free }
stands_hands rows toast ids later log owner (stages.Marking dropped at mark) its same stands = record { session = stands.session; can = stands.can; batch = stands.batch; marking = stands.marking }
stands_hands rows toast ids later log owner stages.Over its same stands = absurd stands

job_hands : (xacts : Xacts) (snaps : Snaps) (ids later : Pool) (held : SessionLocks) (tables : List Table) (s : ℕ) (seat : Seat) (job : Job) → SameHands ids later s → JobIsSound xacts snaps ids held tables s seat job → JobIsSound xacts snaps later held tables s seat job
job_hands xacts snaps ids later held tables s seat jobs.Idle same old = tt
job_hands xacts snaps ids later held tables s seat (jobs.Submitted command) same old = old
job_hands xacts snaps ids later held tables s seat (jobs.Reading t snapshot read) same old = old
job_hands xacts snaps ids later held tables s seat (jobs.Writing t write) same old =
    let before = old.1 in (
      old.0,
      record {
        own = before.own;
        stands = λ log. stands_hands (table_at tables t).rows (table_at tables t).toast ids later log write.owner write.stage before.own.stage (subst (λ (n : ℕ). SameHands ids later n) (sym before.own.session) same) (before.stands log);
        rows = before.rows;
        new = before.new;
        fresh = before.fresh;
        dropping = before.dropping;
      },
    )

-- what is true of a session is true where others' ids in hand change
pub seat_hands : (xacts : Xacts) (snaps : Snaps) (ids later : Pool) (held : SessionLocks) (tables : List Table) (s : ℕ) (seat : Seat) → SameHands ids later s → SeatIsSound xacts snaps ids held tables s seat → SeatIsSound xacts snaps later held tables s seat
seat_hands xacts snaps ids later held tables s seat same old = record {
  runs = old.runs;
  locks = old.locks;
  view = old.view;
  handles = old.handles;
  job = job_hands xacts snaps ids later held tables s seat seat.job same old.job;
  pins = old.pins;
  hands = record { each = λ one e f. old.hands.each one (same.back one f e) f };
}

-- a session gives up its ids: another's are the same
pub same_released : (ids : Pool) (s other : ℕ) → other ≢ s → SameHands ids (ids_released ids s) other
same_released ids s other differ = record {
  kept = λ one mine e. held_by_filter (λ (held : InHand). not (held.session == s)) ids.in_hand one e (passes one mine);
  back = λ one mine e. (filter_holds (λ (held : InHand). not (held.session == s)) ids.in_hand one e).0;
}
  where
    passes : (one : InHand) → one.session ≡ other → not (one.session == s) ≡ true
    passes one mine =
        let apart : (one.session == s) ≡ false = grind (arith, nat_tests, mine, differ) in
        rw apart refl
