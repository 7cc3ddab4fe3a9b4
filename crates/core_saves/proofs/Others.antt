-- The id that a step works under is none that another session's write relies on.
use Rattle.std.proofs.Common.{Contains, List, None, Some, ap, drop, inl, inr, refl, subst, suc, sym, take, ℕ, ◌+◌, ◌∙◌, ◌∷◌, ◌≡◌, ◌≢◌}
use Rattle.std.proofs.lemmas.List.{drop_more}
use Rattle.std.proofs.lemmas.Option.{get_or_from_slice_get, slice_get_within}
use Rattle.std.specs.Option.{option_map}
use Rattle.std.specs.Prelude.{Option, is_some, option_to_list, slice_get}
use Rattle.list_facts.proofs.Members.{first_in, none_in_nil}
use Rattle.external_pointer.specs.declared.external.Pointer.{Pointer}
use Rattle.change_log.specs.Logs.{LogState}
use Rattle.xact_status.specs.Xacts.{Xacts, session_at}
use Rattle.value_ids.specs.Ids.{Pool}
use Rattle.value_ids.specs.declared.pool.InHand.{InHand}
use Rattle.lock_table.specs.Locks.{held_by}
use Rattle.lock_table.specs.declared.held.SessionLocks.{SessionLocks}
use Rattle.snapshot_registry.specs.Snapshots.{Snaps}
use Rattle.row_versions.specs.Relations.{Relation}
use Rattle.toast_store.specs.Saves.{Drawing, Laying, Stage, id_of}
use Rattle.toast_store.specs.Stores.{Store}
use Rattle.write_steps.specs.Standing.{IsWriteStage}
use Rattle.write_steps.specs.Writes.{Writing, parts_of}
use Rattle.write_steps.specs.declared.stage.Owner.{Owner}
use Rattle.write_steps.specs.declared.stage.WriteStage.{WriteStage}
use Rattle.table_state.specs.Events.{IsUnheld}
use Rattle.table_state.specs.declared.table.Table.{Table}
use Rattle.core_state.proofs.Lists.{in_append, only_one}
use Rattle.core_state.specs.Coming.{ids_drawn}
use Rattle.core_state.specs.Facts.{AreInHand, IsDropping, IsSound, JobIsSound, WriteIsSound}
use Rattle.core_state.specs.State.{CoreState, table_at}
use Rattle.core_state.specs.declared.seat.Job.{Job}
use Rattle.core_state.specs.declared.seat.Seat.{Seat}
use Rattle.core_state.specs.declared.seat.State.{State}
use Rattle.core_saves.proofs.Apart.{dropped_apart, dropped_once}
use Rattle.core_saves.proofs.Columns.{drawn_held, from_list, from_take}
use Rattle.core_saves.proofs.Frame.{AreApartIn, IsApart, id_marked}
use Rattle.core_saves.proofs.Saved.{ids_saved, write_at}
use Rattle.core_state.specs.declared.seat.Job.TheVariants as jobs
use Rattle.toast_store.specs.Saves as saves
use Rattle.write_steps.specs.Standing as write_standing
use Rattle.write_steps.specs.declared.stage.WriteStage.TheVariants as stages

-- an id in hand for a session and a table
abbrev pub in_hand_for : ℕ → ℕ → ℕ → InHand
in_hand_for t s id = record { table = t; session = s; id = id }

-- each id that a write has drawn is in hand for it
pub drawn_in_hand : (rows : Relation) (toast : Store) (ids : Pool) (log : LogState) (owner : Owner) (stage : WriteStage) (id : ℕ) → IsWriteStage owner stage → write_standing.StandsAt (parts_of rows toast ids log) owner stage → Contains (ids_drawn stage) id
    → Contains ids.in_hand (in_hand_for owner.table owner.session id)
drawn_in_hand rows toast ids log owner (stages.Saving old new plan at save) id is stands e = elim (in_append (option_to_list (id_of save.stage)) (ids_saved new plan at) id e) [
  | inl drawing ↦
      let here = by_stage save.stage stands.stands drawing in
      subst (λ (n : ℕ). Contains ids.in_hand (in_hand_for n owner.session id)) is.own.table (subst (λ (n : ℕ). Contains ids.in_hand (in_hand_for save.table n id)) is.own.session here)
  | inr saved ↦
      let found = drawn_held new.cells (take at plan) id saved in
      let place = from_take plan at found.column found.among in
      let was = stands.saved.saved place.0 found.pointer place.1 (record { column = found.column; planned = place.2; cell = found.cell }) in
      subst (λ (n : ℕ). Contains ids.in_hand (in_hand_for owner.table owner.session n)) found.is was.1.in_hand
]
  where
    by_stage : (stage : Stage) → saves.StandsAt toast ids save stage → Contains (option_to_list (id_of stage)) id → Contains ids.in_hand (in_hand_for save.table save.session id)
    by_stage Drawing its f = absurd (none_in_nil id f)
    by_stage (Laying value_id pieces_at) its f = subst (λ (n : ℕ). Contains ids.in_hand (in_hand_for save.table save.session n)) (only_one value_id id f) its.in_hand
drawn_in_hand rows toast ids log owner (stages.Put old new plan) id is stands e =
    let found = drawn_held new.cells plan id e in
    let place = from_list plan found.column found.among in
    let was = stands.saved.saved place.0 found.pointer place.1 (record { column = found.column; planned = place.2; cell = found.cell }) in
    subst (λ (n : ℕ). Contains ids.in_hand (in_hand_for owner.table owner.session n)) found.is was.1.in_hand
drawn_in_hand rows toast ids log owner (stages.Remove old) id is stands e = absurd (none_in_nil id e)
drawn_in_hand rows toast ids log owner (stages.Marking dropped at mark) id is stands e = absurd (none_in_nil id e)
drawn_in_hand rows toast ids log owner stages.Over id is stands e = absurd (none_in_nil id e)

-- the pointer that a write is marking, and that it is dropped
pub record MarksOne (xacts : Xacts) (snaps : Snaps) (table : Table) (xid value_id : ℕ) : Type 0 where
  pub pointer : Pointer
  pub is : pointer.value_id ≡ value_id
  pub dropping : IsDropping xacts snaps table xid pointer

pub marks_one : (xacts : Xacts) (snaps : Snaps) (ids : Pool) (held : SessionLocks) (table : Table) (s t : ℕ) (state : State) (owner : Owner) (stage : WriteStage) (value_id : ℕ) → id_marked stage ≡ Some value_id
    → WriteIsSound xacts snaps ids held table s t state (write_at owner stage) → MarksOne xacts snaps table owner.xid value_id
marks_one xacts snaps ids held table s t state owner (stages.Saving old new plan at save) value_id e sound = absurd (cc)
marks_one xacts snaps ids held table s t state owner (stages.Put old new plan) value_id e sound = absurd (cc)
marks_one xacts snaps ids held table s t state owner (stages.Remove old) value_id e sound = absurd (cc)
marks_one xacts snaps ids held table s t state owner stages.Over value_id e sound = absurd (cc)
marks_one xacts snaps ids held table s t state owner (stages.Marking dropped at mark) value_id e sound = by (slice_get dropped at) refl (sound.own.mark.1 ∙ e)
  where
    by : (o : Option Pointer) → slice_get dropped at ≡ o → option_map (λ (pointer : Pointer). pointer.value_id) o ≡ Some value_id → MarksOne xacts snaps table owner.xid value_id
    by None here f = absurd (cc)
    by (Some pointer) here f =
        let same : pointer.value_id ≡ value_id = cc in
        record {
          pointer = pointer;
          is = same;
          dropping = sound.dropping pointer (subst (λ (ps : List Pointer). Contains ps pointer) (sym (drop_more dropped at pointer (slice_get_within dropped at pointer here) ∙ ap (λ (p : Pointer). p ∷ drop (at + 1) dropped) (get_or_from_slice_get dropped at pointer pointer here))) (first_in pointer (drop (at + 1) dropped) pointer refl));
        }

-- ---- a write of another session in the same table

pub record OtherWrite (c : CoreState) (s t other : ℕ) (owner : Owner) (stage : WriteStage) : Type 0 where
  pub differ : other ≢ s
  pub state : State
  pub sound : WriteIsSound c.xacts c.snaps c.ids (held_by c.locks other) (table_at c.tables t) other t state (write_at owner stage)
  pub runs : session_at c.xacts owner.xid ≡ Some other

save_apart_from : (c : CoreState) (s t other id : ℕ) (owner : Owner) (stage : WriteStage) → AreInHand c.ids.in_hand → Contains c.ids.in_hand (in_hand_for t s id) → IsUnheld c.xacts c.snaps (table_at c.tables t) id → OtherWrite c s t other owner stage → IsApart (Some id) stage
save_apart_from c s t other id owner stage once mine unheld its = record {
  drawn = λ k e same.
      let is : id ≡ k = some_is id k same in
      let sound = its.sound in
      let theirs = drawn_in_hand (table_at c.tables t).rows (table_at c.tables t).toast c.ids c.log owner stage k sound.own.stage (sound.stands c.log) e in
      its.differ (sym sound.own.session ∙ sym (once.once (in_hand_for t s id) (in_hand_for owner.table owner.session k) mine theirs (sym sound.own.of_table) is));
  marked = λ k e same.
      let is : id ≡ k = some_is id k same in
      let one = marks_one c.xacts c.snaps c.ids (held_by c.locks other) (table_at c.tables t) other t its.state owner stage k e its.sound in
      dropped_apart c.xacts c.snaps (table_at c.tables t) owner.xid id one.pointer (ap is_some its.runs) one.dropping unheld (is ∙ sym one.is);
}
  where
    some_is : (a b : ℕ) → Some a ≡ Some b → a ≡ b
    some_is a b h = cc

mark_apart_from : (c : CoreState) (s t other value_id xid : ℕ) (owner : Owner) (stage : WriteStage) → session_at c.xacts xid ≡ Some s → MarksOne c.xacts c.snaps (table_at c.tables t) xid value_id → OtherWrite c s t other owner stage → IsApart (Some value_id) stage
mark_apart_from c s t other value_id xid owner stage runs mine its = record {
  drawn = λ k e same.
      let is : value_id ≡ k = some_is value_id k same in
      dropped_apart c.xacts c.snaps (table_at c.tables t) xid k mine.pointer (ap is_some runs) mine.dropping (its.sound.fresh.each k e) (sym is ∙ sym mine.is);
  marked = λ k e same.
      let is : value_id ≡ k = some_is value_id k same in
      let one = marks_one c.xacts c.snaps c.ids (held_by c.locks other) (table_at c.tables t) other t its.state owner stage k e its.sound in
      dropped_once c.xacts c.snaps (table_at c.tables t) xid owner.xid mine.pointer one.pointer (ap is_some runs) (ap is_some its.runs) (λ h. its.differ (some_is other s (sym its.runs ∙ ap (session_at c.xacts) (sym h) ∙ runs))) mine.dropping one.dropping
      (mine.is ∙ is ∙ sym one.is);
}
  where
    some_is : (a b : ℕ) → Some a ≡ Some b → a ≡ b
    some_is a b h = cc

-- the write that another session's job is
pub other_write : (c : CoreState) (s t i : ℕ) (other : Seat) (write : Writing) → suc i ≢ s → slice_get c.seats i ≡ Some other → other.job ≡ jobs.Writing t write → IsSound c → OtherWrite c s t (suc i) write.owner write.stage
other_write c s t i other write differ at is sound =
    let seat = sound.each i other at in
    let job = subst (λ (its : Job). JobIsSound c.xacts c.snaps c.ids (held_by c.locks (suc i)) c.tables (suc i) other its) is seat.job in
    record { differ = differ; state = other.state; sound = job.1; runs = seat.runs write.owner.xid job.1.own.xid }

pub saves_apart : (c : CoreState) (s t : ℕ) (own : Option ℕ) → ((id : ℕ) → own ≡ Some id → Contains c.ids.in_hand (in_hand_for t s id) × IsUnheld c.xacts c.snaps (table_at c.tables t) id) → IsSound c
    → (i : ℕ) (other : Seat) → suc i ≢ s → slice_get c.seats i ≡ Some other → AreApartIn own t other.job
saves_apart c s t None mine sound i other differ at = record { each = λ write e. record { drawn = λ k f same. none_is k same; marked = λ k f same. none_is k same } }
  where
    none_is : (k : ℕ) → None ≡ Some k → ⊥
    none_is k h = cc
saves_apart c s t (Some id) mine sound i other differ at = record {
  each = λ write e. save_apart_from c s t (suc i) id write.owner write.stage sound.hands (mine id refl).0 (mine id refl).1 (other_write c s t i other write differ at e sound);
}

pub marks_apart : (c : CoreState) (s t value_id xid : ℕ) → session_at c.xacts xid ≡ Some s → MarksOne c.xacts c.snaps (table_at c.tables t) xid value_id → IsSound c
    → (i : ℕ) (other : Seat) → suc i ≢ s → slice_get c.seats i ≡ Some other → AreApartIn (Some value_id) t other.job
marks_apart c s t value_id xid runs mine sound i other differ at = record {
  each = λ write e. mark_apart_from c s t (suc i) value_id xid write.owner write.stage runs mine (other_write c s t i other write differ at e sound);
}
