-- A version step puts the row that was to come, with its columns out of line, and leaves the rows of all other worlds.
use Rattle.std.proofs.Common.{ap, arith, inl, inr, refl, subst, sym, ◌∙◌}
use Rattle.std.proofs.lemmas.Bool.{cases_Bool}
use Rattle.std.specs.Ordering.{int_cmp, is_eq}
use Rattle.std.specs.Prelude.{Bool, List, None, Option, Some, [], false, if◌then◌else◌, slice_index_or, suc, true, ℕ, ℤ, ◌-◌, ◌||◌, ◌∷◌, ◌≡◌, ◌≢◌, ◌⊎◌}
use Rattle.list_facts.proofs.Changed.{after_set}
use Rattle.external_pointer.specs.declared.external.Pointer.{Pointer}
use Rattle.tuple_layout.proofs.PlaceLemmas.{same_place_is}
use Rattle.tuple_layout.specs.Places.{same_place}
use Rattle.tuple_layout.specs.Tuples.{tuple}
use Rattle.tuple_layout.specs.declared.Place.{Place}
use Rattle.tuple_layout.specs.declared.cell.Cell.TheVariants.{Null}
use Rattle.tuple_layout.specs.declared.cell.Cell.{Cell}
use Rattle.tuple_layout.specs.declared.cell.Stored.{Stored}
use Rattle.xact_status.specs.Versions.{counts_for}
use Rattle.xact_status.specs.Xacts.{is_committed, session_at}
use Rattle.row_versions.specs.Relations.{Pages}
use Rattle.row_versions.specs.declared.keys.KeyEntry.{KeyEntry}
use Rattle.value_ids.specs.Ids.{Pool}
use Rattle.change_log.specs.declared.entry.LogEntry.{LogEntry}
use Rattle.lock_table.specs.Locks.{held_by}
use Rattle.toast_store.specs.Marks.{new_mark}
use Rattle.toast_store.specs.Stores.{Store}
use Rattle.command_set.specs.Changes.{place}
use Rattle.table_rows.proofs.Worlds.{key_is, same_key}
use Rattle.table_rows.specs.Worlds.{Latest, Own, tuple_in}
use Rattle.table_state.specs.Cells.{cells_in}
use Rattle.table_state.specs.declared.table.Table.{Table}
use Rattle.write_steps.specs.Dropped.{dropped_of}
use Rattle.write_steps.specs.Writes.{row_entry}
use Rattle.write_steps.specs.declared.stage.OldRow.{OldRow}
use Rattle.write_steps.specs.declared.stage.Owner.{Owner}
use Rattle.write_steps.specs.declared.stage.WriteStage.{WriteStage}
use Rattle.write_steps.specs.declared.stage.WriteStep.{WriteStep}
use Rattle.core_state.proofs.Seats.{number_at, seat_there}
use Rattle.core_state.specs.Events.{write_on_by, write_told}
use Rattle.core_state.specs.Facts.{IsSound, PartsAreSound}
use Rattle.core_state.specs.Lines.{ids_released}
use Rattle.core_state.specs.State.{CoreState, IsSession, is_open, seat_of, table_at, xid_of}
use Rattle.core_state.specs.declared.seat.Job.{Job}
use Rattle.core_state.specs.declared.seat.Seat.{Seat}
use Rattle.core_versions.proofs.Goes.{at_stage, step_by}
use Rattle.core_versions.proofs.Keeps.{IsWriting, acts_of, parts_moved, parts_put, parts_removed, step_moved, step_put, step_removed, table_made, tables_then}
use Rattle.core_versions.proofs.Made.{knows_old, rows_moved, rows_put, rows_removed, world_moved, world_put, world_removed}
use Rattle.core_versions.proofs.Others.{Acts, running_from}
use Rattle.core_versions.proofs.Rows.{new_row}
use Rattle.core_versions.proofs.Sound.{stepped}
use Rattle.core_versions.proofs.Tables.{Steps, at_table}
use Rattle.change_stream.specs.Streams.{outs_with}
use Rattle.change_stream.specs.declared.written.Written.{Written}
use Rattle.core_outs.specs.Outs.{AreOut, AreOutIn, OutsStand, PutsAt, PutsOut, SeatOuts, WillBeOut, is_out, is_put_at}
use Rattle.change_log.specs.declared.entry.LogEntry.TheVariants as entries
use Rattle.core_state.specs.declared.seat.Job.TheVariants as jobs
use Rattle.write_steps.specs.declared.stage.WriteStage.TheVariants as stages

-- ---- worlds

-- what is so of the tuples of a table is so of those of its later pages, if they were there
in_table : (tables later : List Table) (t : ℕ) (pages : Pages) (names : List KeyEntry) (p : Place) (counts : ℕ → Bool) (bytes : List ℕ) (P : List Cell → Type 0) → Steps tables later t pages names
    → (p.table ≡ t → tuple_in counts pages p.key ≡ Some bytes → P (cells_in (table_at tables t).rows.schema.storages bytes))
    → (p.table ≢ t → tuple_in counts (table_at tables p.table).rows.pages p.key ≡ Some bytes → P (cells_in (table_at tables p.table).rows.schema.storages bytes))
    → tuple_in counts (table_at later p.table).rows.pages p.key ≡ Some bytes → P (cells_in (table_at later p.table).rows.schema.storages bytes)
in_table tables later t pages names p counts bytes P steps here other =
    at_table tables later t p.table pages names (λ (table : Table). tuple_in counts table.rows.pages p.key ≡ Some bytes → P (cells_in table.rows.schema.storages bytes)) steps here other

at_place : (tables : List Table) (t : ℕ) (p : Place) (counts : ℕ → Bool) (bytes : List ℕ) (P : List Cell → Type 0) → p.table ≡ t → (tuple_in counts (table_at tables p.table).rows.pages p.key ≡ Some bytes → P (cells_in (table_at tables p.table).rows.schema.storages bytes))
    → tuple_in counts (table_at tables t).rows.pages p.key ≡ Some bytes → P (cells_in (table_at tables t).rows.schema.storages bytes)
at_place tables t p counts bytes P is old = subst (λ (n : ℕ). tuple_in counts (table_at tables n).rows.pages p.key ≡ Some bytes → P (cells_in (table_at tables n).rows.schema.storages bytes)) is old

-- a world that has no tuple which it had not
world_fewer : (tables later : List Table) (t : ℕ) (pages : Pages) (names : List KeyEntry) (counts : ℕ → Bool) (outs : Place → List ℕ) (skip : Place → Bool) → Steps tables later t pages names
    → ((k : ℤ) (b : List ℕ) → tuple_in counts pages k ≡ Some b → tuple_in counts (table_at tables t).rows.pages k ≡ Some b) → AreOutIn tables counts outs skip → AreOutIn later counts outs skip
world_fewer tables later t pages names counts outs skip steps fewer old = record {
  each = λ p bytes passed. in_table tables later t pages names p counts bytes (AreOut (outs p)) steps
      (λ is e. at_place tables t p counts bytes (AreOut (outs p)) is (old.each p bytes passed) (fewer p.key bytes e))
      (λ differ e. old.each p bytes passed e);
}

-- a world that has one tuple more, of the row that was to come
world_more : (tables later : List Table) (t : ℕ) (pages : Pages) (names : List KeyEntry) (counts : ℕ → Bool) (outs : Place → List ℕ) (key : ℤ) (new : List ℕ) → Steps tables later t pages names
    → ((k : ℤ) (b : List ℕ) → tuple_in counts pages k ≡ Some b → ((is_eq (int_cmp key k) ≡ true) × (new ≡ b)) ⊎ ((is_eq (int_cmp key k) ≡ false) × (tuple_in counts (table_at tables t).rows.pages k ≡ Some b)))
    → AreOut (outs (place t key)) (cells_in (table_at tables t).rows.schema.storages new) → AreOutIn tables counts outs (λ p. same_place (place t key) p) → AreOutIn later counts outs (λ p. false)
world_more tables later t pages names counts outs key new steps more here old = record {
  each = λ p bytes passed. in_table tables later t pages names p counts bytes (AreOut (outs p)) steps
      (λ is e. elim (more p.key bytes e) [
        | inl h ↦
            let at : place t key ≡ p = is_place p is h.0 in
            subst (λ (q : Place). AreOut (outs q) (cells_in (table_at tables t).rows.schema.storages bytes)) at
            (subst (λ (b : List ℕ). AreOut (outs (place t key)) (cells_in (table_at tables t).rows.schema.storages b)) h.1 here)
        | inr h ↦ at_place tables t p counts bytes (AreOut (outs p)) is (old.each p bytes (other_key p h.0)) h.1
      ])
      (λ differ e. old.each p bytes (other_table p differ) e);
}
  where
    is_place : (p : Place) → p.table ≡ t → is_eq (int_cmp key p.key) ≡ true → place t key ≡ p
    is_place p is e =
        let same = key_is key p.key e in
        ap (λ (n : ℕ). place n key) (sym is) ∙ ap (λ (k : ℤ). place p.table k) same

    other_key : (p : Place) → is_eq (int_cmp key p.key) ≡ false → same_place (place t key) p ≡ false
    other_key p e = elim (cases_Bool (same_place (place t key) p)) [
      | inl same ↦
          let at = same_place_is (place t key) p same in
          let tied : is_eq (int_cmp key p.key) ≡ true = ap (λ (q : Place). is_eq (int_cmp key q.key)) (sym at) ∙ same_key key in
          absurd (cc)
      | inr apart ↦ apart
    ]

    other_table : (p : Place) → p.table ≢ t → same_place (place t key) p ≡ false
    other_table p differ = elim (cases_Bool (same_place (place t key) p)) [
      | inl same ↦ absurd (differ (ap (λ (q : Place). q.table) (sym (same_place_is (place t key) p same))))
      | inr apart ↦ apart
    ]

-- ---- a step

-- the session's own row is as it was to come, and nothing is to come any more
pub record OwnStep (c : CoreState) (s : ℕ) (x : ℕ) (later : List Table) (outs : Place → List ℕ) (job : Job) : Type 0 where
  pub now : is_open (seat_of c s).state ≡ true → AreOutIn later (counts_for c.xacts (Some x)) outs (is_put_at job)
  pub coming : PutsOut outs job

pub outs_stepped : (c : CoreState) (s t x : ℕ) (pages : Pages) (names : List KeyEntry) (keys : List ℤ) (cells : List Cell) (ids : Pool) (later : List Table) (entry : LogEntry) (job : Job) (outs : Place → List ℕ) (written : ℕ → List Written)
    → IsSession c.seats s → IsSound c → Acts c.xacts c.snaps c.ids c.tables later s t x pages names keys cells → xid_of (seat_of c s).state ≡ Some x
    → OwnStep c s x later (outs_with outs (written s)) job → OutsStand c outs written → OutsStand (stepped c s ids later entry job) outs written
outs_stepped c s t x pages names keys cells ids later entry job outs written there sound acts mine own old = record {
  latest = world_fewer c.tables later t pages names (is_committed c.xacts) outs (λ p. false) acts.steps (λ k b e. sym (acts.step.others Latest k tt (λ f. absurd (cc))) ∙ e) old.latest;
  each = λ i other at. elim (after_set c.seats (s - 1) (record (seat_of c s) { job = job }) i other at) [
    | inl h ↦
        let number : s ≡ suc i = sym (ap suc h.0 ∙ number_at s there.from_one) in
        let here : SeatOuts c.xacts later (outs_with outs (written s)) (record (seat_of c s) { job = job }) = record {
          now = λ opened. subst (λ (o : Option ℕ). AreOutIn later (counts_for c.xacts o) (outs_with outs (written s)) (is_put_at job)) (sym mine) (own.now opened);
          coming = own.coming;
        } in
        subst (λ (seat : Seat). SeatOuts c.xacts later (outs_with outs (written (suc i))) seat) (sym h.1) (subst (λ (n : ℕ). SeatOuts c.xacts later (outs_with outs (written n)) (record (seat_of c s) { job = job })) number here)
    | inr h ↦
        let differ : suc i ≢ s = λ e. h.0 (omega (arith, e)) in
        let was = old.each i other h.1 in
        record {
          now = λ opened. by (xid_of other.state) (suc i) ((sound.each i other h.1).runs) differ (outs_with outs (written (suc i))) (is_put_at other.job) (was.now opened);
          coming = was.coming;
        }
  ];
}
  where
    own_is : (a b : ℕ) → Own a ≡ Own b → a ≡ b
    own_is a b e = cc

    session_is : (a b : ℕ) → Some a ≡ Some b → a ≡ b
    session_is a b e = cc

    by : (own : Option ℕ) (n : ℕ) → ((y : ℕ) → own ≡ Some y → session_at c.xacts y ≡ Some n) → n ≢ s → (its : Place → List ℕ) (skip : Place → Bool) → AreOutIn c.tables (counts_for c.xacts own) its skip → AreOutIn later (counts_for c.xacts own) its skip
    by None n runs differ its skip was = world_fewer c.tables later t pages names (is_committed c.xacts) its skip acts.steps (λ k b e. sym (acts.step.others Latest k tt (λ f. absurd (cc))) ∙ e) was
    by (Some y) n runs differ its skip was =
        world_fewer c.tables later t pages names (counts_for c.xacts (Some y)) its skip acts.steps
        (λ k b e. sym (acts.step.others (Own y) k (running_from c.xacts y n (runs y refl)) (λ f. differ (session_is n s (sym (runs y refl) ∙ ap (session_at c.xacts) (own_is y x f) ∙ acts.runs)))) ∙ e) was

-- ---- the three of them

-- a row whose columns are all saved has those out of line that were to be
will_are : (columns : List ℕ) (cells : List Cell) → WillBeOut columns cells [] → AreOut columns cells
will_are columns cells will = record { each = λ k. will.each k ∙ or_false (is_out (slice_index_or cells k Null)) }
  where
    or_false : (b : Bool) → (b || false) ≡ b
    or_false true = refl
    or_false false = refl

-- after it nothing is to come
none_marks : (outs : Place → List ℕ) (t : ℕ) (owner : Owner) (dropped : List Pointer) (first : Pointer) → PutsOut outs (jobs.Writing t (at_stage owner (stages.Marking dropped 0 (new_mark first owner.xid owner.session))))
none_marks outs t owner dropped first new e = absurd (cc)

-- what is told of the session's own rows before it
pub record IsOwn (c : CoreState) (s t : ℕ) (owner : Owner) (stage : WriteStage) (outs : Place → List ℕ) : Type 0 where
  pub now : is_open (seat_of c s).state ≡ true → AreOutIn c.tables (counts_for c.xacts (Some owner.xid)) outs (is_put_at (jobs.Writing t (at_stage owner stage)))
  pub coming : PutsAt (λ key. outs (place t key)) stage

pub own_outs : (c : CoreState) (s t : ℕ) (owner : Owner) (stage : WriteStage) (outs : Place → List ℕ) (written : ℕ → List Written) → IsWriting c s t owner stage → OutsStand c outs written → IsOwn c s t owner stage (outs_with outs (written s))
own_outs c s t owner stage outs written writing old =
    let was = old.each (s - 1) (seat_of c s) (seat_there c.seats s writing.session) in
    let number = number_at s writing.session.from_one in
    let mine : SeatOuts c.xacts c.tables (outs_with outs (written s)) (seat_of c s) = subst (λ (n : ℕ). SeatOuts c.xacts c.tables (outs_with outs (written n)) (seat_of c s)) number was in
    record {
      now = λ opened.
          subst (λ (job : Job). AreOutIn c.tables (counts_for c.xacts (Some owner.xid)) (outs_with outs (written s)) (is_put_at job)) writing.job
          (subst (λ (o : Option ℕ). AreOutIn c.tables (counts_for c.xacts o) (outs_with outs (written s)) (is_put_at (seat_of c s).job)) writing.write.own.xid (mine.now opened));
      coming = subst (λ (job : Job). PutsOut (outs_with outs (written s)) job) writing.job mine.coming;
    }

-- a tuple that a world has then is the new one, or was there
more_of : (a b : Bool) (new byte : List ℕ) (o : Option (List ℕ)) → (if a then Some new else (if b then None else o)) ≡ Some byte → ((a ≡ true) × (new ≡ byte)) ⊎ ((a ≡ false) × (o ≡ Some byte))
more_of true b new byte o e = inl (refl, same e)
  where
    same : Some new ≡ Some byte → new ≡ byte
    same f = cc
more_of false true new byte o e = absurd (cc)
more_of false false new byte o e = inr (refl, e)

fewer_of : (b : Bool) (byte : List ℕ) (o : Option (List ℕ)) → (if b then None else o) ≡ Some byte → o ≡ Some byte
fewer_of true byte o e = absurd (cc)
fewer_of false byte o e = e

-- an insert
pub outs_put : (c : CoreState) (s t : ℕ) (owner : Owner) (toast : Store) (new : Stored) (plan : List ℕ) (outs : Place → List ℕ) (written : ℕ → List Written) → IsWriting c s t owner (stages.Put None new plan) → toast ≡ (table_at c.tables t).toast → PartsAreSound c → OutsStand c outs written
    → OutsStand (write_on_by c s t (at_stage owner (stages.Put None new plan)) toast (write_told c t (at_stage owner (stages.Put None new plan)))) outs written
outs_put c s t owner toast new plan outs written writing left parts old =
    let rows = rows_put (table_at c.tables t) owner.xid new in
    let later = tables_then c t rows.pages rows.entries in
    let entry = row_entry owner None new in
    let step = step_put c s t owner new plan writing parts in
    let acts = acts_of c s t owner (stages.Put None new plan) rows.pages rows.entries (new.key ∷ []) new.cells [] writing step.made in
    let fresh = new_row c.xacts c.snaps c.ids (held_by c.locks s) (table_at c.tables t) s t (seat_of c s).state owner None new plan c.log writing.write (λ row e. absurd (cc)) (table_made c t writing.works.of_table parts) writing.table in
    let own = own_outs c s t owner (stages.Put None new plan) outs written writing old in
    let here : AreOut (outs_with outs (written s) (place t new.key)) (cells_in (table_at c.tables t).rows.schema.storages (tuple (table_at c.tables t).rows.schema.storages new)) =
    subst (λ (cells : List Cell). AreOut (outs_with outs (written s) (place t new.key)) cells) (sym fresh.cells) (will_are (outs_with outs (written s) (place t new.key)) new.cells (own.coming new refl)) in
    let more = λ (k : ℤ) (b : List ℕ) (e : tuple_in (counts_for c.xacts (Some owner.xid)) rows.pages k ≡ Some b).
    more_of (is_eq (int_cmp new.key k)) false (tuple (table_at c.tables t).rows.schema.storages new) b (tuple_in (counts_for c.xacts (Some owner.xid)) (table_at c.tables t).rows.pages k)
    (sym (world_put c.xacts c.snaps c.ids (held_by c.locks s) (table_at c.tables t) s t (seat_of c s).state owner new plan k writing.write) ∙ e) in
    let now = λ (opened : is_open (seat_of c s).state ≡ true).
    world_more c.tables later t rows.pages rows.entries (counts_for c.xacts (Some owner.xid)) (outs_with outs (written s)) new.key (tuple (table_at c.tables t).rows.schema.storages new) acts.steps more here (own.now opened) in
    step_by c s t owner (stages.Put None new plan) toast later entry [] (λ (core : CoreState) (told : WriteStep). OutsStand core outs written) refl (parts_put c t owner new plan toast left)
    (outs_stepped c s t owner.xid rows.pages rows.entries (new.key ∷ []) new.cells (ids_released c.ids s) later entry jobs.Idle outs written writing.session writing.sound acts writing.write.own.xid (record { now = now; coming = tt }) old)
    (λ first e. outs_stepped c s t owner.xid rows.pages rows.entries (new.key ∷ []) new.cells c.ids later entry (jobs.Writing t (at_stage owner (stages.Marking [] 0 (new_mark first owner.xid owner.session)))) outs written writing.session writing.sound acts writing.write.own.xid
    (record { now = now; coming = none_marks (outs_with outs (written s)) t owner [] first }) old)

-- an update, or a move to another key
pub outs_moved : (c : CoreState) (s t : ℕ) (owner : Owner) (toast : Store) (row : OldRow) (new : Stored) (plan : List ℕ) (outs : Place → List ℕ) (written : ℕ → List Written) → IsWriting c s t owner (stages.Put (Some row) new plan) → toast ≡ (table_at c.tables t).toast → PartsAreSound c → OutsStand c outs written
    → OutsStand (write_on_by c s t (at_stage owner (stages.Put (Some row) new plan)) toast (write_told c t (at_stage owner (stages.Put (Some row) new plan)))) outs written
outs_moved c s t owner toast row new plan outs written writing left parts old =
    let rows = rows_moved (table_at c.tables t) owner.xid row new in
    let later = tables_then c t rows.pages rows.entries in
    let entry = row_entry owner (Some row) new in
    let keys = row.stored.key ∷ new.key ∷ [] in
    let dropped = dropped_of row.stored.cells new.cells in
    let step = step_moved c s t owner row new plan writing parts in
    let acts = acts_of c s t owner (stages.Put (Some row) new plan) rows.pages rows.entries keys new.cells dropped writing step.made in
    let runs = running_from c.xacts owner.xid s writing.runs in
    let knows = knows_old c.xacts c.snaps c.ids (held_by c.locks s) (table_at c.tables t) s t (seat_of c s).state owner (stages.Put (Some row) new plan) c.log writing.write in
    let before = knows row refl in
    let fresh = new_row c.xacts c.snaps c.ids (held_by c.locks s) (table_at c.tables t) s t (seat_of c s).state owner (Some row) new plan c.log writing.write knows (table_made c t writing.works.of_table parts) writing.table in
    let own = own_outs c s t owner (stages.Put (Some row) new plan) outs written writing old in
    let here : AreOut (outs_with outs (written s) (place t new.key)) (cells_in (table_at c.tables t).rows.schema.storages (tuple (table_at c.tables t).rows.schema.storages new)) =
    subst (λ (cells : List Cell). AreOut (outs_with outs (written s) (place t new.key)) cells) (sym fresh.cells) (will_are (outs_with outs (written s) (place t new.key)) new.cells (own.coming new refl)) in
    let more = λ (k : ℤ) (b : List ℕ) (e : tuple_in (counts_for c.xacts (Some owner.xid)) rows.pages k ≡ Some b).
    more_of (is_eq (int_cmp new.key k)) (is_eq (int_cmp row.stored.key k)) (tuple (table_at c.tables t).rows.schema.storages new) b (tuple_in (counts_for c.xacts (Some owner.xid)) (table_at c.tables t).rows.pages k)
    (sym (world_moved c.xacts c.snaps c.ids (held_by c.locks s) (table_at c.tables t) s t (seat_of c s).state owner row new plan before.0 k writing.write runs before.1 writing.table) ∙ e) in
    let now = λ (opened : is_open (seat_of c s).state ≡ true).
    world_more c.tables later t rows.pages rows.entries (counts_for c.xacts (Some owner.xid)) (outs_with outs (written s)) new.key (tuple (table_at c.tables t).rows.schema.storages new) acts.steps more here (own.now opened) in
    step_by c s t owner (stages.Put (Some row) new plan) toast later entry dropped (λ (core : CoreState) (told : WriteStep). OutsStand core outs written) refl (parts_moved c t owner row new plan toast left)
    (outs_stepped c s t owner.xid rows.pages rows.entries keys new.cells (ids_released c.ids s) later entry jobs.Idle outs written writing.session writing.sound acts writing.write.own.xid (record { now = now; coming = tt }) old)
    (λ first e. outs_stepped c s t owner.xid rows.pages rows.entries keys new.cells c.ids later entry (jobs.Writing t (at_stage owner (stages.Marking dropped 0 (new_mark first owner.xid owner.session)))) outs written writing.session writing.sound acts writing.write.own.xid
    (record { now = now; coming = none_marks (outs_with outs (written s)) t owner dropped first }) old)

-- a delete
pub outs_removed : (c : CoreState) (s t : ℕ) (owner : Owner) (toast : Store) (row : OldRow) (outs : Place → List ℕ) (written : ℕ → List Written) → IsWriting c s t owner (stages.Remove row) → toast ≡ (table_at c.tables t).toast → PartsAreSound c → OutsStand c outs written
    → OutsStand (write_on_by c s t (at_stage owner (stages.Remove row)) toast (write_told c t (at_stage owner (stages.Remove row)))) outs written
outs_removed c s t owner toast row outs written writing left parts old =
    let rows = rows_removed (table_at c.tables t) owner.xid row in
    let later = tables_then c t rows.pages rows.entries in
    let entry = entries.Delete owner.xid owner.table row.stored.key in
    let keys = row.stored.key ∷ [] in
    let dropped = dropped_of row.stored.cells [] in
    let step = step_removed c s t owner row writing parts in
    let acts = acts_of c s t owner (stages.Remove row) rows.pages rows.entries keys [] dropped writing step.made in
    let runs = running_from c.xacts owner.xid s writing.runs in
    let before = knows_old c.xacts c.snaps c.ids (held_by c.locks s) (table_at c.tables t) s t (seat_of c s).state owner (stages.Remove row) c.log writing.write row refl in
    let own = own_outs c s t owner (stages.Remove row) outs written writing old in
    let fewer = λ (k : ℤ) (b : List ℕ) (e : tuple_in (counts_for c.xacts (Some owner.xid)) rows.pages k ≡ Some b).
    fewer_of (is_eq (int_cmp row.stored.key k)) b (tuple_in (counts_for c.xacts (Some owner.xid)) (table_at c.tables t).rows.pages k)
    (sym (world_removed t c.xacts c.snaps (table_at c.tables t) owner.xid row before.0 k runs before.1 writing.table) ∙ e) in
    let now = λ (opened : is_open (seat_of c s).state ≡ true).
    world_fewer c.tables later t rows.pages rows.entries (counts_for c.xacts (Some owner.xid)) (outs_with outs (written s)) (λ p. false) acts.steps fewer (own.now opened) in
    step_by c s t owner (stages.Remove row) toast later entry dropped (λ (core : CoreState) (told : WriteStep). OutsStand core outs written) refl (parts_removed c t owner row toast left)
    (outs_stepped c s t owner.xid rows.pages rows.entries keys [] (ids_released c.ids s) later entry jobs.Idle outs written writing.session writing.sound acts writing.write.own.xid (record { now = now; coming = tt }) old)
    (λ first e. outs_stepped c s t owner.xid rows.pages rows.entries keys [] c.ids later entry (jobs.Writing t (at_stage owner (stages.Marking dropped 0 (new_mark first owner.xid owner.session)))) outs written writing.session writing.sound acts writing.write.own.xid
    (record { now = now; coming = none_marks (outs_with outs (written s)) t owner dropped first }) old)
