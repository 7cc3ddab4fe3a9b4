-- A step of a write's save or mark, as each part of the core takes it.
use Rattle.std.proofs.Common.{Bool, Contains, List, None, Some, [], ap, ap₂, arith, cond, false, inl, inr, not, refl, subst, suc, sym, true, zero, ℕ, ◌∙◌, ◌∷◌, ◌≡◌, ◌≢◌, ◌⊎◌}
use Rattle.std.proofs.lemmas.Bool.Decides.{nat_tests}
use Rattle.std.proofs.lemmas.List.Elements.{Contains-get_or}
use Rattle.std.specs.Prelude.{Option, is_some, option_to_list, ◌==◌}
use Rattle.list_facts.proofs.Members.{filter_holds, first_in}
use Rattle.external_pointer.specs.declared.external.Pointer.{Pointer}
use Rattle.tuple_layout.specs.declared.cell.Stored.{Stored}
use Rattle.slot_page.specs.Pages.{item_in}
use Rattle.slice_fetch.specs.Spans.{piece}
use Rattle.change_log.specs.Logs.{LogState}
use Rattle.xact_status.proofs.Places.{assigned_from_running}
use Rattle.xact_status.specs.Xacts.{IsAssigned, Xacts, is_running, session_at}
use Rattle.chunk_relation.specs.Chunks.{IsChunkAssigned}
use Rattle.chunk_relation.specs.Relations.{with_ended}
use Rattle.chunk_index.specs.Indexes.{Index}
use Rattle.chunk_index.specs.Leaves.{Leaf}
use Rattle.chunk_index.specs.Pinned.{pin_of}
use Rattle.chunk_index.specs.declared.entry.Entry.{Entry}
use Rattle.chunk_index.specs.declared.entry.Pin.{Pin}
use Rattle.value_ids.specs.Ids.{Pool, first_free_id}
use Rattle.value_ids.specs.declared.pool.InHand.{InHand}
use Rattle.lock_table.specs.Locks.{held_by}
use Rattle.snapshot_registry.specs.Snapshots.{Snaps}
use Rattle.value_holders.specs.Holders.{AreEnded}
use Rattle.toast_store.proofs.Held.{taken_left}
use Rattle.toast_store.proofs.Kept.{id_named}
use Rattle.toast_store.specs.Marks.{Marking, store_marked}
use Rattle.toast_store.specs.PieceJobs.{chunk_of, tuple_size}
use Rattle.toast_store.specs.Saves.{Drawing, Laying, Saving, Stage, id_of}
use Rattle.toast_store.specs.Stores.{IsStore, Store, is_used}
use Rattle.toast_store.specs.Walks.{IsBatchHeld, Walking, entry_at, index_walked, is_over}
use Rattle.toast_store.specs.declared.piece_job.PieceStage.{PieceStage}
use Rattle.toast_store.specs.declared.walk.WalkStage.{WalkStage}
use Rattle.write_steps.proofs.Keeping.{drawn_fresh}
use Rattle.write_steps.specs.Writes.{Writing, answer_at, ids_at, log_at, mark_after, marked_on, stage_after, write_after}
use Rattle.write_steps.specs.declared.stage.OldRow.{OldRow}
use Rattle.write_steps.specs.declared.stage.Owner.{Owner}
use Rattle.write_steps.specs.declared.stage.WriteStage.{WriteStage}
use Rattle.table_state.proofs.Records.{chunk_steps_keep}
use Rattle.table_state.specs.Events.{IsUnheld, with_toast}
use Rattle.table_state.specs.Holders.{holders_of}
use Rattle.table_state.specs.Tables.{IsTable}
use Rattle.table_state.specs.declared.table.Table.{Table}
use Rattle.core_state.proofs.Hands.{SameHands, same_released}
use Rattle.core_state.proofs.Lists.{in_append, in_append_left, only_one, read_there}
use Rattle.core_state.proofs.Seats.{sound_of}
use Rattle.core_state.specs.Facts.{AreInHand, HandsAreSound, IsSound, JobIsSound, MayPin, PinsAreSound, SeatIsSound, WorksOn, WriteIsSound, has_batch, write_has_batch}
use Rattle.core_state.specs.Lines.{ids_released, parts_at, with_table}
use Rattle.core_state.specs.State.{CoreState, IsSession, IsTableOf, job_snapshot, no_table, seat_of, table_at}
use Rattle.core_state.specs.declared.seat.Job.{Job}
use Rattle.core_saves.proofs.Events.{add_event, ended_at, mark_leaves, put_event, save_leaves, walk_event}
use Rattle.core_saves.proofs.Frame.{Restored, handles_left, view_left}
use Rattle.core_saves.proofs.Marked.{walk_pin, write_marked}
use Rattle.core_saves.proofs.Others.{MarksOne, in_hand_for, marks_apart, marks_one, saves_apart}
use Rattle.core_saves.proofs.Saved.{write_at, write_saved}
use Rattle.core_saves.proofs.Taken.{OnePiece, StepTaken, restored_set}
use Rattle.core_saves.proofs.ToRead.{StepLeaves}
use Rattle.core_saves.specs.Made.{IsWriteMade}
use Rattle.chunk_relation.specs.Relations as chunk_relations
use Rattle.core_state.specs.declared.seat.Job.TheVariants as jobs
use Rattle.toast_store.specs.Saves as saves
use Rattle.toast_store.specs.declared.piece_job.PieceStage.TheVariants as pieces
use Rattle.toast_store.specs.declared.walk.WalkStage.TheVariants as walks
use Rattle.write_steps.specs.Standing as write_standing
use Rattle.write_steps.specs.declared.stage.WriteStage.TheVariants as stages
use Rattle.write_steps.specs.declared.stage.WriteStep.TheVariants as writes

-- ---- what is true before it

table_sound : (c : CoreState) (t : ℕ) → IsTableOf c.tables t → IsSound c → IsTable t c.xacts c.snaps (table_at c.tables t)
table_sound c zero there sound =
    let low = there.from_one in
    absurd (omega (arith, low))
table_sound c (suc i) there sound =
    let within = there.within in
    sound.tables i (table_at c.tables (suc i)) (read_there c.tables i no_table (omega (arith, within)))

-- a table that is there is among the core's
table_among : (tables : List Table) (t : ℕ) → IsTableOf tables t → Contains tables (table_at tables t)
table_among tables zero there =
    let low = there.from_one in
    absurd (omega (arith, low))
table_among tables (suc i) there =
    let within = there.within in
    Contains-get_or tables i no_table (omega (arith, within))

-- what the core's facts tell of the write, and what its step leaves
pub record StepKnown (c : CoreState) (s t : ℕ) (owner : Owner) (stage : WriteStage) (toast : Store) : Type 0 where
  pub session : IsSession c.seats s
  pub sound : IsSound c
  pub works : WorksOn (held_by c.locks s) c.tables t (seat_of c s).state
  pub write : WriteIsSound c.xacts c.snaps c.ids (held_by c.locks s) (table_at c.tables t) s t (seat_of c s).state (write_at owner stage)
  pub table : IsTable t c.xacts c.snaps (table_at c.tables t)
  pub old : IsStore (table_at c.tables t).toast
  pub new : IsStore toast
  pub runs : session_at c.xacts owner.xid ≡ Some s
  pub job : (seat_of c s).job ≡ jobs.Writing t (write_at owner stage)
  pub seat : SeatIsSound c.xacts c.snaps c.ids (held_by c.locks s) c.tables s (seat_of c s)

pub step_known : (c : CoreState) (s t : ℕ) (owner : Owner) (stage : WriteStage) (toast : Store) → IsWriteMade c s t (write_at owner stage) toast → StepKnown c s t owner stage toast
step_known c s t owner stage toast made =
    let seat = sound_of c s made.session made.sound in
    let job = subst (λ (its : Job). JobIsSound c.xacts c.snaps c.ids (held_by c.locks s) c.tables s (seat_of c s) its) made.job seat.job in
    record {
      session = made.session;
      sound = made.sound;
      works = job.0;
      write = job.1;
      table = table_sound c t job.0.of_table made.sound;
      old = (made.parts.tables (table_at c.tables t) (table_among c.tables t job.0.of_table)).toast;
      new = made.store;
      runs = seat.runs owner.xid job.1.own.xid;
      job = made.job;
      seat = seat;
    }

-- a table of the later ones is this one with its store, or another one as it was
restored_cases : (tables later : List Table) (t : ℕ) (toast : Store) (n : ℕ) → Restored tables later t toast → ((n ≡ t) × (table_at later n ≡ with_toast (table_at tables t) toast)) ⊎ ((n ≢ t) × (table_at later n ≡ table_at tables n))
restored_cases tables later t toast n restored = by (n == t) refl
  where
    by : (b : Bool) → (n == t) ≡ b → ((n ≡ t) × (table_at later n ≡ with_toast (table_at tables t) toast)) ⊎ ((n ≢ t) × (table_at later n ≡ table_at tables n))
    by true same =
        let is : n ≡ t = grind (arith, nat_tests, same) in
        inl (is, ap (table_at later) is ∙ restored.here)
    by false apart =
        let differ : n ≢ t = grind (arith, nat_tests, apart) in
        inr (differ, restored.others n differ)

-- the session's pins, where its write has none in another table
own_pins : (tables later : List Table) (s t : ℕ) (toast : Store) (stage : WriteStage) (owner : Owner) (job : Job) → Restored tables later t toast → PinsAreSound tables s (jobs.Writing t (write_at owner stage)) → ((leaf : Leaf) → pin_of toast.index.pins s ≡ Some leaf → MayPin t job) → PinsAreSound later s job
own_pins tables later s t toast stage owner job restored old here = record {
  each = λ n leaf e. elim (restored_cases tables later t toast n restored) [
    | inl h ↦ subst (λ (k : ℕ). MayPin k job) (sym h.0) (here leaf (sym (ap (λ (table : Table). pin_of table.toast.index.pins s) h.1) ∙ e))
    | inr h ↦ absurd (h.0 (sym (old.each n leaf (sym (ap (λ (table : Table). pin_of table.toast.index.pins s) h.1) ∙ e)).0))
  ];
}

-- the session's seat, by its job
own_seat : (c : CoreState) (s t : ℕ) (owner : Owner) (stage : WriteStage) (toast : Store) (ids : Pool) (tables : List Table) (job : Job) → StepKnown c s t owner stage toast → Restored c.tables tables t toast
    → JobIsSound c.xacts c.snaps ids (held_by c.locks s) tables s (record (seat_of c s) { job = job }) job → PinsAreSound tables s job → HandsAreSound ids.in_hand s job → SeatIsSound c.xacts c.snaps ids (held_by c.locks s) tables s (record (seat_of c s) { job = job })
own_seat c s t owner stage toast ids tables job known restored is pins hands =
    let handles = handles_left c.xacts c.snaps (held_by c.locks s) c.tables tables t toast (seat_of c s) restored known.seat.handles in
    record {
      runs = known.seat.runs;
      locks = known.seat.locks;
      view = view_left c.xacts c.snaps (held_by c.locks s) c.tables tables t toast (seat_of c s).state restored known.seat.view;
      handles = record { outside = handles.outside; named = handles.named; each = handles.each };
      job = is;
      pins = pins;
      hands = hands;
    }

-- a write that goes on works on its table still
own_job : (c : CoreState) (s t : ℕ) (owner : Owner) (stage : WriteStage) (toast : Store) (ids : Pool) (tables : List Table) (write : Writing) → StepKnown c s t owner stage toast → Restored c.tables tables t toast
    → WriteIsSound c.xacts c.snaps ids (held_by c.locks s) (with_toast (table_at c.tables t) toast) s t (seat_of c s).state write
    → JobIsSound c.xacts c.snaps ids (held_by c.locks s) tables s (record (seat_of c s) { job = jobs.Writing t write }) (jobs.Writing t write)
own_job c s t owner stage toast ids tables write known restored sound =
    let count = restored.count in
    let within = known.works.of_table.within in (
      record { of_table = record { from_one = known.works.of_table.from_one; within = omega (arith, count, within) }; inside = known.works.inside; used = known.works.used },
      subst (λ (table : Table). WriteIsSound c.xacts c.snaps ids (held_by c.locks s) table s t (seat_of c s).state write) (sym restored.here) sound,
    )

-- ---- a step of a save

-- a chunk bears the running xid alone
chunk_given : (xacts : Xacts) (save : Saving) (owner : Owner) (value_id seq : ℕ) (at : PieceStage) → save.xid ≡ owner.xid → is_running xacts owner.xid ≡ true → IsChunkAssigned xacts (chunk_of (saves.pieces_of save value_id at) seq)
chunk_given xacts save owner value_id seq at mine running = record { inserter = assigned_from_running xacts save.xid (ap (is_running xacts) mine ∙ running); ender = λ xid e. absurd (none_is xid e) }
  where
    none_is : (xid : ℕ) → None ≡ Some xid → ⊥
    none_is xid h = cc

-- the table after it
saved_table : (xacts : Xacts) (snaps : Snaps) (ids : Pool) (table : Table) (t : ℕ) (owner : Owner) (save : Saving) (toast : Store) (stage : Stage) → IsTable t xacts snaps table → IsStore table.toast → save.xid ≡ owner.xid → is_running xacts owner.xid ≡ true
    → saves.IsUnderWay stage → saves.StandsAt table.toast ids save stage → ((id : ℕ) → id_of stage ≡ Some id → IsUnheld xacts snaps table id) → toast.rel ≡ saves.rel_after table.toast.rel save stage → saves.IsIndexAfter stage table.toast.index toast.index
    → IsTable t xacts snaps (with_toast table toast)
saved_table xacts snaps ids table t owner save toast Drawing is store mine running under stands unheld rel index =
    subst (λ (its : Store). IsTable t xacts snaps (with_toast table its)) (sym (ap₂ (λ (r : chunk_relations.Relation) (i : Index). record { rel = r; index = i }) rel index)) is
saved_table xacts snaps ids table t owner save toast (Laying value_id (pieces.Putting seq)) is store mine running under stands unheld rel index =
    chunk_steps_keep.put t xacts snaps table toast (tuple_size save.value seq) (chunk_of (saves.pieces_of save value_id (pieces.Putting seq)) seq) store (ap (λ (r : chunk_relations.Relation). r.rel_id) rel)
    (chunk_given xacts save owner value_id seq (pieces.Putting seq) mine running) (put_event table.toast toast save value_id seq rel index) is
saved_table xacts snaps ids table t owner save toast (Laying value_id (pieces.Indexing seq tid)) is store mine running under stands unheld rel index =
    chunk_steps_keep.added t xacts snaps table toast (record { value_id = value_id; seq = seq; tid = tid }) (ap (λ (r : chunk_relations.Relation). r.rel_id) rel) (unheld value_id refl) (add_event table.toast toast ids save value_id seq tid stands rel index) is
saved_table xacts snaps ids table t owner save toast (Laying value_id pieces.Over) is store mine running under stands unheld rel index = absurd under

-- the ids in hand after it
saved_hands : (toast : Store) (ids : Pool) (save : Saving) (stage : Stage) (s other : ℕ) → save.session ≡ s → other ≢ s → SameHands ids (saves.ids_after toast ids save stage) other
saved_hands toast ids save Drawing s other mine differ = record {
  kept = λ one its e. in_append_left ids.in_hand _ one e;
  back = λ one its e. elim (in_append ids.in_hand (saves.held_by save (saves.drawn_id toast ids save) ∷ []) one e) [
    | inl h ↦ h
    | inr h ↦ absurd (differ (sym its ∙ sym (ap (λ (held : InHand). held.session) (only_one (saves.held_by save (saves.drawn_id toast ids save)) one h)) ∙ mine))
  ];
}
saved_hands toast ids save (Laying value_id at) s other mine differ = record { kept = λ one its e. e; back = λ one its e. e }

-- no id that is in hand is drawn
drawn_once : (toast : Store) (ids : Pool) (save : Saving) (one : InHand) → first_free_id (is_used toast) ids save.table ≡ Some (saves.drawn_id toast ids save) → Contains ids.in_hand one → one.table ≡ save.table → one.id ≢ saves.drawn_id toast ids save
drawn_once toast ids save one drawn there same = λ is. drawn_fresh (is_used toast) ids one there (subst (λ (n : ℕ). first_free_id (is_used toast) ids n ≡ Some one.id) (sym same) (drawn ∙ ap (λ (k : ℕ). Some k) (sym is)))

saved_once : (toast : Store) (ids : Pool) (save : Saving) (stage : Stage) → saves.IsDrawn toast ids save stage (saves.stage_after toast ids save stage) → AreInHand ids.in_hand → AreInHand (saves.ids_after toast ids save stage).in_hand
saved_once toast ids save Drawing drawn old = record {
  once = λ a b e f same is. elim (in_append ids.in_hand (mine ∷ []) a e) [
    | inl h ↦ elim (in_append ids.in_hand (mine ∷ []) b f) [
      | inl g ↦ old.once a b h g same is
      | inr g ↦
          let b_is = only_one mine b g in
          absurd (drawn_once toast ids save a drawn h (same ∙ sym (ap (λ (held : InHand). held.table) b_is)) (is ∙ sym (ap (λ (held : InHand). held.id) b_is)))
    ]
    | inr h ↦
        let a_is = only_one mine a h in
        elim (in_append ids.in_hand (mine ∷ []) b f) [
          | inl g ↦ absurd (drawn_once toast ids save b drawn g (sym same ∙ sym (ap (λ (held : InHand). held.table) a_is)) (sym is ∙ sym (ap (λ (held : InHand). held.id) a_is)))
          | inr g ↦ ap (λ (held : InHand). held.session) (sym a_is ∙ only_one mine b g)
        ]
  ];
}
  where
    mine : InHand
    mine = saves.held_by save (saves.drawn_id toast ids save)
saved_once toast ids save (Laying value_id at) drawn old = old

-- the session's own
own_hands : (toast : Store) (ids : Pool) (save : Saving) (stage : Stage) (s t : ℕ) (write later : Writing) → save.table ≡ t → HandsAreSound ids.in_hand s (jobs.Writing t write) → HandsAreSound (saves.ids_after toast ids save stage).in_hand s (jobs.Writing t later)
own_hands toast ids save Drawing s t write later mine old = record {
  each = λ one e f. elim (in_append ids.in_hand (saves.held_by save (saves.drawn_id toast ids save) ∷ []) one e) [
    | inl h ↦ old.each one h f
    | inr h ↦ sym mine ∙ ap (λ (held : InHand). held.table) (only_one (saves.held_by save (saves.drawn_id toast ids save)) one h)
  ];
}
own_hands toast ids save (Laying value_id at) s t write later mine old = record { each = old.each }

-- the log after it
saved_log : (xacts : Xacts) (log : LogState) (save : Saving) (stage : Stage) → IsAssigned xacts save.xid → (saves.log_after log save stage ≡ log) ⊎ OnePiece xacts log (saves.log_after log save stage)
saved_log xacts log save Drawing given = inl refl
saved_log xacts log save (Laying value_id (pieces.Putting seq)) given = inr (record { xid = save.xid; t = save.table; value_id = value_id; seq = seq; bytes = piece save.value seq; is = refl; given = given })
saved_log xacts log save (Laying value_id (pieces.Indexing seq tid)) given = inl refl
saved_log xacts log save (Laying value_id pieces.Over) given = inl refl

pins_same : (stage : Stage) (old new : Index) → saves.IsIndexAfter stage old new → new.pins ≡ old.pins
pins_same Drawing old new e = ap (λ (i : Index). i.pins) e
pins_same (Laying value_id (pieces.Putting seq)) old new e = ap (λ (i : Index). i.pins) e
pins_same (Laying value_id (pieces.Indexing seq tid)) old new e = e.pins
pins_same (Laying value_id pieces.Over) old new e = ap (λ (i : Index). i.pins) e

pub saving_taken : (c : CoreState) (s t : ℕ) (owner : Owner) (old : Option OldRow) (new : Stored) (plan : List ℕ) (at : ℕ) (save : Saving) (toast : Store) → IsWriteMade c s t (write_at owner (stages.Saving old new plan at save)) toast
    → StepTaken c s t (ids_at (table_at c.tables t).toast c.ids (stages.Saving old new plan at save)) (log_at c.log owner (stages.Saving old new plan at save)) (with_table c.tables t (with_toast (table_at c.tables t) toast)) toast
    (jobs.Writing t (write_after (parts_at c t) (write_at owner (stages.Saving old new plan at save)))) (id_of save.stage) (id_of save.stage)
saving_taken c s t owner old new plan at save toast made =
    let stage = stages.Saving old new plan at save in
    let known = step_known c s t owner stage toast made in
    let sound = known.write in
    let own = sound.own.stage.own in
    let stands : write_standing.StandsSaving (parts_at c t) owner old new plan at save = sound.stands c.log in
    let restored = restored_set c.tables t toast known.works.of_table in
    let running = ap is_some known.runs in
    let unheld : (id : ℕ) → id_of save.stage ≡ Some id → IsUnheld c.xacts c.snaps (table_at c.tables t) id = λ id e. sound.fresh.each id (in_append_left (option_to_list (id_of save.stage)) _ id (rw e (first_in id [] id refl))) in
    let free : pin_of toast.index.pins s ≡ None = ap (λ (pins : List Pin). pin_of pins s) (pins_same save.stage (table_at c.tables t).toast.index toast.index made.steps.toast.index) ∙ subst (λ (n : ℕ). pin_of (table_at c.tables t).toast.index.pins n ≡ None) sound.own.session stands.free in
    record {
      session = known.session;
      sound = known.sound;
      there = known.works.of_table;
      restored = restored;
      table = saved_table c.xacts c.snaps c.ids (table_at c.tables t) t owner save toast save.stage known.table known.old own.xid running own.under_way stands.stands unheld made.steps.toast.rel made.steps.toast.index;
      leaves = save_leaves (table_at c.tables t).toast toast c.ids save save.stage s known.old known.new own.under_way stands.stands made.steps.toast.rel made.steps.toast.index;
      unheld = unheld;
      apart = saves_apart c s t (id_of save.stage) (λ id e. (in_hand id save.stage stands.stands e own.table own.session sound.own.of_table sound.own.session, unheld id e)) known.sound;
      hands = λ other differ. saved_hands (table_at c.tables t).toast c.ids save save.stage s other (own.session ∙ sound.own.session) differ;
      in_hand = saved_once (table_at c.tables t).toast c.ids save save.stage made.steps.drawn known.sound.hands;
      logged = saved_log c.xacts c.log save save.stage (assigned_from_running c.xacts save.xid (ap (is_running c.xacts) own.xid ∙ running));
      snapshot = sym (ap job_snapshot known.job);
      here = own_seat c s t owner stage toast (ids_at (table_at c.tables t).toast c.ids stage) (with_table c.tables t (with_toast (table_at c.tables t) toast)) (jobs.Writing t (write_after (parts_at c t) (write_at owner stage))) known restored
          (own_job c s t owner stage toast (ids_at (table_at c.tables t).toast c.ids stage) (with_table c.tables t (with_toast (table_at c.tables t) toast)) (write_after (parts_at c t) (write_at owner stage)) known restored
          (write_saved c.xacts c.snaps c.ids (ids_at (table_at c.tables t).toast c.ids stage) (held_by c.locks s) (table_at c.tables t) s t (seat_of c s).state c.log (log_at c.log owner stage) owner old new plan at save toast known.table running made.steps.drawn sound made.steps.left))
          (own_pins c.tables (with_table c.tables t (with_toast (table_at c.tables t) toast)) s t toast stage owner (jobs.Writing t (write_after (parts_at c t) (write_at owner stage))) restored (pins_of known) (λ leaf e. absurd (none_some leaf (sym free ∙ e))))
          (own_hands (table_at c.tables t).toast c.ids save save.stage s t (write_at owner stage) (write_after (parts_at c t) (write_at owner stage)) (own.table ∙ sound.own.of_table) (hands_of known));
    }
  where
    none_some : (leaf : Leaf) → None ≡ Some leaf → ⊥
    none_some leaf h = cc

    pins_of : StepKnown c s t owner (stages.Saving old new plan at save) toast → PinsAreSound c.tables s (jobs.Writing t (write_at owner (stages.Saving old new plan at save)))
    pins_of known = subst (λ (its : Job). PinsAreSound c.tables s its) known.job known.seat.pins

    hands_of : StepKnown c s t owner (stages.Saving old new plan at save) toast → HandsAreSound c.ids.in_hand s (jobs.Writing t (write_at owner (stages.Saving old new plan at save)))
    hands_of known = subst (λ (its : Job). HandsAreSound c.ids.in_hand s its) known.job known.seat.hands

    in_hand : (id : ℕ) (stage : Stage) → saves.StandsAt (table_at c.tables t).toast c.ids save stage → id_of stage ≡ Some id → save.table ≡ owner.table → save.session ≡ owner.session → owner.table ≡ t → owner.session ≡ s → Contains c.ids.in_hand (in_hand_for t s id)
    in_hand id Drawing stands e table session of_table mine = absurd (cc)
    in_hand id (Laying value_id pieces_at) stands e table session of_table mine =
        let is : value_id ≡ id = cc in
        subst (λ (n : ℕ). Contains c.ids.in_hand (in_hand_for t s n)) is (subst (λ (n : ℕ). Contains c.ids.in_hand (in_hand_for t n value_id)) (session ∙ mine) (subst (λ (n : ℕ). Contains c.ids.in_hand (in_hand_for n save.session value_id)) (table ∙ of_table) stands.in_hand))

-- ---- a step of a mark

-- the table after it
marked_table : (xacts : Xacts) (snaps : Snaps) (table : Table) (t xid : ℕ) (mark : Marking) → IsTable t xacts snaps table → IsStore table.toast → mark.xid ≡ xid → is_running xacts xid ≡ true → IsBatchHeld table.toast.index.entries mark.walk
    → AreEnded xacts snaps (holders_of table.rows.schema.storages table.rows.pages mark.walk.value_id) xid → IsTable t xacts snaps (with_toast table (store_marked table.toast mark))
marked_table xacts snaps table t xid mark is store mine running held ended =
    chunk_steps_keep.pinned t xacts snaps (with_toast table (ended_at table.toast mark.xid (entry_at mark.walk.stage))) (store_marked table.toast mark) refl (walk_event (ended_at table.toast mark.xid (entry_at mark.walk.stage)) mark.walk)
    (half (entry_at mark.walk.stage) (λ e at. let left = taken_left e mark.walk.stage at in (held.stands e left, (held.of_walk e left).of_value)))
  where
    half : (o : Option Entry) → ((e : Entry) → o ≡ Some e → Contains table.toast.index.entries e × (e.value_id ≡ mark.walk.value_id)) → IsTable t xacts snaps (with_toast table (ended_at table.toast mark.xid o))
    half None named = is
    half (Some e) named = by (is_some (item_in table.toast.rel.pages e.tid))
      where
        by : (b : Bool) → IsTable t xacts snaps (with_toast table (record table.toast { rel = record table.toast.rel { pages = cond b (with_ended mark.xid table.toast.rel.pages e.tid) table.toast.rel.pages } }))
        by true =
            let own = named e refl in
            chunk_steps_keep.ended t xacts snaps table (record table.toast { rel = record table.toast.rel { pages = with_ended mark.xid table.toast.rel.pages e.tid } }) e.tid mark.xid store refl (ap (is_running xacts) mine ∙ running)
            (λ chunk there. subst (λ (n : ℕ). AreEnded xacts snaps (holders_of table.rows.schema.storages table.rows.pages n) mark.xid) (sym (id_named table.toast e chunk store own.0 there ∙ own.1))
            (subst (λ (n : ℕ). AreEnded xacts snaps (holders_of table.rows.schema.storages table.rows.pages mark.walk.value_id) n) (sym mine) ended))
            (record { pages = refl; entries = refl }) is
        by false = is

-- what a mark's step is told by
pub record MarkKnown (c : CoreState) (s t : ℕ) (owner : Owner) (dropped : List Pointer) (at : ℕ) (mark : Marking) (toast : Store) : Type 0 where
  pub step : StepKnown c s t owner (stages.Marking dropped at mark) toast
  pub stands : write_standing.StandsMarking (table_at c.tables t).toast owner mark
  pub one : MarksOne c.xacts c.snaps (table_at c.tables t) owner.xid mark.walk.value_id
  pub left : toast ≡ store_marked (table_at c.tables t).toast mark
  pub table : IsTable t c.xacts c.snaps (with_toast (table_at c.tables t) toast)
  pub leaves : StepLeaves (Some mark.walk.value_id) None s (table_at c.tables t).toast toast
  pub restored : Restored c.tables (with_table c.tables t (with_toast (table_at c.tables t) toast)) t toast
  pub pin : (leaf : Leaf) → pin_of toast.index.pins s ≡ Some leaf → has_batch (Walking.stage (Marking.walk (mark_after (parts_at c t) mark))) ≡ true

pub mark_known : (c : CoreState) (s t : ℕ) (owner : Owner) (dropped : List Pointer) (at : ℕ) (mark : Marking) (toast : Store) → IsWriteMade c s t (write_at owner (stages.Marking dropped at mark)) toast → MarkKnown c s t owner dropped at mark toast
mark_known c s t owner dropped at mark toast made =
    let known = step_known c s t owner (stages.Marking dropped at mark) toast made in
    let sound = known.write in
    let stands : write_standing.StandsMarking (table_at c.tables t).toast owner mark = sound.stands c.log in
    let one = marks_one c.xacts c.snaps c.ids (held_by c.locks s) (table_at c.tables t) s t (seat_of c s).state owner (stages.Marking dropped at mark) mark.walk.value_id refl sound in
    let session : mark.walk.session ≡ s = stands.session ∙ sound.own.session in
    let is : toast ≡ store_marked (table_at c.tables t).toast mark = made.steps.toast in
    let ended = subst (λ (n : ℕ). AreEnded c.xacts c.snaps (holders_of (table_at c.tables t).rows.schema.storages (table_at c.tables t).rows.pages n) owner.xid) one.is one.dropping.ended in
    record {
      step = known;
      stands = stands;
      one = one;
      left = is;
      table = subst (λ (store : Store). IsTable t c.xacts c.snaps (with_toast (table_at c.tables t) store)) (sym is) (marked_table c.xacts c.snaps (table_at c.tables t) t owner.xid mark known.table known.old sound.own.mark.0 (ap is_some known.runs) stands.batch ended);
      leaves = subst (λ (store : Store). StepLeaves (Some mark.walk.value_id) None s (table_at c.tables t).toast store) (sym is)
          (subst (λ (n : ℕ). StepLeaves (Some mark.walk.value_id) None n (table_at c.tables t).toast (store_marked (table_at c.tables t).toast mark)) session (mark_leaves (table_at c.tables t).toast mark known.old stands.can stands.batch));
      restored = restored_set c.tables t toast known.works.of_table;
      pin = λ leaf e. walk_pin (table_at c.tables t).toast.index mark.walk leaf known.old.index.bounds_sorted stands.can sound.own.stage.walk
          (subst (λ (n : ℕ). pin_of (Index.pins (index_walked (table_at c.tables t).toast.index mark.walk)) n ≡ Some leaf) (sym session) (subst (λ (store : Store). pin_of store.index.pins s ≡ Some leaf) is e));
    }

-- a walk with entries of a batch to take has not ended
batch_goes : (stage : WalkStage) → has_batch stage ≡ true → is_over stage ≡ false
batch_goes walks.Empty e = refl
batch_goes (walks.Asking after) e = refl
batch_goes (walks.Reading batch at) e = refl
batch_goes walks.Over e = absurd (cc)

-- so where the session has a pin, the mark goes on
goes_batch : (owner : Owner) (dropped : List Pointer) (at : ℕ) (mark : Marking) → has_batch (Walking.stage (Marking.walk mark)) ≡ true → write_has_batch (marked_on owner dropped at mark) ≡ true
goes_batch owner dropped at mark e = rw (batch_goes (Walking.stage (Marking.walk mark)) e) e

over_none : (owner : Owner) (dropped : List Pointer) (at : ℕ) (mark : Marking) → answer_at (marked_on owner dropped at mark) ≡ writes.Done → has_batch (Walking.stage (Marking.walk mark)) ≡ true → ⊥
over_none owner dropped at mark done e = absurd (more (rw (batch_goes (Walking.stage (Marking.walk mark)) e) at done))
  where
    more : writes.More ≡ writes.Done → ⊥
    more h = cc

pub marking_taken : (c : CoreState) (s t : ℕ) (owner : Owner) (dropped : List Pointer) (at : ℕ) (mark : Marking) (toast : Store) → answer_at (stage_after (parts_at c t) owner (stages.Marking dropped at mark)) ≡ writes.More → IsWriteMade c s t (write_at owner (stages.Marking dropped at mark)) toast
    → StepTaken c s t c.ids c.log (with_table c.tables t (with_toast (table_at c.tables t) toast)) toast (jobs.Writing t (write_after (parts_at c t) (write_at owner (stages.Marking dropped at mark)))) (Some mark.walk.value_id) None
marking_taken c s t owner dropped at mark toast goes made =
    let stage = stages.Marking dropped at mark in
    let its = mark_known c s t owner dropped at mark toast made in
    let known = its.step in
    record {
      session = known.session;
      sound = known.sound;
      there = known.works.of_table;
      restored = its.restored;
      table = its.table;
      leaves = its.leaves;
      unheld = λ id e. absurd (none_is id e);
      apart = marks_apart c s t mark.walk.value_id owner.xid known.runs its.one known.sound;
      hands = λ other differ. record { kept = λ one mine e. e; back = λ one mine e. e };
      in_hand = known.sound.hands;
      logged = inl refl;
      snapshot = sym (ap job_snapshot known.job);
      here = own_seat c s t owner stage toast c.ids (with_table c.tables t (with_toast (table_at c.tables t) toast)) (jobs.Writing t (write_after (parts_at c t) (write_at owner stage))) known its.restored
          (own_job c s t owner stage toast c.ids (with_table c.tables t (with_toast (table_at c.tables t) toast)) (write_after (parts_at c t) (write_at owner stage)) known its.restored
          (write_marked c.xacts c.snaps c.ids (held_by c.locks s) (table_at c.tables t) s t (seat_of c s).state c.log c.log owner dropped at mark toast known.write goes made.steps.left))
          (own_pins c.tables (with_table c.tables t (with_toast (table_at c.tables t) toast)) s t toast stage owner (jobs.Writing t (write_after (parts_at c t) (write_at owner stage))) its.restored (subst (λ (job : Job). PinsAreSound c.tables s job) known.job known.seat.pins)
          (λ leaf e. (refl, goes_batch owner dropped at (mark_after (parts_at c t) mark) (its.pin leaf e))))
          (record { each = (subst (λ (job : Job). HandsAreSound c.ids.in_hand s job) known.job known.seat.hands).each });
    }
  where
    none_is : (id : ℕ) → None ≡ Some id → ⊥
    none_is id h = cc

-- a session that has given up its ids has none in hand
released_own : (ids : Pool) (s : ℕ) → HandsAreSound (ids_released ids s).in_hand s jobs.Idle
released_own ids s = record { each = λ one e f. clash one (filter_holds (λ (held : InHand). not (held.session == s)) ids.in_hand one e).1 f }
  where
    clash : (one : InHand) → not (one.session == s) ≡ true → one.session ≡ s → ⊥
    clash one e f =
        let same : (one.session == s) ≡ true = grind (arith, nat_tests, f) in
        let other : not (one.session == s) ≡ false = ap not same in
        absurd (cc)

released_once : (ids : Pool) (s : ℕ) → AreInHand ids.in_hand → AreInHand (ids_released ids s).in_hand
released_once ids s old = record {
  once = λ a b e f. old.once a b (filter_holds (λ (held : InHand). not (held.session == s)) ids.in_hand a e).0 (filter_holds (λ (held : InHand). not (held.session == s)) ids.in_hand b f).0;
}

-- the last one
pub last_taken : (c : CoreState) (s t : ℕ) (owner : Owner) (dropped : List Pointer) (at : ℕ) (mark : Marking) (toast : Store) → answer_at (stage_after (parts_at c t) owner (stages.Marking dropped at mark)) ≡ writes.Done → IsWriteMade c s t (write_at owner (stages.Marking dropped at mark)) toast
    → StepTaken c s t (ids_released c.ids s) c.log (with_table c.tables t (with_toast (table_at c.tables t) toast)) toast jobs.Idle (Some mark.walk.value_id) None
last_taken c s t owner dropped at mark toast done made =
    let stage = stages.Marking dropped at mark in
    let its = mark_known c s t owner dropped at mark toast made in
    let known = its.step in
    record {
      session = known.session;
      sound = known.sound;
      there = known.works.of_table;
      restored = its.restored;
      table = its.table;
      leaves = its.leaves;
      unheld = λ id e. absurd (none_is id e);
      apart = marks_apart c s t mark.walk.value_id owner.xid known.runs its.one known.sound;
      hands = λ other differ. same_released c.ids s other differ;
      in_hand = released_once c.ids s known.sound.hands;
      logged = inl refl;
      snapshot = sym (ap job_snapshot known.job);
      here = own_seat c s t owner stage toast (ids_released c.ids s) (with_table c.tables t (with_toast (table_at c.tables t) toast)) jobs.Idle known its.restored tt
          (own_pins c.tables (with_table c.tables t (with_toast (table_at c.tables t) toast)) s t toast stage owner jobs.Idle its.restored (subst (λ (job : Job). PinsAreSound c.tables s job) known.job known.seat.pins)
          (λ leaf e. over_none owner dropped at (mark_after (parts_at c t) mark) done (its.pin leaf e)))
          (released_own c.ids s);
    }
  where
    none_is : (id : ℕ) → None ≡ Some id → ⊥
    none_is id h = cc
