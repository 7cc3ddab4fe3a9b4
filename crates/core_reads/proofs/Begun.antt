-- A core in which a read has begun of a row that the session sees is sound: the row's values are kept by the snapshot that the session has, or takes for the read.
use Rattle.std.proofs.Common.{ap, refl, subst}
use Rattle.std.specs.Prelude.{Bool, Contains, List, None, Option, Some, false, if◌then◌else◌, is_some, map, option_to_list, true, ℕ, ℤ, ◌-◌, ◌∷◌, ◌≡◌}
use Rattle.list_facts.proofs.Members.{first_in}
use Rattle.tuple_layout.specs.declared.cell.Cell.{Cell}
use Rattle.xact_status.specs.Xacts.{Xacts, session_at}
use Rattle.snapshot_registry.specs.Snapshots.{Snaps, after_take, held_at, is_registered, least_free, snapshot_now}
use Rattle.snapshot_registry.specs.declared.Held.{Held}
use Rattle.value_holders.specs.Stamps.{Runs}
use Rattle.chunk_index.specs.Leaves.{Leaf}
use Rattle.chunk_index.specs.Pinned.{pin_of}
use Rattle.lock_table.specs.Locks.{held_by}
use Rattle.toast_store.specs.Stores.{Store}
use Rattle.command_set.specs.declared.Command.{Command}
use Rattle.command_set.specs.declared.Reply.{Reply}
use Rattle.table_state.specs.Tables.{IsTable}
use Rattle.table_state.specs.declared.table.Table.{Table}
use Rattle.read_steps.specs.Reads.{Reading, reply_of}
use Rattle.read_steps.specs.declared.stage.ReadStage.{ReadStage}
use Rattle.write_steps.specs.declared.stage.OldRow.{OldRow}
use Rattle.core_state.proofs.Below.{below}
use Rattle.core_state.proofs.Lists.{in_append_right}
use Rattle.core_state.proofs.Moved.{state_uses}
use Rattle.core_state.proofs.Seats.{seat_there, sound_of}
use Rattle.core_state.proofs.Uses.{registered_use}
use Rattle.core_state.specs.Facts.{IsSound, MayPin, ReadIsSound, Uses, WorksOn, ids_in, ids_to_read}
use Rattle.core_state.specs.Lines.{seated}
use Rattle.core_state.specs.State.{CoreState, IsSession, IsTableOf, is_open, is_repeatable, seat_of, snapshot_of, table_at, uses_of, xid_of}
use Rattle.core_state.specs.Views.{row_seen}
use Rattle.core_state.specs.declared.seat.Handle.{Handle}
use Rattle.core_state.specs.declared.seat.Job.{Job}
use Rattle.core_state.specs.declared.seat.Seat.{Seat}
use Rattle.core_looks.proofs.Sights.{table_sound}
use Rattle.core_reads.proofs.Begins.{held_new_id, sound_goes, sound_takes}
use Rattle.core_reads.proofs.Fresh.{IsNew, fresh_sound}
use Rattle.core_reads.proofs.Reading.{with_job}
use Rattle.core_reads.proofs.Replies.{AreWhole}
use Rattle.core_reads.proofs.Seen.{SeenBy, seen_by_new, seen_by_own, seen_kept, seen_whole}
use Rattle.core_state.specs.declared.seat.Job.TheVariants as jobs

-- the transaction of a session runs, if it has an xid
pub runs_of : (xacts : Xacts) (s : ℕ) (o : Option ℕ) → ((x : ℕ) → o ≡ Some x → session_at xacts x ≡ Some s) → Runs xacts o
runs_of xacts s None runs = tt
runs_of xacts s (Some x) runs = ap is_some (runs x refl)

-- a session whose command has not passed its moment has no pin
pub no_pin : (u : CoreState) (s t : ℕ) (command : Command) → IsSession u.seats s → (seat_of u s).job ≡ jobs.Submitted command → IsSound u → pin_of (table_at u.tables t).toast.index.pins s ≡ None
no_pin u s t command there is sound = by (pin_of (table_at u.tables t).toast.index.pins s) refl
  where
    by : (o : Option Leaf) → pin_of (table_at u.tables t).toast.index.pins s ≡ o → o ≡ None
    by None e = refl
    by (Some leaf) e = absurd (subst (MayPin t) is ((sound_of u s there sound).pins.each t leaf e))

-- a read of what the session sees
pub record IsReadOf (stage : ReadStage) (cells : List Cell) (toast : Store) (s : ℕ) (reply : Reply) : Type 0 where
  pub new : IsNew stage
  pub ids : (value_id : ℕ) → Contains (ids_to_read stage) value_id → Contains (ids_in cells) value_id
  pub comes : AreWhole toast cells → reply_of toast (record { session = s; stage = stage }) ≡ Some reply

pub read_begun : (xacts : Xacts) (snaps : Snaps) (table : Table) (t s : ℕ) (seat : Seat) (stage : ReadStage) (cells : List Cell) (reply : Reply) → pin_of table.toast.index.pins s ≡ None → IsReadOf stage cells table.toast s reply
    → IsTable t xacts snaps table → Runs xacts (xid_of seat.state) → SeenBy xacts snaps table (uses_of seat) (xid_of seat.state) cells → ReadIsSound xacts snaps table s seat (record { session = s; stage = stage })
read_begun xacts snaps table t s seat stage cells reply free reads is runs seen =
    fresh_sound xacts snaps table s seat stage reply free reads.new (reads.comes (seen_whole t xacts snaps table (uses_of seat) (xid_of seat.state) cells is runs seen))
    (λ value_id e. seen_kept xacts snaps table (uses_of seat) (xid_of seat.state) cells seen value_id (reads.ids value_id e))

-- the core then
abbrev pub reading_from : CoreState → ℕ → ℕ → Reading → CoreState
reading_from u s t read =
    if is_repeatable (seat_of u s).state
    then seated u s (with_job u s (jobs.Reading t None read))
    else seated (record u { snaps = after_take u.snaps u.xacts }) s (with_job u s (jobs.Reading t (Some (least_free u.snaps)) read))

some_held : (snaps : Snaps) (id : ℕ) → is_registered snaps id ≡ true → (held : Held) × (held_at snaps id ≡ Some held)
some_held snaps id e = by (held_at snaps id) refl e
  where
    by : (o : Option Held) → held_at snaps id ≡ o → is_some o ≡ true → (held : Held) × (held_at snaps id ≡ Some held)
    by None f g = absurd (cc)
    by (Some held) f g = (held, f)

-- what a read in a transaction of its level needs of the row: the version is seen by the snapshot that the read's session uses then
pub record Begins (u : CoreState) (s t : ℕ) (command : Command) (key : ℤ) (old : OldRow) : Type 0 where
  pub there : IsSession u.seats s
  pub is : (seat_of u s).job ≡ jobs.Submitted command
  pub inside : is_open (seat_of u s).state ≡ true
  pub of_table : IsTableOf u.tables t
  pub used : Uses (held_by u.locks s) t
  pub found : row_seen u s t key ≡ Some old
  pub copied : is_repeatable (seat_of u s).state ≡ true → (id : ℕ) × (snapshot_of (seat_of u s).state ≡ Some id)

-- by a snapshot that the transaction has
pub seen_repeatably : (u : CoreState) (s t : ℕ) (command : Command) (key : ℤ) (old : OldRow) (id : ℕ) (uses : List ℕ) → Begins u s t command key old → IsSound u → snapshot_of (seat_of u s).state ≡ Some id → Contains uses id
    → SeenBy u.xacts u.snaps (table_at u.tables t) uses (xid_of (seat_of u s).state) old.stored.cells
seen_repeatably u s t command key old id uses begins sound mine used =
    let its = some_held u.snaps id (registered_use u (s - 1) (seat_of u s) id (seat_there u.seats s begins.there) (state_uses (seat_of u s) id mine) sound) in
    seen_by_own u.xacts u.snaps (table_at u.tables t) (seat_of u s).state uses key old id its.0 mine its.1 used begins.found

-- or by one that is taken for the read; a transaction that reads committed rows has none
pub no_copy : (u : CoreState) (s : ℕ) → IsSession u.seats s → IsSound u → is_repeatable (seat_of u s).state ≡ false → snapshot_of (seat_of u s).state ≡ None
no_copy u s there sound e = by (snapshot_of (seat_of u s).state) refl
  where
    by : (o : Option ℕ) → snapshot_of (seat_of u s).state ≡ o → o ≡ None
    by None f = refl
    by (Some id) f =
        let repeats = (sound_of u s there sound).view.level id f in
        absurd (cc)

pub seen_anew : (u : CoreState) (s t : ℕ) (command : Command) (key : ℤ) (old : OldRow) (uses : List ℕ) → Begins u s t command key old → snapshot_of (seat_of u s).state ≡ None → Contains uses (least_free u.snaps)
    → SeenBy u.xacts (after_take u.snaps u.xacts) (table_at u.tables t) uses (xid_of (seat_of u s).state) old.stored.cells
seen_anew u s t command key old uses begins none used =
    seen_by_new u.xacts u.snaps (after_take u.snaps u.xacts) (table_at u.tables t) (seat_of u s).state uses key old (least_free u.snaps) (record { snapshot = snapshot_now u.xacts; holders = 1 }) none (held_new_id u.snaps u.xacts) refl used begins.found

-- the core with a read that has begun
pub sound_begun : (u : CoreState) (s t : ℕ) (command : Command) (key : ℤ) (old : OldRow) (stage : ReadStage) (cells : List Cell) (reply : Reply) → Begins u s t command key old → IsReadOf stage cells (table_at u.tables t).toast s reply
    → ((snaps : Snaps) (uses : List ℕ) (own : Option ℕ) → SeenBy u.xacts snaps (table_at u.tables t) uses own old.stored.cells → SeenBy u.xacts snaps (table_at u.tables t) uses own cells) → IsSound u
    → IsSound (reading_from u s t (record { session = s; stage = stage }))
sound_begun u s t command key old stage cells reply begins reads part sound = by (is_repeatable (seat_of u s).state) refl
  where
    read : Reading
    read = record { session = s; stage = stage }

    works : WorksOn (held_by u.locks s) u.tables t (seat_of u s).state
    works = record { of_table = begins.of_table; inside = begins.inside; used = begins.used }

    runs : Runs u.xacts (xid_of (seat_of u s).state)
    runs = runs_of u.xacts s (xid_of (seat_of u s).state) (sound_of u s begins.there sound).runs

    free : pin_of (table_at u.tables t).toast.index.pins s ≡ None
    free = no_pin u s t command begins.there begins.is sound

    taking : Job
    taking = jobs.Reading t (Some (least_free u.snaps)) (record { session = s; stage = stage })

    used : Contains (uses_of (with_job u s (jobs.Reading t (Some (least_free u.snaps)) (record { session = s; stage = stage })))) (least_free u.snaps)
    used =
        in_append_right (option_to_list (snapshot_of (seat_of u s).state)) (least_free u.snaps ∷ map (λ (handle : Handle). handle.snapshot) (seat_of u s).handles) (least_free u.snaps)
        (first_in (least_free u.snaps) (map (λ (handle : Handle). handle.snapshot) (seat_of u s).handles) (least_free u.snaps) refl)

    by : (b : Bool) → is_repeatable (seat_of u s).state ≡ b
        → IsSound (if b then seated u s (with_job u s (jobs.Reading t None read)) else seated (record u { snaps = after_take u.snaps u.xacts }) s (with_job u s (jobs.Reading t (Some (least_free u.snaps)) read)))
    by true e =
        let mine = begins.copied e in
        let seen = part u.snaps (uses_of (with_job u s (jobs.Reading t None read))) (xid_of (seat_of u s).state)
        (seen_repeatably u s t command key old mine.0 (uses_of (with_job u s (jobs.Reading t None read))) begins sound mine.1 (state_uses (with_job u s (jobs.Reading t None read)) mine.0 mine.1)) in
        sound_goes u s command (jobs.Reading t None read) begins.there begins.is refl
        (works, read_begun u.xacts u.snaps (table_at u.tables t) t s (with_job u s (jobs.Reading t None read)) stage cells reply free reads (table_sound u t begins.of_table sound) runs seen) sound
    by false e =
        let seen = part (after_take u.snaps u.xacts) (uses_of (with_job u s taking)) (xid_of (seat_of u s).state) (seen_anew u s t command key old (uses_of (with_job u s taking)) begins (no_copy u s begins.there sound e) used) in
        let table = below.moments.taken t u.xacts u.snaps (table_at u.tables t) (table_sound u t begins.of_table sound) in
        sound_takes u s command taking begins.there begins.is refl (works, read_begun u.xacts (after_take u.snaps u.xacts) (table_at u.tables t) t s (with_job u s taking) stage cells reply free reads table runs seen) sound
