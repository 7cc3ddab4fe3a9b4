-- The ids in use and the draws that are owed after a later step of a command: of a read, and of a write.
use Rattle.std.proofs.Common.{ap, arith, inl, inr, refl, subst, sym, ◌∙◌}
use Rattle.std.proofs.lemmas.Bool.Decides.{nat_tests}
use Rattle.std.specs.Prelude.{Bool, Contains, List, None, Option, Some, [], count_by, false, if◌then◌else◌, length, slice_get, slice_index_or, suc, true, zero, ℕ, ◌&&◌, ◌+◌, ◌-◌, ◌<◌, ◌==◌, ◌∷◌, ◌≡◌, ◌≢◌, ◌≤◌, ◌⊎◌}
use Rattle.list_facts.proofs.Members.{first_in, later_in}
use Rattle.value_ids.proofs.Drawn.{held_after, ids_in, none_free}
use Rattle.value_ids.specs.Ids.{IsPool, Pool, first_free_id, id_count, ids_from, is_held}
use Rattle.value_ids.specs.declared.fault.DrawFault.TheVariants.{Memory, NoValueId}
use Rattle.lock_table.specs.Locks.{held_by}
use Rattle.toast_store.proofs.Walked.{entries_walked}
use Rattle.toast_store.specs.Fetches.{Fetching}
use Rattle.toast_store.specs.Saves.{Drawing, Laying, Saving, Stage, drawn_id}
use Rattle.toast_store.specs.Stores.{IsStore, Store, is_used}
use Rattle.table_state.specs.declared.table.Table.{Table}
use Rattle.read_steps.specs.Reads.{Reading, fetch_due, store_fetched, store_read}
use Rattle.read_steps.specs.declared.stage.ReadStep.{ReadStep}
use Rattle.write_steps.specs.Steps.{IsWriteCause}
use Rattle.write_steps.specs.Writes.{IsToastAt, Writing, parts_of, stage_after, write_after}
use Rattle.write_steps.specs.declared.stage.Owner.{Owner}
use Rattle.write_steps.specs.declared.stage.WriteStage.{WriteStage}
use Rattle.write_steps.specs.declared.stage.WriteStep.{WriteStep}
use Rattle.core_state.proofs.Lists.{read_other, read_there, read_written}
use Rattle.core_state.proofs.Seats.{seat_written, sound_of}
use Rattle.core_state.specs.Events.{IsDrawRefused, IsWriteOn, read_on_by, read_told, write_on_by, write_told}
use Rattle.core_state.specs.Facts.{IsSound, JobIsSound, PartsAreSound, WorksOn, WriteIsSound}
use Rattle.core_state.specs.Lines.{after_read_last, after_read_step, after_write_last, after_write_parts, after_write_step, ids_released, parts_at, with_table}
use Rattle.core_state.specs.Moves.{OthersStay}
use Rattle.core_state.specs.State.{CoreState, IsSession, IsTableOf, no_table, seat_of, table_at}
use Rattle.core_state.specs.declared.advance.Advance.{Advance}
use Rattle.core_state.specs.declared.seat.Job.{Job}
use Rattle.core_state.specs.declared.seat.Seat.{Seat}
use Rattle.core_draws.proofs.Counts.{count_all, count_most, count_one_more}
use Rattle.core_draws.proofs.Lines.{UsesLeft, most_by, same_ids, used_most}
use Rattle.core_draws.proofs.Owed.{draws_made, made_by, owed_falls}
use Rattle.core_draws.proofs.Uses.{held_in_use, held_there, in_use_cases, laid_before, marked_before, released_before, used_in_use, used_same}
use Rattle.core_draws.specs.Draws.{draws_left, draws_of, ids_used, in_use_for}
use Rattle.core_draws.specs.Laws.{DrawsMost, SameRange}
use Rattle.core_state.specs.declared.seat.Job.TheVariants as jobs
use Rattle.read_steps.specs.declared.stage.ReadStep.TheVariants as reads
use Rattle.toast_store.specs.Saves as saves
use Rattle.write_steps.specs.Standing as write_standing
use Rattle.write_steps.specs.declared.stage.WriteStage.TheVariants as stages
use Rattle.write_steps.specs.declared.stage.WriteStep.TheVariants as writes

-- ---- a table in place of what it was

table_is : (tables : List Table) (t : ℕ) (table : Table) → IsTableOf tables t → table_at (with_table tables t table) t ≡ table
table_is tables zero table there =
    let low = there.from_one in
    absurd (omega (arith, low))
table_is tables (suc i) table there =
    let within = there.within in
    let place : suc i - 1 ≡ i = omega arith in
    let low : i < length tables = omega (arith, within) in
    rw place (read_written tables i table no_table low)

table_other : (tables : List Table) (t n : ℕ) (table : Table) → 1 ≤ t → n ≢ t → table_at (with_table tables t table) n ≡ table_at tables n
table_other tables t zero table low differ = refl
table_other tables zero (suc k) table low differ = absurd (omega (arith, low))
table_other tables (suc i) (suc k) table low differ =
    let place : suc i - 1 ≡ i = omega arith in
    rw place (read_other tables i k table no_table (λ e. differ (ap suc e)))

-- what is used in a table is what is used in its store
used_at : (tables : List Table) (t n id : ℕ) (table : Table) → IsTableOf tables t → (n ≡ t → is_used table.toast id ≡ true → is_used (table_at tables n).toast id ≡ true) → is_used (table_at (with_table tables t table) n).toast id ≡ true → is_used (table_at tables n).toast id ≡ true
used_at tables t n id table there here = by (n == t) refl
  where
    by : (b : Bool) → (n == t) ≡ b → is_used (table_at (with_table tables t table) n).toast id ≡ true → is_used (table_at tables n).toast id ≡ true
    by true same e =
        let is : n ≡ t = grind (arith, nat_tests, same) in
        here is (subst (λ (its : Table). is_used its.toast id ≡ true) (ap (table_at (with_table tables t table)) is ∙ table_is tables t table there) e)
    by false apart e =
        let differ : n ≢ t = grind (arith, nat_tests, apart) in
        subst (λ (its : Table). is_used its.toast id ≡ true) (table_other tables t n table there.from_one differ) e

-- a table that is there is among them
table_among : (tables : List Table) (t : ℕ) → IsTableOf tables t → Contains tables (table_at tables t)
table_among tables zero there =
    let low = there.from_one in
    absurd (omega (arith, low))
table_among tables (suc i) there =
    let within = there.within in
    found_at tables i (slice_index_or tables i no_table) (read_there tables i no_table (omega (arith, within)))
  where
    found_at : (its : List Table) (k : ℕ) (table : Table) → slice_get its k ≡ Some table → Contains its table
    found_at [] k table e = absurd (cc)
    found_at (was ∷ its) zero table e = first_in was its table (same e)
      where
        same : Some was ≡ Some table → was ≡ table
        same f = cc
    found_at (was ∷ its) (suc k) table e = later_in was its table (found_at its k table e)

-- ---- a read

fetched_before : (store : Store) (o : Option Fetching) (id : ℕ) → is_used (store_fetched store o) id ≡ true → is_used store id ≡ true
fetched_before store None id e = e
fetched_before store (Some fetch) id e = used_same store (store_fetched store (Some fetch)) id refl (entries_walked store.index fetch.walk) e

uses_read : (c v : CoreState) (t n : ℕ) (read : Reading) → IsTableOf c.tables t → v.ids ≡ c.ids → v.tables ≡ with_table c.tables t (record (table_at c.tables t) { toast = store_read (table_at c.tables t).toast read }) → UsesLeft c v n
uses_read c v t n read there ids tables = record {
  store = λ id e. used_at c.tables t n id _ there (λ is h. subst (λ (k : ℕ). is_used (table_at c.tables k).toast id ≡ true) (sym is) (fetched_before (table_at c.tables t).toast (fetch_due read) id h))
      (subst (λ (its : List Table). is_used (table_at its n).toast id ≡ true) tables e);
  hands = λ id e. subst (λ (its : Pool). is_held its.in_hand n id ≡ true) ids e;
  range = record { low = ap (λ (its : Pool). its.low) ids; high = ap (λ (its : Pool). its.high) ids };
}

pub read_most : (c new : CoreState) (s t n : ℕ) (snapshot : Option ℕ) (read : Reading) → IsSession c.seats s → IsTableOf c.tables t → OthersStay c s new → new ≡ read_on_by c s t snapshot read (read_told c t read) → DrawsMost c new n 0
read_most c new s t n snapshot read there works others is = subst (λ (v : CoreState). OthersStay c s v → DrawsMost c v n 0) (sym is) (by (read_told c t read)) others
  where
    done : (v : CoreState) → OthersStay c s v → UsesLeft c v n → draws_of n (seat_of v s).job ≡ 0 → DrawsMost c v n 0
    done v stay left none =
        let used = used_most c v n left in
        most_by c v s n 0 there stay left.range (omega (arith, used, none))

    by : (step : ReadStep) → OthersStay c s (read_on_by c s t snapshot read step) → DrawsMost c (read_on_by c s t snapshot read step) n 0
    by reads.More stay = done (after_read_step c s t snapshot read) stay (uses_read c (after_read_step c s t snapshot read) t n read works refl refl) (ap (λ (seat : Seat). draws_of n seat.job) (seat_written c.seats s _ there))
    by (reads.Done reply) stay = done (after_read_last c s t snapshot read) stay (uses_read c (after_read_last c s t snapshot read) t n read works refl refl) (ap (λ (seat : Seat). draws_of n seat.job) (seat_written c.seats s _ there))

-- ---- a write

abbrev write_at : Owner → WriteStage → Writing
write_at owner stage = record { owner = owner; stage = stage }

-- a session's write at a stage, in a sound core
pub record IsWriteAt (c : CoreState) (s t : ℕ) (owner : Owner) (stage : WriteStage) : Type 0 where
  pub works : WorksOn (held_by c.locks s) c.tables t (seat_of c s).state
  pub write : WriteIsSound c.xacts c.snaps c.ids (held_by c.locks s) (table_at c.tables t) s t (seat_of c s).state (write_at owner stage)
  pub store : IsStore (table_at c.tables t).toast

-- the id that a save works under is in hand; a step makes none used but that
saved_uses : (c : CoreState) (t : ℕ) (toast : Store) (save : Saving) (stage : Stage) (id : ℕ) → IsStore (table_at c.tables t).toast → saves.StandsAt (table_at c.tables t).toast c.ids save stage → save.table ≡ t
    → toast.rel ≡ saves.rel_after (table_at c.tables t).toast.rel save stage → saves.IsIndexAfter stage (table_at c.tables t).toast.index toast.index → is_used toast id ≡ true → in_use_for c t id ≡ true
saved_uses c t toast save Drawing id is stands of_table rel index e = used_in_use (is_used (table_at c.tables t).toast id) (is_held c.ids.in_hand t id) (used_same (table_at c.tables t).toast toast id rel (ap (λ i. i.entries) index) e)
saved_uses c t toast save (Laying value_id at) id is stands of_table rel index e = by (value_id == id) refl
  where
    by : (b : Bool) → (value_id == id) ≡ b → in_use_for c t id ≡ true
    by true same =
        let here : value_id ≡ id = grind (arith, nat_tests, same) in
        held_in_use (is_used (table_at c.tables t).toast id) (is_held c.ids.in_hand t id)
        (subst (λ (n : ℕ). is_held c.ids.in_hand n id ≡ true) of_table (subst (λ (n : ℕ). is_held c.ids.in_hand save.table n ≡ true) here (held_there c.ids.in_hand (saves.held_by save value_id) stands.in_hand)))
    by false apart =
        let differ : value_id ≢ id = grind (arith, nat_tests, apart) in
        used_in_use (is_used (table_at c.tables t).toast id) (is_held c.ids.in_hand t id) (laid_before (table_at c.tables t).toast toast (saves.pieces_of save value_id at) at id is stands.pieces rel index differ e)

-- what is in hand after a step of a save
saved_hands : (store : Store) (ids : Pool) (save : Saving) (stage : Stage) (n id : ℕ) → is_held (saves.ids_after store ids save stage).in_hand n id ≡ true → (is_held ids.in_hand n id ≡ true) ⊎ ((made_by stage ≡ 1) × (save.table ≡ n) × (id ≡ drawn_id store ids save))
saved_hands store ids save Drawing n id e = elim (in_use_cases (is_held ids.in_hand n id) ((save.table == n) && (drawn_id store ids save == id)) (sym (held_after ids.in_hand (saves.held_by save (drawn_id store ids save)) n id) ∙ e)) [
  | inl h ↦ inl h
  | inr h ↦ inr (refl, grind (arith, nat_tests, h), grind (arith, nat_tests, h))
]
saved_hands store ids save (Laying value_id at) n id e = inl e

-- what a step makes in use, if it draws, is the id that it draws
pub record StepUses (c : CoreState) (t n : ℕ) (owner : Owner) (stage : WriteStage) (toast : Store) : Type 0 where
  pub one : ℕ
  pub each : (id : ℕ) → in_use_for (after_write_parts c t (write_at owner stage) toast) n id ≡ true → (in_use_for c n id ≡ true) ⊎ ((draws_made stage ≡ 1) × (t ≡ n) × (id ≡ one))
  pub range : SameRange c.ids (after_write_parts c t (write_at owner stage) toast).ids

-- the ids in hand stay
kept_uses : (c : CoreState) (t n : ℕ) (owner : Owner) (stage : WriteStage) (toast : Store) → IsTableOf c.tables t → (after_write_parts c t (write_at owner stage) toast).ids ≡ c.ids → ((id : ℕ) → is_used toast id ≡ true → is_used (table_at c.tables t).toast id ≡ true)
    → StepUses c t n owner stage toast
kept_uses c t n owner stage toast there ids store =
    let v = after_write_parts c t (write_at owner stage) toast in
    record {
      one = 0;
      each = λ id e. inl (elim (in_use_cases (is_used (table_at v.tables n).toast id) (is_held v.ids.in_hand n id) e) [
        | inl h ↦ used_in_use (is_used (table_at c.tables n).toast id) (is_held c.ids.in_hand n id)
            (used_at c.tables t n id _ there (λ is f. subst (λ (k : ℕ). is_used (table_at c.tables k).toast id ≡ true) (sym is) (store id f)) h)
        | inr h ↦ held_in_use (is_used (table_at c.tables n).toast id) (is_held c.ids.in_hand n id) (subst (λ (its : Pool). is_held its.in_hand n id ≡ true) ids h)
      ]);
      range = record { low = ap (λ (its : Pool). its.low) ids; high = ap (λ (its : Pool). its.high) ids };
    }

same_store : (old new : Store) (id : ℕ) → new ≡ old → is_used new id ≡ true → is_used old id ≡ true
same_store old new id same e = subst (λ (store : Store). is_used store id ≡ true) same e

step_uses : (c : CoreState) (s t n : ℕ) (owner : Owner) (stage : WriteStage) (toast : Store) → IsWriteAt c s t owner stage → IsToastAt (table_at c.tables t).toast toast stage → StepUses c t n owner stage toast
step_uses c s t n owner (stages.Saving old new plan at save) toast is left =
    let stands : write_standing.StandsSaving (parts_of (table_at c.tables t).rows (table_at c.tables t).toast c.ids c.log) owner old new plan at save = is.write.stands c.log in
    let stage = stages.Saving old new plan at save in
    let v = after_write_parts c t (write_at owner stage) toast in
    let of_table = is.write.own.stage.own.table ∙ is.write.own.of_table in
    record {
      one = drawn_id (table_at c.tables t).toast c.ids save;
      each = λ id e. elim (in_use_cases (is_used (table_at v.tables n).toast id) (is_held v.ids.in_hand n id) e) [
        | inl h ↦ inl (by (n == t) refl id stands of_table h)
        | inr h ↦ elim (saved_hands (table_at c.tables t).toast c.ids save save.stage n id h) [
          | inl f ↦ inl (held_in_use (is_used (table_at c.tables n).toast id) (is_held c.ids.in_hand n id) f)
          | inr f ↦ inr (f.0, sym of_table ∙ f.1, f.2)
        ]
      ];
      range = kept save.stage;
    }
  where
    kept : (stage : Stage) → SameRange c.ids (saves.ids_after (table_at c.tables t).toast c.ids save stage)
    kept Drawing = record { low = refl; high = refl }
    kept (Laying value_id pieces_at) = record { low = refl; high = refl }

    by : (b : Bool) → (n == t) ≡ b → (id : ℕ) → write_standing.StandsSaving (parts_of (table_at c.tables t).rows (table_at c.tables t).toast c.ids c.log) owner old new plan at save → save.table ≡ t
        → is_used (table_at (after_write_parts c t (write_at owner (stages.Saving old new plan at save)) toast).tables n).toast id ≡ true → in_use_for c n id ≡ true
    by true same id stands of_table h =
        let here : n ≡ t = grind (arith, nat_tests, same) in
        let there : is_used toast id ≡ true = subst (λ (its : Table). is_used its.toast id ≡ true) (ap (table_at (after_write_parts c t (write_at owner (stages.Saving old new plan at save)) toast).tables) here ∙ table_is c.tables t _ is.works.of_table) h in
        subst (λ (k : ℕ). in_use_for c k id ≡ true) (sym here) (saved_uses c t toast save save.stage id is.store stands.stands of_table left.rel left.index there)
    by false apart id stands of_table h =
        let differ : n ≢ t = grind (arith, nat_tests, apart) in
        used_in_use (is_used (table_at c.tables n).toast id) (is_held c.ids.in_hand n id)
        (subst (λ (its : Table). is_used its.toast id ≡ true) (table_other c.tables t n _ is.works.of_table.from_one differ) h)
step_uses c s t n owner (stages.Put old new plan) toast is left = kept_uses c t n owner (stages.Put old new plan) toast is.works.of_table refl (λ id e. same_store (table_at c.tables t).toast toast id left e)
step_uses c s t n owner (stages.Remove old) toast is left = kept_uses c t n owner (stages.Remove old) toast is.works.of_table refl (λ id e. same_store (table_at c.tables t).toast toast id left e)
step_uses c s t n owner (stages.Marking dropped at mark) toast is left =
    kept_uses c t n owner (stages.Marking dropped at mark) toast is.works.of_table refl (λ id e. marked_before (table_at c.tables t).toast mark id (same_store _ toast id left e))
step_uses c s t n owner stages.Over toast is left = kept_uses c t n owner stages.Over toast is.works.of_table refl (λ id e. same_store (table_at c.tables t).toast toast id left e)

-- so at most one id more is used, and it is one that was owed
parts_used : (c : CoreState) (s t n : ℕ) (owner : Owner) (stage : WriteStage) (toast : Store) → IsWriteAt c s t owner stage → IsToastAt (table_at c.tables t).toast toast stage
    → ids_used (after_write_parts c t (write_at owner stage) toast) n + draws_of n (jobs.Writing t (write_after (parts_at c t) (write_at owner stage))) ≤ ids_used c n + draws_of n (jobs.Writing t (write_at owner stage))
parts_used c s t n owner stage toast is left =
    let uses = step_uses c s t n owner stage toast is left in
    let v = after_write_parts c t (write_at owner stage) toast in
    let owed = owed_falls (parts_at c t) owner stage is.write.own.stage in
    by (t == n) refl uses owed
  where
    ids : StepUses c t n owner stage toast → List ℕ
    ids uses = ids_from c.ids.low (id_count c.ids)

    none : StepUses c t n owner stage toast → ((id : ℕ) → in_use_for (after_write_parts c t (write_at owner stage) toast) n id ≡ true → in_use_for c n id ≡ true) → ids_used (after_write_parts c t (write_at owner stage) toast) n ≤ ids_used c n
    none uses each = subst (λ (ids : List ℕ). count_by (in_use_for (after_write_parts c t (write_at owner stage) toast) n) ids ≤ ids_used c n) (sym (same_ids c (after_write_parts c t (write_at owner stage) toast) uses.range))
        (count_most (in_use_for (after_write_parts c t (write_at owner stage) toast) n) (in_use_for c n) (ids_from c.ids.low (id_count c.ids)) (λ id e. each id))

    some : StepUses c t n owner stage toast → ids_used (after_write_parts c t (write_at owner stage) toast) n ≤ ids_used c n + 1
    some uses = subst (λ (ids : List ℕ). count_by (in_use_for (after_write_parts c t (write_at owner stage) toast) n) ids ≤ ids_used c n + 1) (sym (same_ids c (after_write_parts c t (write_at owner stage) toast) uses.range))
        (count_one_more (in_use_for (after_write_parts c t (write_at owner stage) toast) n) (in_use_for c n) uses.one c.ids.low (id_count c.ids) (λ id e. elim (uses.each id e) [ inl h ↦ inl h | inr h ↦ inr h.2 ]))

    draws : (k : ℕ) → draws_made stage ≡ k → StepUses c t n owner stage toast → ids_used (after_write_parts c t (write_at owner stage) toast) n ≤ ids_used c n + draws_made stage
    draws zero e uses =
        let most = none uses (λ id f. elim (uses.each id f) [ inl h ↦ h | inr h ↦ absurd (omega (arith, e, h.0)) ]) in
        omega (arith, most)
    draws (suc k) e uses =
        let most = some uses in
        omega (arith, most, e)

    by : (b : Bool) → (t == n) ≡ b → StepUses c t n owner stage toast → draws_left (stage_after (parts_at c t) owner stage) + draws_made stage ≤ draws_left stage
        → ids_used (after_write_parts c t (write_at owner stage) toast) n + (if b then draws_left (stage_after (parts_at c t) owner stage) else 0) ≤ ids_used c n + (if b then draws_left stage else 0)
    by true same uses owed =
        let most = draws (draws_made stage) refl uses in
        omega (arith, most, owed)
    by false apart uses owed =
        let differ : t ≢ n = grind (arith, nat_tests, apart) in
        let most = none uses (λ id f. elim (uses.each id f) [ inl h ↦ h | inr h ↦ absurd (differ h.1) ]) in
        omega (arith, most)

-- what is so of a session's write
pub is_write_at : (c : CoreState) (s t : ℕ) (write : Writing) → IsSession c.seats s → IsSound c → PartsAreSound c → (seat_of c s).job ≡ jobs.Writing t write → IsWriteAt c s t write.owner write.stage
is_write_at c s t write there sound parts is =
    let job : JobIsSound c.xacts c.snaps c.ids (held_by c.locks s) c.tables s (seat_of c s) (jobs.Writing t write) = subst (λ (its : Job). JobIsSound c.xacts c.snaps c.ids (held_by c.locks s) c.tables s (seat_of c s) its) is (sound_of c s there sound).job in
    record {
      works = job.0;
      write = job.1;
      store = (parts.tables (table_at c.tables t) (table_among c.tables t job.0.of_table)).toast;
    }

pub write_most : (c new : CoreState) (s t n : ℕ) (write : Writing) (advance : Advance) → IsSession c.seats s → IsSound c → PartsAreSound c → OthersStay c s new → (seat_of c s).job ≡ jobs.Writing t write → IsWriteOn c s t write new advance → DrawsMost c new n 0
write_most c new s t n write advance there sound parts others is on = subst (λ (v : CoreState). OthersStay c s v → DrawsMost c v n 0) (sym on.is) (by (write_told c t write)) others
  where
    made : CoreState
    made = after_write_parts c t write on.toast

    at : IsWriteAt c s t write.owner write.stage
    at = is_write_at c s t write there sound parts is

    most : ids_used made n + draws_of n (jobs.Writing t (write_after (parts_at c t) write)) ≤ ids_used c n + draws_of n (jobs.Writing t write)
    most = parts_used c s t n write.owner write.stage on.toast at on.left

    range : SameRange c.ids made.ids
    range = (step_uses c s t n write.owner write.stage on.toast at on.left).range

    owed : draws_of n (seat_of c s).job ≡ draws_of n (jobs.Writing t write)
    owed = ap (draws_of n) is

    last : UsesLeft made (record made { ids = ids_released made.ids s }) n
    last = record { store = λ id e. e; hands = λ id e. released_before made.ids.in_hand s n id e; range = record { low = refl; high = refl } }

    by : (step : WriteStep) → OthersStay c s (write_on_by c s t write on.toast step) → DrawsMost c (write_on_by c s t write on.toast step) n 0
    by writes.More stay =
        let v = after_write_step c s t write on.toast in
        let seat : draws_of n (seat_of v s).job ≡ draws_of n (jobs.Writing t (write_after (parts_at c t) write)) = ap (λ (its : Seat). draws_of n its.job) (seat_written c.seats s _ there) in
        let used : ids_used v n ≡ ids_used made n = refl in
        most_by c v s n 0 there stay range (omega (arith, most, owed, seat, used))
    by writes.Done stay =
        let v = after_write_last c s t write on.toast in
        let seat : draws_of n (seat_of v s).job ≡ 0 = ap (λ (its : Seat). draws_of n its.job) (seat_written c.seats s _ there) in
        let used : ids_used v n ≤ ids_used made n = used_most made (record made { ids = ids_released made.ids s }) n last in
        most_by c v s n 0 there stay (record { low = range.low; high = range.high }) (omega (arith, most, owed, seat, used))

-- ---- a draw that is refused

pub refused_all : (c new : CoreState) (s t : ℕ) (write : Writing) → IsPool c.ids → IsWriteAt c s t write.owner write.stage → IsDrawRefused c s t write new → id_count c.ids ≤ ids_used c t
refused_all c new s t write pool at refused = by write.owner write.stage at refused.in_use refused.cause
  where
    none_is : (in_use : ℕ) → NoValueId in_use ≡ Memory → ⊥
    none_is in_use e = cc

    by : (owner : Owner) (stage : WriteStage) → IsWriteAt c s t owner stage → (in_use : ℕ) → IsWriteCause (parts_at c t) stage (NoValueId in_use) → id_count c.ids ≤ ids_used c t
    by owner (stages.Saving old new plan at save) its in_use cause =
        let of_table = its.write.own.stage.own.table ∙ its.write.own.of_table in
        let free : first_free_id (is_used (table_at c.tables t).toast) c.ids t ≡ None = subst (λ (k : ℕ). first_free_id (is_used (table_at c.tables t).toast) c.ids k ≡ None) of_table cause.1.0 in
        let low = pool.from_low in
        let high = pool.to_high in
        let all = count_all (in_use_for c t) c.ids.low (id_count c.ids) (λ id e.
        let place = ids_in c.ids.low (id_count c.ids) id e in
        none_free (is_used (table_at c.tables t).toast) c.ids t id pool free place.0 (omega (arith, place.1, low, high))) in
        omega (arith, all)
    by owner (stages.Put old new plan) its in_use cause = absurd (none_is in_use cause)
    by owner (stages.Remove old) its in_use cause = absurd (none_is in_use cause)
    by owner (stages.Marking dropped at mark) its in_use cause = absurd (none_is in_use cause)
    by owner stages.Over its in_use cause = absurd cause
