-- A vacuum and the walks of readers leave each other able to go on.
use Rattle.std.proofs.Common.{ℕ, ◌≡◌, ◌≢◌, ◌+◌, Bool, true, false, cond, nat_lt, Option, Some, None, List, drop, length, refl, sym, ap, ◌∙◌, subst}
use Rattle.std.specs.Option.{IfSome, option_map_or}
use Rattle.slot_page.specs.declared.line.Tid.{Tid}
use Rattle.xact_status.specs.Xacts.{Xacts}
use Rattle.chunk_index.specs.Leaves.{Leaf, leaf_at}
use Rattle.chunk_index.specs.Pinned.{holder_of, pin_of, without_pin}
use Rattle.chunk_index.specs.Indexes.{Index, after_sweep, swept_index}
use Rattle.toast_store.specs.Stores.{Store}
use Rattle.toast_store.specs.Walks.{CanStep, Walking, index_after, index_walked, wanted_by}
use Rattle.toast_store.specs.declared.walk.WalkStage.{WalkStage}
use Rattle.toast_store.specs.declared.walk.WalkStage.TheVariants.{Empty, Asking, Reading, Over}
use Rattle.toast_store.specs.declared.fetch.FetchStep.{FetchStep}
use Rattle.toast_store.specs.Fetches.{FetchSteps, Fetching}
use Rattle.toast_store.specs.Others.{LeavesOthers}
use Rattle.toast_store.proofs.Others.{fetch_step_leaves}
use Rattle.toast_store.proofs.Walked.{can_still}
use Rattle.toast_vacuum.specs.declared.stage.Stage.{Stage}
use Rattle.toast_vacuum.specs.declared.stage.Stage.TheVariants.{Pruning, Sweeping, Reaping, Ended}
use Rattle.toast_vacuum.specs.Vacuums.{Vacuuming}
use Rattle.toast_vacuum.specs.Machines.{on_page, target_at}
use Rattle.toast_vacuum.specs.Targets.{toast_ops}
use Rattle.toast_vacuum.specs.Holds.{VacuumHolds}
use Rattle.toast_vacuum.proofs.StoreSteps.{store_reaped, vacuums_stand}

-- a sweep leaves the pins
pub pins_swept : (index : Index) (leaf : Leaf) (dead : List Tid) → Index.pins (after_sweep index leaf dead) ≡ index.pins
pins_swept index leaf dead = by_holder (holder_of index.pins leaf)
  where
    by_holder : (o : Option ℕ) → Index.pins (option_map_or (λ holder. index) o (swept_index index leaf dead)) ≡ index.pins
    by_holder None = refl
    by_holder (Some holder) = refl

-- and so does each step of a vacuum
pub pins_stay : (xacts : Xacts) (s : Store) (v : Vacuuming) (stage : Stage) → Index.pins (Store.index (target_at toast_ops xacts v s stage)) ≡ s.index.pins
pins_stay xacts s v (Pruning page) = refl
pins_stay xacts s v (Sweeping from) = pins_swept s.index (leaf_at s.index.bounds from) v.gathered
pins_stay xacts s v (Reaping page at) = ap (λ (t : Store). t.index.pins) (store_reaped (on_page page (drop at v.gathered)) s)
pins_stay xacts s v Ended = refl

-- a walk's step keeps what holds of a vacuum
pub walk_keeps : (xacts : Xacts) (s : Store) (walk : Walking) (v : Vacuuming) → VacuumHolds xacts s v → VacuumHolds xacts (record s { index = index_walked s.index walk }) v
walk_keeps xacts s walk v holds = by_stage walk.stage
  where
    by_test : (b : Bool) → VacuumHolds xacts (record s { index = cond b s.index (record s.index { pins = without_pin s.index.pins walk.session }) }) v
    by_test true = holds
    by_test false = vacuums_stand.unpinned xacts s v walk.session holds

    by_stage : (stage : WalkStage) → VacuumHolds xacts (record s { index = index_after s.index walk stage }) v
    by_stage Empty = holds
    by_stage (Asking after) = vacuums_stand.batch xacts s v walk.session (wanted_by walk after s.index.entries) holds
    by_stage (Reading batch at) = by_test (nat_lt (at + 1) (length batch.entries))
    by_stage Over = holds

-- a session's fetch, if it has one, may make its next step
abbrev pub IsReader : Index → ℕ → Option Fetching → Type 0
IsReader index session reader = IfSome reader (λ fetch. (fetch.walk.session ≡ session) × CanStep index fetch.walk)

-- it still may where the pins are as they were
pub reads_still : (old new : Index) (session : ℕ) (reader : Option Fetching) → new.pins ≡ old.pins → IsReader old session reader → IsReader new session reader
reads_still old new session None pins can = tt
reads_still old new session (Some fetch) pins can = (can.0, can_still old new fetch.walk (ap (λ ps. pin_of ps (Walking.session fetch.walk)) pins) can.1)

-- and where another session has made a step
pub reads_on : (old new : Index) (mine session : ℕ) (reader : Option Fetching) → session ≢ mine → ((walk : Walking) → walk.session ≢ mine → CanStep old walk → CanStep new walk) → IsReader old session reader → IsReader new session reader
reads_on old new mine session None other walks can = tt
reads_on old new mine session (Some fetch) other walks can = (can.0, walks fetch.walk (λ same. other (sym can.0 ∙ same)) can.1)

-- a fetch's step leaves the walks of other sessions able
pub read_leaves : (old new : Store) (session : ℕ) (reader : Option Fetching) (before after : Fetching) (step : FetchStep) → reader ≡ Some before → IsReader old.index session reader → FetchSteps old before new after step
    → (walk : Walking) → walk.session ≢ session → CanStep old.index walk → CanStep new.index walk
read_leaves old new session reader before after step is can steps =
    let own = subst (IsReader old.index session) is can in
    λ walk other. LeavesOthers.walks (fetch_step_leaves old before new after step own.1 steps) walk (λ same. other (same ∙ own.0))

-- and keeps what holds of a vacuum
pub read_keeps : (old new : Store) (before after : Fetching) (step : FetchStep) → FetchSteps old before new after step → (xacts : Xacts) (v : Vacuuming) → VacuumHolds xacts old v → VacuumHolds xacts new v
read_keeps old new before after step steps xacts v holds = subst (λ s. VacuumHolds xacts s v) (sym steps.store) (walk_keeps xacts old before.walk v holds)
