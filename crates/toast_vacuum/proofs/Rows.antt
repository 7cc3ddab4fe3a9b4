-- What holds of a relation of rows and a vacuum of it, through each event, and what its steps and its end tell.
use Rattle.std.proofs.Common.{ℕ, ◌≡◌, ◌⊎◌, ◌+◌, ◌<◌, inl, inr, Bool, true, false, not, cond, nat_lt, nat_eq, Some, None, List, [], ◌∷◌, Contains, filter, length, length-set, slice_set, drop, refl, sym, ap, ◌∙◌, subst, arith}
use Rattle.std.specs.Ordering.{is_lt}
use Rattle.std.proofs.lemmas.List.Elements.{Contains-append_cases}
use Rattle.list_facts.proofs.Members.{none_in_nil, cases_in, filter_holds}
use Rattle.slot_page.specs.declared.line.Tid.{Tid}
use Rattle.slot_page.specs.declared.line.LinePointer.{LinePointer}
use Rattle.slot_page.specs.declared.line.LinePointer.TheVariants.{Normal, Dead, Unused}
use Rattle.slot_page.specs.Slots.{IsDead, item_of}
use Rattle.slot_page.specs.Pages.{page_at, put_tid, slot_of, item_in, written}
use Rattle.slot_page.proofs.Pages.{put_was_free, slot_of-written}
use Rattle.xact_status.specs.Xacts.{Xacts, is_running, after_assign, after_commit, after_abort}
use Rattle.row_versions.specs.declared.keys.KeyEntry.{KeyEntry}
use Rattle.row_versions.specs.declared.version.Version.{Version}
use Rattle.row_versions.specs.Keys.{entry, entry_cmp, with_entry}
use Rattle.row_versions.specs.Versions.{ended, is_dead_version, version_stamp}
use Rattle.row_versions.specs.Relations as rows
use Rattle.row_versions.specs.Relations.{Names, Pages, Relation, pages_ended, version_in, with_reaped, with_version}
use Rattle.row_versions.proofs.Entries.{unnamed_after}
use Rattle.row_versions.proofs.Events.{assigned_pruned, assigned_reaped, item_of-pruned}
use Rattle.toast_vacuum.specs.declared.stage.Stage.{Stage}
use Rattle.toast_vacuum.specs.declared.stage.Stage.TheVariants.{Pruning, Sweeping, Reaping, Ended}
use Rattle.toast_vacuum.specs.declared.stage.VacuumStep.TheVariants as steps
use Rattle.toast_vacuum.specs.Vacuums.{Vacuuming}
use Rattle.toast_vacuum.specs.Machines.{CanStep, after_pages, answer_at, begun, left_at, on_page, reaped_all, steps_left, target_at, vacuum_at}
use Rattle.toast_vacuum.specs.Targets.{row_ops}
use Rattle.toast_vacuum.specs.Holds.{IsHorizon, IsIndexed, RowVacuumHolds, waiting, waiting_at}
use Rattle.toast_vacuum.specs.Laws.{RowVacuumsStand}
use Rattle.toast_vacuum.proofs.Ascending.{ascending_drop, in_drop, reapable, sorted_of}
use Rattle.toast_vacuum.proofs.Lefts.{left_page, left_reaped}
use Rattle.toast_vacuum.proofs.Statuses.{after_aborted, after_assigned, after_committed, horizon_aborted, horizon_assigned, horizon_committed}
use Rattle.toast_vacuum.proofs.PagesKept.{EndsAt, EndsSome, freed_pages, items_reaped, pages_after, pages_all_swept, pages_begun, pages_pruned, pages_put, pages_reaped, waits_after}
use Rattle.toast_vacuum.proofs.PagesKept as kept
use Rattle.toast_vacuum.proofs.Tells.{at_done, end_gone, end_none_dead, end_spared}

-- ---- others

begins : (xacts : Xacts) (s : Relation) (horizon : ℕ) → IsHorizon xacts horizon → RowVacuumHolds xacts s (begun horizon (length s.pages))
begins xacts s horizon bound = record {
  pages = pages_begun version_stamp xacts s.pages horizon;
  swept = λ e held waits. absurd (none_waits (nat_eq (length s.pages) 0) e.tid waits);
  horizon = bound;
}
  where
    none_waits : (b : Bool) (t : Tid) → Contains (waiting_at [] (cond b Ended (Pruning 0))) t → ⊥
    none_waits true t held = none_in_nil t held
    none_waits false t held = none_in_nil t held

-- an entry was there or is the new one
entry_was : (entries : List KeyEntry) (e f : KeyEntry) → Contains (with_entry entries e) f → Contains entries f ⊎ (e ≡ f)
entry_was entries e f held = elim (Contains-append_cases (filter (λ g. is_lt (entry_cmp g e)) entries) (e ∷ filter (λ g. not (is_lt (entry_cmp g e))) entries) f held) [
  | inl before ↦ inl (filter_holds (λ g. is_lt (entry_cmp g e)) entries f before).0
  | inr from ↦ elim (cases_in e (filter (λ g. not (is_lt (entry_cmp g e))) entries) f from) [
    | inl same ↦ inr same
    | inr after ↦ inl (filter_holds (λ g. not (is_lt (entry_cmp g e))) entries f after).0
  ]
]

put : (xacts : Xacts) (s : Relation) (v : Vacuuming) (version : Version) → version.ender ≡ None → is_running xacts version.inserter ≡ true → RowVacuumHolds xacts s v → RowVacuumHolds xacts (with_version s version) v
put xacts s v version unended runs holds = record {
  pages = pages_put version_stamp xacts (length version.tuple) version s.pages v runs unended holds.pages;
  swept = λ f held waits. elim (entry_was s.entries (entry version.key (put_tid (length version.tuple) s.pages)) f held) [
    | inl there ↦ holds.swept f there waits
    | inr same ↦ absurd (subst IsDead (put_was_free (length version.tuple) s.pages) (holds.pages.dead (put_tid (length version.tuple) s.pages) (subst (λ (g : KeyEntry). Contains (waiting v) g.tid) (sym same) waits)))
  ];
  horizon = holds.horizon;
}

-- at most one version is ended
pub version_ends : (xid : ℕ) (pages : Pages) (tid : Tid) → EndsSome version_stamp xid pages (pages_ended xid pages tid)
version_ends xid pages tid = record {
  pages = length-set pages tid.page (slice_set (page_at pages tid.page) tid.slot (ended xid (slot_of pages tid)));
  each = λ t. elim (slot_of-written pages tid t (ended xid (slot_of pages tid))) [
    | inl same ↦ inl same
    | inr h ↦ by_line t h.0 (slot_of pages tid) refl h.1
  ];
}
  where
    by_line : (t : Tid) → t ≡ tid → (line : LinePointer Version) → slot_of pages tid ≡ line → slot_of (pages_ended xid pages tid) t ≡ ended xid line → (slot_of (pages_ended xid pages tid) t ≡ slot_of pages t) ⊎ EndsAt version_stamp xid pages (pages_ended xid pages tid) t
    by_line t same (Normal size version) was is = inr (record { item = version; later = record version { ender = Some xid }; was = ap (item_in pages) same ∙ ap item_of was; is = ap item_of is; inserter = refl; ender = refl })
    by_line t same Dead was is = inl (is ∙ sym was ∙ sym (ap (slot_of pages) same))
    by_line t same Unused was is = inl (is ∙ sym was ∙ sym (ap (slot_of pages) same))

version_ended : (xacts : Xacts) (s : Relation) (v : Vacuuming) (tid : Tid) (xid : ℕ) → is_running xacts xid ≡ true → RowVacuumHolds xacts s v → RowVacuumHolds xacts (rows.with_ended xid s tid) v
version_ended xacts s v tid xid runs holds = record { pages = kept.pages_ended version_stamp xacts xid s.pages (pages_ended xid s.pages tid) v runs (version_ends xid s.pages tid) holds.pages; swept = holds.swept; horizon = holds.horizon }

assigned : (xacts : Xacts) (s : Relation) (v : Vacuuming) (session : ℕ) → RowVacuumHolds xacts s v → RowVacuumHolds (after_assign xacts session) s v
assigned xacts s v session holds = record { pages = pages_after version_stamp xacts (after_assign xacts session) s.pages v (after_assigned xacts session v.horizon) holds.pages; swept = holds.swept; horizon = horizon_assigned xacts session v.horizon holds.horizon }

committed : (xacts : Xacts) (s : Relation) (v : Vacuuming) (ends : ℕ) → is_running xacts ends ≡ true → RowVacuumHolds xacts s v → RowVacuumHolds (after_commit xacts ends) s v
committed xacts s v ends runs holds = record { pages = pages_after version_stamp xacts (after_commit xacts ends) s.pages v (after_committed xacts ends v.horizon runs holds.horizon) holds.pages; swept = holds.swept; horizon = horizon_committed xacts ends v.horizon runs holds.horizon }

aborted : (xacts : Xacts) (s : Relation) (v : Vacuuming) (ends : ℕ) → is_running xacts ends ≡ true → RowVacuumHolds xacts s v → RowVacuumHolds (after_abort xacts ends) s v
aborted xacts s v ends runs holds = record { pages = pages_after version_stamp xacts (after_abort xacts ends) s.pages v (after_aborted xacts ends v.horizon runs holds.horizon) holds.pages; swept = holds.swept; horizon = horizon_aborted xacts ends v.horizon runs holds.horizon }

-- ---- the vacuum

may_step_at : (xacts : Xacts) (s : Relation) (v : Vacuuming) (stage : Stage) → rows.AreAssigned xacts s.pages → RowVacuumHolds xacts s (record v { stage = stage }) → CanStep row_ops xacts v s stage
may_step_at xacts s v (Pruning page) given holds = (holds.pages.place, omega (arith, holds.pages.place, holds.pages.within), given)
may_step_at xacts s v (Sweeping from) given holds = (sorted_of v.gathered holds.pages.ascending, holds.pages.dead)
may_step_at xacts s v (Reaping page at) given holds = (
  holds.pages.place,
  reapable row_ops page (drop at v.gathered) s (ascending_drop at v.gathered holds.pages.ascending) (λ t held. (holds.pages.dead t held, λ e there same. holds.swept e there (subst (λ u. Contains (drop at v.gathered) u) (sym same) held))),
)
may_step_at xacts s v Ended given holds = tt

pub rows_reaped : (ts : List Tid) (s : Relation) → reaped_all row_ops ts s ≡ record s { pages = freed_pages ts s.pages }
rows_reaped [] s = refl
rows_reaped (t ∷ ts) s = rows_reaped ts (with_reaped s t)

made_page : (xacts : Xacts) (s : Relation) (v : Vacuuming) (page : ℕ) → RowVacuumHolds xacts s (record v { stage = Pruning page }) → RowVacuumHolds xacts (target_at row_ops xacts v s (Pruning page)) (vacuum_at row_ops xacts v s (Pruning page))
made_page xacts s v page holds = record {
  pages = pages_pruned version_stamp xacts v s.pages page (v.removed + row_ops.newly xacts v.horizon s page) holds.pages;
  swept = λ e there waits. by_more (nat_lt (page + 1) v.pages) (Vacuuming.gathered (vacuum_at row_ops xacts v s (Pruning page))) e waits;
  horizon = holds.horizon;
}
  where
    by_none : (b : Bool) (ts : List Tid) (e : KeyEntry) → Contains (waiting_at ts (cond b Ended (Sweeping None))) e.tid → IsIndexed (cond b Ended (Sweeping None))
    by_none true ts e waits = absurd (none_in_nil e.tid waits)
    by_none false ts e waits = tt

    by_more : (b : Bool) (ts : List Tid) (e : KeyEntry) → Contains (waiting_at ts (cond b (Pruning (page + 1)) (after_pages (length ts)))) e.tid → IsIndexed (cond b (Pruning (page + 1)) (after_pages (length ts)))
    by_more true ts e waits = tt
    by_more false ts e waits = by_none (nat_eq (length ts) 0) ts e waits

step_at : (xacts : Xacts) (s : Relation) (v : Vacuuming) (stage : Stage) → RowVacuumHolds xacts s (record v { stage = stage }) → RowVacuumHolds xacts (target_at row_ops xacts (record v { stage = stage }) s stage) (vacuum_at row_ops xacts (record v { stage = stage }) s stage)
step_at xacts s v (Pruning page) holds = made_page xacts s v page holds
step_at xacts s v (Sweeping from) holds = record {
  pages = pages_all_swept version_stamp xacts s.pages v from holds.pages;
  swept = λ e left waits. unnamed_after v.gathered s.entries e.tid waits e left refl;
  horizon = holds.horizon;
}
step_at xacts s v (Reaping page at) holds = subst (λ x. RowVacuumHolds xacts x (vacuum_at row_ops xacts v s (Reaping page at))) (sym (rows_reaped (on_page page (drop at v.gathered)) s)) (record {
  pages = pages_reaped version_stamp xacts v s.pages page at holds.pages;
  swept = λ e there waits. absurd (holds.swept e there (in_drop (length (on_page page (drop at v.gathered))) (drop at v.gathered) e.tid (waits_after version_stamp xacts v s.pages page at holds.pages e.tid waits)));
  horizon = holds.horizon;
})
step_at xacts s v Ended holds = holds

freed_given : (xacts : Xacts) (ts : List Tid) (pages : Pages) → rows.AreAssigned xacts pages → rows.AreAssigned xacts (freed_pages ts pages)
freed_given xacts [] pages given = given
freed_given xacts (t ∷ ts) pages given = freed_given xacts ts (written pages t Unused) (assigned_reaped xacts pages t given)

given_at : (xacts : Xacts) (s : Relation) (v : Vacuuming) (stage : Stage) → rows.AreAssigned xacts s.pages → rows.AreAssigned xacts (Relation.pages (target_at row_ops xacts v s stage))
given_at xacts s v (Pruning page) given = assigned_pruned xacts v.horizon s.pages page given
given_at xacts s v (Sweeping from) given = given
given_at xacts s v (Reaping page at) given = subst (λ (x : Relation). rows.AreAssigned xacts x.pages) (sym (rows_reaped (on_page page (drop at v.gathered)) s)) (freed_given xacts (on_page page (drop at v.gathered)) s.pages given)
given_at xacts s v Ended given = given

versions_at : (xacts : Xacts) (s : Relation) (v : Vacuuming) (t : Tid) (stage : Stage) → RowVacuumHolds xacts s (record v { stage = stage }) → (version_in (target_at row_ops xacts v s stage) t ≡ version_in s t)
    ⊎ ((version : Version) × (version_in s t ≡ Some version) × (is_dead_version xacts v.horizon version ≡ true) × (version_in (target_at row_ops xacts v s stage) t ≡ None))
versions_at xacts s v t (Pruning page) holds = item_of-pruned xacts v.horizon s.pages page t
versions_at xacts s v t (Sweeping from) holds = inl refl
versions_at xacts s v t (Reaping page at) holds = inl (ap (λ (x : Relation). item_in x.pages t) (rows_reaped (on_page page (drop at v.gathered)) s) ∙ items_reaped version_stamp xacts v s.pages page at holds.pages t)
versions_at xacts s v t Ended holds = inl refl

left_step : (xacts : Xacts) (s : Relation) (v : Vacuuming) (stage : Stage) → RowVacuumHolds xacts s (record v { stage = stage }) → answer_at row_ops v s stage ≡ steps.More
    → (0 < steps_left row_ops (vacuum_at row_ops xacts v s stage) (target_at row_ops xacts v s stage)) × (steps_left row_ops (vacuum_at row_ops xacts v s stage) (target_at row_ops xacts v s stage) < left_at row_ops v.pages s stage)
left_step xacts s v (Pruning page) holds told = left_page row_ops v.pages s (target_at row_ops xacts v s (Pruning page)) page (length (Vacuuming.gathered (vacuum_at row_ops xacts v s (Pruning page)))) holds.pages.place refl
left_step xacts s v (Sweeping from) holds told = (omega arith, omega arith)
left_step xacts s v (Reaping page at) holds told = left_reaped row_ops v.pages s (target_at row_ops xacts v s (Reaping page at)) page at (at + length (on_page page (drop at v.gathered))) holds.pages.place
left_step xacts s v Ended holds told = absurd (cc)

names_there : (e : KeyEntry) (line : LinePointer Version) → Names e line → (IsDead line → ⊥) → (version : Version) × (item_of line ≡ Some version) × (version.key ≡ e.key)
names_there e (Normal size version) names alive = (version, refl, names)
names_there e Dead names alive = absurd (alive tt)
names_there e Unused names alive = absurd names

pub row_vacuums_stand : RowVacuumsStand
row_vacuums_stand = record {
  begins = begins;
  put = put;
  ended = version_ended;
  assigned = assigned;
  committed = committed;
  aborted = aborted;
  may_step = λ xacts s v given holds. may_step_at xacts s v v.stage given holds;
  step = λ xacts s v holds. step_at xacts s v v.stage holds;
  given = λ xacts s v given. given_at xacts s v v.stage given;
  versions = λ xacts s v t holds. versions_at xacts s v t v.stage holds;
  left = λ xacts s v holds told. left_step xacts s v v.stage holds told;
  none_dead = λ xacts s v removed holds is. end_none_dead version_stamp s.pages v (at_done row_ops v s v.stage removed is) xacts holds.pages;
  named = λ xacts s v removed sound holds is e there. names_there e (slot_of s.pages e.tid) (sound.keys.named e there) (end_none_dead version_stamp s.pages v (at_done row_ops v s v.stage removed is) xacts holds.pages e.tid);
  spared = λ xacts s v removed holds is. end_spared version_stamp s.pages v (at_done row_ops v s v.stage removed is) xacts holds.pages;
  gone = λ first s v removed start is. end_gone version_stamp s.pages v (at_done row_ops v s v.stage removed is) first start;
}
