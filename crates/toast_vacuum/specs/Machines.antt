-- What a vacuum's step makes of its target and of itself, whatever the target is.
use Rattle.std.specs.Prelude.{ℕ, ◌≡◌, ◌+◌, ◌-◌, ◌<◌, ◌==◌, nat_lt, if◌then◌else◌, Option, Some, None, List, [], ◌∷◌, ◌++◌, Contains, drop, length, ⊤}
use Rattle.std.specs.List.Sorted.{IsSorted}
use Rattle.slot_page.specs.declared.line.Tid.{Tid}
use Rattle.slot_page.specs.Tids.{tid_cmp}
use Rattle.xact_status.specs.Xacts.{Xacts}
use Rattle.chunk_index.specs.declared.entry.Entry.{Entry}
use Rattle.chunk_index.specs.declared.entry.Swept.{Swept}
use Rattle.chunk_index.specs.declared.entry.Swept.TheVariants.{Next, End, Pinned}
use Rattle.toast_vacuum.specs.declared.stage.Stage.{Stage}
use Rattle.toast_vacuum.specs.declared.stage.Stage.TheVariants.{Pruning, Sweeping, Reaping, Ended}
use Rattle.toast_vacuum.specs.declared.stage.VacuumStep.{VacuumStep}
use Rattle.toast_vacuum.specs.declared.stage.VacuumStep.TheVariants as steps
use Rattle.toast_vacuum.specs.Ops.{Ops}
use Rattle.toast_vacuum.specs.Vacuums.{Vacuuming}

-- where a vacuum goes on once all pages of the first round are made, with so many slots gathered: with none it has nothing to do
abbrev pub after_pages : ℕ → Stage
after_pages gathered = if gathered == 0 then Ended else Sweeping None

-- where it goes on after a page of the first round
abbrev pub after_page : ℕ → ℕ → ℕ → Stage
after_page page pages gathered = if nat_lt (page + 1) pages then Pruning (page + 1) else after_pages gathered

-- where it goes on after a page of the last round, with the slots of the next one from a place on
abbrev pub after_reap : ℕ → ℕ → ℕ → Stage
after_reap page at pages = if nat_lt (page + 1) pages then Reaping (page + 1) at else Ended

-- where it goes on after a leaf
abbrev pub after_leaf : Option Entry → Swept → Stage
after_leaf from (Next next removed) = Sweeping (Some next)
after_leaf from (End removed) = Reaping 0 0
after_leaf from (Pinned holder) = Sweeping from

-- what it answers after a leaf
abbrev pub told_by : Swept → VacuumStep
told_by (Next next removed) = steps.More
told_by (End removed) = steps.More
told_by (Pinned holder) = steps.Pinned holder

-- a vacuum before its first step
abbrev pub begun : ℕ → ℕ → Vacuuming
begun horizon pages = record { horizon = horizon; pages = pages; stage = if pages == 0 then Ended else Pruning 0; gathered = []; removed = 0 }

-- the tids at the head of a list that lie on a page
abbrev pub on_page : ℕ → List Tid → List Tid
on_page page [] = []
on_page page (t ∷ ts) = if t.page == page then t ∷ on_page page ts else []

module _ {S : Type 0} (ops : Ops S) where
  -- the target with these slots freed, one after another
  abbrev pub reaped_all : List Tid → S → S
  reaped_all [] s = s
  reaped_all (t ∷ ts) s = reaped_all ts (ops.reaped s t)

  -- they may be: each is dead, nothing names it, and none stands there twice
  abbrev pub AreReapable : List Tid → S → Type 0
  AreReapable [] s = ⊤
  AreReapable (t ∷ ts) s = ops.IsDeadAt s t × ops.IsFree s t × (Contains ts t → ⊥) × AreReapable ts s

  -- the target after a step
  abbrev pub target_at : Xacts → Vacuuming → S → Stage → S
  target_at xacts v s (Pruning page) = ops.pruned xacts v.horizon s page
  target_at xacts v s (Sweeping from) = ops.swept s from v.gathered
  target_at xacts v s (Reaping page at) = reaped_all (on_page page (drop at v.gathered)) s
  target_at xacts v s Ended = s

  -- the vacuum after a page of the first round
  abbrev pub with_page : Xacts → Vacuuming → S → ℕ → List Tid → Vacuuming
  with_page xacts v s page gathered = record v { stage = after_page page v.pages (length gathered); gathered = gathered; removed = v.removed + ops.newly xacts v.horizon s page }

  -- the vacuum after a step
  abbrev pub vacuum_at : Xacts → Vacuuming → S → Stage → Vacuuming
  vacuum_at xacts v s (Pruning page) = with_page xacts v s page (v.gathered ++ ops.dead_on (ops.pruned xacts v.horizon s page) page)
  vacuum_at xacts v s (Sweeping from) = record v { stage = after_leaf from (ops.answer s from v.gathered) }
  vacuum_at xacts v s (Reaping page at) = record v { stage = after_reap page (at + length (on_page page (drop at v.gathered))) v.pages }
  vacuum_at xacts v s Ended = v

  -- what the step answers
  abbrev pub answer_at : Vacuuming → S → Stage → VacuumStep
  answer_at v s (Pruning page) = steps.More
  answer_at v s (Sweeping from) = told_by (ops.answer s from v.gathered)
  answer_at v s (Reaping page at) = steps.More
  answer_at v s Ended = steps.Done v.removed

  -- how many slots it makes dead
  abbrev pub killed_at : Xacts → Vacuuming → S → Stage → ℕ
  killed_at xacts v s (Pruning page) = ops.newly xacts v.horizon s page
  killed_at xacts v s (Sweeping from) = 0
  killed_at xacts v s (Reaping page at) = 0
  killed_at xacts v s Ended = 0

  -- how many steps are left at most where nobody stands in the way, the end included: the pages still to come in both rounds, and the leaves from the cursor on
  abbrev pub left_at : ℕ → S → Stage → ℕ
  left_at pages s (Pruning page) = (pages - page) + ops.leaves s None + pages + 1
  left_at pages s (Sweeping from) = ops.leaves s from + pages + 1
  left_at pages s (Reaping page at) = (pages - page) + 1
  left_at pages s Ended = 1

  abbrev pub steps_left : Vacuuming → S → ℕ
  steps_left v s = left_at v.pages s v.stage

  -- what the step needs, by where the vacuum stands
  abbrev pub CanStep : Xacts → Vacuuming → S → Stage → Type 0
  CanStep xacts v s (Pruning page) = (page < v.pages) × (page < ops.pages s) × ops.IsReady xacts s
  CanStep xacts v s (Sweeping from) = IsSorted tid_cmp v.gathered × ((t : Tid) → Contains v.gathered t → ops.IsDeadAt s t)
  CanStep xacts v s (Reaping page at) = (page < v.pages) × AreReapable (on_page page (drop at v.gathered)) s
  CanStep xacts v s Ended = ⊤

-- what an answer tells: where a leaf was pinned nothing has changed; and at the end nothing changes any more, and the number is what was counted
abbrev pub AnswerMeans : {S : Type 0} → S → S → Vacuuming → Vacuuming → VacuumStep → Type 0
AnswerMeans old new before after steps.More = ⊤
AnswerMeans old new before after (steps.Pinned session) = (new ≡ old) × (after ≡ before)
AnswerMeans old new before after (steps.Done removed) = (new ≡ old) × (after ≡ before) × (removed ≡ before.removed)
