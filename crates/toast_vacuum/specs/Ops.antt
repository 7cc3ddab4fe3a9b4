-- What a vacuum does to its target and sees of it, whatever the target is.
use Rattle.std.specs.Prelude.{ℕ, ◌≡◌, ◌≢◌, ◌≤◌, Option, List, length}
use Rattle.slot_page.specs.declared.line.Tid.{Tid}
use Rattle.xact_status.specs.Xacts.{Xacts}
use Rattle.chunk_index.specs.declared.entry.Entry.{Entry}
use Rattle.chunk_index.specs.declared.entry.Swept.{Swept}
use Rattle.chunk_index.specs.declared.entry.Swept.TheVariants.{Pinned}

pub record Ops (S : Type 0) : Type 1 where
  -- how many pages it has
  pub pages : S → ℕ
  -- the target with a page pruned under a horizon, how many slots that makes dead, and the dead slots of a page, in order
  pub pruned : Xacts → ℕ → S → ℕ → S
  pub newly : Xacts → ℕ → S → ℕ → ℕ
  pub dead_on : S → ℕ → List Tid
  -- the target once the leaf of a bound was to lose what names some slots, what that answers, and how many leaves there are from a bound on
  pub swept : S → Option Entry → List Tid → S
  pub answer : S → Option Entry → List Tid → Swept
  pub leaves : S → Option Entry → ℕ
  -- the target with a slot freed
  pub reaped : S → Tid → S
  -- a page may be pruned; a slot is dead; nothing names it
  pub IsReady : Xacts → S → Type 0
  pub IsDeadAt : S → Tid → Type 0
  pub IsFree : S → Tid → Type 0

-- what the machine needs of them
pub record AreLawful {S : Type 0} (ops : Ops S) : Type 0 where
  -- a slot that is freed leaves the others as they are
  pub dead_stays : (s : S) (t u : Tid) → u ≢ t → ops.IsDeadAt s u → ops.IsDeadAt (ops.reaped s t) u
  pub free_stays : (s : S) (t u : Tid) → ops.IsFree s u → ops.IsFree (ops.reaped s t) u
  -- a pinned leaf leaves all as it is
  pub pinned_stays : (s : S) (from : Option Entry) (dead : List Tid) (holder : ℕ) → ops.answer s from dead ≡ Pinned holder → ops.swept s from dead ≡ s
  -- a slot that a prune makes dead is then one of the page's dead ones
  pub newly_gathered : (xacts : Xacts) (horizon : ℕ) (s : S) (page : ℕ) → ops.newly xacts horizon s page ≤ length (ops.dead_on (ops.pruned xacts horizon s page) page)
