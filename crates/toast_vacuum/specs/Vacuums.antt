-- A vacuum under way.
use Rattle.std.specs.Prelude.{ℕ, List}
use Rattle.slot_page.specs.declared.line.Tid.{Tid}
use Rattle.toast_vacuum.specs.declared.stage.Stage.{Stage}

-- the horizon and the number of pages that it began with, where it stands, the dead slots that it has gathered, in order, and how many it has made dead
pub record Vacuuming : Type 0 where
  pub horizon : ℕ
  pub pages : ℕ
  pub stage : Stage
  pub gathered : List Tid
  pub removed : ℕ
