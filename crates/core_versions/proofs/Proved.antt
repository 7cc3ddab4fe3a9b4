-- The laws of the version step, from the lemmas on each stage.
use Rattle.std.proofs.Common.{ap, subst, sym, ◌∙◌}
use Rattle.std.specs.Prelude.{ℕ, ◌<◌, ◌≡◌}
use Rattle.toast_store.specs.Stores.{Store}
use Rattle.write_steps.specs.Writes.{IsToastAt, Writing}
use Rattle.write_steps.specs.declared.stage.WriteStage.{WriteStage}
use Rattle.core_state.specs.Events.{left, told_by_write, write_on_by, write_told}
use Rattle.core_state.specs.Facts.{IsSound}
use Rattle.core_state.specs.Moves.{Stays}
use Rattle.core_state.specs.State.{CoreState, table_at}
use Rattle.core_versions.proofs.Falls.{falls_put, falls_removed}
use Rattle.core_versions.proofs.Goes.{at_stage}
use Rattle.core_versions.proofs.Keeps.{IsWriting, is_writing, keeps_put, keeps_removed}
use Rattle.core_versions.proofs.Moves.{moves_put, moves_removed}
use Rattle.core_versions.specs.Laws.{IsAtVersion, VersionsFall, VersionsKeep, VersionsMove}
use Rattle.core_state.specs.declared.seat.Job.TheVariants as jobs
use Rattle.write_steps.specs.declared.stage.WriteStage.TheVariants as stages

-- what is so of a write at a stage is so of one whose stage is that
by_stage : (c : CoreState) (s t : ℕ) (write : Writing) (toast : Store) (stage : WriteStage) (P : Writing → Type 0) → IsAtVersion c s t write toast → write.stage ≡ stage → IsSound c
    → (IsWriting c s t write.owner stage → IsToastAt (table_at c.tables t).toast toast stage → P (at_stage write.owner stage)) → P write
by_stage c s t write toast stage P at is sound here =
    subst (λ (its : WriteStage). P (at_stage write.owner its)) (sym is)
    (here (is_writing c s t write.owner stage at.session (at.job ∙ ap (λ (its : WriteStage). jobs.Writing t (at_stage write.owner its)) is) sound) (subst (λ (its : WriteStage). IsToastAt (table_at c.tables t).toast toast its) is at.left))

pub versions_keep : VersionsKeep
versions_keep = record {
  put = λ c s t write toast old new plan at is parts sound. by_stage c s t write toast (stages.Put old new plan) (λ (its : Writing). IsSound (write_on_by c s t its toast (write_told c t its))) at is sound
      (λ writing same. keeps_put c s t write.owner toast old new plan writing same parts);
  removed = λ c s t write toast old at is parts sound. by_stage c s t write toast (stages.Remove old) (λ (its : Writing). IsSound (write_on_by c s t its toast (write_told c t its))) at is sound
      (λ writing same. keeps_removed c s t write.owner toast old writing same parts);
}

pub versions_move : VersionsMove
versions_move = record {
  put = λ c s t write toast old new plan at is parts sound. by_stage c s t write toast (stages.Put old new plan) (λ (its : Writing). Stays c s (write_on_by c s t its toast (write_told c t its)) (told_by_write (write_told c t its))) at is sound
      (λ writing same. moves_put c s t write.owner toast old new plan writing same parts);
  removed = λ c s t write toast old at is parts sound. by_stage c s t write toast (stages.Remove old) (λ (its : Writing). Stays c s (write_on_by c s t its toast (write_told c t its)) (told_by_write (write_told c t its))) at is sound
      (λ writing same. moves_removed c s t write.owner toast old writing same parts);
}

pub versions_fall : VersionsFall
versions_fall = record {
  put = λ c s t write toast old new plan at is sound. by_stage c s t write toast (stages.Put old new plan) (λ (its : Writing). left (write_on_by c s t its toast (write_told c t its)) s < left c s) at is sound
      (λ writing same. falls_put c s t write.owner toast old new plan writing same);
  removed = λ c s t write toast old at is sound. by_stage c s t write toast (stages.Remove old) (λ (its : Writing). left (write_on_by c s t its toast (write_told c t its)) s < left c s) at is sound
      (λ writing same. falls_removed c s t write.owner toast old writing same);
}
