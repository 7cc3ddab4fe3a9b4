-- The laws of the crates below on a table and its versions, each by its name.
use Rattle.table_rows.specs.Laws.{MomentsTell, OwnChangesStay, SinceStays, ViewsStay}
use Rattle.table_state.specs.Laws.{ChunkStepsKeep, MomentsKeep}
use Rattle.table_rows.proofs.Records.{moments_tell, own_changes_stay, since_stays, views_stay}
use Rattle.table_state.proofs.Records.{chunk_steps_keep, moments_keep}

pub record Below : Type 0 where
  pub moments : MomentsKeep
  pub chunks : ChunkStepsKeep
  pub views : ViewsStay
  pub own : OwnChangesStay
  pub tells : MomentsTell
  pub since : SinceStays

pub below : Below
below = record {
  moments = moments_keep;
  chunks = chunk_steps_keep;
  views = views_stay;
  own = own_changes_stay;
  tells = moments_tell;
  since = since_stays;
}
