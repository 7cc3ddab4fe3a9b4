use Rattle.command_set.proofs.Outcomes.{fold_push, get_fold, outcome_other, outcome_push}
use Rattle.command_set.proofs.laws.rows_by_outcome.Goals as goal

pub returns : goal.returns
returns c = record { rows = get_fold; one_more = fold_push; one_more_leaves = outcome_push; unnamed = outcome_other }
