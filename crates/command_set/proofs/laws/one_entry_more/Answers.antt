use Rattle.command_set.proofs.Moments.{run_of-push}
use Rattle.command_set.proofs.laws.one_entry_more.Goals as goal

pub returns : goal.returns
returns c = run_of-push
