use Rattle.rewrite_facts.proofs.Sizes.{chosen_fits, row_fits}
use Rattle.rewrite_facts.proofs.laws.copies_fit.Goals as goal

pub returns : goal.returns
returns c = record { row = row_fits; chosen = chosen_fits }
