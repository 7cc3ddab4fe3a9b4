use Rattle.rewrite_facts.proofs.Columns.{planned}
use Rattle.rewrite_facts.proofs.Reading.{hold_read, hold_reading}
use Rattle.rewrite_facts.proofs.Steps.{hold_begin, hold_laid, hold_visited}
use Rattle.rewrite_facts.proofs.Values.{hold_drawn, hold_kept, hold_over, hold_shared, hold_version}
use Rattle.rewrite_facts.proofs.laws.steps_keep.Goals as goal

pub returns : goal.returns
returns c = record {
  begun = hold_begin;
  visited = hold_visited;
  reading = hold_reading;
  read = hold_read;
  planned = planned;
  shared = hold_shared;
  kept = hold_kept;
  drawn = hold_drawn;
  laid = hold_laid;
  over = hold_over;
  version = hold_version;
}
