use Rattle.made_script.proofs.Texts.{added_three}
use Rattle.made_script.proofs.put_key.Goals as goal

pub returns : goal.returns
returns c = added_three _ _ _ _ _ _ _ c.in_ok-put_insert.ensures c.in_ok-put_update.ensures c.in_ok-put_read.ensures
