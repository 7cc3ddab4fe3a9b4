use Rattle.made_script.proofs.Texts.{added_two}
use Rattle.made_script.proofs.put_read.Goals as goal

pub returns : goal.returns
returns c = added_two _ _ _ _ _ c.in_ok-put_numbered.ensures c.in_ok-put_text.ensures
