use Rattle.made_script.proofs.Texts.{added_four}
use Rattle.made_script.proofs.put_update.Goals as goal

pub returns : goal.returns
returns c = added_four _ _ _ _ _ _ _ _ _ c.in_ok-put_numbered.ensures c.in_ok-put_text.ensures c.in_ok-put_set.ensures c.in_ok-put_text-2.ensures
