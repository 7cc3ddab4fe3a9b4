use Rattle.made_script.proofs.Texts.{added_four}
use Rattle.made_script.proofs.put_insert.Goals as goal

pub returns : goal.returns
returns c = added_four _ _ _ _ _ _ _ _ _ c.in_ok-put_numbered.ensures c.in_ok-put_numbered-2.ensures c.in_ok-put_numbered-3.ensures c.in_ok-put_text.ensures
