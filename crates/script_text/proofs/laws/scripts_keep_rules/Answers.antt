use Rattle.script_text.proofs.Proved.{scripts_keep_rules}
use Rattle.script_text.proofs.laws.scripts_keep_rules.Goals as goal

pub returns : goal.returns
returns c = scripts_keep_rules
