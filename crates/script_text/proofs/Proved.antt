-- The law of scripts, from the lemmas on their lines.
use Rattle.script_text.proofs.Rules.{script_keeps}
use Rattle.script_text.specs.Laws.{ScriptsKeepRules}

pub scripts_keep_rules : ScriptsKeepRules
scripts_keep_rules = script_keeps
