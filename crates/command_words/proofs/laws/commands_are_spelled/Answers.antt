use Rattle.command_words.proofs.Spelled.{commands_spelled}
use Rattle.command_words.proofs.laws.commands_are_spelled.Goals as goal

pub returns : goal.returns
returns c = commands_spelled
