use Rattle.std.proofs.Common.{sym, ap, Some, ◌∙◌}
use Rattle.session_shell.proofs.Outcomes.{read_other, read_replay}
use Rattle.session_shell.proofs.replay.is_replay.Goals as goal

pub returns-in-Some-Replay : goal.returns-in-Some-Replay
returns-in-Some-Replay c = read_replay c.args.words.now (sym c.read_words.ensures ∙ c.in-Some-Replay.is ∙ ap Some c.in-Some-Replay.field-0-is)

pub returns-in-Some-Run : goal.returns-in-Some-Run
returns-in-Some-Run c = read_other c.args.words.now c.read_words.result c.read_words.ensures (λ is. absurd (cc))

pub returns-in-Some-Make : goal.returns-in-Some-Make
returns-in-Some-Make c = read_other c.args.words.now c.read_words.result c.read_words.ensures (λ is. absurd (cc))

pub returns-in-None : goal.returns-in-None
returns-in-None c = read_other c.args.words.now c.read_words.result c.read_words.ensures (λ is. absurd (cc))
