use Rattle.std.proofs.Common.{◌≡◌}
use Rattle.std.specs.Prelude.{map as mapped}
use Rattle.command_set.specs.Answers.{told_by}
use Rattle.plain_program.proofs.effects.tell_all.Given as goal

abbrev pub invariant-loop-session : goal.invariant-loop-session
invariant-loop-session l = l.told ≡ mapped (told_by l.changes) l.yielded
