use Rattle.std.proofs.Common.{◌≡◌}
use Rattle.std.specs.Prelude.{replicate}
use Rattle.command_set.specs.declared.state.Session.TheVariants.{Outside}
use Rattle.command_set.proofs.state.Plain.first.Given as goal

abbrev pub invariant-loop : goal.invariant-loop
invariant-loop l = l.outside ≡ replicate l.counter Outside
