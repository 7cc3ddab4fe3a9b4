-- A script that was read keeps the rules of its grammar.
use Rattle.session_shell.proofs.Scripted.{script_is}
use Rattle.shared_store.proofs.tests.store_of.Goals as goal

pub new-requires : goal.new-requires
new-requires c = script_is _ c.in_ok-script.script c.in_ok-script.ensures
