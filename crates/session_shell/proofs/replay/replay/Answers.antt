use Rattle.std.proofs.Common.{inl, refl}
use Rattle.session_shell.proofs.Outcomes.{replays_by, taken_whole}
use Rattle.session_shell.proofs.Scripted.{script_is}
use Rattle.session_shell.proofs.replay.replay.Goals as goal

pub run_script-requires : goal.run_script-requires
run_script-requires g c = script_is _ _ c.in-Ok.ensures.reads.spelled

-- the script was run, and its lines were printed
pub returns-in-Ok-run_script-clause-outcome : goal.returns-in-Ok-run_script-clause-outcome
returns-in-Ok-run_script-clause-outcome g c = replays_by _ c.in-Ok.script c.in-Ok-run_script.hub c.print_hub-status.result c.in-Ok.ensures.reads c.in-Ok-run_script.ensures.run refl c.print_hub-status.ensures.prints

-- there was no memory for a hub
pub returns-in-Err-run_script-clause-outcome : goal.returns-in-Err-run_script-clause-outcome
returns-in-Err-run_script-clause-outcome g c = (taken_whole _ _ _ c.in-Ok.ensures.reads.whole, inl (record { same = refl; none = c.requires }))

pub returns-in-Ok-run_script-clause-untouched : goal.returns-in-Ok-run_script-clause-untouched
returns-in-Ok-run_script-clause-untouched g c = λ none. absurd (cc)

-- there was no memory for the buffer
pub returns-in-Err-new-clause-outcome : goal.returns-in-Err-new-clause-outcome
returns-in-Err-new-clause-outcome g c = (taken_whole _ _ _ c.in-Ok.ensures.reads.whole, inl (record { same = refl; none = c.requires }))
