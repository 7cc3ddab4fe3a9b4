use Rattle.read_steps.proofs.Fetching.{fetch_leaves}
use Rattle.read_steps.proofs.job.fetch_on.Goals as goal

pub returns-in-Ok-clause-leaves : goal.returns-in-Ok-clause-leaves
returns-in-Ok-clause-leaves c = fetch_leaves c.args.toast.now _ c.args.fetch.now _ c.in-Ok.step c.requires.some c.requires.can c.step.ensures.sound c.in-Ok.ensures.ok
