use Rattle.std.proofs.Common.{refl}
use Rattle.read_trials.proofs.Passing.{put_passes}
use Rattle.read_trials.proofs.Puts.{given_three, there, unnamed}
use Rattle.read_trials.proofs.reads.put_other.Goals as goal

pub returns-clause-passes : goal.returns-clause-passes
returns-clause-passes g c = put_passes c.args.xacts.now 16385 c.args.store.now c.put_chunk.new.self _ _ c.rel.ensures.sound (given_three c.args.xacts.now c.requires.given) c.in_ok-tid.ensures.put c.requires.alive

pub returns-clause-laid : goal.returns-clause-laid
returns-clause-laid g c = ((_, there c.args.store.now c.put_chunk.new.self _ _ c.in_ok-tid.tid c.in_ok-tid.ensures.put c.in_ok-tid.ensures.tid, refl, refl), unnamed c.args.store.now c.put_chunk.new.self _ _ c.in_ok-tid.tid c.rel.ensures.sound c.in_ok-tid.ensures.put c.in_ok-tid.ensures.tid)
