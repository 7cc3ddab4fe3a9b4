use Rattle.std.proofs.Common.{[], ◌∷◌}
use Rattle.plain_program.proofs.Said.{said_after}
use Rattle.command_set.specs.Replies.{holder_of, inside, locked}
use Rattle.command_set.specs.declared.Reply.TheVariants.{Started}
use Rattle.plain_program.proofs.replies.to_upkeep.Goals as goal

pub returns : goal.returns
returns c =
    rw (c.unwrap_or.ensures, c.or.ensures, c.inside.ensures, c.locked.ensures, c.holder_of.ensures)
    (said_after (inside c.args.store.now c.args.session) (locked (holder_of c.args.store.now c.args.session c.args.table c.args.kind) ∷ []) Started)
