use Rattle.plain_program.proofs.replies.reply_in.Goals as goal

pub returns-in-Commit-clause-ok : goal.returns-in-Commit-clause-ok
returns-in-Commit-clause-ok c = rw c.in-Commit.is c.to_commit.ensures
