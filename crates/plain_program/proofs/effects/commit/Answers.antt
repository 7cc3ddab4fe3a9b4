use Rattle.std.proofs.Common.{ap, ◌∙◌}
use Rattle.std.specs.Prelude.{map as mapped}
use Rattle.command_set.specs.Answers.{told_by}
use Rattle.command_set.specs.Changes.{fold_changes}
use Rattle.plain_program.proofs.Taken.{committed_back}
use Rattle.plain_program.proofs.effects.commit.Goals as goal

pub returns : goal.returns
returns c =
    committed_back c.args.store.now c.take_open-transaction.new.store c.args.session c.take_open-transaction.result c.in_ok-store.field-0 c.in_ok-store-2.field-0
    c.take_open-transaction.ensures.after c.take_open-transaction.ensures.taken
    (c.in_ok-store.ensures ∙ ap (λ changes. fold_changes changes c.replace-latest.result) c.as_slice-changes.ensures ∙ ap (fold_changes c.take_open-transaction.result.changes) c.replace-latest.ensures.value)
    (c.in_ok-store-2.ensures ∙ ap (λ changes. mapped (told_by changes) c.into_vec-sessions.result.items) c.as_slice-changes.ensures ∙ ap (mapped (told_by c.take_open-transaction.result.changes)) (c.into_vec-sessions.ensures ∙ c.replace.ensures.value))
