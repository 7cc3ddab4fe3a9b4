-- What is told after an entry that names a command, by the entry's kind.
use Rattle.std.specs.Prelude.{Bool, false, ◌+◌, ◌∷◌, ◌++◌, [], Some, is_some, not, ◌==◌, ◌&&◌, ◌||◌, if◌then◌else◌}
use Rattle.std.specs.Option.{option_map_or}
use Rattle.command_set.specs.declared.Command.{Command}
use Rattle.command_set.specs.declared.JournalEntry.{JournalEntry}
use Rattle.command_set.specs.declared.Kind.{Kind}
use Rattle.command_set.specs.declared.Kind.TheVariants as kinds
use Rattle.command_set.specs.declared.Reply.{Reply}
use Rattle.command_set.specs.declared.Reply.TheVariants as replies
use Rattle.command_set.specs.declared.Script.{Script}
use Rattle.command_set.specs.declared.journal.Run.{Run}
use Rattle.command_set.specs.declared.journal.Told.{Told}
use Rattle.command_set.specs.Answers.{answer}
use Rattle.command_set.specs.Journals.{cut_short, is_data, is_run, is_under_way, line_of, may_come_first, may_come_second, reply_before, told_more, with_reply, without_upkeep}

-- after the end of upkeep
abbrev pub after_end : Run → JournalEntry → Run
after_end run e = told_more run e (reply_before run e) (without_upkeep run.plain e.session) (run.lines ++ line_of e replies.Done ∷ [])

-- after a command was ended early with this reply
abbrev pub after_cut : Run → JournalEntry → Command → Reply → Run
after_cut run e command cut =
    told_more run e (reply_before run e) (cut_short run.plain e.session)
    (if is_some (reply_before run e) && is_data command then with_reply run.lines e cut else run.lines ++ line_of e cut ∷ [])

-- after an entry of this kind
abbrev pub after_kind : Script → Run → JournalEntry → Command → Kind → Run
after_kind script run e command kinds.Run =
    let answered = answer script.schemas run.plain e.session command in
    told_more run e (Some answered.reply) answered.after (run.lines ++ line_of e answered.reply ∷ [])
after_kind script run e command kinds.End = after_end run e
after_kind script run e command kinds.NoValueId = after_cut run e command replies.NoValueId
after_kind script run e command kinds.Memory = after_cut run e command replies.Memory

-- whether an entry of this command may follow what is told of its session
abbrev pub may_come_of : Told → JournalEntry → Command → Bool
may_come_of told e command =
    ((e.number == told.begun + 1) && (not (is_under_way told) && may_come_first command e.kind))
    || ((e.number == told.begun) && (option_map_or is_run told.last false
    && option_map_or (λ reply. may_come_second command reply e.kind) told.reply false))
