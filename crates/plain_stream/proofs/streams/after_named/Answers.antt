use Rattle.std.proofs.Common.{ap, ◌∙◌}
use Rattle.std.specs.Option.{option_to_list}
use Rattle.change_stream.specs.Streams.{stream_through}
use Rattle.plain_stream.specs.States.{stream_in}
use Rattle.plain_stream.proofs.Following.{named_moment, none_left}
use Rattle.plain_stream.proofs.streams.after_named.Goals as goal

pub stream_after-requires-clause-none_left : goal.stream_after-requires-clause-none_left
stream_after-requires-clause-none_left c = none_left c.args.script.now c.args.so_far.plain c.args.entry.now c.args.command.now c.in_ok-came.came c.in_ok-came.ensures.ok

pub returns-clause-stream : goal.returns-clause-stream
returns-clause-stream c =
    c.in_ok-streamed.ensures
    ∙ ap (λ o. stream_through c.args.script.now (stream_in c.args.script.now.schemas c.args.so_far.streamed) (option_to_list o)) (named_moment c.args.script.now c.args.so_far.plain c.args.entry.now c.args.command.now c.in_ok-came.came c.requires.named c.in_ok-came.ensures.ok)
