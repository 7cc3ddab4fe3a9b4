use Rattle.std.proofs.Common.{[], ◌∷◌}
use Rattle.std.specs.FinMap as map
use Rattle.std.specs.Option.{unwrap_or}
use Rattle.plain_program.proofs.Said.{said_after}
use Rattle.command_set.specs.Replies.{bad_offset, failed, no_handle, outside}
use Rattle.command_set.specs.declared.Reply.TheVariants.{Bytes}
use Rattle.tuple_layout.specs.Slices.{slice}
use Rattle.plain_program.proofs.replies.to_fetch.Goals as goal

pub returns : goal.returns
returns c =
    rw (c.unwrap_or.ensures, c.or-refusal.ensures, c.or-2.ensures, c.or.ensures, c.outside.ensures, c.failed.ensures, c.no_handle.ensures, c.bad_offset.ensures, c.in_ok-part.ensures, c.bytes_of.ensures, c.get.ensures)
    (said_after (outside c.args.store.now c.args.session) (failed c.args.store.now c.args.session ∷ no_handle c.args.transaction.now c.args.handle ∷ bad_offset c.args.span.now.offset ∷ []) (Bytes (slice (unwrap_or (map.get c.args.transaction.now.handles c.args.handle) []) c.args.span.now.offset c.args.span.now.length)))
