use Rattle.std.proofs.Common.{[], ◌∷◌}
use Rattle.std.specs.Option.{unwrap_or}
use Rattle.plain_program.proofs.Said.{said}
use Rattle.command_set.specs.Plain.{row_at, value_at, view_of}
use Rattle.command_set.specs.Replies.{absent, bad_offset, null, refused_before_use}
use Rattle.command_set.specs.declared.Reply.TheVariants.{Bytes}
use Rattle.tuple_layout.specs.Slices.{slice}
use Rattle.plain_program.proofs.replies.to_part.Goals as goal

pub returns : goal.returns
returns c =
    let row = row_at (view_of c.args.store.now c.args.transaction.now) c.args.place.now in
    rw (c.unwrap_or.ensures, c.or-refusal.ensures, c.or-2.ensures, c.or.ensures, c.refused_before_use.ensures, c.absent.ensures, c.null.ensures, c.bad_offset.ensures, c.in_ok-part.ensures, c.bytes_of.ensures, c.value_at.ensures, c.in_ok-row.ensures, c.in_ok-view.ensures)
    (said (refused_before_use c.args.store.now c.args.session c.args.place.now.table) (absent (view_of c.args.store.now c.args.transaction.now) c.args.place.now ∷ null (value_at row c.args.column) ∷ bad_offset c.args.span.now.offset ∷ []) (Bytes (slice (unwrap_or (value_at row c.args.column) []) c.args.span.now.offset c.args.span.now.length)))
