use Rattle.std.proofs.Common.{ap, arith}
use Rattle.toast_io.specs.MemSource.{SourceInMemory}
use Rattle.toast_io.proofs.Pieces.{rest_of, piece_given, piece_end}
use Rattle.toast_io.proofs.mem_source.MemSourceSource.read.Goals as goal

pub returns-clause-bytes : goal.returns-clause-bytes
returns-clause-bytes c =
    let s = c.self.inside in
    let rest = rest_of s.bytes c.as_slice-2.result.now s.at c.as_slice-2.ensures in
    let view = ap (λ (source : SourceInMemory). source.unread) c.self.view_is in (
      piece_given _ s.bytes _ c.copy_from_slice.new.self _ s.at c.min-count.result view rest (omega arith) c.copy_from_slice.ensures.after,
      piece_end s.bytes _ c.copy_from_slice.new.self c.args.buf.now s.at c.min-count.result s.piece rest (omega arith) c.self.invariant.1 c.copy_from_slice.ensures.after,
    )
