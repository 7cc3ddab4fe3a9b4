-- A chunk more is gathered.
use Rattle.std.proofs.Common.{refl}
use Rattle.decode_stream.proofs.Opens.{open_chunk}
use Rattle.decode_stream.proofs.open.Open.take_in.Goals as goal

pub returns-in-Chunk-clause-ok : goal.returns-in-Chunk-clause-ok
returns-in-Chunk-clause-ok c =
    rw (← c.self.view_is)
    (rw c.in-Chunk.is (open_chunk _ _ c.in-Chunk.xid c.in-Chunk.table c.in-Chunk.value_id c.in-Chunk.seq c.in-Chunk.bytes refl (rw c.as_slice.ensures at c.in_ok-gather.ensures.ok)))
