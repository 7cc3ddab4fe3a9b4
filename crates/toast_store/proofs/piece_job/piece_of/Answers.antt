use Rattle.toast_store.proofs.Pieces.{piece_cut}
use Rattle.toast_store.proofs.piece_job.piece_of.Goals as goal

pub returns-clause-piece : goal.returns-clause-piece
returns-clause-piece c = piece_cut c.args.value.now c.args.seq c.min.result c.min.ensures
