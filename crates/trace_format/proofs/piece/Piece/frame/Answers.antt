use Rattle.trace_format.specs.Fields.{short}
use Rattle.trace_format.proofs.Pieces.{put_twice}
use Rattle.trace_format.proofs.piece.Piece.frame.Goals as goal

pub returns-clause-bytes : goal.returns-clause-bytes
returns-clause-bytes c =
    put_twice _ _ _ (short c.args.of_task.now.exit) (short c.args.of_task.now.enter) c.short.ensures.bytes c.short-2.ensures.bytes
