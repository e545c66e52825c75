use Rattle.trace_format.specs.Fields.{long, short}
use Rattle.trace_format.proofs.Pieces.{put_twice}
use Rattle.trace_format.proofs.piece.Piece.word.Goals as goal

pub returns-clause-bytes : goal.returns-clause-bytes
returns-clause-bytes c =
    put_twice _ _ _ (short c.args.data_word.now.identity) (long c.args.data_word.now.value) c.short.ensures.bytes c.long.ensures.bytes
