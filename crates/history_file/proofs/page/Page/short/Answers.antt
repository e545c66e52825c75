use Rattle.std.proofs.Common.{refl, arith}
use Rattle.byteorder.specs.Endian.{big_bytes}
use Rattle.trace_format.proofs.Pieces.{put_behind}
use Rattle.history_file.proofs.page.Page.short.Goals as goal

pub returns-clause-bytes : goal.returns-clause-bytes
returns-clause-bytes c =
    rw (← c.self.view_is)
    (put_behind c.self.inside.bytes (big_bytes 4 c.args.n) c.write_u32.new.buf _ c.self.inside.len 4 _ (omega arith) refl c.write_u32.ensures)
