use Rattle.writer.proofs.Readback.{written_is_read_lem}
use Rattle.writer.proofs.laws.written_is_read.Goals as goal

pub returns : goal.returns
returns c = written_is_read_lem
