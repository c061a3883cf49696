use Rattle.picture_laws.proofs.WrittenBits.{written-bytes}
use Rattle.picture_laws.proofs.written.picture_has_written_bytes.Goals as goal

pub returns : goal.returns
returns c = written-bytes
