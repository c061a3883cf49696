use Rattle.mux_writer.specs.Pieces.{IsPayload}
use Rattle.mux_writer.proofs.Written.{read-as-written}
use Rattle.mux_writer.proofs.laws.read_as_written.Goals as goal

pub returns : goal.returns
returns c layout slot pieces rows is few all = read-as-written layout (IsPayload pieces) slot pieces rows is few (λ stream item piece size. size) all
