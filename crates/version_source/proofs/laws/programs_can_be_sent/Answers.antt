use Rattle.version_source.proofs.ReadPrograms.{read-sendable}
use Rattle.version_source.proofs.laws.programs_can_be_sent.Goals as goal

pub returns : goal.returns
returns c = record {
  taken_out = read-sendable;
  of_file = λ form file number drop start program is. read-sendable start is.demuxed program is.program_is;
  read = λ start program is. read-sendable start is.demuxed program is.program_is;
}
