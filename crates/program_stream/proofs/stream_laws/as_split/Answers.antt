use Rattle.program_stream.proofs.ElementSteps.{split_of, streams_same}
use Rattle.program_stream.proofs.stream_laws.as_split.Goals as goal

pub returns-clause-some : goal.returns-clause-some
returns-clause-some c file ids carried cut has = split_of file ids carried cut has

pub returns-clause-same : goal.returns-clause-same
returns-clause-same c file ids carried cut other demuxed has is = streams_same file ids carried cut other demuxed has is
