use Rattle.program_stream.proofs.Early.{early}
use Rattle.program_stream.proofs.laws.refused_early.Goals as goal

pub returns : goal.returns
returns c front more fault is = early front more fault is
