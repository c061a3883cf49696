use Rattle.job_stream.proofs.OneStream.{one-stream}
use Rattle.job_stream.proofs.laws.one_stream.Goals as goal

pub returns : goal.returns
returns c job programs table choice a b first second = one-stream c.one_list_of_versions.ensures c.slot_list_is_one.ensures job programs table choice a b first second
