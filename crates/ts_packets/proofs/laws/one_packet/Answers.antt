use Rattle.ts_packets.proofs.FileLemmas.{one_record, has_record}
use Rattle.ts_packets.proofs.laws.one_packet.Goals as goal

pub returns-clause-one : goal.returns-clause-one
returns-clause-one c = one_record

pub returns-clause-passed : goal.returns-clause-passed
returns-clause-passed c = has_record
