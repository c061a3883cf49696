use Rattle.ts_packets.proofs.CarriedLemmas.{sent_twice}
use Rattle.ts_packets.proofs.laws.sent_twice.Goals as goal

pub returns : goal.returns
returns c = sent_twice
