use Rattle.ts_packets.proofs.FileLemmas.{packets-append, packets-short, rest_of-append, rest_of-short, packets-written}
use Rattle.ts_packets.proofs.laws.packets_in_order.Goals as goal

pub returns-clause-first : goal.returns-clause-first
returns-clause-first c = packets-append

pub returns-clause-rest : goal.returns-clause-rest
returns-clause-rest c = rest_of-append

pub returns-clause-short : goal.returns-clause-short
returns-clause-short c = packets-short

pub returns-clause-short_rest : goal.returns-clause-short_rest
returns-clause-short_rest c = rest_of-short

pub returns-clause-written : goal.returns-clause-written
returns-clause-written c = packets-written
