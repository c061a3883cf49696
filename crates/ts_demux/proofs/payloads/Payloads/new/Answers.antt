use Rattle.std.proofs.Common.{arith}
use Rattle.ts_demux.proofs.PayloadLemmas.{no_longer}
use Rattle.ts_demux.proofs.payloads.Payloads.new.Goals as goal

pub invariant_of-result : goal.invariant_of-result
invariant_of-result c = omega (arith, c.requires, no_longer c.args.file.now c.args.pid)
