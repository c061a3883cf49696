use Rattle.std.proofs.Common.{rules, ap}
use Rattle.version_maker.proofs.MadeSlices.{finished-when, goes-from}
use Rattle.version_maker.proofs.version_write.write_last.Goals as goal

pub finish-requires-clause-goes : goal.finish-requires-clause-goes
finish-requires-clause-goes g c = (goes-from c.write_end.result c.in_ok-in_memory.ensures c.write_end.ensures.writes).goes

pub returns : goal.returns
returns g c =
    finished-when c.finish.result c.in_memory-2.result c.finish.new.self.0 c.in_memory-2.ensures (ap g.K.Sink.written c.new-writer.ensures.sink) c.new-writer.ensures.none_waits
    (goes-from c.write_end.result c.in_ok-in_memory.ensures c.write_end.ensures.writes) c.finish.ensures.ok (search rules)
