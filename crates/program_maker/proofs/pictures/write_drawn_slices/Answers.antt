use Rattle.std.proofs.Common.{rules, ap}
use Rattle.program_maker.proofs.Writing.{goes-finished}
use Rattle.program_maker.proofs.pictures.write_drawn_slices.Goals as goal

pub returns-clause-written : goal.returns-clause-written
returns-clause-written g c =
    goes-finished c.finish.result c.finish.new.self.0 (ap g.K.Sink.written c.new-writer.ensures.sink) c.new-writer.ensures.none_waits
    c.in_ok-put_slices.ensures.written c.finish.ensures.ok (search rules)
