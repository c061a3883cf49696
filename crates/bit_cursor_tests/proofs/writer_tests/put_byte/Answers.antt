use Rattle.std.proofs.Common.{rules, ap}
use Rattle.bit_lists.specs.Bits.{bits_of}
use Rattle.bit_cursor.proofs.Composed.{finished}
use Rattle.bit_cursor_tests.proofs.writer_tests.put_byte.Goals as goal

pub returns : goal.returns
returns g c =
    finished c.finish.result c.finish.new.self.0 (ap g.K.Sink.written c.new-writer.ensures.sink) c.new-writer.ensures.none_waits
    c.in_ok-put_bits.ensures.writes c.finish.ensures.ok (ap (bits_of 8) c.from.ensures) (search rules)
