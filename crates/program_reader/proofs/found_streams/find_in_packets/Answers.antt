use Rattle.std.proofs.Common.{refl}
use Rattle.program_reader.specs.Programs.{StandIn, AreStreamsRefused}
use Rattle.program_reader.proofs.found_streams.find_in_packets.Goals as goal

pub returns-in-Ok : goal.returns-in-Ok
returns-in-Ok c = StandIn.in_packets refl c.in-Ok.ensures refl

pub returns-in-Err : goal.returns-in-Err
returns-in-Err c = AreStreamsRefused.of_packets c.in-Err.fault refl c.in-Err.ensures c.demux_refused.ensures
