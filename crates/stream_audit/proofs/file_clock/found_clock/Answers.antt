use Rattle.stream_audit.specs.Refusals.{IsClockStopped}
use Rattle.stream_audit.proofs.file_clock.found_clock.Goals as goal

pub returns-in-Err-clause-refused : goal.returns-in-Err-clause-refused
returns-in-Err-clause-refused c = IsClockStopped.bad_packet c.in-Err.fault c.if-pid-eq-NULL_PID.false c.in-Err.ensures.places c.demux_stop.ensures
