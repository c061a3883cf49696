use Rattle.stream_audit.specs.Refusals.{IsAuditStopped}
use Rattle.stream_audit.proofs.AuditLaws.{carries_streams, streams_stopped}
use Rattle.stream_audit.proofs.audited_program.audit.Goals as goal

pub returns-in-Err : goal.returns-in-Err
returns-in-Err c = IsAuditStopped.bad_program c.in-Err.ensures.refused

pub streams_of-requires-clause-carried : goal.streams_of-requires-clause-carried
streams_of-requires-clause-carried c =
    let tables = c.in-Ok.ensures.read.is_read.tables in
    carries_streams c.args.file.now c.args.program c.in-Ok.read.demuxed tables.file_fits tables.taken_out

pub returns : goal.returns
returns c =
    streams_stopped c.args.file.now c.args.program c.args.slot c.args.kept.now c.in-Ok.read.demuxed c.in-Ok.ensures.read.map_pid c.in-Ok.read.clock c.in-Err-streams_of.stop
    c.in-Ok.ensures.read.is_read c.in-Err-streams_of.ensures.refused
