use Rattle.std.proofs.Common.{◌≤◌, length, arith}
use Rattle.ts_demux.specs.Demux.{IsDemuxRefused}
use Rattle.stream_audit.specs.declared.audited_program.TheConstants.{AUDITED_BYTES_MOST}
use Rattle.stream_audit.specs.Refusals.{IsProgramStopped}
use Rattle.stream_audit.proofs.read_program.read_program.Goals as goal

pub returns-in-Err-clause-refused : goal.returns-in-Err-clause-refused
returns-in-Err-clause-refused c =
    let fits : length c.args.file.now ≤ AUDITED_BYTES_MOST = omega (arith, c.if-file-gt-AUDITED_BYTES_MOST.false) in
    IsProgramStopped.no_program c.in-Err.fault fits c.in-Err.ensures c.demux_stop.ensures

pub returns-in-Err-find_map-clause-refused : goal.returns-in-Err-find_map-clause-refused
returns-in-Err-find_map-clause-refused c =
    let fits : length c.args.file.now ≤ AUDITED_BYTES_MOST = omega (arith, c.if-file-gt-AUDITED_BYTES_MOST.false) in
    IsProgramStopped.no_program c.in-Err-find_map.fault fits (IsDemuxRefused.tables c.in-Ok.ensures.tables.long c.in-Err-find_map.ensures) c.demux_stop-in-Err-find_map.ensures

pub returns-in-Err-system_stream-clause-refused : goal.returns-in-Err-system_stream-clause-refused
returns-in-Err-system_stream-clause-refused c =
    let fits : length c.args.file.now ≤ AUDITED_BYTES_MOST = omega (arith, c.if-file-gt-AUDITED_BYTES_MOST.false) in
    IsProgramStopped.bad_tables c.in-Ok.demuxed c.in-Ok-find_map.placed.pid c.in-Err-system_stream.fault fits c.in-Ok.ensures c.in-Ok-find_map.ensures.pid_is
    c.in-Err-system_stream.ensures.refused c.demux_stop-in-Err-system_stream.ensures

pub returns-in-Err-found_clock-clause-refused : goal.returns-in-Err-found_clock-clause-refused
returns-in-Err-found_clock-clause-refused c =
    let fits : length c.args.file.now ≤ AUDITED_BYTES_MOST = omega (arith, c.if-file-gt-AUDITED_BYTES_MOST.false) in
    IsProgramStopped.no_clock c.in-Ok.demuxed c.in-Ok-find_map.placed.pid
    (record {
      file_fits = fits;
      taken_out = c.in-Ok.ensures;
      map_is = c.in-Ok-find_map.ensures.pid_is;
      pat_sound = c.in-Ok-system_stream.ensures.sound.0;
      map_sound = c.in-Ok-system_stream.ensures.sound.1;
    })
    c.in-Err-found_clock.ensures.refused
