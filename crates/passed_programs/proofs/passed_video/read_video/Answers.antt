use Rattle.std.proofs.Common.{map, refl, sym, subst}
use Rattle.psi_tables.specs.declared.stream.Stream.{Stream}
use Rattle.program_reader.specs.VideoWalk.{wanted_of}
use Rattle.passed_programs.specs.declared.read_fault.ReadFault.{ReadFault}
use Rattle.passed_programs.specs.PassedVideo.{IsReadRefused}
use Rattle.passed_programs.proofs.TakenVideo.{as_refused, causes_as, read_whole}
use Rattle.passed_programs.proofs.passed_video.read_video.Goals as goal

pub pass_stream-requires-clause-begins : goal.pass_stream-requires-clause-begins
pass_stream-requires-clause-begins g c = (c.new.ensures.read, refl, tt)

pub returns-in-Ok-clause-video : goal.returns-in-Ok-clause-video
returns-in-Ok-clause-video g c =
    read_whole (g.S.Source.left c.args.source.now) (g.S.Source.left c.pass_stream.new.source) (g.S.Source.most c.args.source.now) (g.S.Source.most c.pass_stream.new.source)
    c.pass_stream.new.buffer (map (λ (stream : Stream). stream.pid) c.args.streams.now) (wanted_of c.new.result) c.args.wanted c.in-Ok.video c.new.ensures.wanted c.in-Ok.ensures.read

pub returns-in-Err-clause-refused : goal.returns-in-Err-clause-refused
returns-in-Err-clause-refused g c =
    let left = g.S.Source.left c.args.source.now in
    let after = g.S.Source.left c.pass_stream.new.source in
    let most = g.S.Source.most c.args.source.now in
    let most_after = g.S.Source.most c.pass_stream.new.source in
    let held = c.pass_stream.new.buffer in
    let pids = map (λ (stream : Stream). stream.pid) c.args.streams.now in
    subst (λ (fault : ReadFault). IsReadRefused left after most most_after held pids fault) (sym c.read_refused.ensures)
    (as_refused left after most most_after held pids c.in-Err.fault c.in-Err.ensures.refused)

pub returns-in-Err-clause-causes : goal.returns-in-Err-clause-causes
returns-in-Err-clause-causes g c =
    causes_as g.S.Source.faults g.S.Source.absences c.args.source.now c.pass_stream.new.source c.pass_stream.result c.in-Err.fault c.read_refused.result c.in-Err.is c.read_refused.ensures
    c.pass_stream.ensures.causes
