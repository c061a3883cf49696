use Rattle.std.proofs.Common.{map, subst}
use Rattle.psi_tables.specs.declared.stream.Stream.{Stream}
use Rattle.passed_programs.specs.PassedVideo.{IsVideoRefused}
use Rattle.passed_programs.specs.Private.Passes.{IsStoppedBy, front_of}
use Rattle.passed_programs.proofs.Streams.{video_behind}
use Rattle.passed_programs.proofs.streams_behind.video_of_file.Goals as goal

pub returns-in-Refused-clause-refused : goal.returns-in-Refused-clause-refused
returns-in-Refused-clause-refused g c =
    video_behind (g.K.Shelf.files c.args.shelf.now) (g.K.Shelf.files c.pass_video.new.shelf) c.args.file.now.name.now c.args.file.now.limit c.pass_video.ensures.reads.same_files
    (map (λ (stream : Stream). stream.pid) c.args.streams.now) c.in-Refused.fault c.refused_behind.result
    (subst (IsStoppedBy (front_of (g.K.Shelf.files c.args.shelf.now) c.args.file.now.name.now c.args.file.now.limit) (map (λ (stream : Stream). stream.pid) c.args.streams.now)
    (λ whole. IsVideoRefused whole (map (λ (stream : Stream). stream.pid) c.args.streams.now))) c.in-Refused.is c.in-Err.ensures.stopped) c.refused_behind.ensures.refused
