use Rattle.std.proofs.Common.{◌+◌, map, subst}
use Rattle.psi_tables.specs.declared.stream.Stream.{Stream}
use Rattle.program_reader.specs.declared.program_fault.ProgramFault.{ProgramFault}
use Rattle.stream_pass.specs.PassedStream.{IsOfStream}
use Rattle.passed_programs.specs.PassedAudio.{RefusesAudio}
use Rattle.passed_programs.specs.Private.Passes.{IsOfTold, IsRefusedBehind, IsStoppedBy, front_of}
use Rattle.passed_programs.proofs.Streams.{audio_behind}
use Rattle.passed_programs.proofs.streams_behind.audio_of_file.Goals as goal

pub returns-in-Refused-clause-refused : goal.returns-in-Refused-clause-refused
returns-in-Refused-clause-refused g c =
    audio_behind (g.K.Shelf.files c.args.shelf.now) (g.K.Shelf.files c.pass_audio.new.shelf) c.args.file.now.name.now c.args.file.now.limit c.pass_audio.ensures.reads.same_files
    (map (λ (stream : Stream). stream.pid) c.args.streams.now) c.args.index c.args.first.time c.in-Refused.fault c.refused_behind.result
    (subst (IsStoppedBy (front_of (g.K.Shelf.files c.args.shelf.now) c.args.file.now.name.now c.args.file.now.limit) (map (λ (stream : Stream). stream.pid) c.args.streams.now)
    (λ whole. IsOfStream whole (map (λ (stream : Stream). stream.pid) c.args.streams.now) c.args.index (RefusesAudio c.args.first.time))) c.in-Refused.is c.in-Err.ensures.stopped)
    (subst (λ (own : ProgramFault). IsOfTold (front_of (g.K.Shelf.files c.pass_audio.new.shelf) c.args.file.now.name.now c.args.file.now.limit)
    (IsRefusedBehind (map (λ (stream : Stream). stream.pid) c.args.streams.now) (c.args.index + 1) own) c.refused_behind.result) c.stream_refused-fault.ensures c.refused_behind.ensures.refused)
