use Rattle.std.proofs.Common.{List, ℕ, map, sym, subst}
use Rattle.psi_tables.specs.declared.stream.Stream.{Stream}
use Rattle.stream_pass.specs.PassedStream.{IsOfStream}
use Rattle.passed_programs.specs.PassedAudio.{ReadsAudio, RefusesAudio}
use Rattle.passed_programs.specs.Private.Passes.{IsStoppedBy, front_of}
use Rattle.passed_programs.proofs.Fronts.{audio_stopped, front_is, whole_front}
use Rattle.passed_programs.proofs.passes.pass_audio.Goals as goal

pub returns-in-Ok-clause-read : goal.returns-in-Ok-clause-read
returns-in-Ok-clause-read g c =
    let front = front_is g.K.Shelf.files c.args.shelf.now c.args.file.now.name.now c.args.file.now.limit c.new-pass.result c.new-pass.ensures.shelf c.new-pass.ensures.name c.new-pass.ensures.limit
    c.new-pass.ensures.place in
    whole_front _ _ _ _ (λ whole. IsOfStream whole (map (λ (stream : Stream). stream.pid) c.args.streams.now) c.args.index (ReadsAudio c.args.first.time) c.in-Ok.read) _ _ front c.in-Ok.ensures.read

pub returns-in-Err-clause-stopped : goal.returns-in-Err-clause-stopped
returns-in-Err-clause-stopped g c =
    let front = front_is g.K.Shelf.files c.args.shelf.now c.args.file.now.name.now c.args.file.now.limit c.new-pass.result c.new-pass.ensures.shelf c.new-pass.ensures.name c.new-pass.ensures.limit
    c.new-pass.ensures.place in
    subst (IsStoppedBy (front_of (g.K.Shelf.files c.args.shelf.now) c.args.file.now.name.now c.args.file.now.limit) (map (λ (stream : Stream). stream.pid) c.args.streams.now)
    (λ whole. IsOfStream whole (map (λ (stream : Stream). stream.pid) c.args.streams.now) c.args.index (RefusesAudio c.args.first.time))) (sym c.audio_stop.ensures)
    (audio_stopped _ _ _ _ _ _ front (map (λ (stream : Stream). stream.pid) c.args.streams.now) c.args.index (RefusesAudio c.args.first.time) c.in-Err.fault c.in-Err.ensures.refused)
