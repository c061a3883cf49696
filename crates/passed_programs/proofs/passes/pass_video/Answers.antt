use Rattle.std.proofs.Common.{List, ℕ, map, sym, subst}
use Rattle.psi_tables.specs.declared.stream.Stream.{Stream}
use Rattle.passed_programs.specs.PassedVideo.{IsVideoRead, IsVideoRefused}
use Rattle.passed_programs.specs.Private.Passes.{IsStoppedBy, front_of}
use Rattle.passed_programs.proofs.Fronts.{front_is, of_sized, video_stopped}
use Rattle.passed_programs.proofs.passes.pass_video.Goals as goal

pub returns-in-Ok-clause-video : goal.returns-in-Ok-clause-video
returns-in-Ok-clause-video g c =
    let front = front_is g.K.Shelf.files c.args.shelf.now c.args.file.now.name.now c.args.file.now.limit c.new-pass.result c.new-pass.ensures.shelf c.new-pass.ensures.name c.new-pass.ensures.limit
    c.new-pass.ensures.place in
    of_sized _ c.new-pass.result.limit _ c.new-pass.result.place _ c.place-size.result _ (λ whole. IsVideoRead whole (map (λ (stream : Stream). stream.pid) c.args.streams.now) c.args.wanted c.in-Ok.video) _ _ front
    c.new-pass.ensures.place c.read_video-read.ensures.keeps.same_limit c.place-size.ensures.place c.place-size.ensures.within c.in-Ok.ensures.video

pub returns-in-Err-clause-stopped : goal.returns-in-Err-clause-stopped
returns-in-Err-clause-stopped g c =
    let front = front_is g.K.Shelf.files c.args.shelf.now c.args.file.now.name.now c.args.file.now.limit c.new-pass.result c.new-pass.ensures.shelf c.new-pass.ensures.name c.new-pass.ensures.limit
    c.new-pass.ensures.place in
    subst (IsStoppedBy (front_of (g.K.Shelf.files c.args.shelf.now) c.args.file.now.name.now c.args.file.now.limit) (map (λ (stream : Stream). stream.pid) c.args.streams.now)
    (λ whole. IsVideoRefused whole (map (λ (stream : Stream). stream.pid) c.args.streams.now))) (sym c.video_stop.ensures)
    (video_stopped _ _ _ _ _ _ front (map (λ (stream : Stream). stream.pid) c.args.streams.now) c.in-Err.fault c.in-Err.ensures.refused)
