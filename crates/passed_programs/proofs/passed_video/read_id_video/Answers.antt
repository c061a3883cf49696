use Rattle.std.proofs.Common.{[], ℕ, List, IfOk, refl, subst}
use Rattle.ts_demux.specs.Pass.{IsWhole}
use Rattle.program_reader.specs.declared.unit_sizes.SizesWanted.{SizesWanted}
use Rattle.program_reader.specs.declared.video_walk.WalkedVideo.{WalkedVideo}
use Rattle.stream_pass.specs.PassedElements.{IsOfId}
use Rattle.passed_programs.specs.VideoPackets.{ReadsVideo}
use Rattle.passed_programs.proofs.passed_video.read_id_video.Goals as goal

pub pass_elements-requires : goal.pass_elements-requires
pass_elements-requires g c = (c.new.ensures.read, refl, tt)

pub returns-clause-video : goal.returns-clause-video
returns-clause-video g c =
    subst (λ (w : SizesWanted). IfOk c.pass_elements.result (λ (video : WalkedVideo). IsWhole (g.S.Source.left c.args.source.now) (g.S.Source.left c.pass_elements.new.source)
    (g.S.Source.most c.args.source.now) (g.S.Source.most c.pass_elements.new.source) [] (λ (file : List ℕ). IsOfId file c.args.id (ReadsVideo w) video)))
    c.new.ensures.wanted c.pass_elements.ensures.read
