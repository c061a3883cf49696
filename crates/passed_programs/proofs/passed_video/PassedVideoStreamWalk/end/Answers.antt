use Rattle.std.proofs.Common.{true, sym, subst}
use Rattle.std.specs.Option.{option_copied}
use Rattle.program_reader.specs.declared.unit_sizes.SizesWanted.{SizesWanted}
use Rattle.program_reader.specs.VideoWalk.{AreAll, AreFew}
use Rattle.stream_pass.specs.StreamWalk.{IsRefusal}
use Rattle.passed_programs.specs.VideoPackets.{ReadsVideo, RefusesVideo}
use Rattle.elementary_streams.specs.Packets.{taken}
use Rattle.passed_programs.proofs.Bytes.{all_bytes, joined_bytes, taken_bytes}
use Rattle.passed_programs.proofs.TakenVideo.{all_video, end_refused, few_video}
use Rattle.passed_programs.proofs.passed_video.PassedVideoStreamWalk.end.Goals as goal

pub end-requires : goal.end-requires
end-requires c =
    let (start, packets, all, has, split, few) = c.requires in
    record { read = (packets, all, has.0, all_video packets all (option_copied c.args.last) split, few_video all few) }

pub returns-in-Ok : goal.returns-in-Ok
returns-in-Ok c start packets all has split few =
    let are_all = all_video packets all (option_copied c.args.last) split in
    let are_few = few_video all few in
    subst (λ (w : SizesWanted). ReadsVideo w all c.in-Ok.video) has.1 (record {
      walked = λ demuxed same. c.in-Ok.ensures.video packets demuxed has.0 (subst (AreAll packets (option_copied c.args.last)) (sym same) are_all) (subst AreFew (sym same) are_few);
      sized = λ want demuxed same. c.in-Ok.ensures.sizes packets demuxed has.0 (subst (AreAll packets (option_copied c.args.last)) (sym same) are_all) (subst AreFew (sym same) are_few) want;
      bytes = joined_bytes (taken true all) (taken_bytes all (all_bytes packets all (option_copied c.args.last) split has.2 c.see_last.ensures));
    })

pub returns-in-Err : goal.returns-in-Err
returns-in-Err c start packets all has split few =
    let are_all = all_video packets all (option_copied c.args.last) split in
    let are_few = few_video all few in
    subst (IsRefusal (RefusesVideo all)) (sym c.walk_refused.ensures)
    (end_refused all c.in-Err.fault (λ demuxed same.
    c.in-Err.ensures.video packets demuxed has.0 (subst (AreAll packets (option_copied c.args.last)) (sym same) are_all) (subst AreFew (sym same) are_few)))
