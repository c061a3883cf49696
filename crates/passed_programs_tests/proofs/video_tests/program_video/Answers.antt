use Rattle.std.proofs.Common.{List, inl, inr, sym, subst}
use Rattle.psi_tables.specs.declared.stream.Stream.{Stream}
use Rattle.ts_demux.specs.CarriedPackets.{AreDistinct}
use Rattle.elementary_streams.specs.NearTimes.{IsNear}
use Rattle.program_reader.specs.declared.video_walk.WalkedVideo.{WalkedVideo}
use Rattle.program_reader.specs.Programs.{IsProgramRefused}
use Rattle.program_reader.specs.VideoWalk.{IsVideoWalked}
use Rattle.passed_programs.specs.declared.read_fault.ReadFault.TheVariants as faults
use Rattle.passed_programs_tests.proofs.Programs.{fault_then, pids_in, read_of, refused_of, video_then}
use Rattle.passed_programs_tests.proofs.video_tests.program_video.Goals as goal

pub read_video-requires-clause-distinct : goal.read_video-requires-clause-distinct
read_video-requires-clause-distinct c =
    let (number, drop, is) = c.requires.taken_out in
    subst (λ (streams : List Stream). AreDistinct (pids_in streams)) (sym c.as_slice-streams.ensures.value)
    (c.carried_pids_differ.ensures drop is.tables.whole c.args.program.now.map c.args.program.now.not_carried is.tables.carried_is)

pub returns-clause-video : goal.returns-clause-video
returns-clause-video c =
    let (number, drop, is) = c.requires.taken_out in
    let file = c.args.file.now in
    let program = c.args.program.now in
    video_then c.read_video.result _ (IsVideoWalked program)
    (λ video said. c.as_demuxed.ensures.video file number drop program _ video is
    (read_of file c.new.result program.map.streams.items c.as_slice-streams.result.now c.new.ensures c.as_slice-streams.ensures.value _ video
    (c.of_told_file.ensures.video c.new.result _ _ _ _ (pids_in c.as_slice-streams.result.now) _ video said)))
    c.read_video.ensures.video

pub returns-clause-near : goal.returns-clause-near
returns-clause-near c =
    video_then c.read_video.result _ (λ (video : WalkedVideo). IsNear 0 video.first.stated)
    (λ video said. (c.near_times.ensures.read c.new.result (pids_in c.as_slice-streams.result.now) _ video
    (c.of_told_file.ensures.video c.new.result _ _ _ _ (pids_in c.as_slice-streams.result.now) _ video said)).0)
    c.read_video.ensures.video

pub returns-clause-refused : goal.returns-clause-refused
returns-clause-refused c = λ number drop fault is few same.
    let file = c.args.file.now in
    let program = c.args.program.now in
    let pids = pids_in c.as_slice-streams.result.now in
    let said = fault_then c.read_video.result _ (faults.Refused fault) same c.read_video.ensures.refused in
    elim (c.of_told_file.ensures.refused c.new.result _ _ _ _ pids fault said) [
      | inl memory ↦ IsProgramRefused.memory memory
      | inr refused ↦ c.as_refused.ensures.video file number drop program.map program.not_carried fault is.tables is.few is.short few
          (refused_of file c.new.result program.map.streams.items c.as_slice-streams.result.now c.new.ensures c.as_slice-streams.ensures.value fault refused)
    ]
