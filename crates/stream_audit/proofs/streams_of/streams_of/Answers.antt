use Rattle.std.proofs.Common.{[], ◌∷◌, sym, subst}
use Rattle.ts_demux.specs.Demux.{AreStreamsSound}
use Rattle.stream_audit.proofs.AuditLaws.{all_judged, are_streams, video_refused}
use Rattle.stream_audit.proofs.streams_of.streams_of.Goals as goal

pub video_in-requires-clause-sound : goal.video_in-requires-clause-sound
video_in-requires-clause-sound c =
    let carried = c.requires.carried in
    subst (λ pid. AreStreamsSound c.args.file.now (pid ∷ [])) (sym (c.first_pid-pid.ensures carried.video carried.others carried.video_is)) carried.video_sound

pub returns-clause-streams : goal.returns-clause-streams
returns-clause-streams c = λ map_pid system_is.
    (let carried = c.requires.carried in
    are_streams c.in-Ok.video c.args.system c.new-streams.result c.push.new.self c.add_audios.new.streams c.push-2.new.self c.new-streams.ensures c.in_ok-push.ensures.ok
    c.in_ok-push-2.ensures.ok c.args.file.now c.args.zero map_pid c.first_pid-pid.result c.args.kept.now c.args.demuxed.now carried c.as_slice.result.now c.as_slice-audios.result.now
    (c.first_pid-pid.ensures carried.video carried.others carried.video_is) c.as_slice.ensures c.as_slice-audios.ensures c.in-Ok.ensures.sound c.in-Ok.ensures.stream
    c.in-Ok-add_audios.ensures.added system_is)

pub returns-clause-judged : goal.returns-clause-judged
returns-clause-judged c =
    all_judged c.in-Ok.video c.args.system c.new-streams.result c.push.new.self c.add_audios.new.streams c.push-2.new.self c.new-streams.ensures c.in_ok-push.ensures.ok
    c.in_ok-push-2.ensures.ok c.in-Ok.ensures.judged c.requires.system c.in-Ok-add_audios.ensures.judged

pub returns-in-Err-clause-refused : goal.returns-in-Err-clause-refused
returns-in-Err-clause-refused c =
    video_refused c.args.kept.now c.args.demuxed.now c.as_slice.result.now c.in-Err.stop c.as_slice.ensures c.in-Err.ensures.refused
