use Rattle.std.proofs.Common.{All, sym, subst}
use Rattle.std.proofs.lemmas.List.Elements.{All-push}
use Rattle.stream_audit.specs.Findings.{CanBeJudged}
use Rattle.stream_audit.proofs.AuditLaws.{at_end, first_of_all, one_further, refused_here}
use Rattle.stream_audit.proofs.streams_of.add_audios.Goals as goal

pub loop-audio-init : goal.loop-audio-init
loop-audio-init c = record { so_far = first_of_all c.args.file.now c.args.zero c.args.kept.now c.args.audios.now c.args.streams.now; judged = λ all. all }

pub returns-in-Err-clause-refused : goal.returns-in-Err-clause-refused
returns-in-Err-clause-refused c =
    refused_here c.args.file.now c.args.zero c.args.kept.now c.args.audios.now c.args.streams.now c.loop-audio.streams c.loop-audio.audio-index c.loop-audio.invariant.so_far _
    c.audio-item.result c.in-Err.stop c.loop-audio-test.true c.audio-item.is c.in-Err.ensures.refused

pub loop-audio-preserved : goal.loop-audio-preserved
loop-audio-preserved c = record {
  so_far = one_further c.args.file.now c.args.zero c.args.kept.now c.args.audios.now c.args.streams.now c.loop-audio.streams c.loop-audio.audio-index c.loop-audio.invariant.so_far _
      c.audio-item.result c.in-Ok.stream c.push.new.self c.loop-audio-test.true c.audio-item.is c.in-Ok.ensures.stream c.in-Ok.ensures.sound c.in_ok-push.ensures.ok;
  judged = λ all. subst (All CanBeJudged) (sym c.in_ok-push.ensures.ok)
      (All-push CanBeJudged c.loop-audio.streams c.in-Ok.stream (c.loop-audio.invariant.judged all) c.in-Ok.ensures.judged);
}

pub returns-clause-added : goal.returns-clause-added
returns-clause-added c =
    at_end c.args.file.now c.args.zero c.args.kept.now c.args.audios.now c.args.streams.now c.loop-audio.streams c.loop-audio.audio-index c.loop-audio.invariant.so_far
    c.loop-audio-test.false

pub returns-clause-judged : goal.returns-clause-judged
returns-clause-judged c = λ all. c.loop-audio.invariant.judged all
