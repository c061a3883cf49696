use Rattle.std.proofs.Common.{All, drop}
use Rattle.stream_audit.specs.Findings.{CanBeJudged}
use Rattle.stream_audit.specs.Private.Audit.{AudiosSoFar}
use Rattle.stream_audit.proofs.streams_of.add_audios.Given as goal

abbrev pub invariant-loop-audio : goal.invariant-loop-audio
invariant-loop-audio l = record {
  so_far : AudiosSoFar l.file l.zero l.kept l.audios l.fn.streams (drop l.audio-index l.audios) l.streams;
  judged : All CanBeJudged l.fn.streams → All CanBeJudged l.streams;
}
