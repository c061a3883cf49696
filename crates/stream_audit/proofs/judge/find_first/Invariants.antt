use Rattle.std.proofs.Common.{Option, drop}
use Rattle.stream_audit.specs.Findings.{FindsFirst}
use Rattle.stream_audit.specs.declared.finding.Finding.{Finding}
use Rattle.stream_audit.proofs.judge.find_first.Given as goal

abbrev pub invariant-loop-stream : goal.invariant-loop-stream
invariant-loop-stream l = (found : Option Finding) → FindsFirst l.slot (drop l.stream-index l.streams) found → FindsFirst l.slot l.streams found
