use Rattle.std.proofs.Common.{refl}
use Rattle.stream_audit.proofs.SystemLaws.{system_judged}
use Rattle.stream_audit.proofs.sections.system_stream.Goals as goal

pub returns-in-Ok-section_arrivals-clause-judged : goal.returns-in-Ok-section_arrivals-clause-judged
returns-in-Ok-section_arrivals-clause-judged c =
    system_judged c.args.file.now c.args.map_pid _ (rw (c.in-Ok-section_arrivals.ensures.arrivals, c.new.ensures) refl) c.in-Ok-section_arrivals.ensures.headers
