use Rattle.std.proofs.Common.{Some, None, ap, refl}
use Rattle.stream_audit.specs.Findings.FindsOn.{faulty, full}
use Rattle.stream_audit.proofs.Judging.{judged-of}
use Rattle.stream_audit.proofs.judge.find_on.Goals as goal

pub returns-in-Some : goal.returns-in-Some
returns-in-Some c =
    let stream = c.args.stream.now in
    faulty c.in-Some.fault
    (judged-of c.args.slot stream.kind stream.arrivals c.as_slice.result.now stream.removals c.as_slice-2.result.now (Some c.in-Some.fault) c.as_slice.ensures c.as_slice-2.ensures c.in-Some.ensures)
    (ap Some c.finding_of.ensures)

pub returns-in-Some-first_full_of : goal.returns-in-Some-first_full_of
returns-in-Some-first_full_of c =
    let stream = c.args.stream.now in
    full c.in-Some-first_full_of.at
    (judged-of c.args.slot stream.kind stream.arrivals c.as_slice.result.now stream.removals c.as_slice-2.result.now None c.as_slice.ensures c.as_slice-2.ensures c.in_default.ensures)
    c.in-Some-first_full_of.ensures refl
