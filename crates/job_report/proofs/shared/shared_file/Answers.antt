use Rattle.std.proofs.Common.{◌+◌, map, sym, ap, ◌∙◌}
use Rattle.job_report.proofs.SharedFiles.{named, shared_later, shared_here}
use Rattle.job_report.proofs.shared.shared_file.Goals as goal

pub returns-then-is_among : goal.returns-then-is_among
returns-then-is_among c =
    let is = named c.args.names.now c.program-item.result.file c.is_among.result (rw (← c.as_str.ensures) c.is_among.ensures) in
    let here = shared_here (map (λ name. name.now) c.args.names.now) c.args.job.now.programs c.loop-program.program-index c.program-item.result
    (rw (← c.as_slice-program-items.ensures) c.loop-program-test.true) (rw (← c.as_slice-program-items.ensures) c.program-item.is) (is ∙ c.if-is_among.true) in
    rw (c.full_name.ensures, c.loop-program.invariant.count, c.loop-program.invariant.rest) (sym here)

pub loop-program-preserved : goal.loop-program-preserved
loop-program-preserved c =
    let is = named c.args.names.now c.program-item.result.file c.is_among.result (rw (← c.as_str.ensures) c.is_among.ensures) in
    let later = shared_later (map (λ name. name.now) c.args.names.now) c.args.job.now.programs c.loop-program.program-index c.program-item.result
    (rw (← c.as_slice-program-items.ensures) c.loop-program-test.true) (rw (← c.as_slice-program-items.ensures) c.program-item.is) (is ∙ c.if-is_among.false) in
    record { count = ap (λ n. n + 1) c.loop-program.invariant.count; rest = c.loop-program.invariant.rest ∙ later }
