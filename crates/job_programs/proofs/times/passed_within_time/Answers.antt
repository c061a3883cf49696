use Rattle.std.proofs.Common.{rules, ◌≡◌, false, true}
use Rattle.job_programs.proofs.TimeLemmas.{times-by, times-not}
use Rattle.job_programs.proofs.times.passed_within_time.Goals as goal

pub returns-then-not-are_units_by : goal.returns-then-not-are_units_by
returns-then-not-are_units_by c = λ program off.
    let fails : c.are_units_by.result ≡ false = search rules in
    times-not c.are_units_by.result c.args.slot c.last_of-last.result program c.args.passed.now c.as_slice.result.now c.last_of-last.ensures off c.as_slice.ensures c.are_units_by.ensures fails

pub returns : goal.returns
returns c = λ program off.
    let holds : c.are_units_by.result ≡ true = search rules in
    times-by c.are_streams_by.result c.args.slot c.last_of-last.result program c.args.passed.now c.as_slice.result.now c.as_slice-2.result.now c.last_of-last.ensures off c.as_slice.ensures c.as_slice-2.ensures
    (c.are_units_by.ensures.0 holds) c.are_streams_by.ensures
