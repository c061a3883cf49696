use Rattle.std.proofs.Common.{rules, ◌≡◌, ◌+◌, ◌<◌, ◌≤◌, true, false, length, refl, arith}
use Rattle.job_programs.specs.Private.Passed.{many_units, late, far}
use Rattle.job_programs.proofs.NextLemmas.{is-not}
use Rattle.job_programs.proofs.PassedLemmas.{units-off}
use Rattle.job_programs.proofs.passed_next.within_limits.Goals as goal

pub returns-then-len-wanted-clause-refused : goal.returns-then-len-wanted-clause-refused
returns-then-len-wanted-clause-refused c = λ program is.
    let same = units-off program c.args.wanted.now.coarser.now c.args.passed is in
    (c.over_limit.ensures, many_units (omega (arith, c.if-len-wanted.true, c.len.ensures, c.requires.units, same)))

pub returns-then-not-passed_within_time-clause-refused : goal.returns-then-not-passed_within_time-clause-refused
returns-then-not-passed_within_time-clause-refused c = λ program is.
    let fails : c.passed_within_time.result ≡ false = search rules in
    (c.over_limit-then-not-passed_within_time.ensures, late (is-not c.passed_within_time.result _ (c.passed_within_time.ensures program is.read_off) fails))

pub returns-then-not-passed_keeps_share-clause-refused : goal.returns-then-not-passed_keeps_share-clause-refused
returns-then-not-passed_keeps_share-clause-refused c = λ program is.
    let fails : c.passed_keeps_share.result ≡ false = search rules in
    (c.over_limit-then-not-passed_keeps_share.ensures, far (is-not c.passed_keeps_share.result _ (c.passed_keeps_share.ensures program is) fails))

pub returns-clause-kept : goal.returns-clause-kept
returns-clause-kept c = λ program is.
    let same = units-off program c.args.wanted.now.coarser.now c.args.passed is in
    let in_time : c.passed_within_time.result ≡ true = search rules in
    let shares : c.passed_keeps_share.result ≡ true = search rules in (
      refl,
      record {
        few_units = omega (arith, c.if-len-wanted.false, c.len.ensures, c.requires.units, same);
        within = (c.passed_within_time.ensures program is.read_off).0 in_time;
        near = (c.passed_keeps_share.ensures program is).0 shares;
      },
    )
