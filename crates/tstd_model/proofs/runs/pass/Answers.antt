use Rattle.std.proofs.Common.{◌-◌, ◌++◌, replicate, arith}
use Rattle.tstd_model.proofs.WatchLaws.{passed-more}
use Rattle.tstd_model.proofs.runs.pass.Goals as goal

pub returns-then-wanted-run : goal.returns-then-wanted-run
returns-then-wanted-run g c =
    let run = c.runs.run in
    let wanted = c.args.count - c.runs.passed.count in
    let few = c.runs.invariant.few in
    record {
      has =
          passed-more c.runs.passed c.and.result (replicate c.args.run.now.count c.args.run.now.at ++ g.R.Runs.left c.args.runs.now) (g.R.Runs.left c.runs.runs)
          wanted (run.count - wanted) run.count run.at (omega (arith, c.if-wanted-run.true)) c.and.ensures.count c.and.ensures.first c.and.ensures.last
          c.runs.invariant.so_far;
      few = omega (arith, c.and.ensures.count, few);
      all = λ less. absurd (omega (arith, c.and.ensures.count, few, less));
    }
