use Rattle.std.proofs.Common.{arith}
use Rattle.tstd_model.proofs.WatchLaws.{least-more, most-more}
use Rattle.tstd_model.proofs.runs.Passed.and.Goals as goal

pub returns-clause-first : goal.returns-clause-first
returns-clause-first c = λ taken each.
    least-more c.args.self.first c.min.result c.args.at c.args.count taken (omega (arith, c.min.ensures)) (omega (arith, c.min.ensures)) each

pub returns-clause-last : goal.returns-clause-last
returns-clause-last c = λ taken each.
    most-more c.args.self.last c.max.result c.args.at c.args.count taken (omega (arith, c.max.ensures)) (omega (arith, c.max.ensures)) each
