use Rattle.std.proofs.Common.{arith}
use Rattle.cost_steps.proofs.Lines.{at-more, before-more}
use Rattle.cost_steps.proofs.steps.next_price.Goals as goal

pub loop-version-preserved : goal.loop-version-preserved
loop-version-preserved c =
    let versions = c.args.versions.now in
    let i = c.loop-version.version-index in
    let from = c.loop-version.next in
    let cross = c.crossing.result in
    let next = c.min-next.result in
    record {
      most = omega (arith, c.loop-version.invariant.most, c.crossing.ensures.most, c.min-next.ensures);
      before = before-more versions c.args.line c.line_of.result i from cross next _ c.loop-version-test.true c.line_of.ensures.line c.min-next.ensures c.loop-version.invariant.before
          c.crossing.ensures.before;
      at = at-more versions c.args.line c.line_of.result i from cross next _ c.loop-version-test.true c.line_of.ensures.line c.min-next.ensures
          c.loop-version.invariant.at c.crossing.ensures.at c.crossing.ensures.fewer;
    }
