use Rattle.std.proofs.lemmas.Bool.{iff_false}
use Rattle.std.proofs.Common.{List, sum_by, ap, ◌∙◌, arith}
use Rattle.certificate_checker.specs.declared.prices.Dated.{Dated}
use Rattle.certificate_checker.specs.Private.Prices.{counted}
use Rattle.certificate_checker.proofs.PriceLaws.{passed_all, passes_one, sum_small}
use Rattle.certificate_checker.proofs.prices.Passing.before.Goals as goal

pub pass-requires-clause-sum : goal.pass-requires-clause-sum
pass-requires-clause-sum c = sum_small c.args.time c.loop-self.self c.loop-self.invariant.passed

pub loop-self-preserved : goal.loop-self-preserved
loop-self-preserved c =
    let next = c.is_next_before.ensures.0 c.loop-self-test.true in
    record {
      passed = passes_one c.args.time c.loop-self.self c.pass.new.self c.loop-self.invariant.passed next.0 next.1 c.pass.ensures.place c.pass.ensures.same c.pass.ensures.sum;
      same = c.pass.ensures.same ∙ c.loop-self.invariant.same;
    }

pub returns-clause-sum : goal.returns-clause-sum
returns-clause-sum c =
    passed_all c.args.time c.loop-self.self c.loop-self.invariant.passed (iff_false c.is_next_before.ensures c.loop-self-test.false)
    ∙ ap (λ (x : List Dated). sum_by (counted c.args.time) x) c.loop-self.invariant.same

pub returns-clause-small : goal.returns-clause-small
returns-clause-small c =
    let has = c.loop-self.invariant.passed in
    omega (arith, sum_small c.args.time c.loop-self.self has, has.within, has.limits.few)
