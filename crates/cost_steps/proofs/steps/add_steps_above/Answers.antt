use Rattle.std.proofs.Common.{◌∷◌, ◌++◌, [], List, ap, subst, sym, ◌∙◌, arith}
use Rattle.cost_sweep.specs.declared.step.CostStep.{CostStep}
use Rattle.cost_steps.specs.Private.Lines.{GoesOn}
use Rattle.cost_steps.proofs.SoFar.{above-base, fewer-packets, goes_on, more-rise, starts, tells}
use Rattle.cost_steps.proofs.steps.add_steps_above.Goals as goal

pub loop-price-init : goal.loop-price-init
loop-price-init c =
    let before = c.args.steps.now.items in
    let pushed = c.in_ok-push.ensures.items ∙ ap (λ (s : CostStep). before ++ s ∷ []) c.first_step.ensures in
    subst (λ (x : List CostStep). GoesOn c.args.base c.args.due c.args.versions.now c.least_line-line.result c.next_price-price.result before x) (sym pushed)
    (starts c.args.due c.args.versions.now c.requires.valid c.args.base c.least_line-line.result c.next_price-price.result before c.requires.base c.least_line-line.ensures
    c.next_price-price.ensures)

pub step_between-requires-clause-order : goal.step_between-requires-clause-order
step_between-requires-clause-order c =
    let goes = c.loop-price.invariant in
    above-base c.args.due c.args.versions.now c.requires.valid c.args.base goes.from c.loop-price.line c.loop-price.price c.least_line-next.result goes.own goes.so_far goes.is_next
    c.loop-price-test.true c.least_line-next.ensures

pub step_between-requires-clause-fewer : goal.step_between-requires-clause-fewer
step_between-requires-clause-fewer c =
    let goes = c.loop-price.invariant in
    omega (
      arith,
      fewer-packets c.args.due c.args.versions.now c.requires.valid c.args.base goes.from c.loop-price.line c.loop-price.price c.least_line-next.result goes.own goes.so_far goes.is_next
          c.loop-price-test.true c.least_line-next.ensures,
    )

pub step_between-requires-clause-rise : goal.step_between-requires-clause-rise
step_between-requires-clause-rise c =
    let goes = c.loop-price.invariant in
    more-rise c.args.due c.args.versions.now c.requires.valid c.args.base goes.from c.loop-price.line c.loop-price.price c.least_line-next.result goes.own goes.so_far goes.is_next
    c.loop-price-test.true c.least_line-next.ensures

pub loop-price-smaller : goal.loop-price-smaller
loop-price-smaller c =
    let goes = c.loop-price.invariant in
    fewer-packets c.args.due c.args.versions.now c.requires.valid c.args.base goes.from c.loop-price.line c.loop-price.price c.least_line-next.result goes.own goes.so_far goes.is_next
    c.loop-price-test.true c.least_line-next.ensures

pub loop-price-preserved : goal.loop-price-preserved
loop-price-preserved c =
    let items = c.loop-price.steps.items in
    let pushed = c.in_ok-push-2.ensures.items ∙ ap (λ (s : CostStep). items ++ s ∷ []) c.step_between.ensures in
    subst (λ (x : List CostStep). GoesOn c.args.base c.args.due c.args.versions.now c.least_line-next.result c.next_price-price-in-loop-price.result c.args.steps.now.items x) (sym pushed)
    (goes_on c.args.due c.args.versions.now c.requires.valid c.args.base c.loop-price.line c.loop-price.price c.least_line-next.result c.next_price-price-in-loop-price.result
    c.args.steps.now.items items c.loop-price.invariant c.loop-price-test.true c.least_line-next.ensures c.next_price-price-in-loop-price.ensures)

pub returns : goal.returns
returns c =
    let goes = c.loop-price.invariant in (
      goes.own,
      goes.is,
      tells c.args.due c.args.versions.now c.requires.valid c.args.base goes.from c.loop-price.line c.loop-price.price goes.own goes.so_far goes.is_next c.loop-price-test.false,
    )
