use Rattle.std.proofs.Common.{◌≡◌, List, take, sym, subst}
use Rattle.cost_sweep.specs.declared.step.CostStep.{CostStep}
use Rattle.multiplier_search.specs.Private.Additions.{IsBestAddition}
use Rattle.multiplier_search.specs.Private.UnitSteps.{AreStepsOf, times_of}
use Rattle.multiplier_search.proofs.BestAddition.{beat-all, best-none, best-on}
use Rattle.multiplier_search.proofs.additions.best_addition.Goals as goal

pub dues-init : goal.dues-init
dues-init c =
    let steps = c.in_ok-sweep.sweep.steps.now in
    record {
      sweep = c.in_ok-sweep.ensures.sweep;
      steps = subst (λ (x : List CostStep). AreStepsOf c.args.table.now c.args.fixed.now c.args.start.now x) (sym c.in_ok-sweep.ensures.steps) c.in_ok-steps.ensures.steps;
      best = best-none c.args.table.now c.args.fixed.now c.args.start.now c.in_ok-sweep.sweep.place steps c.in_ok-sweep.ensures.start;
    }

pub dues-preserved : goal.dues-preserved
dues-preserved c =
    let table = c.args.table.now in
    let fixed = c.args.fixed.now in
    let start = c.args.start.now in
    let place = c.dues.sweep.place in
    let due = c.in-Some.due in
    let new = c.next_due.new.self in
    let same : new.steps.now ≡ c.dues.sweep.steps.now = c.in-Some.ensures.steps in
    let went = c.in-Some.ensures.next in
    let steps : AreStepsOf table fixed start new.steps.now = subst (λ (x : List CostStep). AreStepsOf table fixed start x) (sym same) c.dues.invariant.steps in
    let before : IsBestAddition table fixed start (times_of (take place new.steps.now)) c.dues.best =
    subst (λ (x : List CostStep). IsBestAddition table fixed start (times_of (take place x)) c.dues.best) (sym same) c.dues.invariant.best in
    record {
      sweep = c.in-Some.ensures.sweep;
      steps = steps;
      best = best-on table fixed start place due new c.or_added_at-best.result c.in-Some.ensures.sweep went
          (c.or_added_at-best.ensures fixed (times_of (take place new.steps.now)) steps went.reached before);
    }

pub returns-in-None-clause-additions : goal.returns-in-None-clause-additions
returns-in-None-clause-additions c =
    beat-all c.args.table.now c.args.fixed.now c.args.start.now c.dues.sweep.steps.now c.dues.sweep.place c.dues.best c.with_best.result.items c.in-None.ensures.next c.dues.invariant.steps
    c.dues.invariant.best c.with_best.ensures.added
