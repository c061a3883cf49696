use Rattle.std.proofs.Common.{◌≡◌, ◌∷◌, List, [], take, sym, subst, ◌∙◌}
use Rattle.cost_sweep.specs.declared.step.CostStep.{CostStep}
use Rattle.multiplier_search.specs.Private.UnitSteps.{AreStepsOf, IsBestValued, times_of}
use Rattle.multiplier_search.proofs.FirstBest.{best-on, none-valued, single-of}
use Rattle.multiplier_search.proofs.single.best_over.Goals as goal

pub dues-init : goal.dues-init
dues-init c = record {
  sweep = c.in_ok-sweep.ensures.sweep;
  steps = c.in_ok-sweep.ensures.steps;
  best = λ fixed are. none-valued c.args.table.now fixed c.in_ok-sweep.sweep.steps.now c.in_ok-sweep.sweep.place c.in_ok-sweep.ensures.start;
}

pub dues-preserved : goal.dues-preserved
dues-preserved c =
    let table = c.args.table.now in
    let place = c.dues.sweep.place in
    let due = c.in-Some.due in
    let new = c.next_due.new.self in
    let same : new.steps.now ≡ c.dues.sweep.steps.now = c.in-Some.ensures.steps in
    let went = c.in-Some.ensures.next in
    record {
      sweep = c.in-Some.ensures.sweep;
      steps = same ∙ c.dues.invariant.steps;
      best = λ fixed steps.
          (let before : IsBestValued table fixed (times_of (take place new.steps.now)) c.dues.best =
          subst (λ (x : List CostStep). IsBestValued table fixed (times_of (take place x)) c.dues.best) (sym same)
          (c.dues.invariant.best fixed (subst (λ (x : List CostStep). AreStepsOf table fixed [] x) same steps)) in
          best-on table fixed place due new c.first_of.result c.in-Some.ensures.sweep went
          (c.first_of.ensures table fixed (times_of (take place new.steps.now)) (due ∷ []) before (c.best_at.ensures fixed steps went.reached)));
    }

pub returns-in-None : goal.returns-in-None
returns-in-None c = λ fixed are.
    let steps : AreStepsOf c.args.table.now fixed [] c.dues.sweep.steps.now = subst (λ (x : List CostStep). AreStepsOf c.args.table.now fixed [] x) (sym c.dues.invariant.steps) are in
    single-of c.args.table.now fixed c.dues.sweep.steps.now c.dues.sweep.place c.dues.best c.found_of.result.items c.in-None.ensures.next steps
    (c.dues.invariant.best fixed steps) c.found_of.ensures
