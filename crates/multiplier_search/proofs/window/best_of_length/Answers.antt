use Rattle.std.proofs.Common.{◌≡◌, ◌+◌, ◌<◌, List, [], length, get_or, take, sym, ap, subst, ◌∙◌, arith}
use Rattle.cost_sweep.specs.declared.step.CostStep.{CostStep}
use Rattle.multiplier_search.specs.Private.Lengths.{Outdoes}
use Rattle.multiplier_search.specs.Private.UnitSteps.{AreStepsOf, times_of}
use Rattle.multiplier_search.proofs.BestWindow.{outdoes-all, outdoes-first, outdoes-on}
use Rattle.multiplier_search.proofs.window.best_of_length.Goals as goal

pub dues-init : goal.dues-init
dues-init c = record {
  last = c.in_ok-last.ensures.sweep;
  before = c.in_ok-before.ensures.sweep;
  steps = c.in_ok-last.ensures.steps;
  early = c.in_ok-before.ensures.steps;
  behind = λ j d from within k d' low. absurd (omega (arith, low, c.in_ok-before.ensures.start));
  sound = c.requires.sound;
  best = λ fixed are valued.
      outdoes-first c.args.table.now fixed c.args.ticks c.in_ok-last.last.place c.args.steps.now.steps.items c.args.start valued c.in_ok-last.ensures.start;
}

pub or_at_due-best-requires-clause-behind : goal.or_at_due-best-requires-clause-behind
or_at_due-best-requires-clause-behind c = λ k d low.
    let place = c.dues.last.place in
    let old = c.dues.last.steps.now in
    let new = c.next_due.new.self.steps.now in
    let went = c.in-Some.ensures.next in
    let here : (get_or new place d).due ≡ c.in-Some.due = went.here place d (omega arith) went.more in
    let same : (get_or new place d).due ≡ (get_or old place d).due = ap (λ (x : List CostStep). (get_or x place d).due) c.in-Some.ensures.steps in
    let is : (get_or c.dues.before.steps.now k d).due + c.args.ticks < (get_or old place d).due =
    c.dues.invariant.behind place d (omega arith) c.in-Some.ensures.none k d low in
    omega arith

pub dues-preserved : goal.dues-preserved
dues-preserved c =
    let table = c.args.table.now in
    let ticks = c.args.ticks in
    let place = c.dues.last.place in
    let due = c.in-Some.due in
    let new = c.next_due.new.self in
    let all = c.args.steps.now.steps.items in
    let same : new.steps.now ≡ c.args.steps.now.steps.items = c.in-Some.ensures.steps ∙ c.dues.invariant.steps in
    let went = c.in-Some.ensures.next in
    record {
      last = c.in-Some.ensures.sweep;
      before = c.or_at_due-best.ensures.before;
      steps = same;
      early = c.or_at_due-best.ensures.steps ∙ c.dues.invariant.early;
      behind = λ j d from within k d' low.
          (let is : (get_or c.or_at_due-best.new.before.steps.now k d').due + ticks < due = c.or_at_due-best.ensures.behind k d' low in
          let later : due < (get_or new.steps.now j d).due = went.reached.later j d from within in
          omega arith);
      sound = c.or_at_due-best.ensures.sound;
      best = λ fixed are valued.
          (let so_far = c.dues.invariant.best fixed are valued in
          let of_last : AreStepsOf table fixed [] new.steps.now = subst (λ (x : List CostStep). AreStepsOf table fixed [] x) (sym same) are in
          let of_before : AreStepsOf table fixed [] c.dues.before.steps.now = subst (λ (x : List CostStep). AreStepsOf table fixed [] x) (sym c.dues.invariant.early) are in
          let moved : Outdoes table fixed ticks (times_of (take place new.steps.now)) c.args.start c.dues.best =
          subst (λ (x : List CostStep). Outdoes table fixed ticks (times_of (take place x)) c.args.start c.dues.best) (sym same) so_far in
          subst (λ (x : List CostStep). Outdoes table fixed ticks (times_of (take new.place x)) c.args.start c.or_at_due-best.result) same
          (outdoes-on table fixed ticks place due new c.args.start c.dues.best c.or_at_due-best.result c.in-Some.ensures.sweep went moved
          (c.or_at_due-best.ensures.best fixed of_last of_before went.reached so_far.valued)));
    }

pub returns-in-None-clause-best : goal.returns-in-None-clause-best
returns-in-None-clause-best c = λ fixed are valued.
    outdoes-all c.args.table.now fixed c.args.ticks c.dues.last.place c.args.steps.now.steps.items c.args.start c.dues.best
    (omega (arith, c.in-None.ensures.next, ap (length {A = CostStep}) c.dues.invariant.steps)) are (c.dues.invariant.best fixed are valued)
