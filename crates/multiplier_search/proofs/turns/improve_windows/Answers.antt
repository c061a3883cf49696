use Rattle.std.proofs.Common.{◌<◌, List, subst, inl, inr, arith, ◌≤ℤ◌}
use Rattle.std.proofs.lemmas.Bool.{cases_eq}
use Rattle.std.proofs.lemmas.Int.{ints}
use Rattle.dual_bounds.specs.declared.windows.Window.{Window}
use Rattle.dual_bounds.specs.Values.{value_of_windows}
use Rattle.multiplier_search.specs.Private.Turns.{AreNext}
use Rattle.multiplier_search.specs.Turns.{BeatChanges}
use Rattle.multiplier_search.proofs.Steps.{changes-rise}
use Rattle.multiplier_search.proofs.turns.improve_windows.Goals as goal

pub loop-left-preserved : goal.loop-left-preserved
loop-left-preserved c =
    let table = c.args.table.now in
    let fixed = c.args.fixed.now in
    let start = c.args.from.now.items in
    let with = c.loop-left.with.items in
    let next = c.best_change-next.result.items in
    let same = c.as_slice-in-loop-left.ensures.value in
    let follows : AreNext with 0 next = subst (λ (x : List Window). AreNext x 0 next) same c.best_change-next.ensures.next in
    let few = follows.few in
    let so_far = c.loop-left.invariant.value in
    let rise : value_of_windows table fixed with ≤ℤ value_of_windows table fixed next =
    subst (λ (x : List Window). value_of_windows table fixed x ≤ℤ value_of_windows table fixed next) same c.best_change-next.ensures.value in
    let changes : BeatChanges table fixed with next = subst (λ (x : List Window). BeatChanges table fixed x next) same c.best_change-next.ensures.changes in
    let less : c.turns_left-left.result < c.loop-left.left = c.turns_left-left.ensures in
    let order = c.loop-left.invariant.order in
    record {
      order = omega arith;
      few = omega (arith, c.loop-left.invariant.few);
      searched = follows.searched;
      value = omega (arith, ints);
      fresh = λ none. absurd (omega arith);
      changes = λ begun. elim (cases_eq c.loop-left.left c.args.turns) as (λ _. BeatChanges table fixed start next) [
        | inl first ↦ subst (λ (x : List Window). BeatChanges table fixed x next) (c.loop-left.invariant.fresh first) changes
        | inr later ↦ changes-rise table fixed start with next rise (c.loop-left.invariant.changes (omega arith))
      ];
    }
