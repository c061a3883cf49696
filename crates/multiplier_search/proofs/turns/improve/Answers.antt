use Rattle.std.proofs.Common.{◌≡◌, ℕ, ◌<◌, List, length, map, sym, ap, subst, ◌∙◌, inl, inr, arith, ◌≤ℤ◌}
use Rattle.std.proofs.lemmas.Bool.{cases_eq}
use Rattle.std.proofs.lemmas.Int.{ints}
use Rattle.std.proofs.lemmas.List.{length-map}
use Rattle.version_table.specs.Table.{units_of}
use Rattle.dual_bounds.specs.declared.constants.TheConstants.{WINDOWS_MOST}
use Rattle.dual_bounds.specs.declared.windows.Window.{Window}
use Rattle.dual_bounds.specs.Values.{from_start, value_of_multipliers, value_of_windows}
use Rattle.multiplier_search.specs.Private.Turns.{AreFromStart, AreNext}
use Rattle.multiplier_search.specs.Single.{dues_of}
use Rattle.multiplier_search.specs.Turns.{BeatAdditions, BeatChanges}
use Rattle.multiplier_search.specs.Windows.{AreSearched}
use Rattle.multiplier_search.proofs.Steps.{additions-rise, changes-rise, from-start, order-searched, searched-order}
use Rattle.multiplier_search.proofs.turns.improve.Goals as goal

pub loop-left-init : goal.loop-left-init
loop-left-init c =
    let table = c.args.table.now in
    let fixed = c.args.fixed.now in
    let from = c.args.from.now.items in
    let start : List Window = map from_start from in
    let with = c.windows_of-with.result.items in
    let is : with ≡ start = c.windows_of-with.ensures ∙ ap (map from_start) c.as_slice.ensures.value in
    let same : value_of_windows table fixed start ≤ℤ value_of_windows table fixed start = omega (arith, ints) in
    record {
      order = omega arith;
      few = omega (arith, ap (length {A = Window}) is, length-map from from_start);
      searched = subst (λ (x : List Window). AreSearched x) (sym is) (order-searched from c.requires.order);
      starts = subst (λ (x : List Window). AreFromStart x) (sym is) (from-start from);
      value = subst (λ (x : List Window). value_of_windows table fixed start ≤ℤ value_of_windows table fixed x) (sym is) same;
      fresh = λ _. is;
      changes = λ less. absurd (omega arith);
      additions = λ less. absurd (omega arith);
    }

pub loop-left-preserved : goal.loop-left-preserved
loop-left-preserved c =
    let table = c.args.table.now in
    let fixed = c.args.fixed.now in
    let from = c.args.from.now.items in
    let start : List Window = map from_start from in
    let dues : List ℕ = dues_of (units_of table) in
    let with = c.loop-left.with.items in
    let next = c.in_ok-next.next.items in
    let same = c.as_slice-in-loop-left.ensures.value in
    let follows : AreNext with 1 next = subst (λ (x : List Window). AreNext x 1 next) same c.in_ok-next.ensures.next in
    let few = follows.few in
    let so_far = c.loop-left.invariant.value in
    let rise : value_of_windows table fixed with ≤ℤ value_of_windows table fixed next =
    subst (λ (x : List Window). value_of_windows table fixed x ≤ℤ value_of_windows table fixed next) same c.in_ok-next.ensures.value in
    let changes : BeatChanges table fixed with next = subst (λ (x : List Window). BeatChanges table fixed x next) same c.in_ok-next.ensures.changes in
    let additions : length with < WINDOWS_MOST → BeatAdditions table fixed dues with next =
    subst (λ (x : List Window). length x < WINDOWS_MOST → BeatAdditions table fixed dues x next) same c.in_ok-next.ensures.additions in
    let less : c.turns_left-left.result < c.loop-left.left = c.turns_left-left.ensures in
    let order = c.loop-left.invariant.order in
    record {
      order = omega arith;
      few = omega (arith, c.loop-left.invariant.few);
      searched = follows.searched;
      starts = follows.starts c.loop-left.invariant.starts;
      value = omega (arith, ints);
      fresh = λ none. absurd (omega arith);
      changes = λ begun. elim (cases_eq c.loop-left.left c.args.turns) as (λ _. BeatChanges table fixed start next) [
        | inl first ↦ subst (λ (x : List Window). BeatChanges table fixed x next) (c.loop-left.invariant.fresh first) changes
        | inr later ↦ changes-rise table fixed start with next rise (c.loop-left.invariant.changes (omega arith))
      ];
      additions = λ begun room. elim (cases_eq c.loop-left.left c.args.turns) as (λ _. BeatAdditions table fixed dues start next) [
        | inl first ↦ (let is : with ≡ start = c.loop-left.invariant.fresh first in
            subst (λ (x : List Window). BeatAdditions table fixed dues x next) is
            (additions (omega (arith, ap (length {A = Window}) is, length-map from from_start))))
        | inr later ↦ additions-rise table fixed dues start with next rise (c.loop-left.invariant.additions (omega arith) room)
      ];
    }

pub returns-clause-start : goal.returns-clause-start
unfolding value_of_multipliers
returns-clause-start c =
    let table = c.args.table.now in
    let fixed = c.args.fixed.now in
    let start : List Window = map from_start c.args.from.now.items in
    let is : map from_start c.multipliers_of.result.items ≡ c.loop-left.with.items = c.multipliers_of.ensures ∙ c.as_slice-2.ensures.value in
    subst (λ (x : List Window). value_of_windows table fixed start ≤ℤ value_of_windows table fixed x) (sym is) c.loop-left.invariant.value

pub returns-clause-order : goal.returns-clause-order
returns-clause-order c =
    let is : map from_start c.multipliers_of.result.items ≡ c.loop-left.with.items = c.multipliers_of.ensures ∙ c.as_slice-2.ensures.value in
    searched-order c.multipliers_of.result.items (subst (λ (x : List Window). AreSearched x) (sym is) c.loop-left.invariant.searched)
