use Rattle.std.proofs.Common.{◌+◌, ◌<◌, ◌∷◌, length, drop, get_or, List, Option, None, ℕ, sym, subst, ap, ◌∙◌, arith}
use Rattle.std.proofs.lemmas.List.{drop_all, drop_more}
use Rattle.version_table.specs.declared.table.Unit.{Unit as CodedUnit}
use Rattle.dual_bounds.specs.Fixed.{NamesVersion}
use Rattle.dual_bounds.proofs.LeastCosts.{names_at, names_length}
use Rattle.multiplier_search.specs.Private.UnitSteps.{AddSteps}
use Rattle.multiplier_search.proofs.Added.{added-first, added-none}
use Rattle.multiplier_search.proofs.all_steps.add_units.Goals as goal

pub bounds-fixed-i : goal.bounds-fixed-i
bounds-fixed-i c = omega (arith, names_length c.args.units.now c.args.fixed.now c.requires.names)

pub add_unit-requires-clause-names : goal.add_unit-requires-clause-names
add_unit-requires-clause-names c =
    let unit = c.index-units-i.result in
    subst (λ (u : CodedUnit). NamesVersion u (get_or c.args.fixed.now c.loop-i.i None)) (sym c.index-units-i.is)
    (names_at c.args.units.now c.args.fixed.now c.loop-i.i unit None c.requires.names c.loop-i-test.true)

pub loop-i-preserved : goal.loop-i-preserved
loop-i-preserved c = λ after later.
    let units = c.args.units.now in
    let fixed = c.args.fixed.now in
    let i = c.loop-i.i in
    let unit = c.index-units-i.result in
    let within : i < length fixed = omega (arith, names_length units fixed c.requires.names) in
    let first = drop_more units i unit c.loop-i-test.true ∙ ap (λ (u : CodedUnit). u ∷ drop (i + 1) units) (sym c.index-units-i.is) in
    let second = drop_more fixed i None within in
    c.loop-i.invariant after
    (subst (λ (us : List CodedUnit). AddSteps c.args.windows.now us (drop i fixed) c.loop-i.steps.items after) (sym first)
    (subst (λ (es : List (Option ℕ)). AddSteps c.args.windows.now (unit ∷ drop (i + 1) units) es c.loop-i.steps.items after) (sym second)
    (added-first c.args.windows.now unit (get_or fixed i None) (drop (i + 1) units) (drop (i + 1) fixed) c.loop-i.steps.items _ after c.requires.room c.in_ok-add_unit.ensures later)))

pub returns : goal.returns
returns c =
    let items = c.loop-i.steps.items in
    let rest = drop c.loop-i.i c.args.fixed.now in
    let none = drop_all c.loop-i.i c.args.units.now c.loop-i-test.false in
    c.loop-i.invariant items (subst (λ (us : List CodedUnit). AddSteps c.args.windows.now us rest items items) (sym none) (added-none c.args.windows.now rest items))
