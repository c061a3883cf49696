use Rattle.std.proofs.Common.{◌≡◌, ◌+◌, ◌++◌, List, [], refl, sym, ap, subst, ◌∙◌, arith}
use Rattle.version_table.specs.declared.table.Unit.{Unit as CodedUnit}
use Rattle.version_table.proofs.Chosen.{units_from, units_from_all, units_from_more}
use Rattle.dual_bounds.specs.declared.windows.Window.{Window}
use Rattle.dual_bounds.proofs.LeastCosts.{entries_in}
use Rattle.multiplier_search.specs.Private.UnitSteps.{AddSteps}
use Rattle.multiplier_search.proofs.Added.{added-both, added-none, steps-of}
use Rattle.multiplier_search.proofs.all_steps.steps_of.Goals as goal

pub split_at-requires : goal.split_at-requires
split_at-requires c =
    omega (
      arith,
      c.len.ensures,
      (entries_in [] c.as_slice-program-items.result.now c.loop-program.program-index c.program-item.result c.loop-program.rest.now c.loop-program-test.true
          c.program-item.is c.loop-program.invariant.names
          c.program-item.result.units c.len.result _ _ refl c.len.ensures refl refl).enough,
    )

pub add_units-requires-clause-names : goal.add_units-requires-clause-names
add_units-requires-clause-names c =
    (entries_in [] c.as_slice-program-items.result.now c.loop-program.program-index c.program-item.result c.loop-program.rest.now c.loop-program-test.true
    c.program-item.is c.loop-program.invariant.names
    c.as_slice.result.now c.len.result c.split_at.result.0.now c.split_at.result.1.now c.as_slice.ensures c.len.ensures c.split_at.ensures.front c.split_at.ensures.back).of_units

pub loop-program-preserved : goal.loop-program-preserved
loop-program-preserved c =
    let programs = c.as_slice-program-items.result.now in
    let i = c.loop-program.program-index in
    let program = c.program-item.result in
    let parts = λ (all : List Window). entries_in all programs i program c.loop-program.rest.now c.loop-program-test.true c.program-item.is c.loop-program.invariant.names
    c.as_slice.result.now c.len.result c.split_at.result.0.now c.split_at.result.1.now c.as_slice.ensures c.len.ensures c.split_at.ensures.front c.split_at.ensures.back in
    let whole : units_from programs i ≡ c.as_slice.result.now ++ units_from programs (i + 1) =
    units_from_more programs i program c.loop-program-test.true c.program-item.is ∙ ap (λ (x : List CodedUnit). x ++ units_from programs (i + 1)) (sym c.as_slice.ensures) in
    record {
      names = (parts []).of_others;
      steps = λ after later. c.loop-program.invariant.steps after
          (added-both c.args.windows.now (units_from programs i) c.as_slice.result.now (units_from programs (i + 1)) c.loop-program.rest.now c.split_at.result.0.now c.split_at.result.1.now _ _ after whole
          (λ all. (parts all).total) c.in_ok-add_units.ensures later);
    }

pub returns : goal.returns
returns c =
    let items = c.loop-program.steps.items in
    let none = units_from_all c.as_slice-program-items.result.now c.loop-program.program-index c.loop-program-test.false in
    steps-of c.args.table.now c.args.fixed.now c.args.windows.now items c.requires.valid.units
    (c.loop-program.invariant.steps items (subst (λ (x : List CodedUnit). AddSteps c.args.windows.now x c.loop-program.rest.now items items) (sym none) (added-none c.args.windows.now c.loop-program.rest.now items)))
