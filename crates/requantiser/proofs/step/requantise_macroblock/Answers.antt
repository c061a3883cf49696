use Rattle.std.proofs.Common.{◌+◌, Some, subst, sym}
use Rattle.requantiser.specs.Macroblocks.{IsCoarserAt}
use Rattle.requantiser.proofs.Macroblocks.{coarsened_macroblock-is}
use Rattle.requantiser.proofs.Spelled.{walkable}
use Rattle.requantiser.proofs.StatesBehind.{state-behind}
use Rattle.requantiser.proofs.step.requantise_macroblock.Goals as goal

pub step-requires-clause-shape : goal.step-requires-clause-shape
step-requires-clause-shape c = (walkable c.args.picture.coding.now c.args.from.now c.requires.spelled).shape

pub step-requires-clause-measured : goal.step-requires-clause-measured
step-requires-clause-measured c = (walkable c.args.picture.coding.now c.args.from.now c.requires.spelled).measured

pub returns-clause-at : goal.returns-clause-at
returns-clause-at c =
    let seq = c.args.picture.seq.now in
    let coding = c.args.picture.coding.now in
    let state = c.args.state.now in
    let from = c.args.from.now in
    subst (IsCoarserAt seq coding state.m c.args.inner state.source_code state.version_code (Some from)) (sym c.step.ensures.made)
    (coarsened_macroblock-is seq coding state.m c.args.inner state.source_code state.version_code (state.skipped + from.skipped_before) from
    (walkable coding from c.requires.spelled).shape)

pub returns-clause-behind : goal.returns-clause-behind
returns-clause-behind c =
    let is = c.step.ensures in
    state-behind c.step.result c.args.from.now c.step.new.to c.args.state.now c.step.new.state is.ratio is.source_code is.version_code is.skipped is.placed
