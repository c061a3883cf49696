use Rattle.std.proofs.Common.{◌∙◌, refl, sym}
use Rattle.requantiser.proofs.Outlines.{skipped_outlined}
use Rattle.requantiser.proofs.Spelled.{walkable}
use Rattle.requantiser.proofs.outline.outline_macroblock.Goals as goal

pub code_in_force-state-requires-clause-written : goal.code_in_force-state-requires-clause-written
code_in_force-state-requires-clause-written c = (walkable c.args.picture.coding.now c.args.from.now c.requires.spelled).measured.code

pub coded_head-requires-clause-stays : goal.coded_head-requires-clause-stays
coded_head-requires-clause-stays c = sym c.is_emptied.ensures ∙ c.if-is_emptied.false

pub returns-then-inner-clause-outlined : goal.returns-then-inner-clause-outlined
returns-then-inner-clause-outlined c =
    skipped_outlined c.args.picture.seq.now c.args.picture.coding.now c.args.inner c.args.from.now c.args.state.now _ c.args.tally _ c.args.to.now.macroblock
    (walkable c.args.picture.coding.now c.args.from.now c.requires.spelled).shape c.requires.tally
    (sym c.is_emptied.ensures ∙ c.if-is_emptied.true) c.if-inner.true refl c.code_in_force-state.ensures.value refl refl refl refl refl

pub returns-clause-outlined : goal.returns-clause-outlined
returns-clause-outlined c = c.coded_head.ensures c.args.picture.seq.now c.args.picture.coding.now c.args.inner c.args.to.now.macroblock c.requires.spelled c.requires.tally
