use Rattle.std.proofs.Common.{◌+◌, ◌∙◌, ℕ, refl, ap}
use Rattle.requantiser.specs.Private.Walk.{head_with}
use Rattle.requantiser.proofs.Outlines.{coded_outlined}
use Rattle.requantiser.proofs.Spelled.{walkable}
use Rattle.requantiser.proofs.outline.coded_head.Goals as goal

pub code_in_force-state-requires-clause-written : goal.code_in_force-state-requires-clause-written
code_in_force-state-requires-clause-written c = (walkable c.requires.spelled.0 c.args.from.now c.requires.spelled.1).measured.code

pub returns : goal.returns
returns c = λ seq coding inner lent spelled tally.
    let from = c.args.from.now in
    let gap : ℕ = c.args.state.now.skipped + from.skipped_before in
    coded_outlined seq coding inner from c.args.state.now _ c.args.tally _ lent (walkable coding from spelled).shape tally c.new-head.result c.requires.stays
    (c.new-head.ensures.value ∙ ap (head_with from.kind.intra c.args.tally.target.code c.args.state.now.version_code gap) c.written_pattern-pattern.ensures)
    refl c.code_in_force-state.ensures.value c.code_in_force-state-2.ensures.value refl refl refl refl
