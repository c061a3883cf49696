use Rattle.std.proofs.Common.{rules, ◌≤◌, length, get_or, refl, ap, arith}
use Rattle.requantiser.specs.Private.Counts.{tally_in}
use Rattle.requantiser.proofs.Counted.{empty_counted, empty_ended, ended_by}
use Rattle.requantiser.proofs.Tallies.{block_tallied}
use Rattle.requantiser.proofs.tally.add_block.Goals as goal

pub end_empty_block-requires : goal.end_empty_block-requires
end_empty_block-requires c = λ k below. (c.requires.room k below).pattern

pub returns-then-is_empty : goal.returns-then-is_empty
returns-then-is_empty c = λ k below.
    let none : length c.args.pairs.now ≤ 0 = search rules in
    let before = tally_in c.args.targets.now c.args.counts.now k below in
    let behind = tally_in c.args.targets.now c.end_empty_block.new.self k below in
    block_tallied c.args.way _ _ c.args.pairs.now before before behind (empty_counted c.args.way _ _ c.args.pairs.now before none (c.requires.room k below).next)
    (ended_by c.args.way before behind refl (ap (λ xs. get_or xs k 0) c.end_empty_block.ensures.squares)
    (empty_ended c.args.way _ _ _ _ _ _ (c.requires.room k below).next (ap (λ xs. get_or xs k 0) c.end_empty_block.ensures.next) (c.end_empty_block.ensures.patterns k below)
    (ap (λ xs. get_or xs k 0) c.end_empty_block.ensures.bits)))

pub end_block-requires-clause-patterns : goal.end_block-requires-clause-patterns
end_block-requires-clause-patterns c = λ k below. omega (arith, (c.add_coefficients.ensures k below).pattern, (c.requires.room k below).pattern)

pub end_block-requires-clause-room : goal.end_block-requires-clause-room
end_block-requires-clause-room c = λ k below. omega (arith, (c.add_coefficients.ensures k below).few, (c.requires.room k below).bits)

pub returns : goal.returns
returns c = λ k below.
    block_tallied c.args.way _ _ c.args.pairs.now (tally_in c.args.targets.now c.args.counts.now k below) (tally_in c.args.targets.now c.add_coefficients.new.counts k below)
    (tally_in c.args.targets.now c.end_block.new.self k below) (c.add_coefficients.ensures k below)
    (ended_by c.args.way (tally_in c.args.targets.now c.add_coefficients.new.counts k below) (tally_in c.args.targets.now c.end_block.new.self k below) refl
    (ap (λ xs. get_or xs k 0) c.end_block.ensures.squares) (c.end_block.ensures.each k below))
