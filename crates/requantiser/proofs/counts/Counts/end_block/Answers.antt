use Rattle.std.proofs.Common.{rules, ◌≡◌, ◌∙◌, ℕ, get_or, refl, ap}
use Rattle.std.specs.Prelude.{◌==◌, not}
use Rattle.std.proofs.lemmas.List.{get_or-replicate}
use Rattle.bit_lists.specs.Fields.{flag}
use Rattle.picture_grammar.specs.Block.{first_place}
use Rattle.requantiser.proofs.Counted.{ended_of, flag_few}
use Rattle.requantiser.proofs.counts.Counts.end_block.Goals as goal

pub add_ends-requires-clause-flags : goal.add_ends-requires-clause-flags
add_ends-requires-clause-flags c = λ k below. flag_few _ _ (c.coded_in-coded.ensures k below)

pub add_blocks-requires-clause-flags : goal.add_blocks-requires-clause-flags
add_blocks-requires-clause-flags c = λ k below. flag_few _ _ (c.coded_in-coded.ensures k below)

pub returns-clause-each : goal.returns-clause-each
returns-clause-each c = λ k below.
    let first : c.from-first.result ≡ first_place c.args.way = search rules in
    ended_of c.args.way _ _ _ _ _ _ _ _ (get_or-replicate 8 k c.from-first.result 0 below ∙ first)
    (c.coded_in-coded.ensures k below ∙ ap (λ (n : ℕ). flag (not (get_or c.args.self.now.next k 0 == n))) first) (c.add_blocks.ensures k below) refl
    (c.add_ends.ensures.each k below) (c.add_ends.ensures.few k below)
