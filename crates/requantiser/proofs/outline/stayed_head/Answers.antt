use Rattle.std.proofs.Common.{ℕ, Option, None, ap}
use Rattle.requantiser.specs.declared.head.Head.{Head}
use Rattle.requantiser.proofs.Spelled.{walkable}
use Rattle.requantiser.proofs.StayedHeads.{stayed_outlined}
use Rattle.requantiser.proofs.outline.stayed_head.Goals as goal

pub returns-clause-outlined : goal.returns-clause-outlined
returns-clause-outlined c = λ seq coding inner state lent is spelled tally.
    let head_of : ℕ → Head = λ pattern. record { skipped_before = c.args.from.now.skipped_before; code = None; pattern = pattern } in
    stayed_outlined seq coding inner c.args.from.now state c.args.tally.now lent _ (walkable coding c.args.from.now spelled).shape tally is
    (ap head_of c.written_pattern.ensures)
