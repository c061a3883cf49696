use Rattle.std.proofs.Common.{◌∙◌, arith}
use Rattle.stream_audit.proofs.RemovalLaws.{removed-ahead, removed-back}
use Rattle.stream_audit.proofs.removals.removed_at.Goals as goal

pub returns-then-ahead-clause-value : goal.returns-then-ahead-clause-value
returns-then-ahead-clause-value c = removed-ahead c.args.zero c.args.base c.args.due c.ticks_from-ahead.result c.ticks_from-ahead.ensures.value (omega (arith, c.if-ahead.true))

pub returns-else-ahead-clause-value : goal.returns-else-ahead-clause-value
returns-else-ahead-clause-value c =
    c.saturating_sub.ensures
    ∙ removed-back c.args.zero c.args.base c.args.due c.ticks_from-ahead.result c.ticks_from-ahead.ensures.value (omega (arith, c.if-ahead.false))
    (omega (arith, c.ticks_from-ahead.ensures.less))
