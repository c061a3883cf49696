use Rattle.std.proofs.Common.{arith}
use Rattle.slot_rule.specs.Private.Heads.{PassesAt}
use Rattle.slot_rule.proofs.HeadLaws.{IsFirstHead-none_all, IsFirstHead-none_more}
use Rattle.slot_rule.proofs.idle.may_go_from.Goals as goal

pub loop-state-preserved : goal.loop-state-preserved
loop-state-preserved c start before =
    IsFirstHead-none_more (PassesAt start) c.args.states.now c.loop-state.state-index _ c.loop-state-test.true (c.loop-state.invariant start (omega (arith, c.min-from.ensures)))
    (λ packet head permits. c.may_go_from.ensures start packet (omega (arith, c.min-from.ensures)) head permits)

pub returns : goal.returns
returns c start before = IsFirstHead-none_all (PassesAt start) c.args.states.now c.loop-state.state-index c.loop-state-test.false (c.loop-state.invariant start before)
