use Rattle.slot_rule.specs.Private.Heads.{PassesAt}
use Rattle.slot_rule.proofs.TurnLaws.{IsFirst-read, IsFirstHead-none, NonePass-read}
use Rattle.slot_rule.proofs.heads.permitted_head.Goals as goal

pub returns-in-Some-clause-first : goal.returns-in-Some-clause-first
returns-in-Some-clause-first c =
    (IsFirst-read (PassesAt c.args.start) c.args.states.now c.args.turns.now c.loop-place.place _ _ c.in-Some.packet c.requires.turns c.loop-place-test.true c.loop-place.invariant c.in-Some.ensures).0

pub returns-in-Some-clause-place : goal.returns-in-Some-clause-place
returns-in-Some-clause-place c =
    (IsFirst-read (PassesAt c.args.start) c.args.states.now c.args.turns.now c.loop-place.place _ _ c.in-Some.packet c.requires.turns c.loop-place-test.true c.loop-place.invariant c.in-Some.ensures).1

pub loop-place-preserved : goal.loop-place-preserved
loop-place-preserved c = NonePass-read (PassesAt c.args.start) c.args.states.now c.args.turns.now c.loop-place.place _ _ c.requires.turns
    c.loop-place-test.true c.loop-place.invariant c.in-None.ensures

pub returns-clause-first : goal.returns-clause-first
returns-clause-first c = IsFirstHead-none (PassesAt c.args.start) c.args.states.now c.args.turns.now c.loop-place.place c.requires.turns c.loop-place.invariant c.loop-place-test.false
