use Rattle.std.proofs.Common.{All, List, None, refl, sym, subst, arith}
use Rattle.slot_rule.specs.declared.queue_state.QueueState.{QueueState}
use Rattle.slot_rule.specs.Private.Heads.{IsFirst, IsFirstHead, PassesAt}
use Rattle.slot_rule.specs.Private.QueueState.{IsReady}
use Rattle.slot_rule.specs.Private.States.{ReleasesAll}
use Rattle.slot_rule.proofs.RunLaws.{IsSender-released}
use Rattle.slot_rule.proofs.SendLaws.{All-over, released_ready}
use Rattle.slot_rule.proofs.run_state.RunState.send_first.Goals as goal

pub permitted_head-requires-clause-ready : goal.permitted_head-requires-clause-ready
permitted_head-requires-clause-ready c =
    subst (λ (list : List QueueState). All IsReady list) (sym c.as_slice.ensures.value)
    (All-over (ReleasesAll c.args.table.now c.args.choice.now c.args.start) IsReady IsReady c.args.self.now.states.items c.release.new.self.states.items c.release.ensures.releases
    (released_ready c.args.table.now c.args.choice.now c.args.start) c.requires.ready)

pub send-requires-clause-sender : goal.send-requires-clause-sender
send-requires-clause-sender c =
    IsSender-released c.args.table.now c.args.choice.now c.args.start c.args.self.now.states.items c.release.new.self.states.items c.in-Some.head.stream c.in-Some.head.packet c.requires.few
    c.release.ensures.releases c.requires.placed c.requires.ready
    (subst (λ (list : List QueueState). IsFirst (PassesAt c.args.start) list c.in-Some.head.stream c.in-Some.head.packet) c.as_slice.ensures.value c.in-Some.ensures.first)

pub permitted_head-requires-clause-turns : goal.permitted_head-requires-clause-turns
permitted_head-requires-clause-turns c =
    rw (c.as_slice.ensures.value, c.as_slice-2.ensures.value) c.release.ensures.turns

pub overflow_mul-start : goal.overflow_mul-start
overflow_mul-start c = omega (arith, c.requires.start)

pub returns-in-Some-clause-fills : goal.returns-in-Some-clause-fills
returns-in-Some-clause-fills c = (
  c.release.new.self.states.items,
  c.release.ensures.releases,
  (
    subst (λ (list : List QueueState). IsFirst (PassesAt c.args.start) list c.in-Some.head.stream c.in-Some.head.packet) c.as_slice.ensures.value c.in-Some.ensures.first,
    c.send.ensures.sends,
  ),
)

pub returns-in-None-clause-fills : goal.returns-in-None-clause-fills
returns-in-None-clause-fills c = (
  c.release.new.self.states.items,
  c.release.ensures.releases,
  (subst (λ (list : List QueueState). IsFirstHead (PassesAt c.args.start) list None) c.as_slice.ensures.value c.in-None.ensures.first, refl),
)
