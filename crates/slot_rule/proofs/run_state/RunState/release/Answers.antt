use Rattle.std.proofs.Common.{◌≡◌, List, length, sym, ap, subst, ◌∙◌}
use Rattle.slot_rule.specs.declared.queue_state.QueueState.{QueueState}
use Rattle.slot_rule.specs.Private.States.{ChangesEach, ReleasesAll}
use Rattle.slot_rule.specs.Private.Turns.{AreTurns}
use Rattle.slot_rule.proofs.RunLaws.{releases_none, released_turns}
use Rattle.slot_rule.proofs.TurnLaws.{refill_all}
use Rattle.slot_rule.proofs.run_state.RunState.release.Goals as goal

pub returns-then-self-start-clause-turns : goal.returns-then-self-start-clause-turns
returns-then-self-start-clause-turns c =
    let same : c.as_mut_slice.result.now ≡ c.args.self.now.states.items = c.as_mut_slice.ensures.value in
    subst (λ (list : List QueueState). AreTurns list c.args.self.now.turns.items)
    (sym (refill_all (length c.args.self.now.states.items) c.args.self.now.states.items c.release_all.new.states (c.release_all.ensures.as_many ∙ ap (λ (list : List QueueState). length list) same)))
    (released_turns c.args.table.now c.args.choice.now c.args.start c.args.self.now.states.items c.release_all.new.states c.args.self.now.turns.items
    (subst (λ (list : List QueueState). ChangesEach (ReleasesAll c.args.table.now c.args.choice.now c.args.start) list c.release_all.new.states) same c.release_all.ensures) c.requires.turns)

pub returns-else-self-start-clause-releases : goal.returns-else-self-start-clause-releases
returns-else-self-start-clause-releases c =
    releases_none c.args.table.now c.args.choice.now c.args.start c.args.self.now.first_gone c.args.self.now.states.items c.requires.placed c.requires.gone c.if-self-start.false
