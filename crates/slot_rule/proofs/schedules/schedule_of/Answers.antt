use Rattle.std.proofs.Common.{◌+◌, ℕ, ◌∷◌, [], ◌++◌, List, length, sym, subst, subst₂, arith}
use Rattle.std.proofs.lemmas.List.{length_push}
use Rattle.slot_rule.specs.declared.queue_state.QueueState.{QueueState}
use Rattle.slot_rule.specs.declared.sent.Sent.{Sent}
use Rattle.slot_rule.specs.Private.IdleSlots.{FillsPeriod}
use Rattle.slot_rule.specs.Private.Slots.{IsWhatStands, RowStands}
use Rattle.slot_rule.proofs.ListedLaws.{Listed, Listed-first, Listed-next, IsSlotList-found, TellsMisses-listed, TellsMisses-missed, nothing_left_at_end}
use Rattle.slot_rule.proofs.MissLaws.{RowStands-next, miss_found}
use Rattle.slot_rule.proofs.SlotListLaws.{some_period}
use Rattle.slot_rule.proofs.SmallLaws.{all_soon}
use Rattle.slot_rule.proofs.schedules.schedule_of.Goals as goal

pub loop-n-init : goal.loop-n-init
loop-n-init c =
    subst (λ (sent : List Sent). Listed c.args.table.now c.args.choice.now 0 c.new-run.result sent) (sym c.new-rows.ensures)
    (Listed-first c.args.table.now c.args.choice.now c.new-run.result c.new-run.ensures)

pub sent-requires-clause-stands : goal.sent-requires-clause-stands
sent-requires-clause-stands c =
    let reached = c.loop-n.invariant.reached in
    let step = c.run_slot-row.ensures reached.rows reached.slots_are reached.run in
    subst (λ (states : List QueueState). RowStands states c.run_slot-row.result) (sym c.as_slice.ensures.value)
    (RowStands-next c.args.table.now c.args.choice.now c.requires.valid c.requires.fits reached.rows c.run_slot-row.result c.run_slot-row.new.run.states.items step.1.states.queues step.0)

pub after-requires-clause-soon : goal.after-requires-clause-soon
after-requires-clause-soon c =
    let reached = c.loop-n.invariant.reached in
    let step = c.run_slot-row.ensures reached.rows reached.slots_are reached.run in
    all_soon c.args.table.now c.args.choice.now c.requires.valid c.requires.fits (reached.rows ++ c.run_slot-row.result ∷ []) c.run_slot-row.new.run.states.items step.1.states
    (omega (arith, length_push reached.rows c.run_slot-row.result, reached.slots_are, c.loop-n-test.true))

pub after-requires-clause-row : goal.after-requires-clause-row
after-requires-clause-row c =
    let reached = c.loop-n.invariant.reached in
    let step = c.run_slot-row.ensures reached.rows reached.slots_are reached.run in
    RowStands-next c.args.table.now c.args.choice.now c.requires.valid c.requires.fits reached.rows c.run_slot-row.result c.run_slot-row.new.run.states.items step.1.states.queues step.0

pub returns-in-Missed-clause-missed : goal.returns-in-Missed-clause-missed
returns-in-Missed-clause-missed c =
    let table = c.args.table.now in
    let choice = c.args.choice.now in
    let reached = c.loop-n.invariant.reached in
    let step = c.run_slot-row.ensures reached.rows reached.slots_are reached.run in
    TellsMisses-missed table choice c.in-Missed.miss
    (miss_found table choice c.requires.valid c.requires.fits c.loop-n.n c.loop-n.run c.run_slot-row.new.run c.run_slot-row.result reached step.0 step.1 c.in-Missed.miss c.in-Missed.ensures)

pub returns-in-AllSent-clause-slots : goal.returns-in-AllSent-clause-slots
returns-in-AllSent-clause-slots c =
    let table = c.args.table.now in
    let choice = c.args.choice.now in
    let listed = c.loop-n.invariant in
    let step = c.run_slot-row.ensures listed.reached.rows listed.reached.slots_are listed.reached.run in
    let list = c.in_ok-fill-in-AllSent.field-0 in
    let at : FillsPeriod table.slot (length table.programs) c.loop-n.n c.push.new.self list =
    subst₂ (λ (slot programs : ℕ). FillsPeriod slot programs c.loop-n.n c.push.new.self list) c.of.ensures.slot c.of.ensures.programs c.in_ok-fill-in-AllSent.ensures in
    IsSlotList-found table choice c.requires.valid c.requires.fits c.loop-n.n c.loop-n.run c.run_slot-row.new.run c.run_slot-row.result c.loop-n.rows
    c.sent.result listed step.0 step.1 (subst (λ (states : List QueueState). IsWhatStands states c.run_slot-row.result c.sent.result)
    c.as_slice.ensures.value c.sent.ensures)
    c.in-AllSent.ensures list (some_period table c.requires.valid) (subst (λ (rows : List Sent). FillsPeriod table.slot (length table.programs) c.loop-n.n rows list) c.in_ok-push.ensures.ok at)

pub returns-in-AllSent-clause-missed : goal.returns-in-AllSent-clause-missed
returns-in-AllSent-clause-missed c =
    TellsMisses-listed c.args.table.now c.args.choice.now c.in_ok-fill-in-AllSent.field-0 (returns-in-AllSent-clause-slots c)

pub loop-n-preserved : goal.loop-n-preserved
loop-n-preserved c =
    let table = c.args.table.now in
    let choice = c.args.choice.now in
    let listed = c.loop-n.invariant in
    let step = c.run_slot-row.ensures listed.reached.rows listed.reached.slots_are listed.reached.run in
    subst (λ (sent : List Sent). Listed table choice (c.loop-n.n + 1) c.run_slot-row.new.run sent) (sym c.in_ok-push.ensures.ok)
    (Listed-next table choice c.requires.valid c.requires.fits c.loop-n.n c.loop-n.run c.run_slot-row.new.run c.run_slot-row.result c.loop-n.rows
    c.sent.result listed step.0 step.1 (subst (λ (states : List QueueState). IsWhatStands states c.run_slot-row.result c.sent.result)
    c.as_slice.ensures.value c.sent.ensures) c.in-Waiting.ensures)

pub unreachable-requires : goal.unreachable-requires
unreachable-requires c =
    nothing_left_at_end c.args.table.now c.args.choice.now c.requires.valid c.requires.fits c.loop-n.n c.loop-n.run c.loop-n.rows c.loop-n.invariant c.loop-n-test.false
