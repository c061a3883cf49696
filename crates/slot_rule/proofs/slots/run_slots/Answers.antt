use Rattle.std.proofs.Common.{◌≡◌, ◌+◌, ◌≤◌, ℕ, [], ◌∷◌, ◌++◌, None, length, sym, ap, ap₂, subst, ◌∙◌, arith}
use Rattle.std.proofs.lemmas.List.{length_push}
use Rattle.slot_rule.specs.Buffers.{Row, Empty}
use Rattle.slot_rule.specs.declared.sent.Miss.{Miss}
use Rattle.slot_rule.specs.Private.Runs.{Reached}
use Rattle.slot_rule.specs.Timetable.{reserved}
use Rattle.slot_rule.proofs.IdleLaws.{Reached-idle}
use Rattle.slot_rule.proofs.MissLaws.{Reached-next, carries_last, RowStands-next, miss_found, schedule_found}
use Rattle.slot_rule.proofs.RuleRows.{IsNext}
use Rattle.slot_rule.proofs.SmallLaws.{all_ready, all_soon, states_few}
use Rattle.slot_rule.proofs.slots.run_slots.Goals as goal

pub after-requires-clause-few : goal.after-requires-clause-few
after-requires-clause-few c =
    let reached = c.loop-n.invariant.reached in
    let step = c.run_slot-row.ensures reached.rows reached.slots_are reached.run in
    states_few c.args.table.now c.args.choice.now c.requires.valid c.requires.fits (reached.rows ++ c.run_slot-row.result ∷ []) c.run_slot-row.new.run.states.items step.1.states
    (omega (arith, length_push reached.rows c.run_slot-row.result, reached.slots_are, c.loop-n-test.true, c.requires.end))

pub after-requires-clause-soon : goal.after-requires-clause-soon
after-requires-clause-soon c =
    let reached = c.loop-n.invariant.reached in
    let step = c.run_slot-row.ensures reached.rows reached.slots_are reached.run in
    all_soon c.args.table.now c.args.choice.now c.requires.valid c.requires.fits (reached.rows ++ c.run_slot-row.result ∷ []) c.run_slot-row.new.run.states.items step.1.states
    (omega (arith, length_push reached.rows c.run_slot-row.result, reached.slots_are, c.loop-n-test.true, c.requires.end))

pub after-requires-clause-row : goal.after-requires-clause-row
after-requires-clause-row c =
    let reached = c.loop-n.invariant.reached in
    let step = c.run_slot-row.ensures reached.rows reached.slots_are reached.run in
    RowStands-next c.args.table.now c.args.choice.now c.requires.valid c.requires.fits reached.rows c.run_slot-row.result c.run_slot-row.new.run.states.items step.1.states.queues step.0

pub returns-in-Missed : goal.returns-in-Missed
returns-in-Missed c =
    let reached = c.loop-n.invariant.reached in
    let step = c.run_slot-row.ensures reached.rows reached.slots_are reached.run in
    let slot : c.in-Missed.miss.slot ≡ c.loop-n.n = ap (λ (miss : Miss). miss.slot) c.in-Missed.ensures.1 in (
      miss_found c.args.table.now c.args.choice.now c.requires.valid c.requires.fits c.loop-n.n c.loop-n.run
          c.run_slot-row.new.run c.run_slot-row.result reached step.0 step.1 c.in-Missed.miss c.in-Missed.ensures,
      omega (arith, c.loop-n.invariant.from),
      omega (arith, c.loop-n-test.true),
    )

pub returns-in-AllSent : goal.returns-in-AllSent
returns-in-AllSent c =
    let reached = c.loop-n.invariant.reached in
    let step = c.run_slot-row.ensures reached.rows reached.slots_are reached.run in
    let schedule = schedule_found c.args.table.now c.args.choice.now c.requires.valid c.requires.fits c.loop-n.n
    c.loop-n.run c.run_slot-row.new.run c.run_slot-row.result reached step.0 step.1 c.in-AllSent.ensures in
    record {
      rows = reached.rows;
      last = c.run_slot-row.result;
      schedule = schedule;
      from = omega (arith, reached.slots_are, c.loop-n.invariant.from);
      upto = omega (arith, reached.slots_are, c.loop-n-test.true);
      carries = λ waits.
          let waiting = c.loop-n.invariant.waits waits in
          carries_last c.args.table.now c.args.choice.now reached.rows c.run_slot-row.result c.loop-n.run.states.items reached.run.states waiting.0 waiting.1 waiting.2 schedule.sent;
    }

pub idle_until-n-requires-clause-few : goal.idle_until-n-requires-clause-few
idle_until-n-requires-clause-few c =
    let reached = c.loop-n.invariant.reached in
    let step = c.run_slot-row.ensures reached.rows reached.slots_are reached.run in
    states_few c.args.table.now c.args.choice.now c.requires.valid c.requires.fits (reached.rows ++ c.run_slot-row.result ∷ []) c.run_slot-row.new.run.states.items step.1.states
    (omega (arith, length_push reached.rows c.run_slot-row.result, reached.slots_are, c.loop-n-test.true, c.requires.end))

pub idle_until-n-requires-clause-ready : goal.idle_until-n-requires-clause-ready
idle_until-n-requires-clause-ready c =
    let reached = c.loop-n.invariant.reached in
    let step = c.run_slot-row.ensures reached.rows reached.slots_are reached.run in
    all_ready c.args.table.now c.args.choice.now c.requires.valid c.requires.fits (reached.rows ++ c.run_slot-row.result ∷ []) c.run_slot-row.new.run.states.items step.1.states
    (omega (arith, length_push reached.rows c.run_slot-row.result, reached.slots_are, c.loop-n-test.true, c.requires.end))

pub idle_until-n-requires-clause-soon : goal.idle_until-n-requires-clause-soon
idle_until-n-requires-clause-soon c =
    let reached = c.loop-n.invariant.reached in
    let step = c.run_slot-row.ensures reached.rows reached.slots_are reached.run in
    all_soon c.args.table.now c.args.choice.now c.requires.valid c.requires.fits (reached.rows ++ c.run_slot-row.result ∷ []) c.run_slot-row.new.run.states.items step.1.states
    (omega (arith, length_push reached.rows c.run_slot-row.result, reached.slots_are, c.loop-n-test.true, c.requires.end))

pub loop-n-preserved-in-Empty : goal.loop-n-preserved-in-Empty
loop-n-preserved-in-Empty c =
    let table = c.args.table.now in
    let choice = c.args.choice.now in
    let n = c.loop-n.n in
    let reached = c.loop-n.invariant.reached in
    let step = c.run_slot-row.ensures reached.rows reached.slots_are reached.run in
    let next = Reached-next table choice c.requires.valid c.requires.fits n c.loop-n.run c.run_slot-row.new.run c.run_slot-row.result reached step.0 step.1 c.in-Waiting.ensures in
    let empty : IsNext table choice reached.rows Empty = subst (λ (row : Row). IsNext table choice reached.rows row) c.in-Empty.is step.0 in
    let free : reserved c.of.result.slot c.of.result.programs n ≡ None =
    ap₂ (λ (slot programs : ℕ). reserved slot programs n) c.of.ensures.slot c.of.ensures.programs ∙ ap (λ (k : ℕ). reserved table.slot (length table.programs) k) (sym reached.slots_are) ∙ empty.0 in
    let upto : c.idle_until-n.result ≤ c.args.end = omega (arith, c.idle_until-n.ensures.upto, c.min.ensures) in
    record {
      from = omega (arith, c.loop-n.invariant.from, c.idle_until-n.ensures.from);
      upto = upto;
      reached = Reached-idle table choice c.requires.valid c.requires.fits c.run_slot-row.new.run (n + 1) c.idle_until-n.result c.idle_until-n.ensures.from (omega (arith, upto, c.requires.end)) next
          (λ k from before. (
            c.idle_until-n.ensures.idle k from before,
            ap₂ (λ (slot programs : ℕ). reserved slot programs k) (sym c.of.ensures.slot) (sym c.of.ensures.programs)
                ∙ c.free_until-free.ensures.free k (omega arith) (omega (arith, c.idle_until-n.ensures.upto, c.min.ensures)) free,
          ));
      waits = λ waits. c.in-Waiting.ensures.2;
    }

pub loop-n-preserved : goal.loop-n-preserved
loop-n-preserved c =
    let reached = c.loop-n.invariant.reached in
    let step = c.run_slot-row.ensures reached.rows reached.slots_are reached.run in
    record {
      from = omega (arith, c.loop-n.invariant.from);
      upto = omega (arith, c.loop-n-test.true);
      reached = Reached-next c.args.table.now c.args.choice.now c.requires.valid c.requires.fits c.loop-n.n
          c.loop-n.run c.run_slot-row.new.run c.run_slot-row.result reached step.0 step.1 c.in-Waiting.ensures;
      waits = λ waits. c.in-Waiting.ensures.2;
    }

pub returns : goal.returns
returns c =
    let done : c.loop-n.n ≡ c.args.end = omega (arith, c.loop-n.invariant.upto, c.loop-n-test.false) in
    (subst (λ n. Reached c.args.table.now c.args.choice.now n c.loop-n.run) done c.loop-n.invariant.reached, c.loop-n.invariant.waits)
