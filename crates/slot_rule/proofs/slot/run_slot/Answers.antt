use Rattle.std.proofs.Common.{◌≡◌, ℕ, ◌*◌, length, sym, ap, ap₂, subst, ◌∙◌, arith}
use Rattle.std.proofs.lemmas.Nat.{mul-le}
use Rattle.version_table.specs.declared.limits.TheConstants.{SLOT_MOST, TIME_SLOTS_MOST}
use Rattle.stream_constants.specs.declared.clock.TheConstants.{SUBTICKS_PER_TICK}
use Rattle.slot_rule.specs.Private.Slots.{FillsSlot, Reserves}
use Rattle.slot_rule.specs.Private.States.{ChangesEach, ReleasesAll}
use Rattle.slot_rule.specs.Timetable.{reserved}
use Rattle.slot_rule.proofs.SlotLaws.{reserved_slot-run, free_slot-run}
use Rattle.slot_rule.proofs.SmallLaws.{states_few, all_small, all_ready, all_placed}
use Rattle.slot_rule.proofs.slot.run_slot.Goals as goal

pub overflow_mul-start : goal.overflow_mul-start
overflow_mul-start c =
    let small = mul-le c.from.result c.from-2.result TIME_SLOTS_MOST SLOT_MOST (omega (arith, c.from.ensures, c.requires.slot))
    (omega (arith, c.from-2.ensures, c.requires.valid.slot_most)) in
    omega (arith, small)

pub reserve-requires-clause-start : goal.reserve-requires-clause-start
reserve-requires-clause-start c =
    let small = mul-le c.from.result c.from-2.result TIME_SLOTS_MOST SLOT_MOST (omega (arith, c.from.ensures, c.requires.slot))
    (omega (arith, c.from-2.ensures, c.requires.valid.slot_most)) in
    omega (arith, small)

pub send_first-requires-clause-start : goal.send_first-requires-clause-start
send_first-requires-clause-start c =
    let small = mul-le c.from.result c.from-2.result TIME_SLOTS_MOST SLOT_MOST (omega (arith, c.from.ensures, c.requires.slot))
    (omega (arith, c.from-2.ensures, c.requires.valid.slot_most)) in
    omega (arith, small)

pub reserve-requires-clause-small : goal.reserve-requires-clause-small
reserve-requires-clause-small c =
    let run = c.requires.run in
    all_small c.args.table.now c.args.choice.now c.requires.valid c.requires.fits run.0 c.args.run.now.states.items run.2.states (omega (arith, run.1, c.requires.slot))

pub send_first-requires-clause-few : goal.send_first-requires-clause-few
send_first-requires-clause-few c =
    let run = c.requires.run in
    states_few c.args.table.now c.args.choice.now c.requires.valid c.requires.fits run.0 c.args.run.now.states.items run.2.states (omega (arith, run.1, c.requires.slot))

pub send_first-requires-clause-placed : goal.send_first-requires-clause-placed
send_first-requires-clause-placed c =
    let run = c.requires.run in
    all_placed c.args.table.now c.args.choice.now c.requires.valid c.requires.fits run.0 c.args.run.now.states.items run.2.states (omega (arith, run.1, c.requires.slot))

pub send_first-requires-clause-ready : goal.send_first-requires-clause-ready
send_first-requires-clause-ready c =
    let run = c.requires.run in
    all_ready c.args.table.now c.args.choice.now c.requires.valid c.requires.fits run.0 c.args.run.now.states.items run.2.states (omega (arith, run.1, c.requires.slot))

pub returns-in-Some : goal.returns-in-Some
returns-in-Some c rows len run =
    let table = c.args.table.now in
    let choice = c.args.choice.now in
    let at : reserved table.slot (length table.programs) (length rows) ≡ c.at.result = ap (λ (slot : ℕ). reserved slot (length table.programs) (length rows)) (sym c.of.ensures.slot)
    ∙ ap₂ (λ (p n : ℕ). reserved c.of.result.slot p n) (sym c.of.ensures.programs) len ∙ sym c.at.ensures in
    let start : c.from.result * c.from-2.result ≡ length rows * table.slot = ap₂ ◌*◌ (c.from.ensures ∙ sym len) c.from-2.ensures in
    let news = c.reserve.new.self.states.items in
    let step = reserved_slot-run table choice rows c.in-Some.reserved c.reserve.result c.args.run.now.states.items news run.states (at ∙ c.in-Some.is) c.reserve.ensures.row
    (subst (λ (n : ℕ). Reserves c.in-Some.reserved (SUBTICKS_PER_TICK * n) c.args.run.now.states.items news) start c.reserve.ensures.changes) in
    (step.0, record { states = step.1; turns = c.reserve.ensures.turns; gone = c.reserve.ensures.gone })

pub returns-in-None : goal.returns-in-None
returns-in-None c rows len run =
    let table = c.args.table.now in
    let choice = c.args.choice.now in
    let olds = c.args.run.now.states.items in
    let news = c.send_first.new.self.states.items in
    let at : reserved table.slot (length table.programs) (length rows) ≡ c.at.result = ap (λ (slot : ℕ). reserved slot (length table.programs) (length rows)) (sym c.of.ensures.slot)
    ∙ ap₂ (λ (p n : ℕ). reserved c.of.result.slot p n) (sym c.of.ensures.programs) len ∙ sym c.at.ensures in
    let start : c.from.result * c.from-2.result ≡ length rows * table.slot = ap₂ ◌*◌ (c.from.ensures ∙ sym len) c.from-2.ensures in
    let filled = c.send_first.ensures.fills in
    let step = free_slot-run table choice c.requires.valid c.requires.fits rows c.send_first.result olds filled.0 news run.states (at ∙ c.in-None.is)
    (subst (λ (n : ℕ). ChangesEach (ReleasesAll table choice n) olds filled.0) start filled.1)
    (subst (λ (n : ℕ). FillsSlot table choice n c.send_first.result filled.0 news) start filled.2) in
    (step.0, record { states = step.1; turns = c.send_first.ensures.turns; gone = c.send_first.ensures.gone })
