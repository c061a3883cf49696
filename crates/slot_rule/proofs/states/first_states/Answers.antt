use Rattle.std.proofs.Common.{◌≡◌, ◌<◌, length, get_or, ap, ◌∙◌, arith}
use Rattle.version_table.specs.declared.table.ProgramRow.{ProgramRow}
use Rattle.slot_rule.proofs.FirstStates.{all_units_more, units_small, place_of_program, places_more, room_for_program, queues_more}
use Rattle.slot_rule.proofs.states.first_states.Goals as goal

pub add_program-requires-clause-place : goal.add_program-requires-clause-place
add_program-requires-clause-place c =
    let table = c.args.table.now in
    let within : c.loop-program.program < length table.programs = omega (arith, ap length c.as_slice-row-items.ensures) in
    place_of_program table c.args.choice.now c.loop-program.program c.loop-program.first c.requires.valid c.requires.fits within c.loop-program.invariant.first_unit

pub add_program-requires-clause-room : goal.add_program-requires-clause-room
add_program-requires-clause-room c =
    let table = c.args.table.now in
    let within : c.loop-program.program < length table.programs = omega (arith, ap length c.as_slice-row-items.ensures) in
    room_for_program table c.args.choice.now c.loop-program.program c.loop-program.states.items c.requires.valid within c.loop-program.invariant.queues

pub overflow_add-first : goal.overflow_add-first
overflow_add-first c =
    let table = c.args.table.now in
    let within : c.loop-program.program < length table.programs = omega (arith, ap length c.as_slice-row-items.ensures) in
    let small = units_small table c.loop-program.program c.row-item.result c.requires.valid within in
    let row : c.row-item.result ≡ get_or table.programs c.loop-program.program c.row-item.result = c.row-item.is
    ∙ ap (λ rows. get_or rows c.loop-program.program c.row-item.result) c.as_slice-row-items.ensures in
    omega (arith, c.loop-program.invariant.first_unit, ap (λ (r : ProgramRow). length r.units) row)

pub loop-program-preserved : goal.loop-program-preserved
loop-program-preserved c =
    let table = c.args.table.now in
    let within : c.loop-program.program < length table.programs = omega (arith, ap length c.as_slice-row-items.ensures) in
    let row : c.row-item.result ≡ get_or table.programs c.loop-program.program c.row-item.result = c.row-item.is
    ∙ ap (λ rows. get_or rows c.loop-program.program c.row-item.result) c.as_slice-row-items.ensures in
    record {
      queues = queues_more table c.args.choice.now c.loop-program.program c.loop-program.first c.loop-program.states.items
          c.add_program.new.states.items within c.loop-program.invariant.first_unit c.loop-program.invariant.queues c.add_program.ensures.queues;
      places = places_more table c.loop-program.program c.loop-program.first c.loop-program.states.items c.add_program.new.states.items within
          c.loop-program.invariant.first_unit c.loop-program.invariant.places c.add_program.ensures.places;
      first_states = c.add_program.ensures.first;
      first_unit = omega (arith, c.loop-program.invariant.first_unit, ap (λ (r : ProgramRow). length r.units) row, all_units_more table.programs c.loop-program.program c.row-item.result within);
    }
