use Rattle.std.proofs.Common.{rules, ◌≡◌, refl}
use Rattle.program_reader.specs.Programs.{StandIn, AreStreamsRefused}
use Rattle.program_reader.proofs.found_streams.find_in_elements.Goals as goal

pub returns-then-number-ne-ONE_PROGRAM : goal.returns-then-number-ne-ONE_PROGRAM
returns-then-number-ne-ONE_PROGRAM c = c.other_number.ensures c.args.drop.now

pub returns-in-Ok : goal.returns-in-Ok
returns-in-Ok c = (let one : c.args.number ≡ 1 = search rules in StandIn.in_elements refl one c.in-Ok.ensures)

pub returns-in-Err : goal.returns-in-Err
returns-in-Err c = (let one : c.args.number ≡ 1 = search rules in AreStreamsRefused.of_elements c.in-Err.fault refl (λ other. other.other one) c.in-Err.ensures c.split_refused.ensures)
