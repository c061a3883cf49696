use Rattle.std.proofs.Common.{◌<◌, ◌≤◌, refl, inr, length, arith}
use Rattle.passed_programs.proofs.Together.{passed_program, some_read, units_told}
use Rattle.passed_programs.proofs.due_streams.due_streams.Goals as goal

pub returns-then-len-gt-UNITS_MOST-clause-refused : goal.returns-then-len-gt-UNITS_MOST-clause-refused
returns-then-len-gt-UNITS_MOST-clause-refused c front limit number dropped wanted are =
    let many : 4194304 < length c.args.passed.video.units.items = omega (arith, c.if-len-gt-UNITS_MOST.true, c.len.ensures, c.args.passed.video.units.ok.0) in
    inr (units_told front limit number dropped wanted c.args.carried c.args.passed c.args.audios.now are many)

pub due_passed-requires-clause-read : goal.due_passed-requires-clause-read
due_passed-requires-clause-read c =
    let (front, limit, number, dropped, wanted, are) = c.requires.passed in
    let few : length c.args.passed.video.units.items ≤ 4194304 = omega (arith, c.if-len-gt-UNITS_MOST.false, c.len.ensures, c.args.passed.video.units.ok.0) in
    some_read front limit number dropped wanted c.args.carried c.args.passed c.args.audios.now _ are few refl refl

pub returns-in-Ok-clause-program : goal.returns-in-Ok-clause-program
returns-in-Ok-clause-program c front limit number dropped wanted are =
    let few : length c.args.passed.video.units.items ≤ 4194304 = omega (arith, c.if-len-gt-UNITS_MOST.false, c.len.ensures, c.args.passed.video.units.ok.0) in
    passed_program c.maps_can_be_written.ensures c.programs_of_files_are_read.ensures front limit number dropped wanted c.args.carried c.args.passed c.args.audios.now c.args.start _ _ are few refl refl refl
    c.in-Ok.ensures.program c.in-Ok.ensures.places c.from_vec.ensures refl
