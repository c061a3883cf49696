use Rattle.std.proofs.Common.{◌≤◌, inr, length, arith}
use Rattle.passed_programs.specs.PassedFile.{IsRefusedWithin}
use Rattle.passed_programs.proofs.held_program.held_program.Goals as goal

pub returns-in-Err-clause-refused : goal.returns-in-Err-clause-refused
returns-in-Err-clause-refused c =
    let short : length c.args.content.now ≤ c.args.limit = omega (arith, c.if-size-limit.false) in
    inr (IsRefusedWithin.by_itself short c.in-Err.ensures.program)
