use Rattle.std.proofs.Common.{refl, subst}
use Rattle.program_reader.specs.declared.program_fault.ProgramFault.{ProgramFault}
use Rattle.job_programs.specs.Share.{KeepsShare}
use Rattle.job_programs.specs.Private.Next.{IsNextFault}
use Rattle.job_programs.proofs.next.from_content.Goals as goal

pub returns-in-Err-Refused-clause-fault : goal.returns-in-Err-Refused-clause-fault
returns-in-Err-Refused-clause-fault c =
    let w = c.args.wanted.now in
    (refl, subst (λ (f : ProgramFault). IsNextFault w.slot w.start w.bytes w.units w.form w.number w.drop.now (KeepsShare w.weight w.drift w.coarser.now) c.args.content.now f) c.in-Err-Refused.field-0-is c.in-Err-Refused.ensures.program)
