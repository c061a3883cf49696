use Rattle.std.proofs.Common.{◌≡◌, Option, Result, Some, refl, sym, subst}
use Rattle.std.specs.Prelude.{IfOk}
use Rattle.psi_tables.specs.declared.program_map.ProgramMap.{ProgramMap}
use Rattle.psi_tables.specs.declared.section.SectionFault.{SectionFault}
use Rattle.psi_tables.specs.Pmt.{without_dropped}
use Rattle.psi_tables_tests.proofs.tests.read_back.Goals as goal

pub returns : goal.returns
returns c =
    let written = c.in_ok-write_pmt.ensures in
    subst (λ (r : Result (Option ProgramMap) SectionFault). IfOk r (λ read. read ≡ Some (without_dropped c.args.map.now)))
    (sym (c.read_pmt.ensures.only (without_dropped c.args.map.now) written.map written.room)) refl
