use Rattle.unit_laws.proofs.ProgramVersions.{program-versions}
use Rattle.unit_laws.proofs.units.versions_are_whole_units.Goals as goal

pub returns : goal.returns
returns c = record {
  whole = λ form content number dropped start program coarser versions are of is. (program-versions form content number dropped start program coarser versions are of is).0;
  led = λ form content number dropped start program coarser versions are of is. (program-versions form content number dropped start program coarser versions are of is).1;
}
