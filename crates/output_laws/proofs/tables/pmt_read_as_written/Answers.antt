use Rattle.output_laws.proofs.TableSections.{pmt-found, pmt-says}
use Rattle.output_laws.proofs.tables.pmt_read_as_written.Goals as goal

pub returns-clause-found : goal.returns-clause-found
returns-clause-found c = pmt-found

pub returns-clause-says : goal.returns-clause-says
returns-clause-says c = pmt-says
