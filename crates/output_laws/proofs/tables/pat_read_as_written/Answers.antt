use Rattle.output_laws.proofs.TableSections.{pat-found, pat-leads, pat-says}
use Rattle.output_laws.proofs.tables.pat_read_as_written.Goals as goal

pub returns-clause-found : goal.returns-clause-found
returns-clause-found c = pat-found

pub returns-clause-says : goal.returns-clause-says
returns-clause-says c = pat-says

pub returns-clause-leads : goal.returns-clause-leads
returns-clause-leads c = pat-leads
