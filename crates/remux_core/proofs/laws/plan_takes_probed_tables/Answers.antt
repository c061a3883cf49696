use Rattle.remux_core.proofs.AfterProbe.{probed_is_read, probed_is_taken}
use Rattle.remux_core.proofs.laws.plan_takes_probed_tables.Goals as goal

pub returns-clause-reads : goal.returns-clause-reads
returns-clause-reads c = probed_is_read c.spelling_is_read.ensures

pub returns-clause-refuses_none : goal.returns-clause-refuses_none
returns-clause-refuses_none c = probed_is_taken c.spelling_is_read.ensures c.one_reading.ensures
