use Rattle.parsing_laws.proofs.SlotsBegin.{begin-with-tables}
use Rattle.parsing_laws.proofs.parsed.slots_begin_with_tables.Goals as goal

pub returns : goal.returns
returns c = begin-with-tables
