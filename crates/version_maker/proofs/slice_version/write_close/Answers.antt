use Rattle.version_maker.proofs.MadeSlices.{goes-when, on_ok-when}
use Rattle.version_maker.proofs.slice_version.write_close.Goals as goal

pub returns-clause-closes : goal.returns-clause-closes
returns-clause-closes g c = goes-when c.align_zero.result c.in_memory.result c.in_memory.ensures c.align_zero.ensures.writes

pub returns-clause-whole : goal.returns-clause-whole
returns-clause-whole g c = on_ok-when _ c.align_zero.result c.in_memory.result c.in_memory.ensures c.align_zero.ensures.whole
