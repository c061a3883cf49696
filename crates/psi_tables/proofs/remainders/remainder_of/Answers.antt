use Rattle.psi_tables.proofs.RemainderTable.{entry_is}
use Rattle.psi_tables.proofs.remainders.remainder_of.Goals as goal

pub returns : goal.returns
returns c = entry_is c.args.byte c.ranges.byte.fits
