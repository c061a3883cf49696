use Rattle.picture_writer.specs.Private.Scan.{IsScanned}
use Rattle.picture_writer.proofs.vbv_delay.picture_code.Given as goal

abbrev pub invariant-loop-at : goal.invariant-loop-at
invariant-loop-at l = IsScanned l.unit l.at l.outside
