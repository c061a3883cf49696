use Rattle.std.proofs.Common.{◌≡◌}
use Rattle.impossible_proof.specs.Private.Scan.{NoneBegins, before}
use Rattle.impossible_proof.proofs.scan.first_from.Given as goal

abbrev pub invariant-loop-need : goal.invariant-loop-need
invariant-loop-need l = record {
  total_is : l.total ≡ before l.needs l.need-index;
  none_begins : NoneBegins l.table l.needs l.due l.need-index;
}
