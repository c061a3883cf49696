use Rattle.std.proofs.Common.{◌≡◌, ◌*◌, ◌≤◌, ◌^◌, take}
use Rattle.impossible_proof.specs.Private.Needs.{need_in}
use Rattle.impossible_proof.proofs.needs.needed.Given as goal

abbrev pub invariant-loop-need : goal.invariant-loop-need
invariant-loop-need l = record {
  sum_is : l.total ≡ need_in l.from l.due (take l.need-index l.needs);
  small : l.total ≤ l.need-index * 2 ^ 15;
}
